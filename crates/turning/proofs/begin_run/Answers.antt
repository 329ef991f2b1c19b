-- `turning::begin_run` meets its contract. The student in hand is what `next_student` ensures.
use Rattle.model.specs.Turn.{begin_run}
use Rattle.turning.proofs.Next.{named_number}
use Rattle.turning.proofs.begin_run.Goals as goal

pub returns : goal.returns
unfolding begin_run
returns c = λ B.
    let d = c.default.ensures in
    rw (c.unwrap_or-hand.ensures, named_number _ _ c.next_student.ensures, d.1.1.0, d.1.1.1.0, d.1.1.1.1.0, d.1.1.1.1.1.0, d.1.1.1.1.1.1)
