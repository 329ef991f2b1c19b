-- `turning::next_student` meets its contract. By the links: the next one of her stage (`by_next`), or the first one of a later stage.
use mathlib.Core.Path.{ap, ◌∙◌}
use native.Mathlib.Omega.{arith}
use Rattle.seating.specs.Seats.{named}
use Rattle.seating.proofs.Laws.{positive, named_some}
use Rattle.turning.proofs.Next.{by_next, by_first, by_later}
use Rattle.turning.proofs.next_student.Goals as goal

pub returns-then-last-eq0 : goal.returns-then-last-eq0
returns-then-last-eq0 c =
    let a = c.args in
    let first = c.first_after.ensures in
    first.1 ∙ ap named (by_first a.case.now a.table.now _ c.requires.ordered.linked a.last first.0 c.if-last-eq0.true first.2)

pub returns-then-next-gt0 : goal.returns-then-next-gt0
returns-then-next-gt0 c =
    let a = c.args in
    let next = c.next_of-next in
    named_some next.result (omega arith)
    ∙ ap named (by_next a.case.now a.table.now _ c.requires.ordered.linked a.last next.result
    (positive a.last c.if-last-eq0.false) c.requires.last_bound next.ensures (omega arith))

pub returns : goal.returns
returns c =
    let a = c.args in
    let first = c.first_after-2.ensures in
    first.1
    ∙ ap named (by_later a.case.now a.table.now _ c.requires.ordered.linked a.last first.0 c.stage_of.result
    (positive a.last c.if-last-eq0.false) c.requires.last_bound (omega (arith, c.next_of-next.ensures)) c.stage_of.ensures first.2)
