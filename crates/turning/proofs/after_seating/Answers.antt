-- `turning::after_seating` meets its contract. By whom the workshop has dropped.
use mathlib.Core.Path.{sym, ◌∙◌}
use borrow.Author.Tests.{eq-eqb, ne_eqb}
use Rattle.model.specs.Turn.{after_seating}
use Rattle.turning.proofs.Turns.{named_none, named_is}
use Rattle.turning.proofs.after_seating.Goals as goal

pub returns-in_default : goal.returns-in_default
unfolding after_seating
returns-in_default c = λ B y e.
    let z = named_none y (sym e ∙ c.in_default.is) in
    c.next_run.ensures B ∙ sym (rw (eq-eqb y 0 z))

pub returns : goal.returns
unfolding after_seating
returns c = λ B y e.
    let z = named_is y c.in-Some.x (sym e ∙ c.in-Some.is) in
    sym (rw (ne_eqb y 0 z.1, z.0))
