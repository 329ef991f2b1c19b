-- `answering::answer_of` meets its contract, by the two answers.
use mathlib.Core.Path.{◌≡◌}
use mathlib.Core.Bool.{true, false}
use native.Mathlib.Omega.{arith}
use lib.Dec.{eqb}
use borrow.Author.Tests.{eq-eqb, ne_eqb}
use Rattle.answering.specs.Finish.{answer_end}
use Rattle.answering.proofs.answer_of.Goals as goal

pub returns-then-workshop-gt0 : goal.returns-then-workshop-gt0
unfolding answer_end
returns-then-workshop-gt0 c =
    let a = c.args in
    let y : eqb a.r.workshop 0 ≡ false = ne_eqb a.r.workshop 0 (λ e. omega arith) in
    rw y

pub returns : goal.returns
unfolding answer_end
returns c =
    let a = c.args in
    let y : eqb a.r.workshop 0 ≡ true = eq-eqb a.r.workshop 0 (omega arith) in
    rw y
