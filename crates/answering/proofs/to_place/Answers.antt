-- `answering::to_place` meets its contract, by its test.
use borrow.Author.Tests.{eq-eqb, ne_eqb}
use Rattle.answering.specs.Finish.{to_place}
use Rattle.answering.proofs.to_place.Goals as goal

pub returns-then-r-eq0 : goal.returns-then-r-eq0
unfolding to_place
returns-then-r-eq0 c = rw (eq-eqb c.args.r.workshop 0 c.if-r-eq0.true)

pub returns : goal.returns
unfolding to_place
returns c = rw (ne_eqb c.args.r.workshop 0 c.if-r-eq0.false)
