-- `turning::told_state` meets its contract. By the test that led there.
use mathlib.Core.Path.{sym}
use borrow.Author.Tests.{eq-eqb, ne_eqb}
use Rattle.model.specs.Turn.{told_state, without_member}
use Rattle.turning.proofs.told_state.Goals as goal

pub returns-then-lost-eq0 : goal.returns-then-lost-eq0
unfolding told_state
returns-then-lost-eq0 c = sym (rw (eq-eqb c.args.lost 0 c.if-lost-eq0.true))

pub returns : goal.returns
unfolding told_state without_member
returns c = sym (rw (ne_eqb c.args.lost 0 c.if-lost-eq0.false, c.without_bit.ensures.value))
