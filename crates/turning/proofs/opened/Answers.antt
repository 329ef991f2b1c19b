-- `turning::opened` meets its contract. By the test that led there.
use mathlib.Core.Path.{sym, ◌∙◌}
use Rattle.model.specs.Turn.{with_member}
use Rattle.turning.proofs.opened.Goals as goal

pub returns : goal.returns
unfolding with_member
returns c = λ book s p q. sym (rw (sym (c.is_unopened.ensures book s p q) ∙ c.if-is_unopened.false, c.with_bit.ensures.value))
