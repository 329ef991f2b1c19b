-- `turning::is_unopened` meets its contract. By the workshop's no, and else by never.
use mathlib.Core.Path.{sym, ◌∙◌}
use Rattle.base.proofs.Tests.{or_right, or_none}
use Rattle.lgs.specs.Rule.{unopened}
use Rattle.format.specs.Engine.{results_in}
use Rattle.turning.proofs.is_unopened.Goals as goal

pub returns-then-is_declined : goal.returns-then-is_declined
unfolding unopened
returns-then-is_declined c = λ book s p q.
    c.if-is_declined.true ∙ sym (or_right ((results_in book).never s c.args.w) _ (sym (c.is_declined.ensures book s p q) ∙ c.if-is_declined.true))

pub returns-else-is_declined : goal.returns-else-is_declined
unfolding unopened
returns-else-is_declined c = λ book s p q.
    let d = sym (c.is_declined.ensures book s p q) ∙ c.if-is_declined.false in
    rw d (c.ended_in_never.ensures ∙ (sym q.never ∙ sym (or_none _)))
