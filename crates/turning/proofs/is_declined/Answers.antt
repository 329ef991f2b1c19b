-- `turning::is_declined` meets its contract. By the test of the tier.
use mathlib.Core.Path.{◌≡◌, sym, ◌∙◌}
use lib.Dec.{ltb}
use borrow.Author.Tests.{eq-eqb, ne_eqb}
use Rattle.std.proofs.Common.{rules}
use Rattle.base.specs.Words.{biased}
use Rattle.lgs.specs.Rule.{declined}
use Rattle.format.specs.Layout.{outside_score, results_of}
use Rattle.turning.proofs.is_declined.Goals as goal

pub returns-then-tier-workshop_outside : goal.returns-then-tier-workshop_outside
unfolding declined results_of
returns-then-tier-workshop_outside c = λ book s p q.
    let n : c.negative.result ≡ ltb (biased c.args.entry.workshop_score) outside_score = search rules in
    rw (n, sym q.mark, eq-eqb _ _ (sym p ∙ c.if-tier-workshop_outside.true ∙ c.workshop_outside.ensures))

pub returns-else-tier-workshop_outside : goal.returns-else-tier-workshop_outside
unfolding declined
returns-else-tier-workshop_outside c = λ book s p q.
    ne_eqb _ _ c.if-tier-workshop_outside.false
    ∙ sym (rw (ne_eqb _ _ (λ t. c.if-tier-workshop_outside.false (p ∙ t ∙ sym c.workshop_outside.ensures))))
