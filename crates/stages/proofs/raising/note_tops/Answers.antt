-- `stages::raising::note_tops` meets its contract. A student is of a new kind where she is in no tier, or the first in hers (`first_there`).
use Prim.Native.Nat.{ℕ, suc, ◌+◌}
use mathlib.Core.Path.{◌≡◌, refl, ◌∙◌, ap}
use mathlib.Core.Bool.{◌||◌}
use native.Mathlib.Omega.{arith}
use native.Mathlib.Numerals.{add-one}
use lib.Dec.{eqb}
use lib.ListN.{get_or}
use borrow.Author.Tests.{eq-eqb, ne_eqb}
use Rattle.base.specs.Lists.{one, count}
use Rattle.base.proofs.Counting.{count_le}
use Rattle.lgs.specs.Stages.{stage_of}
use Rattle.format.specs.Engine.{market_in}
use Rattle.stages.specs.Raising.{tier_for, stands_for}
use Rattle.stages.proofs.Raises.{noting_none, noting_more, first_there}
use Rattle.stages.proofs.raising.note_tops.Goals as goal
use Rattle.stages.proofs.raising.note_tops.Goals.{then-tier-eq0, else-tier-eq0+else-tops-at-eq0}
use Rattle.stages.proofs.raising.note_tops.Goals.{then-tier-eq0-via-then-tier-eq0, then-tier-eq0-via-else-tier-eq0+then-tops-at-eq0}

pub loop-s-init : goal.loop-s-init
unfolding count
loop-s-init c =
    let a = c.args in
    (refl, rw (c.requires.blank.0, c.requires.blank.1) (noting_none (tier_for (market_in a.input.now.table.case.now) a.w) (stage_of a.own.now)))

pub overflow_add-kinds : goal.overflow_add-kinds
overflow_add-kinds c =
    let a = c.args in
    let here = c.loop-s in
    omega (arith, here.invariant.0, count_le (stands_for (tier_for (market_in a.input.now.table.case.now) a.w)) here.s, a.input.now.ready.many_students)

pub loop-s-preserved : goal.loop-s-preserved
unfolding count
loop-s-preserved c =
    let a = c.args in
    let here = c.loop-s in
    let tier = c.tier_of-tier.result in
    let top = get_or here.tops c.from-at.result 0 in
    let T : ℕ → ℕ = tier_for (market_in a.input.now.table.case.now) a.w in
    let ready = a.input.now.ready in
    let e : tier ≡ T (suc here.s) = c.tier_of-tier.ensures.0 ∙ ap T (add-one here.s) in
    let at : c.from-at.result ≡ T (suc here.s) = c.from-at.ensures ∙ e in
    let first = first_there T (stage_of a.own.now) here.tiers here.tops here.s here.invariant.1
    (λ k l. c.requires.fit.from_one (suc k) (omega arith) (omega (arith, l, ready.students))) in
    let same : (eqb tier 0 || eqb top 0) ≡ stands_for T (suc here.s) = rw (e, at) first in
    let more : c.if-tier-eq0.kinds ≡ here.kinds + one (eqb tier 0 || eqb top 0) = elim c.if-tier-eq0.branch [
      | then-tier-eq0 w ↦ elim w.then-tier-eq0.branch [
        | then-tier-eq0-via-then-tier-eq0 v ↦ rw (w.kinds-is, eq-eqb tier 0 v.if-tier-eq0.true)
        | then-tier-eq0-via-else-tier-eq0+then-tops-at-eq0 v ↦ rw (w.kinds-is, ne_eqb tier 0 v.if-tier-eq0.false, eq-eqb top 0 v.if-tops-at-eq0.true)
      ]
      | else-tier-eq0+else-tops-at-eq0 w ↦ rw (w.kinds-is, ne_eqb tier 0 w.if-tier-eq0.false, ne_eqb top 0 w.if-tops-at-eq0.false) (omega arith)
    ] in (
      rw (add-one here.s) (omega (arith, more, ap one same, here.invariant.0)),
      rw c.from-at.ensures
          (noting_more T (stage_of a.own.now) here.tiers here.tops here.s tier c.max.result here.invariant.1 (omega (arith, ready.many_students)) e
          c.tier_of-tier.ensures.1 (rw (← c.from-at.ensures) c.max.ensures)),
    )
