-- The tier in which a student matters to a workshop, by how far the workshop's tiers reach.
use Prim.Native.Nat.{ℕ, ◌≤◌, ◌<◌}
use mathlib.Core.Path.{◌≡◌}
use mathlib.Core.Logic.{⊎_elim}
use mathlib.Core.Bool.{true, false}
use native.Mathlib.Omega.{arith}
use borrow.Author.Tests.{eq-eqb, ne_eqb}
use Rattle.base.proofs.Tests.{bool_cases, eq?, is_false, never}
use Rattle.lgs.specs.Market.{Market, matters, workshop_outside}
use Rattle.lgs.proofs.Valid.{WellFormed}
use Rattle.lgs.proofs.Matters.{matters_true, matters_is}
use Rattle.format.specs.Engine.{market_in}
use Rattle.stages.specs.Raising.{reach_of, tier_for}
use Rattle.stages.specs.declared.input.Input.{Input}

module _ (M : Market) (w : ℕ) where
  -- a workshop without seats reaches nowhere
  pub reach_none : M.quota w ≡ 0 → 0 ≡ reach_of M w
  reach_none e = rw (eq-eqb (M.quota w) 0 e)

  pub reach_outside : (M.quota w ≡ 0 → ⊥) → workshop_outside M w ≡ reach_of M w
  reach_outside n = rw (ne_eqb (M.quota w) 0 n)

  module _ (s : ℕ) where
    tier_zero : (matters M w s ≡ true → ⊥) → 0 ≡ tier_for M w s
    tier_zero n = rw (is_false (matters M w s) n)

    pub unpaired_tier : M.paired s w ≡ false → 0 ≡ tier_for M w s
    unpaired_tier e = tier_zero (λ t. never (matters_true M w s t).1 e)

    -- of a pair, the student's tier, or 0 where it is beyond the reach
    module _ (l : 1 ≤ M.workshop_tier w s) where
      pub tier_beyond : reach_of M w < M.workshop_tier w s → 0 ≡ tier_for M w s
      tier_beyond b = tier_zero (λ t. let m = matters_true M w s t in omega (arith, b, m.2, reach_outside (λ z. omega (arith, m.0, z))))

      pub tier_within : M.paired s w ≡ true → M.workshop_tier w s ≤ reach_of M w → M.workshop_tier w s ≡ tier_for M w s
      tier_within p u =
          ⊎_elim (λ (z : M.quota w ≡ 0). absurd (omega (arith, reach_none z, l, u)))
          (λ (n : M.quota w ≡ 0 → ⊥). rw (matters_is M w s (omega (arith, n)) p (omega (arith, reach_outside n, u))))
          (eq? (M.quota w) 0)

    pub tier_most : (M.paired s w ≡ true → M.workshop_tier w s ≤ 513) → tier_for M w s ≤ 513
    tier_most f =
        ⊎_elim (λ (b : matters M w s ≡ true). rw b (f (matters_true M w s b).1)) (λ (b : matters M w s ≡ false). rw b (omega arith))
        (bool_cases (matters M w s))

-- the market of a case that is ready is well formed
pub ready_wf : (i : Input) → WellFormed (market_in i.table.case.now)
ready_wf i =
    record {
      student = λ s w p. let k = i.ready.named s w p in (k.0.0, omega (arith, k.0.1, i.ready.students));
      workshop = λ s w p. let k = i.ready.named s w p in (k.1.0, omega (arith, k.1.1, i.ready.workshops));
      tier = i.ready.student_tier;
    }
