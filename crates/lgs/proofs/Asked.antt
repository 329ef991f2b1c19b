-- What the stages so far ask of a student: it is no more than stages that agree have, if they are no earlier.
use Prim.Native.Nat.{ℕ, suc, ◌≤◌, ◌<◌}
use mathlib.Core.Path.{◌≡◌}
use mathlib.Core.Logic.{⊎_elim}
use mathlib.Core.Bool.{true, false, cond, ◌&&◌}
use mathlib.Core.List.{List}
use native.Mathlib.Omega.{arith}
use lib.Dec.{ltb, eqb}
use borrow.Author.Tests.{lt-ltb, le-ltb, eq-eqb, ne_eqb}
use Rattle.base.specs.Lists.{largest}
use Rattle.base.proofs.Tests.{bool_cases, and_left, and_right, less?, eq?}
use Rattle.base.proofs.Counting.{largest_le, largest_part}
use Rattle.lgs.specs.Market.{Market, matters, Rivals, ConsistentStages}
use Rattle.lgs.specs.Stages.{stage_of, asked, raised}

module _ (M : Market) where
  module _ (xs : List ℕ) where
    pub asked_later : (w s t : ℕ) → Rivals M w s t → M.workshop_tier w s < M.workshop_tier w t → asked M xs w t s ≡ suc (stage_of xs s)
    unfolding asked
    asked_later w s t R l =
        rw (R.first, R.second, lt-ltb (M.workshop_tier w s) (M.workshop_tier w t) l)

    pub asked_same : (w s t : ℕ) → Rivals M w s t → M.workshop_tier w s ≡ M.workshop_tier w t → asked M xs w t s ≡ stage_of xs s
    unfolding asked
    asked_same w s t R e =
        rw (R.first, R.second, le-ltb (M.workshop_tier w s) (M.workshop_tier w t) (omega arith), eq-eqb (M.workshop_tier w s) (M.workshop_tier w t) e)

    -- stages that agree, and are no earlier than these, are no earlier than what is asked
    module _ (stage : ℕ → ℕ) (C : ConsistentStages M stage) (below : (s : ℕ) → stage_of xs s ≤ stage s) where
      pub asked_below : (w s t : ℕ) → asked M xs w s t ≤ stage s
      unfolding asked
      asked_below w s t =
          ⊎_elim
          (λ (e : (matters M w s && matters M w t) ≡ true).
          rw e (by_tier (record { first = and_right (matters M w s) _ e; second = and_left (matters M w s) _ e })))
          (λ (e : (matters M w s && matters M w t) ≡ false). rw e (omega arith))
          (bool_cases (matters M w s && matters M w t))
        where
          by_tier : Rivals M w t s
              → cond (ltb (M.workshop_tier w t) (M.workshop_tier w s)) (suc (stage_of xs t))
              (cond (eqb (M.workshop_tier w t) (M.workshop_tier w s)) (stage_of xs t) 0) ≤ stage s
          by_tier R =
              ⊎_elim
              (λ (l : M.workshop_tier w t < M.workshop_tier w s).
              rw (lt-ltb (M.workshop_tier w t) (M.workshop_tier w s) l) (omega (arith, below t, C.earlier w t s R l)))
              (λ (l : M.workshop_tier w s ≤ M.workshop_tier w t).
              rw (le-ltb (M.workshop_tier w t) (M.workshop_tier w s) l)
              (⊎_elim
              (λ (e : M.workshop_tier w t ≡ M.workshop_tier w s).
              rw (eq-eqb (M.workshop_tier w t) (M.workshop_tier w s) e) (omega (arith, below t, C.together w t s R e)))
              (λ (n : M.workshop_tier w t ≡ M.workshop_tier w s → ⊥). rw (ne_eqb (M.workshop_tier w t) (M.workshop_tier w s) n) (omega arith))
              (eq? (M.workshop_tier w t) (M.workshop_tier w s))))
              (less? (M.workshop_tier w t) (M.workshop_tier w s))

      pub raised_below : (s : ℕ) → raised M xs s ≤ stage s
      unfolding raised
      raised_below s =
          omega (
            arith,
            below s,
            largest_le (λ w. largest (asked M xs w s) M.students) M.workshops (stage s)
                (λ w l u. largest_le (asked M xs w s) M.students (stage s) (λ t l u. asked_below w s t)),
          )

    pub raised_more : (s : ℕ) → stage_of xs s ≤ raised M xs s
    unfolding raised
    raised_more s = omega arith

    pub raised_asked : (w s t : ℕ) → 1 ≤ w → w ≤ M.workshops → 1 ≤ t → t ≤ M.students → asked M xs w s t ≤ raised M xs s
    unfolding raised
    raised_asked w s t lw uw lt ut =
        omega (
          arith,
          largest_part (λ w. largest (asked M xs w s) M.students) M.workshops w lw uw,
          largest_part (asked M xs w s) M.students t lt ut,
        )
