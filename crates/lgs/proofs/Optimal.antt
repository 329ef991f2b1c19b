-- The student-optimal matching is unique, and a full workshop whose holders can have nothing better is had by nobody below them (else such a
-- holder blocks).
use Prim.Native.Nat.{ℕ, zero, suc, ◌≤◌, ◌<◌}
use mathlib.Core.Path.{◌≡◌, refl, sym}
use mathlib.Core.Logic.{inl, inr, ⊎_elim}
use mathlib.Core.Bool.{Bool, true, false}
use native.Mathlib.Omega.{arith}
use native.Mathlib.Nat.{eq-or-lt_of_le}
use lib.Dec.{eqb}
use borrow.Author.Tests.{eqb-true, eqb-false, eq-eqb, ne_eqb}
use Rattle.base.proofs.Counting.{exchange}
use Rattle.base.proofs.Tests.{less?}
use Rattle.lgs.specs.Market.{Market}
use Rattle.lgs.specs.Profiles.{Profile, StrictProfile, Acceptable, Matching, Stable, StudentOptimal, seated, outside_or}
use Rattle.lgs.proofs.Valid.{WellFormed, Refining}

-- an option, or the outside option
pub an_option : (p : ℕ → Bool) (x : ℕ) → (0 < x → p x ≡ true) → outside_or p x ≡ true
an_option p zero h = refl
an_option p (suc x) h = h (omega arith)

-- no stable matching gives the student the workshop
abbrev pub Unattainable : Market → Profile → ℕ → ℕ → Type 0
Unattainable M O s c = (ν : ℕ → ℕ) → Stable M O ν → ν s ≡ c → ⊥

module _ (M : Market) (O : Profile) where
  pub placed_option : (μ : ℕ → ℕ) → Matching M O μ → (s : ℕ) → outside_or (M.paired s) (μ s) ≡ true
  placed_option μ P s = an_option (M.paired s) (μ s) (λ l. (P.acceptable s l).pair)

  -- the student-optimal matching is one
  pub optimal_unique : StrictProfile M O → (μ ν : ℕ → ℕ) → StudentOptimal M O μ → StudentOptimal M O ν → (s : ℕ) → μ s ≡ ν s
  optimal_unique strict μ ν a b s =
      strict.students.apart s (μ s) (ν s) (placed_option μ a.stable.matching s) (placed_option ν b.stable.matching s)
      (omega (arith, a.best ν b.stable s, b.best μ a.stable s))

  -- a stable matching leaves no seat free that a student would rather have
  pub no_waste : (μ : ℕ → ℕ) → Stable M O μ → (s w : ℕ) → Acceptable M O s w → O.student_rank s w < O.student_rank s (μ s) → M.quota w ≤ seated M μ w
  no_waste μ st s w acc less =
      ⊎_elim
      (λ (free : seated M μ w < M.quota w). absurd (st.unblocked s w (record { acceptable = acc; prefers = less; room = inl free })))
      (λ le. le)
      (less? (seated M μ w) (M.quota w))

module _ (M : Market) (O : Profile) (full : Refining M O) where
  -- a holder h of c that ν does not place there, though h can have nothing better, blocks ν where ν seats x below h
  holder_blocks : (c h x : ℕ) (ν : ℕ → ℕ) → Acceptable M O h c
      → ((d : ℕ) → 0 < d → O.student_rank h d < O.student_rank h c → Unattainable M O h d)
      → O.workshop_rank c h < O.workshop_rank c x
      → Stable M O ν → ν x ≡ c → (ν h ≡ c → ⊥) → ⊥
  holder_blocks c h x ν acc top low st e away =
      ⊎_elim (λ (better : O.student_rank h (ν h) < O.student_rank h c). top (ν h) (real (ν h) better) better ν st refl)
      (λ (worse : O.student_rank h c ≤ O.student_rank h (ν h)). st.unblocked h c (record { acceptable = acc; prefers = apart worse; room = inr (x, e, low) }))
      (less? (O.student_rank h (ν h)) (O.student_rank h c))
    where
      real : (d : ℕ) → O.student_rank h d < O.student_rank h c → 0 < d
      real zero l = absurd (omega (arith, acc.student))
      real (suc d) l = omega arith

      apart : O.student_rank h c ≤ O.student_rank h (ν h) → O.student_rank h c < O.student_rank h (ν h)
      apart le =
          ⊎_elim
          (λ q. absurd (away (full.students.strict h (ν h) c (placed_option M O ν st.matching h) (an_option (M.paired h) c (λ l. acc.pair)) (sym q))))
          (λ l. l)
          (eq-or-lt_of_le le)

  -- a full workshop, whose holders can have nothing better, is had by nobody below all of them
  pub below_holders : WellFormed M → (held : ℕ → ℕ) (c : ℕ) → 0 < c
      → M.quota c ≤ seated M held c
      → ((h : ℕ) → held h ≡ c → Acceptable M O h c)
      → ((h d : ℕ) → held h ≡ c → 0 < d → O.student_rank h d < O.student_rank h c → Unattainable M O h d)
      → (x : ℕ) → ((h : ℕ) → held h ≡ c → O.workshop_rank c h < O.workshop_rank c x)
      → Unattainable M O x c
  below_holders wf held c pos fullc acc top x low ν st e =
      let in_x : (1 ≤ x) × (x ≤ M.students) = wf.student x (ν x) (st.matching.acceptable x (rw e pos)).pair in
      blocked (exchange (λ h. eqb (held h) c) (λ h. eqb (ν h) c) M.students x (omega (arith, st.matching.within c pos)) in_x.0 in_x.1
      (eq-eqb _ _ e)
      (ne_eqb _ _ (λ (q : held x ≡ c). omega (arith, low x q))))
    where
      blocked : (h : ℕ) × (eqb (held h) c ≡ true) × (eqb (ν h) c ≡ false) → ⊥
      blocked (h, y, n) = let hc : held h ≡ c = eqb-true _ _ y in holder_blocks c h x ν (acc h hc) (λ d. top h d hc) (low h hc) st e (eqb-false _ _ n)
