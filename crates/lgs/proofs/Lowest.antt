-- The workshop's comparison of its students, and its lowest holder: what the rule compares by tier and score is so in every profile that
-- fits.
use Prim.Native.Nat.{ℕ, ◌≤◌, ◌<◌}
use mathlib.Core.Path.{◌≡◌, refl, sym}
use mathlib.Core.Logic.{⊎_elim}
use mathlib.Core.Bool.{Bool, true, false, ◌&&◌}
use mathlib.Core.List.Memᴰ.{cases_cons}
use mathlib.Core.List.Memᴰ.{head as here}
use mathlib.Core.List.Memᴰ.{tail as later}
use mathlib.Core.List.{List, [], ◌∷◌, Memᴰ as Mem}
use mathlib.Core.List.Memᴰ.{not-nil}
use native.Mathlib.Omega.{arith}
use lib.Dec.{eqb, ltb}
use borrow.Author.Tests.{ltb-false, ltb-true, eqb-true, eq-eqb}
use Rattle.base.specs.Lists.{upto, pick}
use Rattle.base.proofs.Tests.{and_left, and_right, or_true, or_false, less?}
use Rattle.base.proofs.Counting.{somebody}
use Rattle.base.proofs.Members.{in_upto, in_keep, keep_in, Picked, picked}
use Rattle.lgs.specs.Market.{Market, Results, outscored}
use Rattle.lgs.specs.Profiles.{Profile, flip, seated}
use Rattle.lgs.specs.Rule.{State, interviewed, unopened, below, holders, lowest_of}
use Rattle.lgs.proofs.Sides.{Known, real}
use Rattle.lgs.proofs.Setting.{Setting}
use Rattle.lgs.proofs.Invariant.{Seen, unopened_possible, workshop_by_score, known_by}

module _ (M : Market) (B : Results) (O : Profile) (Vs : ℕ → ℕ → Bool) (E : Setting M B O Vs) (σ τ : State) (c : ℕ)
    (seen : (x : ℕ) → interviewed τ.interviews x c ≡ true → Seen M Vs σ x c) where
  -- y was interviewed, and x comes below
  abbrev lower? : ℕ → ℕ → Bool
  lower? x y = interviewed τ.interviews y c && outscored M B c x y

  -- strictly below in the rule is below in the profile
  pub below_rank : (x y : ℕ) → M.paired x c ≡ true → M.paired y c ≡ true → below M B τ c x y ≡ true → O.workshop_rank c y < O.workshop_rank c x
  unfolding below
  below_rank x y px py e = ⊎_elim by_tier by_both (or_true (ltb (M.workshop_tier c y) (M.workshop_tier c x)) _ e)
    where
      by_tier : ltb (M.workshop_tier c y) (M.workshop_tier c x) ≡ true → O.workshop_rank c y < O.workshop_rank c x
      by_tier l = E.full.workshops.keeps c y x (real (flip M.paired c) y py) (real (flip M.paired c) x px) (ltb-true _ _ l)

      by_both : (eqb (M.workshop_tier c x) (M.workshop_tier c y) && (interviewed τ.interviews x c && lower? x y)) ≡ true
          → O.workshop_rank c y < O.workshop_rank c x
      by_both a =
          let a₁ : (interviewed τ.interviews x c && lower? x y) ≡ true = and_right (eqb (M.workshop_tier c x) (M.workshop_tier c y)) _ a in
          let a₂ : lower? x y ≡ true = and_right (interviewed τ.interviews x c) _ a₁ in
          let kx : Known (flip M.paired) (flip Vs) c x = known_by M B O Vs E σ x c (seen x (and_left _ _ a₁)) in
          let ky : Known (flip M.paired) (flip Vs) c y = known_by M B O Vs E σ y c (seen y (and_left _ _ a₂)) in
          E.results.workshops.higher c y x ky.option kx.option ky.seen kx.seen
          (sym (eqb-true _ _ (and_left (eqb (M.workshop_tier c x) (M.workshop_tier c y)) _ a)))
          (and_right (interviewed τ.interviews y c) _ a₂)

  -- of two interviewed, one that is not never and not strictly below is above or the same
  pub not_below_rank : (x y : ℕ) → interviewed τ.interviews x c ≡ true → interviewed τ.interviews y c ≡ true → B.never x c ≡ false
      → below M B τ c x y ≡ false → O.workshop_rank c x ≤ O.workshop_rank c y
  unfolding below
  not_below_rank x y vx vy ok e = ⊎_elim better same (less? (M.workshop_tier c x) (M.workshop_tier c y))
    where
      kx : Known (flip M.paired) (flip Vs) c x
      kx = known_by M B O Vs E σ x c (seen x vx)

      ky : Known (flip M.paired) (flip Vs) c y
      ky = known_by M B O Vs E σ y c (seen y vy)

      parts : (ltb (M.workshop_tier c y) (M.workshop_tier c x) ≡ false)
          × ((eqb (M.workshop_tier c x) (M.workshop_tier c y) && (interviewed τ.interviews x c && lower? x y)) ≡ false)
      parts = or_false (ltb (M.workshop_tier c y) (M.workshop_tier c x)) _ e

      better : M.workshop_tier c x < M.workshop_tier c y → O.workshop_rank c x ≤ O.workshop_rank c y
      better l = omega (arith, E.full.workshops.keeps c x y kx.option ky.option l)

      same : M.workshop_tier c y ≤ M.workshop_tier c x → O.workshop_rank c x ≤ O.workshop_rank c y
      same le =
          let g : M.workshop_tier c x ≡ M.workshop_tier c y = omega (arith, ltb-false (M.workshop_tier c y) (M.workshop_tier c x) parts.0) in
          workshop_by_score M B O Vs E c x y kx ky (λ l. ok) g (rw (eq-eqb _ _ g, vx, vy) at parts.1)

  -- the holder that no holder is below
  pub record Lowest (l : ℕ) : Type 0 where
    pub holder : τ.held l ≡ c
    pub low : (h : ℕ) → τ.held h ≡ c → O.workshop_rank c h ≤ O.workshop_rank c l

  module _ (came : (h : ℕ) → τ.held h ≡ c → (interviewed τ.interviews h c ≡ true) × (unopened M B h c ≡ false)) where
    holder_in : (h : ℕ) → τ.held h ≡ c → Mem h (holders M B τ c)
    unfolding holders
    holder_in h e =
        let r : (1 ≤ h) × (h ≤ M.students) = E.wf.student h c (seen h (came h e).0).pair in
        in_keep (λ t. eqb (τ.held t) c) (upto M.students) h (eq-eqb _ _ e) (in_upto M.students h r.0 r.1)

    in_holder : (h : ℕ) → Mem h (holders M B τ c) → τ.held h ≡ c
    unfolding holders
    in_holder h m = eqb-true _ _ (keep_in (λ t. eqb (τ.held t) c) (upto M.students) h m).0

    lowest_of_lem : (hs : List ℕ) → holders M B τ c ≡ hs → (k : ℕ) → Mem k hs → Lowest (lowest_of M B τ c hs)
    unfolding lowest_of
    lowest_of_lem [] e k m = absurd (not-nil m)
    lowest_of_lem (x ∷ xs) e k m =
        let p : Picked (λ a b. O.workshop_rank c b ≤ O.workshop_rank c a) (λ h. τ.held h ≡ c) x xs (pick (below M B τ c) x xs) =
        picked (below M B τ c) (λ a b. O.workshop_rank c b ≤ O.workshop_rank c a) (λ h. τ.held h ≡ c) (λ a. omega arith) (λ a b d l r. omega arith)
        (λ a b ha hb t. let l : O.workshop_rank c a < O.workshop_rank c b = below_rank b a (seen b (came b hb).0).pair
        (seen a (came a ha).0).pair t in omega arith)
        (λ a b ha hb t. not_below_rank b a (came b hb).0 (came a ha).0 (unopened_possible M B b c (came b hb).1) t)
        x xs (in_holder x (rw e (here refl))) (λ y m'. in_holder y (rw e (later m'))) in
        record { holder = p.chosen; low = λ h q. ⊎_elim (λ (z : h ≡ x). rw z p.first) (p.others h) (cases_cons (rw e at (holder_in h q))) }

    pub lowest : 1 ≤ seated M τ.held c → Lowest (lowest_of M B τ c (holders M B τ c))
    lowest l =
        let k : (h : ℕ) × (1 ≤ h) × (h ≤ M.students) × (eqb (τ.held h) c ≡ true) = somebody (λ t. eqb (τ.held t) c) M.students l in
        lowest_of_lem (holders M B τ c) refl k.0 (holder_in k.0 (eqb-true _ _ k.3))
