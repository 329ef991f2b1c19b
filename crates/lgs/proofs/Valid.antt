-- What the theorems ask of a market and of results: `WellFormed` and `Distinct`, which a valid case and book give. And a strict profile that
-- respects the tiers, one side at a time: `Refining`.
use Prim.Native.Nat.{ℕ, ◌≤◌, ◌<◌}
use mathlib.Core.Path.{◌≡◌, refl, sym}
use mathlib.Core.Logic.{◌⊎◌, inl, inr, ⊎_elim}
use mathlib.Core.Bool.{Bool, true, false, ◌&&◌}
use native.Mathlib.Omega.{arith}
use lib.Dec.{ltb, eqb}
use borrow.Author.Tests.{ltb-true, ltb-false, lt-ltb, eqb-true, eq-eqb}
use Rattle.base.proofs.Tests.{or_true, or_false, or_left, or_right, and_left, and_right}
use Rattle.lgs.specs.Market.{Market, Results, scored_lower, outscored}
use Rattle.lgs.specs.Profiles.{Profile, StrictProfile, RespectsTiers, outside_or, flip}

-- a pair names a student and a workshop of the market, and tiers count from 1
pub record WellFormed (M : Market) : Type 0 where
  pub student : (s w : ℕ) → M.paired s w ≡ true → (1 ≤ s) × (s ≤ M.students)
  pub workshop : (s w : ℕ) → M.paired s w ≡ true → (1 ≤ w) × (w ≤ M.workshops)
  pub tier : (s w : ℕ) → M.paired s w ≡ true → 1 ≤ M.student_tier s w

-- the interview of p with x did not end in never, or x is the outside option
abbrev pub Possible : (ℕ → ℕ → Bool) → ℕ → ℕ → Type 0
Possible never p x = 0 < x → never p x ≡ false

-- of two in one tier whom the person has met, the outside option among them, one comes below the other, but where the interviews ended in never
pub record Parted (option met never : ℕ → ℕ → Bool) (tier : ℕ → ℕ → ℕ) (lower : ℕ → ℕ → ℕ → Bool) : Type 0 where
  pub apart : (p x y : ℕ)
      → outside_or (option p) x ≡ true
      → outside_or (option p) y ≡ true
      → outside_or (met p) x ≡ true
      → outside_or (met p) y ≡ true
      → Possible never p x
      → tier p x ≡ tier p y
      → lower p x y ≡ false
      → lower p y x ≡ false
      → x ≡ y

pub record Distinct (M : Market) (B : Results) : Type 0 where
  pub students : Parted M.paired B.met B.never M.student_tier (scored_lower B.student_score)
  pub workshops : Parted (flip M.paired) (flip B.met) (flip B.never) M.workshop_tier (outscored M B)
  -- no workshop gave the outside option's score
  pub outside : (s w : ℕ) → M.paired s w ≡ true → B.met s w ≡ true → B.workshop_score w s ≡ B.workshop_score w 0 → ⊥

-- the rank is strict and keeps the tiers
pub record Refines (option : ℕ → ℕ → Bool) (tier rank : ℕ → ℕ → ℕ) : Type 0 where
  pub strict : (p x y : ℕ) → outside_or (option p) x ≡ true → outside_or (option p) y ≡ true → rank p x ≡ rank p y → x ≡ y
  pub keeps : (p x y : ℕ) → outside_or (option p) x ≡ true → outside_or (option p) y ≡ true → tier p x < tier p y → rank p x < rank p y

pub record Refining (M : Market) (O : Profile) : Type 0 where
  pub students : Refines M.paired M.student_tier O.student_rank
  pub workshops : Refines (flip M.paired) M.workshop_tier O.workshop_rank

module _ (M : Market) (O : Profile) where
  pub refining : StrictProfile M O → RespectsTiers M O → Refining M O
  refining strict tiers =
      record {
        students = record { strict = strict.students.apart; keeps = tiers.students.better };
        workshops = record { strict = strict.workshops.apart; keeps = tiers.workshops.better };
      }

  pub refining_strict : Refining M O → StrictProfile M O
  refining_strict full =
      record { students = record { apart = full.students.strict }; workshops = record { apart = full.workshops.strict } }

  pub refining_tiers : Refining M O → RespectsTiers M O
  refining_tiers full =
      record { students = record { better = full.students.keeps }; workshops = record { better = full.workshops.keeps } }

-- ---- how a workshop compares two whom it has interviewed: by score, and equal scores by lot
module _ (M : Market) (B : Results) (w x y : ℕ) where
  abbrev same? : Bool
  same? = eqb (B.workshop_score w x) (B.workshop_score w y)

  pub by_lower_score : B.workshop_score w x < B.workshop_score w y → outscored M B w x y ≡ true
  unfolding outscored
  by_lower_score l = or_left (ltb (B.workshop_score w x) (B.workshop_score w y)) _ (lt-ltb _ _ l)

  pub by_higher_lot : B.workshop_score w x ≡ B.workshop_score w y → M.lot y < M.lot x → outscored M B w x y ≡ true
  unfolding outscored
  by_higher_lot e l = rw (eq-eqb _ _ e, lt-ltb _ _ l) (or_right (ltb (B.workshop_score w x) (B.workshop_score w y)) true refl)

  -- what it goes by: the lower score, or equal scores and the higher lot
  pub outscored_by : outscored M B w x y ≡ true
      → (B.workshop_score w x < B.workshop_score w y) ⊎ ((B.workshop_score w x ≡ B.workshop_score w y) × (M.lot y < M.lot x))
  unfolding outscored
  outscored_by e =
      ⊎_elim (λ l. inl (ltb-true _ _ l))
      (λ f. inr (eqb-true _ _ (and_left same? _ f), ltb-true _ _ (and_right same? _ f)))
      (or_true (ltb (B.workshop_score w x) (B.workshop_score w y)) _ e)

  -- whoever does not come below has no lower score, and with an equal one no higher lot
  pub not_outscored : outscored M B w x y ≡ false
      → (B.workshop_score w y ≤ B.workshop_score w x) × (B.workshop_score w x ≡ B.workshop_score w y → M.lot x ≤ M.lot y)
  unfolding outscored
  not_outscored e =
      let r : (ltb (B.workshop_score w x) (B.workshop_score w y) ≡ false) × ((same? && ltb (M.lot y) (M.lot x)) ≡ false) =
      or_false (ltb (B.workshop_score w x) (B.workshop_score w y)) _ e in
      (ltb-false _ _ r.0, λ q. ltb-false _ _ (rw (eq-eqb _ _ q) at r.1))

-- two of whom neither comes below have equal scores and equal lots
pub unparted : (M : Market) (B : Results) (w x y : ℕ) → outscored M B w x y ≡ false → outscored M B w y x ≡ false
    → (B.workshop_score w x ≡ B.workshop_score w y) × (M.lot x ≡ M.lot y)
unparted M B w x y e f =
    let a : (B.workshop_score w y ≤ B.workshop_score w x) × (B.workshop_score w x ≡ B.workshop_score w y → M.lot x ≤ M.lot y) = not_outscored M B w x y e in
    let b : (B.workshop_score w x ≤ B.workshop_score w y) × (B.workshop_score w y ≡ B.workshop_score w x → M.lot y ≤ M.lot x) = not_outscored M B w y x f in
    let q : B.workshop_score w x ≡ B.workshop_score w y = omega (arith, a.0, b.0) in
    (q, omega (arith, a.1 q, b.1 (sym q)))

-- the comparison carries on
pub outscored_on : (M : Market) (B : Results) (w x y z : ℕ) → outscored M B w x y ≡ true → outscored M B w y z ≡ true → outscored M B w x z ≡ true
outscored_on M B w x y z e f = both (outscored_by M B w x y e) (outscored_by M B w y z f)
  where
    Below : ℕ → ℕ → Type 0
    Below a b = (B.workshop_score w a < B.workshop_score w b) ⊎ ((B.workshop_score w a ≡ B.workshop_score w b) × (M.lot b < M.lot a))

    both : Below x y → Below y z → outscored M B w x z ≡ true
    both (inl a) (inl b) = by_lower_score M B w x z (omega arith)
    both (inl a) (inr b) = by_lower_score M B w x z (omega arith)
    both (inr a) (inl b) = by_lower_score M B w x z (omega arith)
    both (inr a) (inr b) = by_higher_lot M B w x z (omega arith) (omega arith)

-- and no two come below each other
pub outscored_apart : (M : Market) (B : Results) (w x y : ℕ) → outscored M B w x y ≡ true → outscored M B w y x ≡ true → ⊥
outscored_apart M B w x y e f =
    ⊎_elim (λ l. omega (arith, l)) (λ r. omega (arith, r.1)) (outscored_by M B w x x (outscored_on M B w x y x e f))
