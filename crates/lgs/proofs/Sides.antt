-- How a profile that fits the results compares two options of one person: in one tier by the results, and a better rank is in no worse tier. Each
-- lemma is about one side of the market, and is used for both.
use Prim.Native.Nat.{ℕ, zero, suc, ◌≤◌}
use mathlib.Core.Path.{◌≡◌, refl, ap}
use mathlib.Core.Logic.{⊎_elim}
use mathlib.Core.Bool.{Bool, true, false}
use native.Mathlib.Omega.{arith}
use Rattle.base.proofs.Tests.{bool_cases, less?}
use Rattle.lgs.specs.Profiles.{KeepsScores, outside_or}
use Rattle.lgs.proofs.Valid.{Refines, Possible, Parted}

pub real : (p : ℕ → Bool) (x : ℕ) → p x ≡ true → outside_or p x ≡ true
real p zero e = refl
real p (suc x) e = e

-- whoever passes the one test passes the other
pub wider : (q r : ℕ → Bool) → ((x : ℕ) → q x ≡ true → r x ≡ true) → (x : ℕ) → outside_or q x ≡ true → outside_or r x ≡ true
wider q r sub zero e = refl
wider q r sub (suc x) e = sub (suc x) e

-- an option that was met, or the outside option
pub record Known (opts vs : ℕ → ℕ → Bool) (p x : ℕ) : Type 0 where
  pub option : outside_or (opts p) x ≡ true
  pub seen : outside_or (vs p) x ≡ true

module _ (option seen met never : ℕ → ℕ → Bool) (tier : ℕ → ℕ → ℕ) (lower : ℕ → ℕ → ℕ → Bool) (rank : ℕ → ℕ → ℕ)
    (keeps : Refines option tier rank) (results : KeepsScores option seen tier lower rank) (distinct : Parted option met never tier lower)
    (known : (p x : ℕ) → seen p x ≡ true → met p x ≡ true) where
  met_too : (p x : ℕ) → outside_or (seen p) x ≡ true → outside_or (met p) x ≡ true
  met_too p = wider (seen p) (met p) (known p)

  -- in one tier, whoever does not come below is no worse
  pub by_score : (p x y : ℕ) → Known option seen p x → Known option seen p y → Possible never p x → tier p x ≡ tier p y → lower p x y ≡ false
      → rank p x ≤ rank p y
  by_score p x y kx ky ok g m =
      ⊎_elim
      (λ (l : lower p y x ≡ true). omega (arith, results.higher p x y kx.option ky.option kx.seen ky.seen g l))
      (λ (e : lower p y x ≡ false).
      let xy : x ≡ y = distinct.apart p x y kx.option ky.option (met_too p x kx.seen) (met_too p y ky.seen) ok g m e in
      omega (arith, ap (rank p) xy))
      (bool_cases (lower p y x))

  -- a better rank is in no worse tier
  pub no_worse : (p x y : ℕ) → outside_or (option p) x ≡ true → outside_or (option p) y ≡ true → rank p x ≤ rank p y → tier p x ≤ tier p y
  no_worse p x y ox oy l = ⊎_elim (λ less. absurd (omega (arith, keeps.keeps p y x oy ox less))) (λ le. le) (less? (tier p y) (tier p x))
