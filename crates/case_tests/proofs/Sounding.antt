-- Causes 2, 3 and 5 in one pass: a record more.
use Prim.Native.Nat.{ℕ, ◌+◌, ◌≤◌, ◌<◌}
use mathlib.Core.Path.{◌≡◌, refl}
use mathlib.Core.Logic.{⊎_elim}
use mathlib.Core.Bool.{false}
use native.Mathlib.Omega.{arith}
use Rattle.base.proofs.Tests.{less?}
use mathlib.Core.List.{List}
use lib.Dec.{eqb}
use Rattle.base.specs.Lists.{one}
use Rattle.base.specs.Search.{first_bad}
use Rattle.base.proofs.Search.{scan_on}
use Rattle.format.specs.Layout.{row_at, rows, row_count}
use Rattle.format.specs.Refusals.{bad_form, bad_range}
use Rattle.format.proofs.Positions.{kind_within}
use Rattle.case_tests.specs.Order.{Passes, Sound}
use Rattle.case_tests.proofs.Counting.{counted_start, counted_on}

module _ (case : List ℕ) where
  pub sound_start : Sound case 0 0 0
  unfolding first_bad
  sound_start = record { counted = counted_start case; range = refl }

  pub sound_on : (i n m : ℕ) → Sound case i n m → i < row_count case → Passes case i
      → Sound case (i + 1) (n + one (eqb (row_at case i).kind 1)) (m + one (eqb (row_at case i).kind 2))
  sound_on i n m s l p =
      record { counted = counted_on case i n m s.counted l p.0 p.1; range = scan_on (bad_range (rows case)) i s.range p.2 }

  -- a record that is no pair is a student or a workshop
  pub one_more : (i : ℕ) → i < row_count case → bad_form (rows case) i ≡ false → (row_at case i).kind < 3
      → one (eqb (row_at case i).kind 1) + one (eqb (row_at case i).kind 2) ≡ 1
  one_more i l f u =
      ⊎_elim (λ (a : (row_at case i).kind < 2). let e : (row_at case i).kind ≡ 1 = omega (arith, kind_within case i l f) in rw e)
      (λ (a : 2 ≤ (row_at case i).kind). let e : (row_at case i).kind ≡ 2 = omega arith in rw e)
      (less? (row_at case i).kind 2)
