-- Cause 5 of a record, by its kind.
use Prim.Native.Nat.{ℕ, ◌<◌}
use mathlib.Core.Path.{◌≡◌}
use mathlib.Core.Bool.{false, ◌||◌, or-false}
use mathlib.Core.List.{List}
use native.Mathlib.Omega.{arith}
use borrow.Author.Tests.{ne_eqb, le-ltb}
use Rattle.format.specs.Layout.{row_at, rows, row_count}
use Rattle.format.specs.Refusals.{not_within, bad_range, bad_student, bad_workshop, bad_tiers}
use Rattle.format.proofs.Positions.{row_at_lem}
use lib.Dec.{ltb}

module _ (case : List ℕ) (i : ℕ) (l : i < row_count case) where
  pub student : (row_at case i).kind ≡ 1 → bad_range (rows case) i ≡ (not_within 1 512 (row_at case i).second || not_within 1 65 (row_at case i).third)
  unfolding bad_range bad_student bad_workshop bad_tiers
  student e = rw (row_at_lem case i l, e) (or-false _)

  -- no quota is below 0
  pub workshop : (row_at case i).kind ≡ 2 → bad_range (rows case) i ≡ (ltb 512 (row_at case i).second || not_within 1 513 (row_at case i).third)
  unfolding bad_range bad_student bad_workshop bad_tiers
  workshop e = rw (row_at_lem case i l, e, le-ltb (row_at case i).second 0 (omega arith)) (or-false _)

  pub tiers : (row_at case i).kind ≡ 3 → bad_range (rows case) i ≡ (not_within 1 65 (row_at case i).third || not_within 1 513 (row_at case i).fourth)
  unfolding bad_range bad_student bad_workshop bad_tiers
  tiers e = rw (row_at_lem case i l, e)

  pub other : ((row_at case i).kind ≡ 1 → ⊥) → ((row_at case i).kind ≡ 2 → ⊥) → ((row_at case i).kind ≡ 3 → ⊥) → bad_range (rows case) i ≡ false
  unfolding bad_range bad_student bad_workshop bad_tiers
  other a b c = rw (row_at_lem case i l, ne_eqb (row_at case i).kind 1 a, ne_eqb (row_at case i).kind 2 b, ne_eqb (row_at case i).kind 3 c)
