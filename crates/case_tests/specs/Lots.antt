-- Cause 13 in one pass over the students, with the set of the lots used so far.
use Rattle.std.specs.Prelude.{ℕ, ◌-◌, ◌≤◌, ◌<◌, ◌≡◌, Bool, true, false, List}
use Rattle.base.specs.Bits.{Met}
use Rattle.format.specs.Layout.{row_at, row_count}
use Rattle.format.specs.Refusals.{not_within}

-- the students' records are the first n
pub record StudentsFirst (case : List ℕ) (n : ℕ) : Type 0 where
  pub inside : n ≤ row_count case
  pub student : (k : ℕ) → k < n → (row_at case k).kind ≡ 1
  pub other : (k : ℕ) → n ≤ k → k < row_count case → (row_at case k).kind ≡ 1 → ⊥

-- r tells that the lot is out of range or used; one in range is used from now on
pub record Used (before after : List ℕ) (lot : ℕ) (r : Bool) : Type 0 where
  pub outside : not_within 1 512 lot ≡ true → r ≡ true
  pub inside : not_within 1 512 lot ≡ false → Met before after (lot - 1) r
