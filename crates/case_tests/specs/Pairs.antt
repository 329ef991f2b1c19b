-- The pairs, tested and noted in one pass, student by student.
use Rattle.std.specs.Prelude.{ℕ, ◌+◌, ◌-◌, ◌*◌, ◌≤◌, ◌<◌, ◌≡◌, true, false, List, Option, IfSome}
use Rattle.base.specs.Lists.{count}
use Rattle.base.specs.Bits.{member}
use Rattle.base.specs.Search.{or_end}
use Rattle.format.specs.Layout.{row_at, rows, row_count}
use Rattle.format.specs.Refusals.{bad_form, bad_range}
use Rattle.tables.specs.Table.{student_in, workshop_in, Noted}
use Rattle.case_tests.specs.Order.{Passes, Sound, heads_end}
use Rattle.case_tests.specs.declared.order.Tally.{Tally}

-- record i is a pair of student s with a workshop above `last`, of m workshops, and passes causes 2 and 5
pub record NextPair (case : List ℕ) (i s last m : ℕ) : Type 0 where
  pub kind : (row_at case i).kind ≡ 3
  pub hers : student_in case i ≡ s
  pub later : last < workshop_in case i
  pub known : workshop_in case i ≤ m
  pub form : bad_form (rows case) i ≡ false
  pub range : bad_range (rows case) i ≡ false

-- the first i records pass, with n students and m workshops; the last of them is no pair above (s, last), and record i, where it passes, is one
pub record Trail (case : List ℕ) (n m i s last : ℕ) : Type 0 where
  pub sound : Sound case i n m
  pub before : 0 < i → (row_at case (i - 1)).kind ≡ 3 → student_in case (i - 1) * 65536 + workshop_in case (i - 1) ≤ s * 65536 + last
  pub ahead : i < row_count case → Passes case i → ((row_at case i).kind ≡ 3) × (s * 65536 + last < student_in case i * 65536 + workshop_in case i)

-- the pairs (a k, b k), with k from `from` to end - 1, are of student s: the set of their workshops, by which a pair is counted from the first
pub record Piled (a b : ℕ → ℕ) (from s set end : ℕ) : Type 0 where
  pub reach : from ≤ end
  pub few : end ≤ from + 64
  pub hers : (k : ℕ) → from ≤ k → k < end → a k ≡ s
  pub sound : (x : ℕ) → member set x ≡ true → (k : ℕ) × (from ≤ k) × (k < end) × (b k ≡ x)
  pub full : (k : ℕ) → from ≤ k → k < end → member set (b k) ≡ true
  pub place : (k : ℕ) → from ≤ k → k < end → from + count (member set) (b k - 1) ≡ k

-- the first record that does not pass, if any; and the table describes the pairs before it, or all
pub record Sifted (case : List ℕ) (t : Tally) (stopped : Option ℕ) (table : List ℕ) : Type 0 where
  pub sound : Sound case (or_end (row_count case) stopped) t.students t.workshops
  pub stop : IfSome stopped (λ i. (i < row_count case) × (Passes case i → ⊥))
  pub noted : Noted (student_in case) (workshop_in case) (heads_end t) (or_end (row_count case) stopped) table
