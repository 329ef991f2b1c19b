-- Cause 3 with the students and workshops counted on the way, and causes 2, 3 and 5 in one pass.
use Rattle.std.specs.Prelude.{ℕ, ◌+◌, ◌-◌, ◌≤◌, ◌<◌, ◌≡◌, false, List, take, Some, None, Result, Ok, Err}
use Rattle.base.specs.Lists.{tally}
use Rattle.base.specs.Search.{first_bad}
use Rattle.format.specs.Layout.{row_at, rows, row_count, of_kind}
use Rattle.format.specs.Refusals.{bad_form, bad_order, bad_range}
use Rattle.api.specs.declared.Cause.TheVariants.{RecordOrder}
use Rattle.api.specs.declared.Refusal.{Refusal}
use Rattle.case_tests.specs.declared.order.Tally.{Tally}

-- the first i records pass causes 2 and 3, of which n are students and m workshops
pub record Counted (case : List ℕ) (i n m : ℕ) : Type 0 where
  pub inside : i ≤ row_count case
  pub form : first_bad (bad_form (rows case)) i ≡ None
  pub order : first_bad (bad_order (rows case)) i ≡ None
  pub students : n ≡ tally (of_kind 1) (take i (rows case))
  pub workshops : m ≡ tally (of_kind 2) (take i (rows case))
  pub few_students : n ≤ i
  pub few_workshops : m ≤ i

-- the counts of all records, which are in order, or the first that is not
abbrev pub Ordered : List ℕ → Result Tally Refusal → Type 0
Ordered case (Ok t) = Counted case (row_count case) t.students t.workshops
Ordered case (Err r) = (r.cause ≡ RecordOrder) × (first_bad (bad_order (rows case)) (row_count case) ≡ Some r.place)

-- the first i records pass cause 5 too
pub record Sound (case : List ℕ) (i n m : ℕ) : Type 0 where
  pub counted : Counted case i n m
  pub range : first_bad (bad_range (rows case)) i ≡ None

-- record i passes causes 2, 3 and 5
abbrev pub Passes : List ℕ → ℕ → Type 0
Passes case i = (bad_form (rows case) i ≡ false) × (bad_order (rows case) i ≡ false) × (bad_range (rows case) i ≡ false)

-- how many records they are
abbrev pub heads_end : Tally → ℕ
heads_end t = t.students + t.workshops

-- the students and workshops of the first records, which all pass and are no pairs, up to the first that does not pass or is a pair
pub record Heads (case : List ℕ) (t : Tally) : Type 0 where
  pub sound : Sound case (heads_end t) t.students t.workshops
  pub no_pair : 0 < heads_end t → (row_at case (heads_end t - 1)).kind < 3
  pub stop : heads_end t < row_count case → Passes case (heads_end t) → 3 ≤ (row_at case (heads_end t)).kind
