-- Cause 11, student by student: the lowest book record that ties with an earlier one.
use Rattle.std.specs.Prelude.{ℕ, zero, suc, ◌≤◌, ◌<◌, max, ◌≡◌, ◌⊎◌, Bool, true, cond, Option, Some, None, List, length, get_or}
use Rattle.base.specs.Search.{first_bad}
use Rattle.format.specs.Layout.{rows, entries, entry_at, entry_count, says_never}
use Rattle.format.specs.Refusals.{bad_pair, bad_repeat, student_ties}
use Rattle.format.specs.Engine.{market_in}
use Rattle.case_tests.specs.Checked.{CleanCase, pair_count}
use Rattle.book_tests.specs.Index.{pairs_from, lent_index}
use Rattle.ties.specs.declared.Keyed.{Keyed}

-- the cases and books that are left after cause 10, with their index; the pair records begin at `first`
pub record Indexed (case book index : List ℕ) (first : ℕ) : Type 0 where
  pub sound : CleanCase case (market_in case).students (market_in case).workshops
  pub paired : first_bad (bad_pair (rows case) (entries book)) (entry_count book) ≡ None
  pub fresh : first_bad (bad_repeat (rows case) (entries book)) (entry_count book) ≡ None
  pub made : index ≡ lent_index case book (entry_count book) (length index)
  pub room : pair_count case ≤ length index
  pub from : first ≡ pairs_from case

-- the record that a number of the index names: none for 0, and none where the student's score is -1000: "number 11 passes over them"
unfoldable pub tested : List ℕ → ℕ → Option ℕ
tested book zero = None
tested book (suc i) = cond (says_never (entry_at book i).student_score) None (Some i)

-- the cause's test of records i and j
abbrev pub tie : List ℕ → List ℕ → ℕ → ℕ → Bool
tie case book i j = student_ties (rows case) (entries book) (entry_at book i) (entry_at book j)

-- ---- the lowest record that ties with an earlier one: `low` made `after`

-- by those pairs of records that are looked at
pub record Lowered (case book : List ℕ) (looked : ℕ → ℕ → Type 0) (low after : ℕ) : Type 0 where
  pub least : after ≤ low
  pub below : (i j : ℕ) → i < entry_count book → j < i → looked i j → tie case book i j ≡ true → after ≤ i
  pub reached : (after ≡ low) ⊎ ((i : ℕ) × (j : ℕ) × (i < entry_count book) × (j < i) × (tie case book i j ≡ true) × (after ≡ i))

-- where a list of records to compare has no more
abbrev pub blank : Keyed
blank = record { key = 0; entry = 0 }

-- by this record and those earlier ones that have its key
pub record LoweredBy (earlier : List Keyed) (this : Keyed) (low after : ℕ) : Type 0 where
  pub least : after ≤ low
  pub below : (j : ℕ) → j < length earlier → (get_or earlier j blank).key ≡ this.key → after ≤ max this.entry (get_or earlier j blank).entry
  pub reached : (after ≡ low)
      ⊎ ((j : ℕ) × (j < length earlier) × ((get_or earlier j blank).key ≡ this.key) × (after ≡ max this.entry (get_or earlier j blank).entry))
