-- What the test of the input says, by document 01's table of causes.
use Rattle.std.specs.Prelude.{ℕ, ◌≤◌, ◌≡◌, List, length, replicate, Result, None}
use Rattle.format.specs.Refusals.{refusal}
use Rattle.format.specs.Refusals.{Room as Lengths}
use Rattle.tables.specs.Table.{Made}
use Rattle.api.specs.declared.Refusal.{Refusal}
use Rattle.case_tests.specs.declared.Counts.{Counts}
use Rattle.case_tests.specs.Checked.{CleanCase, pair_count, checked_of}
use Rattle.book_tests.specs.Index.{index_after}
use Rattle.intake.specs.declared.Room.{Room}

-- the lengths of the lent buffers
abbrev pub lengths_of : Room → Lengths
lengths_of r = record { places = r.places; visits = r.visits; seats = r.seats; index = r.index; states = r.states }

-- what the test of a book asks beside the case's table: the case was tested, and has these counts; the index is zero, with an entry for each pair
pub record CaseTested (case index : List ℕ) (counts : Counts) : Type 0 where
  pub clean : CleanCase case counts.students counts.workshops
  pub pairs : counts.pairs ≡ pair_count case
  pub room : counts.pairs ≤ length index
  pub blank : index ≡ replicate (length index) 0

-- the answer, and what is left in the index and in the table of the pairs
pub record Tested (case book : List ℕ) (room : Lengths) (r : Result Counts Refusal) (index table : List ℕ) : Type 0 where
  pub answer : r ≡ checked_of (refusal case book room) case
  pub left : index ≡ index_after (refusal case book room) case book room.index
  pub tabled : refusal case book room ≡ None → Made case table
