-- The steps of a call: what testing the input leaves, what a run asks, and what it leaves.
use Rattle.std.specs.Prelude.{ℕ, ◌≡◌, List, length, replicate, None, Result, Ok}
use Rattle.format.specs.Refusals.{Room, refusal}
use Rattle.format.specs.Engine.{market_in, results_in, rule_outcome}
use Rattle.format.specs.Buffers.{places_after, visits_after, scratch_after}
use Rattle.format.specs.Promises.{Valid}
use Rattle.api.specs.declared.Answer.{Answer}
use Rattle.api.specs.Answered.{room_of}
use Rattle.api.specs.Answers.{answer_for}
use Rattle.lookup.specs.Clean.{Clean}
use Rattle.api.specs.declared.Refusal.{Refusal}
use Rattle.case_tests.specs.declared.Counts.{Counts}
use Rattle.case_tests.specs.Checked.{checked_of}
use Rattle.book_tests.specs.Index.{index_after}

-- The input is tested, in buffers of these lengths: the refusal, or the counts. The seats are zero, and the index is that of the book's records, or zero on
-- a refusal. Where nothing is refused, index and table are what a run reads; of the table nothing is said on a refusal.
pub record TestedInput (case book : List ℕ) (room : Room) (c : Result Counts Refusal) (seats index table : List ℕ) : Type 0 where
  pub answer : c ≡ checked_of (refusal case book room) case
  pub free : seats ≡ replicate room.seats 0
  pub left : index ≡ index_after (refusal case book room) case book room.index
  pub clean : refusal case book room ≡ None → Clean case book index table (market_in case).students (market_in case).workshops

-- What a run asks, with as many student states as `states`: no cause refuses the input in the buffers that are lent, and the seats are zero.
pub record Runnable (case book index places visits seats : List ℕ) (states : ℕ) : Type 0 where
  pub valid : Valid case book (room_of (length places) (length visits) (length seats) (length index) states)
  pub free : seats ≡ replicate (length seats) 0

-- What a run leaves: the answer, the places and the visits are those of the staged rule, and the seats are zero again. Those at exit have a prime.
pub record Ran (case book places visits seats : List ℕ) (a : Answer) (places' visits' seats' : List ℕ) : Type 0 where
  pub answer : Ok a ≡ answer_for (rule_outcome (market_in case) (results_in book))
  pub in_places : places' ≡ places_after (rule_outcome (market_in case) (results_in book)) places
  pub in_visits : visits' ≡ visits_after (rule_outcome (market_in case) (results_in book)) visits
  pub in_seats : seats' ≡ scratch_after 0 seats
