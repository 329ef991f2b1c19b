-- What a call of the engine leaves, for any bytes, any lengths and any contents of the lent buffers: the answer, the buffers, and what is promised
-- of that answer.
use Rattle.std.specs.Prelude.{ℕ, ◌≡◌, List, length, Result}
use Rattle.format.specs.Refusals.{Room}
use Rattle.format.specs.Engine.{engine}
use Rattle.format.specs.Buffers.{places_after, visits_after, scratch_after, values}
use Rattle.format.specs.Promises.{Promised}
use Rattle.api.specs.declared.StudentState.{StudentState}
use Rattle.api.specs.declared.Answer.{Answer}
use Rattle.api.specs.declared.Refusal.{Refusal}
use Rattle.api.specs.Answers.{answer_for, values_of}

abbrev pub zero_state : StudentState
zero_state = record { reached = 0; held = 0; openings = 0 }

-- the lengths of the lent buffers
abbrev pub room_of : ℕ → ℕ → ℕ → ℕ → ℕ → Room
room_of places visits seats index states =
    record { places = places; visits = visits; seats = seats; index = index; states = states }

module _ (case book places visits seats index : List ℕ) (states : List StudentState) where
  -- the lent lengths
  abbrev pub lent : Room
  lent = room_of (length places) (length visits) (length seats) (length index) (length states)

  -- the answer to the case and the book in these buffers
  abbrev pub answer_in : Result Answer Refusal
  answer_in = answer_for (engine case book lent)

  -- the buffers at entry are places to states, and those with a prime stand at exit
  pub record Answered (a : Result Answer Refusal) (places' visits' seats' index' : List ℕ) (states' : List StudentState) : Type 0 where
    pub answer : a ≡ answer_in
    -- the number and values of documents 01 and 02
    pub values : values_of a ≡ values (engine case book lent)
    pub in_places : places' ≡ places_after (engine case book lent) places
    pub in_visits : visits' ≡ visits_after (engine case book lent) visits
    pub in_seats : seats' ≡ scratch_after 0 seats
    pub in_index : index' ≡ scratch_after 0 index
    pub in_states : states' ≡ scratch_after zero_state states
    -- demands 2 and 3 and the total of this answer, or the refusal's cause
    pub promised : Promised case book lent (engine case book lent)
