-- What is left to do after the run: the places and the answer.
use Rattle.std.specs.Prelude.{ℕ, ◌≤◌, ◌<◌, cond, List, length, get_or, eqb}
use Rattle.base.specs.Lists.{tabulate}
use Rattle.format.specs.Buffers.{with_head}
use Rattle.api.specs.declared.StudentState.{StudentState}
use Rattle.api.specs.declared.Answer.{Answer}
use Rattle.api.specs.declared.Answer.TheVariants.{Placed, Next}
use Rattle.api.specs.Answered.{zero_state}
use Rattle.model.specs.declared.Run.{Run}

-- how many of n students have a place to be read: all where the run has placed everybody, and else none
unfoldable pub to_place : Run → ℕ → ℕ
to_place r n = cond (eqb r.workshop 0) n 0

-- what state i holds
abbrev pub held_at : List StudentState → ℕ → ℕ
held_at states i = (get_or states i zero_state).held

-- the first n places are what the first n states hold
abbrev pub places_held : ℕ → List StudentState → List ℕ → List ℕ
places_held n states places = with_head (tabulate (held_at states) n) places

-- n places can be read: there are so many states and places, and each state holds a number that a place has room for
pub record CanRead (states : List StudentState) (places : List ℕ) (n : ℕ) : Type 0 where
  pub many_states : n ≤ length states
  pub many_places : n ≤ length places
  pub small : (i : ℕ) → i < n → held_at states i < 65536

-- the answer of a run: the placement, or a missing interview
unfoldable pub answer_end : Run → Answer
answer_end r = cond (eqb r.workshop 0) (Placed r.count r.fares) (Next r.student r.workshop r.count r.fares)
