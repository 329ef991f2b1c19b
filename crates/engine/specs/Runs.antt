-- The engine's run over what is lent, and what it asks of it.
use Rattle.std.specs.Prelude.{ℕ, ◌-◌, ◌<◌, ◌≤◌, ◌≡◌, List, length, get_or, set}
use Rattle.lgs.specs.Market.{Market, Results}
use Rattle.lgs.specs.Rule.{fuel}
use Rattle.api.specs.declared.StudentState.{StudentState}
use Rattle.model.specs.declared.Run.{Run}
use Rattle.model.specs.Turn.{turn_of, run_of}
use Rattle.api.specs.Answered.{zero_state}
use Rattle.model.specs.Ready.{Ready}

-- the visits, the seats, the students' states and the run
abbrev pub RunState : Type 0
RunState = List ℕ × (List ℕ × (List StudentState × Run))

abbrev pub hand_of : RunState → ℕ
hand_of σ = σ.1.1.1.hand

-- after a turn of the student in hand, whose state is read, and stored as the turn leaves it
abbrev pub turn_on : Market → Results → RunState → RunState
turn_on M B σ =
    let o = turn_of M B σ.0 σ.1.0 (get_or σ.1.1.0 (hand_of σ - 1) zero_state) σ.1.1.1 in
    (o.visits, (o.seats, (set σ.1.1.0 (hand_of σ - 1) o.turned.state, o.turned.run)))

-- after as many turns as the rule takes at most
abbrev pub whole_run : Market → Results → List ℕ → List ℕ → List StudentState → Run → RunState
whole_run M B visits seats states start = run_of M B (fuel M B) visits seats states start

-- a student is in hand, she has a state, and her turn finds what it needs
pub record CanTurn (M : Market) (B : Results) (visits seats : List ℕ) (states : List StudentState) (r : Run) : Type 0 where
  pub hand : 0 < r.hand
  pub within : r.hand ≤ length states
  pub ready : Ready M B visits seats (get_or states (r.hand - 1) zero_state) r

-- each turn finds what it needs, and the last leaves no student in hand
pub record CanRun (M : Market) (B : Results) (visits seats : List ℕ) (states : List StudentState) (start : Run) : Type 0 where
  pub ready : (k : ℕ) → let σ = run_of M B k visits seats states start in
      0 < hand_of σ → Ready M B σ.0 σ.1.0 (get_or σ.1.1.0 (hand_of σ - 1) zero_state) σ.1.1.1
  pub within : (k : ℕ) → let σ = run_of M B k visits seats states start in 0 < hand_of σ → hand_of σ ≤ length σ.1.1.0
  pub ends : hand_of (whole_run M B visits seats states start) ≡ 0
