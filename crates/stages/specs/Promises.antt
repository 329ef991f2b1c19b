-- What is promised of the part that works out the stages.
use Rattle.std.specs.Prelude.{ℕ, suc, ◌-◌, ◌≤◌, ◌<◌, ◌≡◌, List, [], ◌∷◌, ◌++◌, map, length, get_or, take}
use Rattle.lgs.specs.Market.{Market, ConsistentStages}
use Rattle.lgs.specs.Rule.{Interview}
use Rattle.lgs.specs.Stages.{stage_of, LeastStages, NoStages}
use Rattle.lgs.specs.Promises.{Smallest, Cheapest}
use Rattle.format.specs.Layout.{rows}
use Rattle.format.specs.Causes.{Cause, NothingFound, FoundFirst}
use Rattle.format.specs.Encoding.{Bytes}
use Rattle.format.specs.Refusals.{Room, case_causes}
use Rattle.format.specs.Engine.{placed, engine, market_in, results_in}
use Rattle.format.specs.Promises.{Valid, FirstWrongLot, OtherFares}
use Rattle.stages.specs.Outcome.{StagesOutcome, staged, unstaged, stages_room_causes, stages_causes, work_out, stages_after}
use Rattle.stages.specs.Restaged.{with_stage, restaged, market_with}

-- "Desks .. lose the short list when they guess badly": what these stages do, written into the case. `lent` is the engine's room, not the part's.
pub record ShortList (case stages : List ℕ) : Type 0 where
  -- bytes where the case's are, and of the case's length; what is read from them are the case's records with these stages
  pub bytes : Bytes case → Bytes (restaged stages case)
  pub long : length (restaged stages case) ≡ length case
  pub records : rows (restaged stages case) ≡ map (with_stage stages) (rows case)
  -- valid where the case was, and the same market but for the stages
  pub valid : (book : List ℕ) (lent : Room) → Valid case book lent → Valid (restaged stages case) book lent
  pub market : market_in (restaged stages case) ≡ market_with (market_in case) stages
  -- the stages agree, and so the list of a finished run is the smallest, and nobody who is sure, and has visited all placed pairs, pays less
  pub agree : ConsistentStages (market_in (restaged stages case)) (market_in (restaged stages case)).stage
  pub smallest : (book : List ℕ) (lent : Room) (places : List ℕ) (vs : List Interview) (fares : ℕ)
      → engine (restaged stages case) book lent ≡ placed places vs fares
      → Smallest (market_in (restaged stages case)) (results_in book) places vs
  pub cheapest : (book : List ℕ) (lent : Room) (places : List ℕ) (vs : List Interview) (fares : ℕ)
      → engine (restaged stages case) book lent ≡ placed places vs fares
      → Cheapest (market_in (restaged stages case)) (results_in book) places fares

-- what holds of an answer, whichever it is; the stages are within cause 5's range, up to 512, so that they can be written into a case
abbrev pub StagesPromised : List ℕ → ℕ → StagesOutcome → Type 0
StagesPromised case room (staged stages) =
    NothingFound (stages_causes case room)
    × LeastStages (market_in case) stages
    × ((s : ℕ) → stage_of stages s ≤ 512)
    × ShortList case stages
StagesPromised case room (unstaged k i) = FoundFirst (stages_causes case room) k i × (k ≡ 12 → NoStages (market_in case))

-- "6 covers their own buffers too (an entry for each thing returned ..)": in a case that 1 to 5 and 13 pass, exactly when there are fewer entries than students
pub record SixExactly : Type 0 where
  pub given : (case : List ℕ) (room : ℕ) (i : ℕ)
      → work_out case room ≡ unstaged 6 i
      → (i ≡ 0) × NothingFound (case_causes case) × (room < (market_in case).students)
  pub whenever : (case : List ℕ) (room : ℕ)
      → NothingFound (case_causes case)
      → room < (market_in case).students
      → work_out case room ≡ unstaged 6 0
  -- 512 entries are always enough
  pub enough : (case : List ℕ) (room : ℕ) → NothingFound (case_causes case) → 512 ≤ room → NothingFound (stages_room_causes case room)

-- "12 when no stage numbers agree, tested after 6 and given for no other reason, with place 0": where the causes before it find nothing, exactly then,
-- and stages where some agree
pub record TwelveExactly : Type 0 where
  pub given : (case : List ℕ) (room : ℕ) (i : ℕ)
      → work_out case room ≡ unstaged 12 i
      → (i ≡ 0) × NothingFound (case_causes case ++ stages_room_causes case room) × NoStages (market_in case)
  pub whenever : (case : List ℕ) (room : ℕ)
      → NothingFound (case_causes case ++ stages_room_causes case room)
      → NoStages (market_in case)
      → work_out case room ≡ unstaged 12 0
  pub otherwise : (case : List ℕ) (room : ℕ) (stage : ℕ → ℕ)
      → NothingFound (case_causes case ++ stages_room_causes case room)
      → ConsistentStages (market_in case) stage
      → (stages : List ℕ) × (work_out case room ≡ staged stages)

-- 13 as of the engine: where 1 to 5 find nothing, exactly at the first student with a wrong lot, whatever the room
pub record StagesThirteenExactly : Type 0 where
  pub given : (case : List ℕ) (room : ℕ) (i : ℕ)
      → work_out case room ≡ unstaged 13 i
      → NothingFound (take 5 (case_causes case)) × FirstWrongLot case (suc i)
  pub whenever : (case : List ℕ) (room : ℕ) (s : ℕ)
      → NothingFound (take 5 (case_causes case))
      → FirstWrongLot case s
      → work_out case room ≡ unstaged 13 (s - 1)

-- "tested after 6": the numbers of the causes, in the order in which they are tested
abbrev pub EightCauses : Type 0
EightCauses =
    (case : List ℕ) (room : ℕ) → map (λ (c : Cause). c.0) (stages_causes case room) ≡ 1 ∷ 2 ∷ 3 ∷ 4 ∷ 5 ∷ 13 ∷ 6 ∷ 12 ∷ []

-- fares change no stage and no refusal of the part (document 02, Paper 4)
abbrev pub FaresUnread : Type 0
FaresUnread = (case case' : List ℕ) (room : ℕ) → OtherFares case case' → work_out case' room ≡ work_out case room

-- "The stages in the file are only checked for range": in a case that 1 to 5 and 13 pass, any others within it give the same answer
abbrev pub FileStagesUnread : Type 0
FileStagesUnread =
    (case : List ℕ) (room : ℕ) (stages : List ℕ)
    → NothingFound (case_causes case)
    → length stages ≡ (market_in case).students
    → ((s : ℕ) → 1 ≤ s → s ≤ (market_in case).students → (1 ≤ stage_of stages s) × (stage_of stages s ≤ 512))
    → work_out (restaged stages case) room ≡ work_out case room

-- the lent stages keep their length and the entries past the students; "a refusal leaves their outputs as found"
pub record StagesKept (case stages : List ℕ) (a : StagesOutcome) : Type 0 where
  pub long : length (stages_after a stages) ≡ length stages
  pub past : (i : ℕ) → (market_in case).students ≤ i → get_or (stages_after a stages) i 0 ≡ get_or stages i 0
  pub as_found : (k i : ℕ) → a ≡ unstaged k i → stages_after a stages ≡ stages

abbrev pub LentStagesKept : Type 0
LentStagesKept = (case stages : List ℕ) → StagesKept case stages (work_out case (length stages))

-- stages with these promises are the only ones
abbrev pub OnlyStages : Type 0
OnlyStages = (M : Market) (stages stages' : List ℕ) → LeastStages M stages → LeastStages M stages' → stages ≡ stages'
