-- The part that works out the stages (document 02, Paper 2): "reads a case and returns a stage for each student, each as small as agreement with every workshop
-- permits, starting at 1". Its causes, its answer, and the lent buffer after it.
use Rattle.std.specs.Prelude.{ℕ, Bool, true, false, List, [], ◌∷◌, ◌++◌, length, ltb, Option, Some, None}
use Rattle.lgs.specs.Stages.{least_stages}
use Rattle.format.specs.Causes.{Cause, whole, first_cause}
use Rattle.format.specs.Refusals.{case_causes}
use Rattle.format.specs.Engine.{market_in}
use Rattle.format.specs.Buffers.{with_head}

pub data StagesOutcome : Type 0 where
  staged : List ℕ → StagesOutcome  -- the stages of students 1 to n
  unstaged : ℕ → ℕ → StagesOutcome  -- a refusal: number and place

-- ---- The causes. `room` is the length of the lent stages, in entries.

-- 12: "when no stage numbers agree"
unfoldable pub none_agree : Option (List ℕ) → Bool
none_agree (Some stages) = false
none_agree None = true

-- 6 "covers their own buffers too (an entry for each thing returned ..)"; the part is lent no scratch
unfoldable pub stages_room_causes : List ℕ → ℕ → List Cause
stages_room_causes case room = (6, whole (ltb room (market_in case).students)) ∷ []

-- "The stages in the file are only checked for range": the case's causes as for the engine. "12 .., tested after 6 .., with place 0".
unfoldable pub stages_causes : List ℕ → ℕ → List Cause
stages_causes case room = case_causes case ++ (stages_room_causes case room ++ ((12, whole (none_agree (least_stages (market_in case)))) ∷ []))

-- ---- The answer.

-- the last line is never used: where there are no least stages, cause 12 finds it
unfoldable pub stages_unless : Option (ℕ × ℕ) → Option (List ℕ) → StagesOutcome
stages_unless (Some r) least = unstaged r.0 r.1
stages_unless None (Some stages) = staged stages
stages_unless None None = unstaged 12 0

-- a refusal, or else the least stages that agree
unfoldable pub work_out : List ℕ → ℕ → StagesOutcome
work_out case room = stages_unless (first_cause (stages_causes case room)) (least_stages (market_in case))

-- "a refusal leaves their outputs as found", and entries past the students stay
unfoldable pub stages_after : StagesOutcome → List ℕ → List ℕ
stages_after (staged stages) old = with_head stages old
stages_after (unstaged k i) old = old

-- the values of an answer: how many stages there are; of a refusal its number and place
unfoldable pub stages_values : StagesOutcome → List ℕ
stages_values (staged stages) = length stages ∷ []
stages_values (unstaged k i) = k ∷ i ∷ []
