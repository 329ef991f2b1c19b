-- The part that works out the stages (document 02, Paper 2): its answer, and what a call of it leaves, for any bytes, any length and any contents of the
-- lent stages.
use Rattle.std.specs.Prelude.{ℕ, ◌≡◌, List, length, Result, Ok, Err}
use Rattle.stages.specs.Outcome.{StagesOutcome, staged, unstaged, work_out, stages_after, stages_values}
use Rattle.stages.specs.Promises.{StagesPromised}
use Rattle.api.specs.declared.Refusal.{Refusal}
use Rattle.api.specs.Causes.{refusal_for}
use Rattle.api.specs.Parts.{part_values_of}

-- the answer for an outcome: how many stages there are, or the refusal with this number and place
unfoldable pub stages_answer_for : StagesOutcome → Result ℕ Refusal
stages_answer_for (staged stages) = Ok (length stages)
stages_answer_for (unstaged k i) = Err (refusal_for k i)

-- the stages at entry are `stages`, and those at exit have a prime
pub record StagesAnswered (case stages : List ℕ) (a : Result ℕ Refusal) (stages' : List ℕ) : Type 0 where
  pub answer : a ≡ stages_answer_for (work_out case (length stages))
  -- how many stages there are, or the refusal's number and place
  pub values : part_values_of a ≡ stages_values (work_out case (length stages))
  -- "a refusal leaves their outputs as found"
  pub in_stages : stages' ≡ stages_after (work_out case (length stages)) stages
  -- "each as small as agreement with every workshop permits, starting at 1", or the refusal's cause, "12 when no stage numbers agree"
  pub promised : StagesPromised case (length stages) (work_out case (length stages))
