-- The values of the answer are those of the outcome: a refusal's number is one of the tables.
use Prim.Native.Nat.{ℕ}
use mathlib.Core.Path.{◌≡◌, refl, ap}
use mathlib.Core.Bool.{false}
use mathlib.Core.List.{List, [], ◌∷◌}
use Rattle.std.specs.Prelude.{Option, Some, None}
use Rattle.base.specs.Lists.{any}
use Rattle.lgs.specs.Stages.{least_stages}
use Rattle.format.specs.Causes.{first_cause}
use Rattle.format.specs.Refusals.{case_causes}
use Rattle.format.specs.Engine.{market_in}
use Rattle.format.proofs.Causes.{numbers}
use Rattle.api.specs.Parts.{part_values_of}
use Rattle.api.proofs.Causes.{strays, number_tabled}
use Rattle.stages.specs.Outcome.{stages_room_causes, stages_causes, stages_unless, work_out, stages_values}
use Rattle.stages.specs.Answered.{stages_answer_for}

listed : (case : List ℕ) (room : ℕ) → any strays (numbers (stages_causes case room)) ≡ false
unfolding any stages_causes case_causes stages_room_causes
listed case room = refl

values_unless : (case : List ℕ) (room : ℕ) (o : Option (ℕ × ℕ)) (least : Option (List ℕ)) → first_cause (stages_causes case room) ≡ o
    → part_values_of (stages_answer_for (stages_unless o least)) ≡ stages_values (stages_unless o least)
unfolding part_values_of stages_answer_for stages_unless stages_values
values_unless case room (Some r) least e = ap (λ k. k ∷ r.1 ∷ []) (number_tabled (stages_causes case room) r.0 r.1 (listed case room) e)
values_unless case room None (Some stages) e = refl
values_unless case room None None e = refl

pub stages_values_lem : (case : List ℕ) (room : ℕ) → part_values_of (stages_answer_for (work_out case room)) ≡ stages_values (work_out case room)
unfolding work_out
stages_values_lem case room = values_unless case room (first_cause (stages_causes case room)) (least_stages (market_in case)) refl
