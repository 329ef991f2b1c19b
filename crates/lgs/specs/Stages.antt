-- The least stages that agree (document 02, Paper 2): "a stage for each student, each as small as agreement with every workshop permits, starting at 1".
use Rattle.std.specs.Prelude.{ℕ, zero, suc, ◌*◌, ◌≤◌, max, ◌≡◌, Bool, cond, ◌&&◌, List, map, ltb, eqb, length, replicate, Option, Some, None}
use Rattle.base.specs.Lists.{upto, any, largest, entry_for}
use Rattle.lgs.specs.Market.{Market, matters, ConsistentStages}

-- the stage of a student in a list of stages: student s has entry s - 1
abbrev pub stage_of : List ℕ → ℕ → ℕ
stage_of = entry_for

module _ (M : Market) where
  module _ (stages : List ℕ) where
    -- the least stage that workshop w leaves student s for student t's sake: t's own where they are in one tier, a later one where t is in a better tier
    unfoldable pub asked : ℕ → ℕ → ℕ → ℕ
    asked w s t =
        cond (matters M w s && matters M w t)
        (cond (ltb (M.workshop_tier w t) (M.workshop_tier w s))
        (suc (stage_of stages t))
        (cond (eqb (M.workshop_tier w t) (M.workshop_tier w s)) (stage_of stages t) 0))
        0

    -- her stage, raised to the largest that is asked
    unfoldable pub raised : ℕ → ℕ
    raised s = max (stage_of stages s) (largest (λ w. largest (asked w s) M.students) M.workshops)

    -- somebody is to be raised
    unfoldable pub moves : Bool
    moves = any (λ s. ltb (stage_of stages s) (raised s)) (upto M.students)

  -- everybody is raised, at most so often, until nobody is to be raised
  unfoldable pub settled : ℕ → List ℕ → Option (List ℕ)
  settled zero stages = None
  settled (suc k) stages = cond (moves stages) (settled k (map (raised stages) (upto M.students))) (Some stages)

  -- "starting at 1". Where stages agree, the least are not above the number of students, n, so that there are at most n * n rounds that raise somebody;
  -- more than that means that none agree. (So it is promised: `StagesPromised` and `TwelveExactly` of the crate stages.)
  unfoldable pub least_stages : Option (List ℕ)
  least_stages = settled (suc (M.students * M.students)) (replicate M.students 1)

  -- an assignment of stages, of any numbers, "starting at 1"
  abbrev pub FromOne : (ℕ → ℕ) → Type 0
  FromOne stage = (s : ℕ) → 1 ≤ s → s ≤ M.students → 1 ≤ stage s

  -- these stages, one for each student, agree, none is above the number of students, and every assignment that agrees has for every student a stage at
  -- least as large
  pub record LeastStages (stages : List ℕ) : Type 0 where
    pub whole : length stages ≡ M.students
    pub from_one : FromOne (stage_of stages)
    pub few : (s : ℕ) → stage_of stages s ≤ M.students
    pub agree : ConsistentStages M (stage_of stages)
    pub least : (stage : ℕ → ℕ) → FromOne stage → ConsistentStages M stage → (s : ℕ) → stage_of stages s ≤ stage s

  -- "no stage numbers agree": no assignment whatever, from 0 or from 1
  abbrev pub NoStages : Type 0
  NoStages = (stage : ℕ → ℕ) → ConsistentStages M stage → ⊥
