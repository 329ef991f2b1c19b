-- The workshops in turn, round after round: what holds between turns, and what a turn, a round and all rounds do.
use Rattle.std.specs.Prelude.{ℕ, ◌+◌, ◌-◌, ◌≤◌, ◌<◌, ◌≡◌, ◌⊎◌, Bool, true, false, cond, List, length}
use Rattle.base.specs.Lists.{total}
use Rattle.base.specs.Bits.{member}
use Rattle.lgs.specs.Market.{Market, ConsistentStages}
use Rattle.lgs.specs.Stages.{stage_of, FromOne}
use Rattle.stages.specs.Raising.{Below, Enough, AgreesAt}
use Rattle.stages.specs.declared.rounds.Progress.{Progress}

-- a round's beginning
abbrev pub starting : Progress → Progress
starting last = record { resting = last.resting; moving = false; limit = last.limit }

-- the workshop, of m, that has turn i of a round, and also the turn of workshop i
abbrev pub turn_of : ℕ → Bool → ℕ → ℕ
turn_of m back i = cond back (m - i + 1) i

module _ (M : Market) where
  -- somebody has a stage above what stages that agree can do with
  abbrev pub TooHigh : List ℕ → Type 0
  TooHigh own = (k : ℕ) × Enough M k × ((s : ℕ) × (1 ≤ s) × (s ≤ M.students) × (k < stage_of own s))

  -- between turns: nobody's stage is above that of any assignment that agrees, nor above the number of students, and the resting workshops agree
  pub record Going (own : List ℕ) (p : Progress) : Type 0 where
    pub sized : length own ≡ 512
    pub from_one : FromOne M (stage_of own)
    pub below : Below M own
    pub within : (s : ℕ) → stage_of own s ≤ M.students
    pub rest : (v : ℕ) → member p.resting v ≡ true → AgreesAt M own v
    pub limit : Enough M p.limit
    pub few : p.limit ≤ M.students

  -- one turn, of workshop w
  pub record Stepped (w : ℕ) (old new : List ℕ) (p q : Progress) : Type 0 where
    pub grows : (s : ℕ) → stage_of old s ≤ stage_of new s
    pub moving : q.moving ≡ true → (p.moving ≡ true) ⊎ ((s : ℕ) × (1 ≤ s) × (s ≤ M.students) × (stage_of old s < stage_of new s))
    pub still : q.moving ≡ false → p.moving ≡ false
    pub rested : q.moving ≡ false → member q.resting w ≡ true
    pub kept : q.moving ≡ false → (v : ℕ) → member p.resting v ≡ true → member q.resting v ≡ true

  -- a round: somebody was raised, or every workshop rests
  pub record Rounded (old new : List ℕ) (q : Progress) : Type 0 where
    pub grows : (s : ℕ) → stage_of old s ≤ stage_of new s
    pub moving : q.moving ≡ true → total (stage_of old) M.students < total (stage_of new) M.students
    pub rested : q.moving ≡ false → (v : ℕ) → 1 ≤ v → v ≤ M.workshops → member q.resting v ≡ true

  -- all rounds: the stages agree, and no assignment that agrees has an earlier one
  pub record Settled (own : List ℕ) : Type 0 where
    pub sized : length own ≡ 512
    pub from_one : FromOne M (stage_of own)
    pub below : Below M own
    pub agree : ConsistentStages M (stage_of own)
