-- `stages::raising::climb` meets its contract. The invariant: the tiers before g have climbed (`Climbing`).
use Rattle.stages.proofs.Raises.{Climbing}
use Rattle.stages.proofs.raising.climb.Given as goal

abbrev pub invariant-loop-g : goal.invariant-loop-g
invariant-loop-g l = Climbing l.initial.tops l.tops l.best l.g
