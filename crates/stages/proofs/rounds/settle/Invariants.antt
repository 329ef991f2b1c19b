-- `stages::rounds::settle` meets its contract. The invariant: the state between rounds (`Settling`); each round raises somebody, or is the last (`left`).
use Rattle.format.specs.Engine.{market_in}
use Rattle.stages.proofs.Rounding.{Settling, left}
use Rattle.stages.proofs.rounds.settle.Given as goal

abbrev pub invariant-loop-p : goal.invariant-loop-p
invariant-loop-p l = Settling (market_in l.input.table.case.now) l.own l.p

abbrev pub decreases-loop-p : goal.decreases-loop-p
decreases-loop-p l = left (market_in l.input.table.case.now) l.own l.p
