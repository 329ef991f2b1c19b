-- `stages::raising::lift` meets its contract. The invariant: the first s students are raised (`Lifted`).
use Rattle.format.specs.Engine.{market_in}
use Rattle.stages.specs.Raising.{Lifted}
use Rattle.stages.proofs.raising.lift.Given as goal

abbrev pub invariant-loop-s : goal.invariant-loop-s
invariant-loop-s l = Lifted (market_in l.input.table.case.now) l.tiers l.needs l.s l.initial.own l.own l.moved
