-- `stages::rounds::round` meets its contract. The invariant: the workshops before w have had their turn (`Rounding`).
use Rattle.format.specs.Engine.{market_in}
use Rattle.stages.proofs.Rounding.{Rounding}
use Rattle.stages.proofs.rounds.round.Given as goal

abbrev pub invariant-loop-i : goal.invariant-loop-i
invariant-loop-i l = Rounding (market_in l.input.table.case.now) l.back l.initial.own l.own l.i l.p
