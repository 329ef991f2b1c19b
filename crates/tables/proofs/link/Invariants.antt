-- `tables::link` meets its contract. The invariant: the students from s on are linked (`Linking`).
use Prim.Native.Nat.{◌+◌, ◌-◌, ◌≤◌}
use Rattle.format.specs.Engine.{market_in}
use Rattle.tables.proofs.Links.{Linking}
use Rattle.tables.proofs.link.Given as goal

abbrev pub invariant-loop-s : goal.invariant-loop-s
invariant-loop-s l = (1 ≤ l.s) × (l.s ≤ l.students + 1) × Linking (market_in l.case).stage l.students (l.s - 1) l.initial.table l.table
