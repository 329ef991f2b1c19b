-- `turning::first_after` meets its contract. The invariant: the stages passed have no first student.
use Prim.Native.Nat.{ℕ, ◌<◌}
use mathlib.Core.Path.{◌≡◌}
use Rattle.tables.specs.Table.{head_of}
use Rattle.turning.proofs.first_after.Given as goal

abbrev pub invariant-loop-t : goal.invariant-loop-t
invariant-loop-t l = (u : ℕ) → l.stage < u → u < l.t → head_of l.table u ≡ 0
