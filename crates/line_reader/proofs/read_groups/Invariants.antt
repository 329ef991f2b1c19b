-- `line_reader::read_groups` meets its contract. The invariant is `Going`: the whole groups and the items of the group in hand.
use Prim.Native.Nat.{◌-◌}
use lib.ListN.{length}
use Rattle.line_reader.proofs.Reading.{Going}
use Rattle.line_reader.proofs.read_groups.Given as goal

abbrev pub invariant-loop-turn : goal.invariant-loop-turn
invariant-loop-turn l = Going l.text l.from l.i l.within l.g l.marks l.groups

abbrev pub decreases-loop-turn : goal.decreases-loop-turn
decreases-loop-turn l = length l.text - l.i
