-- `line_writer::groups::put_groups` meets its contract. The invariant: the groups of the tiers before t are put.
use Prim.Native.Nat.{◌-◌}
use mathlib.Core.List.{map}
use Rattle.putting.proofs.UpTo.{PutUpTo}
use Rattle.wish_lines.specs.Lines.{joined, group_text}
use Rattle.line_writer.specs.Groups.{left, groups_of}
use Rattle.line_writer.proofs.groups.put_groups.Given as goal

abbrev pub invariant-loop-t : goal.invariant-loop-t
invariant-loop-t l =
    PutUpTo (joined (map group_text (groups_of l.sets l.outside 65 1)))
    (left l.comma (map group_text (groups_of l.sets l.outside (66 - l.t) l.t))) l.at l.initial.text l.text l.end
