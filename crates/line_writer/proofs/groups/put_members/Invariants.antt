-- `line_writer::groups::put_members` meets its contract. The invariant: all is put but the members that are left.
use mathlib.Core.List.{map}
use Rattle.base.specs.Bits.{members}
use Rattle.putting.proofs.UpTo.{PutUpTo}
use Rattle.wish_lines.specs.Lines.{item_text}
use Rattle.line_writer.specs.Groups.{left}
use Rattle.line_writer.proofs.groups.put_members.Given as goal

abbrev pub invariant-loop-w : goal.invariant-loop-w
invariant-loop-w l =
    PutUpTo (left l.after (map item_text (members l.set))) (left l.comma (map item_text (members l.w-iterator.0))) l.at l.initial.text l.text l.end
