-- `line_writer::put_lines` meets its contract. The invariant: the lines of the students before s are put.
use Prim.Native.Nat.{◌-◌}
use Rattle.format.specs.Engine.{market_in}
use Rattle.putting.specs.Put.{Put}
use Rattle.wish_lines.specs.Lines.{lines_text}
use Rattle.wish_lines.specs.Wishes.{lines_from}
use Rattle.line_writer.proofs.put_lines.Given as goal

abbrev pub invariant-loop-s : goal.invariant-loop-s
invariant-loop-s l = Put (lines_text (lines_from (market_in l.table.case.now) (l.s - 1) 0)) 0 l.initial.text l.text l.end
