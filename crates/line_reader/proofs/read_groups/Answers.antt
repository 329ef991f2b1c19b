-- `line_reader::read_groups` meets its contract.
use mathlib.Core.Path.{refl}
use Rattle.line_reader.proofs.Reading.{going_start, going_item, going_group, going_end}
use Rattle.line_reader.proofs.read_groups.Goals as goal

pub loop-turn-init : goal.loop-turn-init
loop-turn-init c = going_start _ _ _ _ c.requires.0 c.requires.1 refl refl refl

pub loop-turn-preserved-in-Item : goal.loop-turn-preserved-in-Item
loop-turn-preserved-in-Item c = going_item c.loop-turn.invariant _ c.in-Some.ensures c.note-marks.ensures c.in-Item.is

pub loop-turn-preserved : goal.loop-turn-preserved
loop-turn-preserved c = rw c.min-g.ensures (going_group c.loop-turn.invariant _ c.in-Some.ensures c.note-marks.ensures c.in-Group.is)

pub returns-in-End : goal.returns-in-End
returns-in-End c = going_end c.loop-turn.invariant _ c.in-Some.ensures c.note-marks.ensures c.in-End.is
