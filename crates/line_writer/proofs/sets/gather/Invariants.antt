-- `line_writer::sets::gather` meets its contract. The invariant: the workshops of her records so far are in the sets, none above `last`.
use Prim.Native.Nat.{◌≤◌}
use Rattle.line_writer.specs.Groups.{EmptyAbove}
use Rattle.line_writer.proofs.Gathering.{GatheringTo}
use Rattle.line_writer.proofs.sets.gather.Given as goal

abbrev pub invariant-loop-pair : goal.invariant-loop-pair
invariant-loop-pair l =
    record {
      gathering : GatheringTo l.table.case.now l.s l.pair-iterator.start l.pair-iterator.end l.sets;
      small : l.last ≤ 65;
      above : EmptyAbove l.last l.sets;
    }
