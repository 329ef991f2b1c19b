-- `wishes::put_wishes` meets its contract. The invariant: the records of the students so far have their groups, and the groups of the others are left.
use Prim.Native.Nat.{◌*◌, ◌≤◌}
use mathlib.Core.Path.{◌≡◌}
use mathlib.Core.List.{List}
use lib.ListN.{length, take, drop}
use Rattle.std.specs.Iterator.Adapters.{enumerate_source, enumerate_count}
use Rattle.std.specs.Slice.Iter.{chunks_exact_rest, chunks_exact_size}
use Rattle.format.specs.Causes.{NothingFound}
use Rattle.format.specs.Refusals.{case_causes}
use Rattle.format.specs.Engine.{market_in}
use Rattle.wish_lines.specs.Lines.{Line}
use Rattle.wishes.specs.Records.{AllNoted}
use Rattle.wishes.proofs.Records.{Filled}
use Rattle.wishes.proofs.put_wishes.Given as goal

abbrev pub invariant-loop-k : goal.invariant-loop-k
invariant-loop-k l =
    record {
      size : chunks_exact_size (enumerate_source l.k-iterator) ≡ 65;
      rest : chunks_exact_rest (enumerate_source l.k-iterator) ≡ drop (65 * enumerate_count l.k-iterator) (take (65 * l.input.students) l.groups);
      few : enumerate_count l.k-iterator ≤ l.input.students;
      sized : length l.copy ≡ length l.initial.copy;
      filled : (nothing : NothingFound (case_causes l.input.table.case.now)) (ls : List Line) → AllNoted (market_in l.input.table.case.now) ls l.groups
          → Filled l.input.table.case.now nothing ls (enumerate_count l.k-iterator) l.initial.copy l.copy;
    }
