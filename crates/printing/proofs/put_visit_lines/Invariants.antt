-- `printing::put_visit_lines` meets its contract. The invariant: the lines of the interviews so far are put.
use Prim.Native.Nat.{◌*◌}
use lib.ListN.{length, drop, take}
use mathlib.Core.Path.{◌≡◌}
use Rattle.format.specs.Printed.{visit_lines}
use Rattle.api.specs.Text.{interviews_at}
use Rattle.putting.specs.Put.{Put}
use Rattle.std.specs.Slice.Iter.{chunks_exact_rest, chunks_exact_size}
use Rattle.printing.proofs.put_visit_lines.Given as goal

abbrev pub invariant-loop-visit : goal.invariant-loop-visit
invariant-loop-visit l = record {
  size : chunks_exact_size l.visit-iterator ≡ 2;
  rest : chunks_exact_rest l.visit-iterator ≡ drop (2 * length l.yielded) (take (2 * l.count) l.visits);
  put : Put (visit_lines (interviews_at (length l.yielded) l.visits)) l.at l.initial.out l.out l.end;
}
