-- `wishes::copying::copy_bytes` meets its contract. The invariant: the first i bytes are written.
use mathlib.Core.Path.{◌≡◌}
use lib.ListN.{get_or}
use Rattle.base.specs.Lists.{tabulate}
use Rattle.format.specs.Buffers.{with_head}
use Rattle.wishes.proofs.copying.copy_bytes.Given as goal

abbrev pub invariant-loop-i : goal.invariant-loop-i
invariant-loop-i l = l.copy ≡ with_head (tabulate (λ k. get_or l.case k 0) l.i) l.initial.copy
