-- `printing::put_places` meets its contract. The invariant: the lines of the first i places are put.
use lib.ListN.{take}
use Rattle.format.specs.Printed.{place_lines}
use Rattle.putting.specs.Put.{Put}
use Rattle.printing.proofs.put_places.Given as goal

abbrev pub invariant-loop-i : goal.invariant-loop-i
invariant-loop-i l = Put (place_lines 1 (take l.i l.places)) l.at l.initial.out l.out l.end
