-- `printing::put_numbers` meets its contract. The invariant: the numbers so far are put.
use lib.ListN.{take}
use Rattle.putting.specs.Put.{Put}
use Rattle.printing.specs.Text.{spaced}
use Rattle.printing.proofs.put_numbers.Given as goal

abbrev pub invariant-loop-n : goal.invariant-loop-n
invariant-loop-n l = Put (spaced (take l.n-index l.numbers)) l.at l.initial.out l.out l.end
