-- `printing::put_line` meets its contract: word, numbers and end of the line, put one after the other.
use native.Mathlib.Omega.{arith}
use Rattle.putting.proofs.Laws.{put_then}
use Rattle.printing.proofs.Decimal.{line_spaced}
use Rattle.printing.proofs.Lengths.{long_line}
use Rattle.printing.proofs.put_line.Goals as goal

pub returns-clause-put : goal.returns-clause-put
returns-clause-put c =
    let numbered = put_then c.requires c.put_bytes-end.ensures c.put_numbers-end.ensures in
    rw (line_spaced c.args.word.now c.args.numbers.now) at (put_then c.requires numbered c.put_byte.ensures)

pub returns-clause-b_in_bounds : goal.returns-clause-b_in_bounds
returns-clause-b_in_bounds c = long_line c.args.word.now c.args.numbers.now (λ j. omega (arith, c.type_inv.numbers j))
