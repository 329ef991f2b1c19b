-- `printing::put_visits` meets its contract: the line with the count, the lines of the interviews, and the line with the fares.
use native.Mathlib.Omega.{arith}
use Rattle.putting.proofs.Laws.{put_then}
use Rattle.printing.proofs.Lengths.{visits_length_lem}
use Rattle.printing.proofs.Lines.{visits_text_lem}
use Rattle.printing.proofs.put_visits.Goals as goal

pub returns-clause-put : goal.returns-clause-put
returns-clause-put c =
    let listed = put_then c.requires.0 c.put_line-end.ensures.put c.put_visit_lines-end.ensures in
    rw (visits_text_lem c.args.visits.now c.args.count c.args.fares) at (put_then c.requires.0 listed c.put_line.ensures.put)

pub returns-clause-b_in_bounds : goal.returns-clause-b_in_bounds
returns-clause-b_in_bounds c =
    visits_length_lem c.args.visits.now c.args.count c.args.fares (λ j. omega (arith, c.type_inv.visits j)) (omega arith) c.requires.1 (omega arith)
