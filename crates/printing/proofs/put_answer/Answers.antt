-- Each case of the answer puts its lines.
use native.Mathlib.Omega.{arith}
use Rattle.api.specs.Text.{text_of}
use Rattle.putting.proofs.Laws.{put_then}
use Rattle.printing.proofs.Lengths.{text_whole}
use Rattle.printing.proofs.put_answer.Goals as goal

pub returns-in-Ok-Placed-clause-put : goal.returns-in-Ok-Placed-clause-put
unfolding text_of
returns-in-Ok-Placed-clause-put c =
    let case = c.in-Ok-Placed in
    rw (case.is, rw case.is at case.field-0-is) (put_then (omega arith) c.put_places-end.ensures c.put_visits.ensures.put)

pub returns-in-Ok-Placed-clause-whole : goal.returns-in-Ok-Placed-clause-whole
returns-in-Ok-Placed-clause-whole c =
    let case = c.in-Ok-Placed in
    text_whole c.args.answer _ _ _ c.requires (rw (case.is, rw case.is at case.field-0-is) c.put_visits.ensures.b_in_bounds)
    (λ j. omega (arith, c.type_inv.places j)) (omega arith) (returns-in-Ok-Placed-clause-put c)

pub returns-in-Ok-Next-clause-put : goal.returns-in-Ok-Next-clause-put
unfolding text_of
returns-in-Ok-Next-clause-put c =
    let case = c.in-Ok-Next in
    rw (case.is, rw case.is at case.field-0-is) (put_then (omega arith) c.put_line-end.ensures.put c.put_visits-in-Ok-Next.ensures.put)

pub returns-in-Ok-Next-clause-whole : goal.returns-in-Ok-Next-clause-whole
returns-in-Ok-Next-clause-whole c =
    let case = c.in-Ok-Next in
    text_whole c.args.answer _ _ _ c.requires
    (rw (case.is, rw case.is at case.field-0-is) (c.put_line-end.ensures.b_in_bounds, c.put_visits-in-Ok-Next.ensures.b_in_bounds))
    (λ j. omega (arith, c.type_inv.places j)) (omega arith) (returns-in-Ok-Next-clause-put c)

pub returns-in-Err-clause-put : goal.returns-in-Err-clause-put
unfolding text_of
returns-in-Err-clause-put c = rw c.in-Err.is (rw c.from.ensures at c.put_line.ensures.put)

pub returns-in-Err-clause-whole : goal.returns-in-Err-clause-whole
returns-in-Err-clause-whole c =
    text_whole c.args.answer _ _ _ c.requires (rw c.in-Err.is (rw c.from.ensures at c.put_line.ensures.b_in_bounds))
    (λ j. omega (arith, c.type_inv.places j)) (omega arith) (returns-in-Err-clause-put c)
