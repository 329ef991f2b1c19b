-- `seating::seat` meets its contract: the last holder stays, or x takes her place in front of her.
use mathlib.Core.Path.{◌≡◌, ap, ◌∙◌}
use native.Mathlib.Omega.{arith}
use Rattle.format.specs.Engine.{market_in, results_in}
use Rattle.model.specs.Store.{push_padded}
use Rattle.seating.specs.Seats.{named}
use Rattle.seating.proofs.Laws.{named_some, stays_true, push_empty, push_none, two_parts}
use Rattle.seating.proofs.seat.Goals as goal
use Rattle.seating.proofs.seat.Goals.{Then-n-eq0, Then-stays}

-- there are no seats
none : (c : Then-n-eq0) → (let a = c.args in
    let r = push_padded (market_in a.input.now.table.case.now) (results_in a.input.now.book.now) a.w a.x a.part.now in
    (a.part.now ≡ r.0) × (a.x ≡ r.1))
none c =
    let a = c.args in
    two_parts _ _ _ (push_empty (market_in a.input.now.table.case.now) (results_in a.input.now.book.now) a.w a.x a.part.now c.if-n-eq0.true)

-- the last holder stays
full : (c : Then-stays) → (let a = c.args in
    let r = push_padded (market_in a.input.now.table.case.now) (results_in a.input.now.book.now) a.w a.x a.part.now in
    (a.part.now ≡ r.0) × (a.x ≡ r.1))
full c =
    let a = c.args in
    let M = market_in a.input.now.table.case.now in
    let B = results_in a.input.now.book.now in
    let y = stays_true M B a.w a.x _ _ c.stays.ensures c.if-stays.true in
    two_parts _ _ _ (push_none M B a.w a.part.now c.requires.in_order a.x y.0 y.1 (omega arith))

pub returns-then-n-eq0-clause-part_after : goal.returns-then-n-eq0-clause-part_after
returns-then-n-eq0-clause-part_after c = (none c).0

pub returns-then-n-eq0-clause-value : goal.returns-then-n-eq0-clause-value
returns-then-n-eq0-clause-value c = named_some c.args.x c.requires.booked.student.0 ∙ ap named (none c).1

pub returns-then-stays-clause-part_after : goal.returns-then-stays-clause-part_after
returns-then-stays-clause-part_after c = (full c).0

pub returns-then-stays-clause-value : goal.returns-then-stays-clause-value
returns-then-stays-clause-value c = named_some c.args.x c.requires.booked.student.0 ∙ ap named (full c).1

pub stays-requires-clause-booked : goal.stays-requires-clause-booked
stays-requires-clause-booked c = λ h. c.requires.by_index _ (omega arith) h
