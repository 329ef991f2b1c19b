-- `turning::turn` meets its contract. What its callees ensure, as the model has it: the turn opens a tier or applies.
use Prim.Native.Nat.{ℕ, ◌<◌}
use mathlib.Core.Path.{◌≡◌, sym, ap, ◌∙◌}
use mathlib.Core.Bool.{Bool, not, ◌&&◌}
use native.Mathlib.Omega.{arith}
use lib.Dec.{eqb}
use Rattle.base.proofs.Tests.{and_right}
use Rattle.format.specs.Engine.{market_in, results_in}
use Rattle.model.specs.Turn.{open_tier, apply_to, turn_of}
use Rattle.model.specs.Ready.{Booked}
use Rattle.turning.proofs.Turns.{ready_seats, seats_at, may_open, room_to, open_booked, turn_opens, turn_applies, open_seats, apply_visits, best_known}
use Rattle.turning.proofs.Turns.{count_test}
use Rattle.turning.proofs.turn.Goals as goal
use Rattle.turning.proofs.turn.Goals.{After-favourite-c, Then-count-outside}

-- which way the turn goes
opens : (c : Then-count-outside) → (let a = c.args in
    turn_of (market_in a.input.now.table.case.now) (results_in a.input.now.book.now) a.visits.now a.seats.now a.state a.run
    ≡ open_tier (market_in a.input.now.table.case.now) (results_in a.input.now.book.now) a.visits.now a.seats.now c.told_state-told.result a.run)
opens c =
    let a = c.args in
    let t = c.told_state-told in
    turn_opens (market_in a.input.now.table.case.now) (results_in a.input.now.book.now) a.visits.now a.seats.now a.state a.run t.result
    (eqb c.student_outside.result t.result.reached) t.ensures (ap (λ (x : ℕ). eqb x t.result.reached) c.student_outside.ensures)
    (ap (λ (b : Bool). b && not (eqb c.student_outside.result t.result.reached))
    (sym (count_test t.result.openings c.count.result (omega arith) c.count.ensures)) ∙ c.if-count-outside.true)

applies : (c : After-favourite-c) → (let a = c.args in
    turn_of (market_in a.input.now.table.case.now) (results_in a.input.now.book.now) a.visits.now a.seats.now a.state a.run
    ≡ apply_to (market_in a.input.now.table.case.now) (results_in a.input.now.book.now) a.visits.now a.seats.now c.told_state-told.result a.run
    c.favourite-c.result)
applies c =
    let a = c.args in
    let t = c.told_state-told in
    turn_applies (market_in a.input.now.table.case.now) (results_in a.input.now.book.now) a.visits.now a.seats.now a.state a.run t.result
    (eqb c.student_outside.result t.result.reached) t.ensures (ap (λ (x : ℕ). eqb x t.result.reached) c.student_outside.ensures)
    (ap (λ (b : Bool). b && not (eqb c.student_outside.result t.result.reached))
    (sym (count_test t.result.openings c.count.result (omega arith) c.count.ensures)) ∙ c.if-count-outside.false)
    ∙ ap (apply_to (market_in a.input.now.table.case.now) (results_in a.input.now.book.now) a.visits.now a.seats.now t.result a.run) (sym c.favourite-c.ensures)

pub open_tier-requires-clause-le_hand : goal.open_tier-requires-clause-le_hand
open_tier-requires-clause-le_hand c =
    let t = c.told_state-told in
    let o = c.student_outside in
    let r = c.requires.ready in
    let n = and_right (eqb c.count.result 0) _ c.if-count-outside.true in
    (omega arith, omega (arith, c.args.input.now.clean, r), may_open r t.result t.ensures o.result o.ensures (omega arith) n, r.paid)

pub open_tier-requires-clause-by_index : goal.open_tier-requires-clause-by_index
open_tier-requires-clause-by_index c = seats_at c.args.input.now.clean c.args.seats.now (ready_seats c.requires.ready)

pub open_tier-requires-clause-workshops_in_bounds : goal.open_tier-requires-clause-workshops_in_bounds
open_tier-requires-clause-workshops_in_bounds c =
    let t = c.told_state-told in room_to c.requires.ready t.result t.ensures c.args.input.now.workshops c.args.input.now.clean.workshops

pub returns-then-count-outside-clause-value : goal.returns-then-count-outside-clause-value
returns-then-count-outside-clause-value c =
    c.open_tier.ensures.value ∙ sym (ap (λ x. x.turned) (opens (goal.at.returns-then-count-outside-clause-value c).Then-count-outside))

pub returns-then-count-outside-clause-visits_after : goal.returns-then-count-outside-clause-visits_after
returns-then-count-outside-clause-visits_after c =
    c.open_tier.ensures.visits_after ∙ sym (ap (λ x. x.visits) (opens (goal.at.returns-then-count-outside-clause-visits_after c).Then-count-outside))

pub returns-then-count-outside-clause-seats_after : goal.returns-then-count-outside-clause-seats_after
returns-then-count-outside-clause-seats_after c =
    let a = c.args in
    open_seats (market_in a.input.now.table.case.now) (results_in a.input.now.book.now) a.visits.now a.seats.now c.told_state-told.result a.run
    ∙ sym (ap (λ x. x.seats) (opens (goal.at.returns-then-count-outside-clause-seats_after c).Then-count-outside))

pub favourite-c-requires-clause-by_index : goal.favourite-c-requires-clause-by_index
favourite-c-requires-clause-by_index c = open_booked c.requires.ready c.told_state-told.result c.told_state-told.ensures

pub apply_to-requires-clause-booked : goal.apply_to-requires-clause-booked
apply_to-requires-clause-booked c =
    let a = c.args in
    let t = c.told_state-told in
    let known = best_known (market_in a.input.now.table.case.now) (results_in a.input.now.book.now) a.run.hand t.result.openings
    (λ (w : ℕ). 0 < w → Booked (market_in a.input.now.table.case.now) (results_in a.input.now.book.now) a.run.hand w) (λ l. absurd (omega arith))
    (λ w m l. open_booked c.requires.ready t.result t.ensures w m) (eqb c.student_outside.result t.result.reached) in
    rw c.favourite-c.ensures known

pub returns-clause-value : goal.returns-clause-value
returns-clause-value c =
    c.apply_to.ensures.by_index c.args.visits.now ∙ sym (ap (λ x. x.turned) (applies (goal.at.returns-clause-value c).After-favourite-c))

pub returns-clause-visits_after : goal.returns-clause-visits_after
returns-clause-visits_after c =
    let a = c.args in
    apply_visits (market_in a.input.now.table.case.now) (results_in a.input.now.book.now) a.visits.now a.seats.now c.told_state-told.result a.run
    c.favourite-c.result
    ∙ sym (ap (λ x. x.visits) (applies (goal.at.returns-clause-visits_after c).After-favourite-c))

pub returns-clause-seats_after : goal.returns-clause-seats_after
returns-clause-seats_after c =
    c.apply_to.ensures.by_index_2 c.args.visits.now ∙ sym (ap (λ x. x.seats) (applies (goal.at.returns-clause-seats_after c).After-favourite-c))
