-- `turning::apply_to` meets its contract. What `seat_at` and `after_seating` ensure, as the model has it.
use mathlib.Core.Path.{refl}
use Rattle.format.specs.Engine.{market_in, results_in}
use Rattle.seating.proofs.Laws.{positive}
use Rattle.turning.proofs.Turns.{apply_none, apply_some, long_to}
use Rattle.turning.proofs.apply_to.Goals as goal

pub returns-then-c-eq0-clause-by_index : goal.returns-then-c-eq0-clause-by_index
returns-then-c-eq0-clause-by_index c =
    let a = c.args in (λ visits. (apply_none (market_in a.input.now.table.case.now) (results_in a.input.now.book.now) visits a.seats.now a.state a.run a.c
    c.next_run.result c.if-c-eq0.true (c.next_run.ensures (results_in a.input.now.book.now))).0)

pub returns-then-c-eq0-clause-by_index_2 : goal.returns-then-c-eq0-clause-by_index_2
returns-then-c-eq0-clause-by_index_2 c =
    let a = c.args in (λ visits. (apply_none (market_in a.input.now.table.case.now) (results_in a.input.now.book.now) visits a.seats.now a.state a.run a.c
    c.next_run.result c.if-c-eq0.true (c.next_run.ensures (results_in a.input.now.book.now))).1)

pub seat_at-x-requires-clause-w_in_bounds : goal.seat_at-x-requires-clause-w_in_bounds
seat_at-x-requires-clause-w_in_bounds c =
    let a = c.args in
    let b = c.requires.booked (positive a.c c.if-c-eq0.false) in
    let s = c.requires.seated_all in
    long_to (market_in a.input.now.table.case.now) (results_in a.input.now.book.now) a.seats.now s a.c b.workshop.0 b.workshop.1

pub seat_at-x-requires-clause-in_order : goal.seat_at-x-requires-clause-in_order
seat_at-x-requires-clause-in_order c =
    let a = c.args in
    let b = c.requires.booked (positive a.c c.if-c-eq0.false) in
    let s = c.requires.seated_all in s.ordered a.c b.workshop.0 b.workshop.1

pub returns-clause-by_index : goal.returns-clause-by_index
returns-clause-by_index c =
    let a = c.args in (λ visits. (apply_some (market_in a.input.now.table.case.now) (results_in a.input.now.book.now) visits a.seats.now a.state a.run a.c
    _ _ c.after_seating.result c.if-c-eq0.false
    c.seat_at-x.ensures.seats_after refl
    (c.after_seating.ensures (results_in a.input.now.book.now) _ c.seat_at-x.ensures.value)).0)

pub returns-clause-by_index_2 : goal.returns-clause-by_index_2
returns-clause-by_index_2 c =
    let a = c.args in (λ visits. (apply_some (market_in a.input.now.table.case.now) (results_in a.input.now.book.now) visits a.seats.now a.state a.run a.c
    _ _ c.after_seating.result c.if-c-eq0.false
    c.seat_at-x.ensures.seats_after refl
    (c.after_seating.ensures (results_in a.input.now.book.now) _ c.seat_at-x.ensures.value)).1)
