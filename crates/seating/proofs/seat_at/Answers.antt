-- `seating::seat_at` meets its contract. The part of the workshop is lent, and comes back in its place.
use Prim.Native.Nat.{ℕ, ◌+◌, ◌-◌}
use mathlib.Core.Path.{◌≡◌}
use native.Mathlib.Omega.{arith}
use lib.ListN.{take, drop}
use Rattle.lgs.specs.Market.{seats_of}
use Rattle.format.specs.Engine.{market_in, results_in}
use Rattle.model.specs.Ready.{Booked}
use Rattle.model.specs.Store.{part, put_part}
use Rattle.seating.proofs.Laws.{part_lent, known_lent, ordered_lent}
use Rattle.seating.proofs.seat_at.Goals as goal

pub seat-requires-clause-by_index : goal.seat-requires-clause-by_index
seat-requires-clause-by_index c =
    let a = c.args in
    let M = market_in a.input.now.table.case.now in
    let B = results_in a.input.now.book.now in
    let s = c.start_of-a in
    let e : s.result + c.seats_of.result ≡ s.result + seats_of M a.w = omega (arith, c.seats_of.ensures) in
    known_lent M a.seats.now a.w s.result _ s.ensures e (λ (y : ℕ). Booked M B y a.w) c.requires.by_index

pub seat-requires-clause-in_order : goal.seat-requires-clause-in_order
seat-requires-clause-in_order c =
    let a = c.args in
    let M = market_in a.input.now.table.case.now in
    let B = results_in a.input.now.book.now in
    let s = c.start_of-a in
    let e : s.result + c.seats_of.result ≡ s.result + seats_of M a.w = omega (arith, c.seats_of.ensures) in
    ordered_lent M B a.seats.now a.w s.result _ s.ensures e c.requires.in_order

pub returns-clause-seats_after : goal.returns-clause-seats_after
unfolding put_part
returns-clause-seats_after c =
    let a = c.args in
    let M = market_in a.input.now.table.case.now in
    let s = c.start_of-a in
    let e = c.seats_of in
    let d : s.result + e.result - s.result ≡ seats_of M a.w = omega (arith, e.ensures) in
    let g : s.result + e.result ≡ s.result + seats_of M a.w = omega (arith, e.ensures) in
    let f : take (s.result + e.result - s.result) (drop s.result a.seats.now) ≡ part M a.seats.now a.w = part_lent M a.seats.now a.w
    s.result (s.result + e.result) s.ensures g in
    (cc)

pub returns-clause-value : goal.returns-clause-value
unfolding put_part
returns-clause-value c =
    let a = c.args in
    let M = market_in a.input.now.table.case.now in
    let s = c.start_of-a in
    let e = c.seats_of in
    let d : s.result + e.result - s.result ≡ seats_of M a.w = omega (arith, e.ensures) in
    let g : s.result + e.result ≡ s.result + seats_of M a.w = omega (arith, e.ensures) in
    let f : take (s.result + e.result - s.result) (drop s.result a.seats.now) ≡ part M a.seats.now a.w = part_lent M a.seats.now a.w
    s.result (s.result + e.result) s.ensures g in
    (cc)
