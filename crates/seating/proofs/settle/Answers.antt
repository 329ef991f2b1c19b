-- `seating::settle` meets its contract. The invariant: seat i - 1 is free for x, and whoever was behind has moved on (`Settling`).
use Prim.Native.Nat.{ℕ, ◌-◌}
use mathlib.Core.Path.{◌≡◌}
use mathlib.Core.Bool.{not, ◌&&◌}
use native.Mathlib.Omega.{arith}
use lib.Dec.{ltb}
use lib.ListN.{get_or}
use Rattle.format.specs.Engine.{market_in, results_in}
use Rattle.model.specs.Model.{before}
use Rattle.model.specs.Ready.{Booked}
use Rattle.seating.proofs.Laws.{settle_start, settle_here, settle_on, known_there, stays_true, stays_false}
use Rattle.seating.proofs.settle.Goals as goal
use Rattle.seating.proofs.settle.Goals.{After-stays}

-- what `stays` has answered
answer : (c : After-stays) → (let a = c.args in
    let y = get_or c.loop-i.part (c.loop-i.i - 1 - 1) 0 in
    c.stays.result ≡ (ltb 0 y && not (before (market_in a.input.now.table.case.now) (results_in a.input.now.book.now) a.w a.x y)))
answer c = c.stays.ensures

pub loop-i-init : goal.loop-i-init
loop-i-init c =
    let a = c.args in
    let asked = c.requires in
    settle_start (market_in a.input.now.table.case.now) (results_in a.input.now.book.now) a.w a.part.now asked.in_order a.x asked.part_nonzero asked.part_value

pub stays-requires-clause-booked : goal.stays-requires-clause-booked
stays-requires-clause-booked c =
    let here = c.loop-i in
    let a = c.args in
    let M = market_in a.input.now.table.case.now in
    let B = results_in a.input.now.book.now in
    let f = known_there M B a.w a.x a.part.now here.part (here.i - 1) here.invariant (omega arith) (λ (y : ℕ). Booked M B y a.w) in
    f c.requires.by_index

pub returns-then-stays : goal.returns-then-stays
returns-then-stays c =
    let here = c.loop-i in
    let a = c.args in
    let M = market_in a.input.now.table.case.now in
    let B = results_in a.input.now.book.now in
    let y = stays_true M B a.w a.x _ _ (answer (goal.at.returns-then-stays c).After-stays) c.if-stays.true in
    settle_here M B a.w a.part.now c.requires.in_order a.x here.part (here.i - 1) here.invariant (omega arith) y.0 y.1

pub loop-i-preserved : goal.loop-i-preserved
loop-i-preserved c =
    let here = c.loop-i in
    let a = c.args in
    let M = market_in a.input.now.table.case.now in
    let B = results_in a.input.now.book.now in
    settle_on M B a.w a.part.now c.requires.in_order a.x here.part (here.i - 1) here.invariant (omega arith)
    (stays_false M B a.w a.x _ _ (answer (goal.at.loop-i-preserved c).After-stays) c.if-stays.false)
