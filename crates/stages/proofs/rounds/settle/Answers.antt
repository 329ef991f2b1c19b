-- `stages::rounds::settle` meets its contract. The invariant: the state between rounds (`Settling`); each round raises somebody, or is the last (`left`).
use native.Mathlib.Omega.{arith}
use Rattle.format.specs.Engine.{market_in}
use Rattle.stages.proofs.Tiers.{ready_wf}
use Rattle.stages.proofs.Rounding.{settling_none, settled, left_less}
use Rattle.stages.proofs.rounds.settle.Goals as goal

pub loop-p-init : goal.loop-p-init
loop-p-init c =
    let i = c.args.input.now in
    rw c.requires (settling_none (market_in i.table.case.now) (ready_wf i) i.students i.ready.students i.ready.some_students i.ready.many_students)

pub loop-p-smaller : goal.loop-p-smaller
loop-p-smaller c =
    let here = c.loop-p in
    let done = c.in_ok-p.ensures in
    left_less (market_in c.args.input.now.table.case.now) here.own _ here.p c.in_ok-p.p c.loop-p-test.true done.1 done.0

pub returns : goal.returns
returns c =
    let i = c.args.input.now in
    let here = c.loop-p in
    settled (market_in i.table.case.now) here.own here.p
    (λ s w p. let x = i.ready.named s w p in ((x.0.0, omega (arith, x.0.1, i.ready.students)), (x.1.0, omega (arith, x.1.1, i.ready.workshops))))
    here.invariant c.loop-p-test.false
