-- `stages::rounds::round` meets its contract. The invariant: the workshops before w have had their turn (`Rounding`).
use Prim.Native.Nat.{◌+◌}
use mathlib.Core.Path.{◌≡◌, ◌∙◌, sym, ap}
use native.Mathlib.Omega.{arith}
use Rattle.format.specs.Engine.{market_in}
use Rattle.stages.specs.Rounds.{turn_of}
use Rattle.stages.proofs.Rounding.{rounding_more, rounded}
use Rattle.stages.proofs.rounds.round.Goals as goal

pub loop-i-preserved : goal.loop-i-preserved
loop-i-preserved c =
    let a = c.args in
    let here = c.loop-i in
    let M = market_in a.input.now.table.case.now in
    let done = c.in_ok-p.ensures in
    let e : c.turn_of.result ≡ turn_of M.workshops a.back here.i =
    c.turn_of.ensures ∙ ap (λ m. turn_of m a.back here.i) (sym a.input.now.ready.workshops) in
    rounding_more M a.back a.own.now here.own _ here.i here.p c.in_ok-p.p here.invariant (rw e at done.1) done.0

pub returns-in_ok-p : goal.returns-in_ok-p
returns-in_ok-p c =
    let a = c.args in
    let here = c.loop-i in
    let M = market_in a.input.now.table.case.now in
    let done = c.in_ok-p.ensures in
    let e : c.turn_of.result ≡ turn_of M.workshops a.back here.i =
    c.turn_of.ensures ∙ ap (λ m. turn_of m a.back here.i) (sym a.input.now.ready.workshops) in
    rounded M a.back a.own.now c.step.new.own (here.i + 1) c.in_ok-p.p
    (rounding_more M a.back a.own.now here.own _ here.i here.p c.in_ok-p.p here.invariant (rw e at done.1) done.0)
    (omega (arith, a.input.now.ready.workshops))
