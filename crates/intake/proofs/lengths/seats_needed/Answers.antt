-- `intake::lengths::seats_needed` meets its contract. The invariant: the seats of the first w workshops.
use Prim.Native.Nat.{◌+◌, ◌-◌, suc}
use mathlib.Core.Path.{◌≡◌, refl, ◌∙◌, sym, ap}
use native.Mathlib.Omega.{arith}
use native.Mathlib.Numerals.{add-one}
use Rattle.base.specs.Lists.{total}
use Rattle.lgs.specs.Market.{seats_of, all_seats}
use Rattle.format.specs.Layout.{row_at}
use Rattle.format.specs.Engine.{market_in}
use Rattle.format.proofs.Positions.{places, quota_at}
use Rattle.case_tests.proofs.Cases.{clean, few}
use Rattle.intake.proofs.lengths.seats_needed.Goals as goal

pub loop-w-init : goal.loop-w-init
unfolding total
loop-w-init c = (refl, omega arith)

pub overflow_add-counts : goal.overflow_add-counts
overflow_add-counts c =
    let a = c.args in
    omega (arith, few a.case.now a.counts.students a.counts.workshops c.requires)

pub row_at-requires : goal.row_at-requires
row_at-requires c =
    let a = c.args in
    omega (arith, (places a.case.now (clean a.case.now a.counts.students a.counts.workshops c.requires)).whole, c.requires.students, c.requires.workshops)

pub overflow_add-sum : goal.overflow_add-sum
overflow_add-sum c =
    let a = c.args in
    omega (arith, few a.case.now a.counts.students a.counts.workshops c.requires)

pub loop-w-preserved : goal.loop-w-preserved
unfolding total seats_of
loop-w-preserved c =
    let a = c.args in
    let case = a.case.now in
    let w = c.loop-w.w in
    let e : (market_in case).students + suc w - 1 ≡ a.counts.students + w = omega (arith, c.requires.students) in
    let q = quota_at case (clean case a.counts.students a.counts.workshops c.requires) (suc w) (omega arith)
    (omega (arith, c.requires.workshops)) ∙ ap (λ k. (row_at case k).second) e ∙ sym (c.from-sum.ensures ∙ ap (λ r. r.second) c.row_at.ensures) in
    (rw (add-one w) (omega (arith, q, c.loop-w.invariant.0)), omega arith)

pub returns : goal.returns
unfolding all_seats
returns c =
    let e : c.loop-w.w ≡ c.args.counts.workshops = omega arith in
    c.loop-w.invariant.0 ∙ ap (total (seats_of (market_in c.args.case.now))) (e ∙ c.requires.workshops)
