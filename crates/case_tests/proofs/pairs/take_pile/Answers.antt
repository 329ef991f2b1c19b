-- `case_tests::pairs::take_pile` meets its contract. The invariant: her pairs before record i, the last with workshop `last` (`Piling`, `Trail`).
use mathlib.Core.Path.{ap, ◌≡◌}
use native.Mathlib.Omega.{arith}
use Rattle.base.proofs.Tests.{never}
use Rattle.format.specs.Layout.{row_count}
use Rattle.case_tests.specs.Pairs.{NextPair}
use Rattle.case_tests.proofs.Noting.{piling_none, piling_more, piled}
use Rattle.case_tests.proofs.Trails.{trail_on, trail_over}
use Rattle.case_tests.proofs.pairs.take_pile.Goals as goal
use Rattle.case_tests.proofs.pairs.take_pile.Goals.{Else-not-is_next}

-- what the test of record i says where it passes
next : (c : Else-not-is_next) → (let a = c.args in
    NextPair a.case.now c.loop-i.i a.s c.loop-i.last a.workshops)
next c = c.is_next.ensures.next_pair (c.if-not-is_next.false)

pub loop-i-init : goal.loop-i-init
loop-i-init c = record { few = omega arith; piling = piling_none _ _ c.args.from c.args.s; trail = λ n l t. t }

pub returns-then-not-is_next-clause-piled : goal.returns-then-not-is_next-clause-piled
returns-then-not-is_next-clause-piled c =
    let here = c.loop-i in piled _ _ c.args.from c.args.s here.i here.last here.set here.invariant.piling (omega arith)

pub returns-then-not-is_next-clause-by_index : goal.returns-then-not-is_next-clause-by_index
returns-then-not-is_next-clause-by_index c =
    let a = c.args in
    let here = c.loop-i in λ n l t.
    trail_over a.case.now n a.workshops c.requires.2 here.i a.s here.last (here.invariant.trail n l t) here.invariant.few
    (λ u p. never (c.is_next.ensures.value p) (c.if-not-is_next.true))

pub loop-i-preserved : goal.loop-i-preserved
loop-i-preserved c =
    let a = c.args in
    let here = c.loop-i in
    let p = next (goal.at.loop-i-preserved c).Else-not-is_next in
    let e = ap (λ r. r.second) c.row_at-last.ensures in
    record {
      few = omega (arith, p.known, c.requires.2, e);
      piling = rw e (piling_more _ _ a.from a.s here.i here.last here.set c.with_bit-set.result (omega arith) p.hers p.later
          (omega (arith, p.known, c.requires.2)) here.invariant.piling (λ x. rw (← e, ← c.from.ensures) (c.with_bit-set.ensures.by_index x)));
      trail = λ n l t.
          rw e (trail_on a.case.now n a.workshops c.requires.2 here.i a.s here.last (here.invariant.trail n l t)
          (omega (arith, c.row_count-rows.ensures)) c.requires.1 l p);
    }

pub returns-clause-piled : goal.returns-clause-piled
returns-clause-piled c =
    let here = c.loop-i in
    let e : here.i ≡ row_count c.args.case.now = omega (arith, c.row_count-rows.ensures) in
    rw c.row_count-rows.ensures (rw e at (piled _ _ c.args.from c.args.s here.i here.last here.set here.invariant.piling (omega arith)))

pub returns-clause-by_index : goal.returns-clause-by_index
returns-clause-by_index c =
    let a = c.args in
    let here = c.loop-i in
    let e : here.i ≡ row_count a.case.now = omega (arith, c.row_count-rows.ensures) in λ n l t.
    rw c.row_count-rows.ensures (rw e at (trail_over a.case.now n a.workshops c.requires.2 here.i a.s here.last (here.invariant.trail n l t) here.invariant.few
    (λ u p. absurd (omega arith))))
