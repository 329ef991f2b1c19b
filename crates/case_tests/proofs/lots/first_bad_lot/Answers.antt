-- `case_tests::lots::first_bad_lot` meets its contract. The invariant: the lots so far pass, and are those in the set.
use mathlib.Core.Path.{ap, ◌≡◌, refl, ◌∙◌, sym}
use native.Mathlib.Omega.{arith}
use Rattle.base.proofs.Search.{scan_found}
use Rattle.format.specs.Layout.{row_at, rows, row_count}
use Rattle.format.specs.Refusals.{bad_lot}
use Rattle.case_tests.specs.Lots.{Used}
use Rattle.case_tests.proofs.Drawing.{Drawn, drawn_none, lot_test, drawn_on, lots_pass}
use Rattle.case_tests.proofs.lots.first_bad_lot.Goals as goal
use Rattle.case_tests.proofs.lots.first_bad_lot.Goals.{After-is_bad_lot}

-- the lot that was tested is student i's
tested : (d : After-is_bad_lot)
    → (let here = d.loop-i in
    Used here.used d.is_bad_lot.new.used (row_at d.args.case.now here.i).fourth d.is_bad_lot.result)
tested d = rw (ap (λ r. r.fourth) d.row_at.ensures) at d.is_bad_lot.ensures

pub loop-i-init : goal.loop-i-init
loop-i-init c = record { long = refl; drawn = drawn_none _ }

pub returns-then-is_bad_lot : goal.returns-then-is_bad_lot
returns-then-is_bad_lot c =
    let case = c.args.case.now in
    let here = c.loop-i in
    sym (scan_found (bad_lot (rows case)) here.i (row_count case) here.invariant.drawn.passed
    (lot_test case c.args.students c.requires here.i (omega arith) here.used _ _ here.invariant.drawn
    (tested (goal.at.returns-then-is_bad_lot c).After-is_bad_lot) ∙ c.if-is_bad_lot.true)
    (omega (arith, c.requires.inside)))

pub loop-i-preserved : goal.loop-i-preserved
loop-i-preserved c =
    let here = c.loop-i in
    record {
      long = c.is_bad_lot.auto.used ∙ here.invariant.long;
      drawn = drawn_on c.args.case.now c.args.students c.requires here.i (omega arith) here.used _ _ here.invariant.drawn
          (tested (goal.at.loop-i-preserved c).After-is_bad_lot) c.if-is_bad_lot.false;
    }

pub returns : goal.returns
returns c =
    let e : c.loop-i.i ≡ c.args.students = omega arith in
    let d : Drawn c.args.case.now c.loop-i.used c.args.students = rw e at c.loop-i.invariant.drawn in
    sym (lots_pass c.args.case.now c.args.students c.requires c.loop-i.used d)
