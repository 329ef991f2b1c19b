-- `case_tests::order::tally_in_order` meets its contract. The invariant: the records so far are in order, and counted.
use Prim.Native.Nat.{◌<◌}
use mathlib.Core.Path.{refl, ap, ◌∙◌, sym}
use native.Mathlib.Omega.{arith}
use Rattle.base.proofs.Search.{scan_found, none_fails}
use Rattle.format.specs.Layout.{rows, row_count}
use Rattle.format.specs.Refusals.{bad_form, bad_order}
use Rattle.case_tests.proofs.Counting.{counted_start, counted_on}
use Rattle.case_tests.proofs.order.tally_in_order.Goals as goal

pub loop-i-init : goal.loop-i-init
loop-i-init c = counted_start c.args.case.now

pub out_of_order-requires-clause-i_value : goal.out_of_order-requires-clause-i_value
out_of_order-requires-clause-i_value c =
    let case = c.args.case.now in
    none_fails (bad_form (rows case)) (row_count case) c.requires c.loop-i.i (omega (arith, c.row_count-i-end.ensures))

pub returns-then-out_of_order : goal.returns-then-out_of_order
returns-then-out_of_order c =
    rw c.at.ensures (
      refl,
      scan_found (bad_order (rows c.args.case.now)) c.loop-i.i (row_count c.args.case.now) c.loop-i.invariant.order
          (sym c.out_of_order.ensures ∙ c.if-out_of_order.true) (omega (arith, c.row_count-i-end.ensures)),
    )

pub loop-i-preserved : goal.loop-i-preserved
loop-i-preserved c =
    let case = c.args.case.now in
    let here = c.loop-i in
    let t = c.with-tally.ensures in
    let l : here.i < row_count case = omega (arith, c.row_count-i-end.ensures) in
    rw (t.students, t.workshops, ap (λ r. r.kind) c.row_at.ensures)
    (counted_on case here.i here.tally.students here.tally.workshops here.invariant l
    (none_fails (bad_form (rows case)) (row_count case) c.requires here.i l) (sym c.out_of_order.ensures ∙ c.if-out_of_order.false))
