-- `case_tests::order::out_of_order` meets its contract. The test by counts, of the two records that were read.
use Prim.Native.Nat.{◌-◌}
use mathlib.Core.Path.{◌≡◌, ◌∙◌, ap}
use Rattle.std.proofs.Common.{rules, arith}
use Rattle.format.specs.Layout.{row_at}
use Rattle.records.specs.Records.{row_of}
use Rattle.case_tests.proofs.Counting.{student_order, workshop_order, pair_order}
use Rattle.case_tests.proofs.order.out_of_order.Goals as goal
use Rattle.case_tests.proofs.order.out_of_order.Goals.{After-row_at-p}

before : (d : After-row_at-p) → row_of d.row_at-p.result ≡ row_at d.args.case.now (d.args.i - 1)
before d = d.row_at-p.ensures ∙ ap (row_at d.args.case.now) d.saturating_sub.ensures

pub returns-then-p-gt1 : goal.returns-then-p-gt1
returns-then-p-gt1 c =
    let a = c.args in
    let q = c.requires in
    rw (student_order a.case.now a.i a.before.students a.before.workshops q.counted q.i_bound q.i_value _ _ c.row_at-r.ensures
    (before (goal.at.returns-then-p-gt1 c).After-row_at-p) c.in-1.is)
    (search rules)

pub returns-else-p-gt1 : goal.returns-else-p-gt1
returns-else-p-gt1 c =
    let a = c.args in
    let q = c.requires in
    rw (student_order a.case.now a.i a.before.students a.before.workshops q.counted q.i_bound q.i_value _ _ c.row_at-r.ensures
    (before (goal.at.returns-else-p-gt1 c).After-row_at-p) c.in-1.is)
    (search rules)

pub returns-then-p-gt2 : goal.returns-then-p-gt2
returns-then-p-gt2 c =
    let a = c.args in
    let q = c.requires in
    rw (workshop_order a.case.now a.i a.before.students a.before.workshops q.counted q.i_bound q.i_value _ _ c.row_at-r.ensures
    (before (goal.at.returns-then-p-gt2 c).After-row_at-p) c.in-2.is)
    (search rules)

pub returns-else-p-gt2 : goal.returns-else-p-gt2
returns-else-p-gt2 c =
    let a = c.args in
    let q = c.requires in
    rw (workshop_order a.case.now a.i a.before.students a.before.workshops q.counted q.i_bound q.i_value _ _ c.row_at-r.ensures
    (before (goal.at.returns-else-p-gt2 c).After-row_at-p) c.in-2.is)
    (search rules)

pub returns-then-not-rises : goal.returns-then-not-rises
returns-then-not-rises c =
    let a = c.args in
    let q = c.requires in
    rw (pair_order a.case.now a.i a.before.students a.before.workshops q.counted q.i_bound q.i_value _ _ c.row_at-r.ensures
    (before (goal.at.returns-then-not-rises c).After-row_at-p) (λ e. omega arith) (λ e. omega arith))
    (search rules)

pub returns-else-not-rises : goal.returns-else-not-rises
returns-else-not-rises c =
    let a = c.args in
    let q = c.requires in
    rw (pair_order a.case.now a.i a.before.students a.before.workshops q.counted q.i_bound q.i_value _ _ c.row_at-r.ensures
    (before (goal.at.returns-else-not-rises c).After-row_at-p) (λ e. omega arith) (λ e. omega arith))
    (search rules)
