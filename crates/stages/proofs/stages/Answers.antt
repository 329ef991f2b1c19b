-- `stages::stages` meets its contract. A cause of the case, the room, or what the rounds give.
use mathlib.Core.Path.{◌≡◌}
use native.Mathlib.Omega.{arith}
use lib.ListN.{length}
use Rattle.std.specs.Prelude.{None}
use Rattle.std.proofs.lemmas.Result.{err_from_is_err_and}
use Rattle.format.specs.Engine.{market_in}
use Rattle.tables.proofs.Laws.{blank}
use Rattle.case_tests.specs.Checked.{case_refusal}
use Rattle.case_tests.proofs.Cases.{as_refused, as_clean}
use Rattle.stages.proofs.Promises.{out_case, out_room}
use Rattle.stages.proofs.Working.{ready, answered, refused}
use Rattle.stages.proofs.stages.Goals as goal
use Rattle.stages.proofs.stages.Goals.{In_ok-students}

-- what the case's answer says where it is clean
clean : (e : In_ok-students)
    → (let case = e.args.case.now in
    let counts = e.in_ok-students.field-0 in
    (case_refusal case ≡ None) × (counts.students ≡ (market_in case).students) × (counts.workshops ≡ (market_in case).workshops))
clean e =
    let case = e.args.case.now in
    let k = as_clean case (case_refusal case) e.in_ok-students.field-0 e.in_ok-students.ensures.value in
    (k.0, k.1, k.2)

pub check_case-requires : goal.check_case-requires
check_case-requires c = blank

pub returns-in_err-students : goal.returns-in_err-students
returns-in_err-students c =
    let case = c.args.case.now in
    let stages = c.args.stages.now in
    let p = err_from_is_err_and c.from_residual.result c.from_residual.ensures.1 in
    let r = as_refused case (case_refusal case) c.in_err-students.field-0.0 c.in_err-students.ensures.value in
    rw (p.1, p.2) (refused case stages r.0.0 r.0.1 _ r.2 (out_case case (length stages) r.0.0 r.0.1 r.1))

pub returns-then-stages-students : goal.returns-then-stages-students
returns-then-stages-students c =
    let case = c.args.case.now in
    let stages = c.args.stages.now in
    let k = clean (goal.at.returns-then-stages-students c).In_ok-students in
    refused case stages 6 0 _ c.at.ensures (out_room case (length stages) k.0 (omega (arith, k.1)))

pub invariant_of-table : goal.invariant_of-table
invariant_of-table c =
    let k = clean (goal.at.invariant_of-table c).In_ok-students in record { tabled = (c.in_ok-students.ensures.made k.0).tabled }

pub invariant_of-input : goal.invariant_of-input
invariant_of-input c =
    let k = clean (goal.at.invariant_of-input c).In_ok-students in record { ready = ready c.args.case.now k.0 _ _ k.1 k.2 }

pub work_out-requires : goal.work_out-requires
work_out-requires c =
    let k = clean (goal.at.work_out-requires c).In_ok-students in (k.0, omega arith)

pub returns : goal.returns
returns c =
    let done = c.work_out in
    answered c.args.case.now c.args.stages.now _ done.result done.ensures.value done.ensures.stages_after
