-- `wishes::read_wishes` meets its contract. A cause of the case, the room, or what the text gives.
use mathlib.Core.Path.{◌≡◌}
use Rattle.std.specs.Prelude.{None}
use Rattle.std.proofs.lemmas.Result.{err_from_is_err_and}
use native.Mathlib.Omega.{arith}
use Rattle.format.specs.Engine.{market_in}
use Rattle.tables.proofs.Laws.{blank}
use Rattle.case_tests.specs.Checked.{case_refusal}
use Rattle.case_tests.proofs.Cases.{as_refused, as_clean}
use Rattle.wishes.proofs.Working.{read_by_case, read_by_room}
use Rattle.wishes.proofs.read_wishes.Goals as goal
use Rattle.wishes.proofs.read_wishes.Goals.{In_ok-students}

-- what the case's answer says where it is clean
clean : (e : In_ok-students)
    → (let case = e.args.case.now in
    (case_refusal case ≡ None) × (e.in_ok-students.field-0.students ≡ (market_in case).students))
clean e =
    let case = e.args.case.now in
    let k = as_clean case (case_refusal case) e.in_ok-students.field-0 e.in_ok-students.ensures.value in
    (k.0, k.1)

pub check_case-requires : goal.check_case-requires
check_case-requires c = blank

pub returns-in_err-students : goal.returns-in_err-students
returns-in_err-students c =
    let case = c.args.case.now in
    let p = err_from_is_err_and c.from_residual.result c.from_residual.ensures.1 in
    let r = as_refused case (case_refusal case) c.in_err-students.field-0.0 c.in_err-students.ensures.value in
    rw (p.1, p.2) (read_by_case case c.args.text.now c.args.copy.now r.0.0 r.0.1 _ r.2 r.1)

pub returns-then-copy-case : goal.returns-then-copy-case
returns-then-copy-case c =
    let k = clean (goal.at.returns-then-copy-case c).In_ok-students in
    read_by_room c.args.case.now c.args.text.now c.args.copy.now k.0 _ c.at.ensures (omega arith)

pub invariant_of-table : goal.invariant_of-table
invariant_of-table c =
    let k = clean (goal.at.invariant_of-table c).In_ok-students in record { tabled = (c.in_ok-students.ensures.made k.0).tabled }

pub invariant_of-input : goal.invariant_of-input
invariant_of-input c = record { clean = clean (goal.at.invariant_of-input c).In_ok-students }
