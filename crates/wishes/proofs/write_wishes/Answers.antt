-- `wishes::write_wishes` meets its contract. A cause of the case, the room, or the lines.
use mathlib.Core.Path.{◌≡◌}
use Rattle.std.specs.Prelude.{None}
use Rattle.std.proofs.lemmas.Result.{err_from_is_err_and}
use native.Mathlib.Omega.{arith}
use Rattle.format.specs.Engine.{market_in}
use Rattle.tables.proofs.Laws.{blank}
use Rattle.case_tests.specs.Checked.{case_refusal, pair_count}
use Rattle.case_tests.proofs.Cases.{as_refused, as_clean}
use Rattle.wishes.proofs.Working.{few, few_records, write_by_case, write_by_room, write_done}
use Rattle.wishes.proofs.write_wishes.Goals as goal
use Rattle.wishes.proofs.write_wishes.Goals.{In_ok-students}

-- what the case's answer says where it is clean
clean : (e : In_ok-students)
    → (let case = e.args.case.now in
    let counts = e.in_ok-students.field-0 in
    (case_refusal case ≡ None) × (counts.students ≡ (market_in case).students) × (counts.pairs ≡ pair_count case))
clean e =
    let case = e.args.case.now in
    let k = as_clean case (case_refusal case) e.in_ok-students.field-0 e.in_ok-students.ensures.value in
    (k.0, k.1, k.3)

pub check_case-requires : goal.check_case-requires
check_case-requires c = blank

pub returns-in_err-students : goal.returns-in_err-students
returns-in_err-students c =
    let case = c.args.case.now in
    let p = err_from_is_err_and c.from_residual.result c.from_residual.ensures.1 in
    let r = as_refused case (case_refusal case) c.in_err-students.field-0.0 c.in_err-students.ensures.value in
    rw (p.1, p.2) (write_by_case case c.args.text.now r.0.0 r.0.1 _ r.2 r.1)

pub overflow_mul-students : goal.overflow_mul-students
overflow_mul-students c = let k = clean (goal.at.overflow_mul-students c).In_ok-students in omega (arith, k.1, few _ k.0)

pub overflow_mul-pairs : goal.overflow_mul-pairs
overflow_mul-pairs c = let k = clean (goal.at.overflow_mul-pairs c).In_ok-students in omega (arith, k.2, few_records c.args.case.now)

pub overflow_add-students : goal.overflow_add-students
overflow_add-students c =
    let k = clean (goal.at.overflow_add-students c).In_ok-students in omega (arith, k.1, few _ k.0, k.2, few_records c.args.case.now)

pub returns-then-text-students : goal.returns-then-text-students
returns-then-text-students c =
    let k = clean (goal.at.returns-then-text-students c).In_ok-students in
    write_by_room c.args.case.now c.args.text.now k.0 _ c.at.ensures (omega (arith, k.1, k.2))

pub invariant_of-table : goal.invariant_of-table
invariant_of-table c =
    let k = clean (goal.at.invariant_of-table c).In_ok-students in record { tabled = (c.in_ok-students.ensures.made k.0).tabled }

pub put_lines-requires : goal.put_lines-requires
put_lines-requires c =
    let k = clean (goal.at.put_lines-requires c).In_ok-students in
    record { case_value = k.0; students_value = k.1; case_in_bounds = omega (arith, k.1, k.2) }

pub returns : goal.returns
returns c =
    let k = clean (goal.at.returns c).In_ok-students in
    let done = c.put_lines in
    write_done c.args.case.now c.args.text.now k.0 (omega (arith, k.1, k.2)) done.result _ done.ensures.value done.ensures.text_after
