-- `case_tests::counted` meets its contract. The causes before 13 find nothing in a clean case.
use Prim.Native.Nat.{◌-◌, ◌%◌}
use mathlib.Core.Path.{◌∙◌, sym, ap}
use native.Mathlib.Omega.{arith}
use lib.ListN.{length}
use Rattle.case_tests.specs.Checked.{case_refusal}
use Rattle.case_tests.proofs.Cases.{whole_none, case_13, case_clean, refused_as, clean_as, all_pairs}
use Rattle.case_tests.proofs.Drawing.{students_first}
use Rattle.case_tests.proofs.counted.Goals as goal

pub first_bad_lot-requires : goal.first_bad_lot-requires
first_bad_lot-requires c = students_first _ _ _ c.requires.clean_case

pub returns-in-Some : goal.returns-in-Some
returns-in-Some c =
    let case = c.args.case.now in
    refused_as case (case_refusal case) 13 _ _ c.at.ensures
    (case_13 case (whole_none (length case % 16) c.requires.case_len) c.requires.clean_case _ (sym c.first_bad_lot.ensures ∙ c.in-Some.is))

pub overflow_sub-result : goal.overflow_sub-result
overflow_sub-result c = omega (arith, all_pairs _ _ _ c.requires.clean_case, c.row_count.ensures)

pub overflow_sub-result-2 : goal.overflow_sub-result-2
overflow_sub-result-2 c = omega (arith, all_pairs _ _ _ c.requires.clean_case, c.row_count.ensures)

pub returns : goal.returns
returns c =
    let a = c.args in
    let case = a.case.now in
    let clean = c.requires.clean_case in
    sym (clean_as case (case_refusal case) _ _ _
    (case_clean case (whole_none (length case % 16) c.requires.case_len) clean (sym c.first_bad_lot.ensures ∙ c.in_default.is))
    clean.students clean.workshops
    (ap (λ k. k - a.students - a.workshops) c.row_count.ensures ∙ (all_pairs case _ _ clean).1))
