-- `case_tests::check_each` meets its contract. Each return by what the causes before it found.
use Prim.Native.Nat.{◌%◌}
use mathlib.Core.Path.{◌≡◌, refl, ◌∙◌, sym}
use mathlib.Core.Bool.{true, false}
use Rattle.std.proofs.Common.{rules}
use Rattle.std.proofs.lemmas.Iterator.{first_from_Range}
use Rattle.std.proofs.lemmas.Result.{err_from_is_err_and}
use lib.ListN.{length}
use Rattle.base.specs.Search.{first_bad}
use Rattle.format.specs.Layout.{rows, row_count}
use Rattle.format.specs.Refusals.{bad_form, bad_range, bad_counts}
use Rattle.case_tests.specs.Order.{Counted}
use Rattle.case_tests.specs.Checked.{case_refusal}
use Rattle.case_tests.proofs.Cases.{whole_none, case_2, case_3, case_4, case_5, refused_as, all_students, all_workshops, counts_same}
use Rattle.case_tests.proofs.Finding.{first_by}
use Rattle.case_tests.proofs.check_each.Goals as goal
use Rattle.case_tests.proofs.check_each.Goals.{After-find, After-find-2, In_ok-tally, Else-bad_counts}

-- what the first and the second `find` give
found_form : (c : After-find) → c.find.result ≡ first_bad (bad_form (rows c.args.case.now)) (row_count c.args.case.now)
found_form c =
    let bad = bad_form (rows c.args.case.now) in
    rw (← c.row_count-rows.ensures)
    (first_by bad c.row_count-rows.result c.find.result
    (first_from_Range _ _ _ c.find.result (λ i. bad i ≡ true) (λ i. bad i ≡ false) c.find.ensures.ran (λ x q k. search rules) (λ x q k. search rules)))

found_range : (c : After-find-2) → c.find-2.result ≡ first_bad (bad_range (rows c.args.case.now)) (row_count c.args.case.now)
found_range c =
    let bad = bad_range (rows c.args.case.now) in
    rw (← c.row_count-rows.ensures)
    (first_by bad c.row_count-rows.result c.find-2.result
    (first_from_Range _ _ _ c.find-2.result (λ i. bad i ≡ true) (λ i. bad i ≡ false) c.find-2.ensures.ran (λ x q k. search rules) (λ x q k. search rules)))

counted : (c : In_ok-tally) → Counted c.args.case.now (row_count c.args.case.now) c.in_ok-tally.tally.students c.in_ok-tally.tally.workshops
counted c = c.in_ok-tally.ensures

counts : (c : Else-bad_counts) → bad_counts (rows c.args.case.now) ≡ false
counts c = counts_same c.args.case.now _ _ c.in_ok-tally.ensures ∙ sym c.bad_counts.ensures ∙ c.if-bad_counts.false

pub returns-in-Some : goal.returns-in-Some
returns-in-Some c =
    let case = c.args.case.now in
    let found = sym (found_form (goal.at.returns-in-Some c).After-find) ∙ c.in-Some.is in
    refused_as case (case_refusal case) 2 _ _ c.at.ensures (case_2 case (whole_none (length case % 16) c.requires) _ found)

pub tally_in_order-requires : goal.tally_in_order-requires
tally_in_order-requires c = sym (found_form (goal.at.tally_in_order-requires c).After-find) ∙ c.in_default.is

pub returns-in_err-tally : goal.returns-in_err-tally
returns-in_err-tally c =
    let case = c.args.case.now in
    let clean = sym (found_form (goal.at.returns-in_err-tally c).After-find) ∙ c.in_default.is in
    let p = err_from_is_err_and c.from_residual.result c.from_residual.ensures.1 in
    let e = c.in_err-tally.ensures in
    rw (p.1, p.2) (refused_as case (case_refusal case) 3 _ _ (rw (← e.0) refl) (case_3 case (whole_none (length case % 16) c.requires) clean _ e.1))

pub returns-then-bad_counts : goal.returns-then-bad_counts
returns-then-bad_counts c =
    let case = c.args.case.now in
    let clean = sym (found_form (goal.at.returns-then-bad_counts c).After-find) ∙ c.in_default.is in
    let all = counted (goal.at.returns-then-bad_counts c).In_ok-tally in
    let found = counts_same case _ _ all ∙ sym c.bad_counts.ensures ∙ c.if-bad_counts.true in
    refused_as case (case_refusal case) 4 0 _ c.at-then-bad_counts.ensures (case_4 case (whole_none (length case % 16) c.requires) clean all.order found)

pub returns-in-Some-find : goal.returns-in-Some-find
returns-in-Some-find c =
    let case = c.args.case.now in
    let at = goal.at.returns-in-Some-find c in
    let clean = sym (found_form at.After-find) ∙ c.in_default.is in
    let found = sym (found_range at.After-find-2) ∙ c.in-Some-find.is in
    refused_as case (case_refusal case) 5 _ _ c.at-in-Some-find.ensures
    (case_5 case (whole_none (length case % 16) c.requires) clean (counted at.In_ok-tally).order (counts at.Else-bad_counts) _ found)

pub counted-requires-clause-clean_case : goal.counted-requires-clause-clean_case
counted-requires-clause-clean_case c =
    let case = c.args.case.now in
    let at = goal.at.counted-requires-clause-clean_case c in
    let all = counted at.In_ok-tally in
    record {
      form = sym (found_form at.After-find) ∙ c.in_default.is;
      order = all.order;
      counts = counts at.Else-bad_counts;
      range = sym (found_range at.After-find-2) ∙ c.in_default-find.is;
      students = all_students case _ _ all;
      workshops = all_workshops case _ _ all;
    }
