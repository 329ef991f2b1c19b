-- `case_tests::check_case` meets its contract. Where the one pass comes to the end the case is clean and has its table; where it stops the case is not clean.
use Prim.Native.Nat.{◌%◌}
use mathlib.Core.Path.{◌∙◌, sym}
use lib.ListN.{length}
use Rattle.base.proofs.Tests.{never}
use Rattle.case_tests.specs.Checked.{CleanCase, case_refusal}
use Rattle.case_tests.proofs.Cases.{whole_some, case_1, refused_as, refused_none, none_clean}
use Rattle.case_tests.proofs.Tabling.{sound_clean, clean_stands, heads_few, heads_tabled, All, all_of, not_all}
use Rattle.case_tests.proofs.check_case.Goals as goal
use Rattle.case_tests.proofs.check_case.Goals.{Else-is_some}

-- no record stopped the pass over the pairs: all pass, and the table has all pairs
all : (e : Else-is_some) → All e.args.case.now e.heads-heads.result e.note_pairs.new.table
all e = all_of _ _ _ _ e.note_pairs.ensures (sym e.is_some.ensures ∙ e.if-is_some.false)

tidy : (e : Else-is_some) → (let o = e.heads-heads.result in CleanCase e.args.case.now o.students o.workshops)
tidy e = sound_clean _ _ _ (all e).sound (sym e.bad_counts.ensures ∙ e.if-bad_counts.false)

pub returns-then-case-ne0-clause-value : goal.returns-then-case-ne0-clause-value
returns-then-case-ne0-clause-value c =
    let case = c.args.case.now in
    let found = case_1 case (whole_some (length case % 16) c.if-case-ne0.true) in
    refused_as case (case_refusal case) 1 0 _ c.at.ensures found

pub returns-then-case-ne0-clause-made : goal.returns-then-case-ne0-clause-made
returns-then-case-ne0-clause-made c =
    let case = c.args.case.now in
    let found = case_1 case (whole_some (length case % 16) c.if-case-ne0.true) in λ e. refused_none (case_refusal case) 1 0 found e

pub returns-then-bad_counts-clause-made : goal.returns-then-bad_counts-clause-made
returns-then-bad_counts-clause-made c =
    let case = c.args.case.now in
    let heads = c.heads-heads in λ e.
    never (sym c.bad_counts.ensures ∙ c.if-bad_counts.true)
    (heads_few case heads.result heads.ensures _ _ (none_clean case e))

pub returns-then-is_some-clause-made : goal.returns-then-is_some-clause-made
returns-then-is_some-clause-made c = λ e. absurd (not_all _ _ _ _ c.note_pairs.ensures (sym c.is_some.ensures ∙ c.if-is_some.true) (none_clean _ e))

pub note_starts-requires-clause-standing : goal.note_starts-requires-clause-standing
note_starts-requires-clause-standing c = clean_stands _ _ _ (tidy (goal.at.note_starts-requires-clause-standing c).Else-is_some)

pub counted-requires-clause-clean_case : goal.counted-requires-clause-clean_case
counted-requires-clause-clean_case c = tidy (goal.at.counted-requires-clause-clean_case c).Else-is_some

pub returns-clause-made : goal.returns-clause-made
returns-clause-made c =
    let e = (goal.at.returns-clause-made c).Else-is_some in
    let o = c.heads-heads in λ n.
    heads_tabled c.args.case.now o.result o.ensures (tidy e) _ _ (all e).noted c.note_starts.ensures
