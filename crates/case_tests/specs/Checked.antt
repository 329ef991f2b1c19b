-- What a test of the input answers, by document 01's table of causes.
use Rattle.std.specs.Prelude.{ℕ, ◌≡◌, false, List, Option, Some, None, Result, Ok, Err}
use Rattle.base.specs.Lists.{tally}
use Rattle.base.specs.Search.{first_bad}
use Rattle.format.specs.Layout.{rows, row_count, of_kind}
use Rattle.format.specs.Causes.{first_cause}
use Rattle.format.specs.Refusals.{bad_form, bad_order, bad_counts, bad_range, case_causes}
use Rattle.format.specs.Engine.{market_in}
use Rattle.api.specs.declared.Refusal.{Refusal}
use Rattle.api.specs.Causes.{refusal_for}
use Rattle.case_tests.specs.declared.Counts.{Counts}

-- how many pair records the case has
abbrev pub pair_count : List ℕ → ℕ
pair_count case = tally (of_kind 3) (rows case)

-- a refusal's number and place, or the counts of the case
unfoldable pub checked_of : Option (ℕ × ℕ) → List ℕ → Result Counts Refusal
checked_of (Some r) case = Err (refusal_for r.0 r.1)
checked_of None case =
    Ok (record { students = (market_in case).students; workshops = (market_in case).workshops; pairs = pair_count case })

-- causes 1 to 5 and 13
abbrev pub case_refusal : List ℕ → Option (ℕ × ℕ)
case_refusal case = first_cause (case_causes case)

-- causes 2 to 5 find nothing in the case, which has n students and m workshops
pub record CleanCase (case : List ℕ) (n m : ℕ) : Type 0 where
  pub form : first_bad (bad_form (rows case)) (row_count case) ≡ None
  pub order : first_bad (bad_order (rows case)) (row_count case) ≡ None
  pub counts : bad_counts (rows case) ≡ false
  pub range : first_bad (bad_range (rows case)) (row_count case) ≡ None
  pub students : n ≡ (market_in case).students
  pub workshops : m ≡ (market_in case).workshops
