-- A case in which the causes of the case find nothing, or the first five of them.
use Prim.Native.Nat.{ℕ, ◌%◌, ◌≤◌}
use mathlib.Core.Path.{◌≡◌, refl}
use mathlib.Core.Bool.{not}
use mathlib.Core.List.{List, [], ◌∷◌}
use mathlib.Core.List.Memᴰ.{append_left as in_left}
use mathlib.Core.List.Memᴰ.{head as here}
use mathlib.Core.List.Memᴰ.{tail as later}
use native.Mathlib.Omega.{arith}
use lib.Dec.{eqb}
use lib.ListN.{length, take}
use borrow.Author.Tests.{eqb-true, not-false}
use Rattle.base.proofs.Tests.{is_false}
use Rattle.lgs.proofs.Valid.{WellFormed}
use Rattle.format.specs.Layout.{rows, row_count}
use Rattle.format.specs.Causes.{whole, each, NothingFound}
use Rattle.format.specs.Refusals.{bad_form, bad_order, bad_counts, bad_range, bad_lot, case_causes}
use Rattle.format.specs.Engine.{market_in}
use Rattle.format.proofs.Sorted.{Clean}
use Rattle.format.proofs.Reading.{Passed, market_wf, counts_range}
use Rattle.format.proofs.Causes.{all_pass}

-- ---- a case in which causes 1 to 5 find nothing
pub five_clean : (case : List ℕ) → NothingFound (take 5 (case_causes case)) → Clean case (row_count case)
unfolding case_causes
five_clean case nothing =
    record {
      inside = omega arith;
      form = all_pass (bad_form (rows case)) (row_count case) (nothing _ (later (here refl)));
      order = all_pass (bad_order (rows case)) (row_count case) (nothing _ (later (later (here refl))));
    }

-- ---- a case in which the causes of the case find nothing
module _ (case : List ℕ) (nothing : NothingFound (case_causes case)) where
  pub case_whole : length case % 16 ≡ 0
  unfolding case_causes
  case_whole =
      eqb-true _ _ (not-false _ (is_false (not (eqb (length case % 16) 0)) (λ b. nothing (1, whole (not (eqb (length case % 16) 0))) (here refl) 0 (b, refl))))

  pub case_clean : Clean case (row_count case)
  unfolding case_causes
  case_clean = five_clean case (λ c m. nothing c (in_left ((13, each (row_count case) (bad_lot (rows case))) ∷ []) m))

  -- with a book that has no record
  pub case_passed : Passed case []
  unfolding case_causes
  case_passed =
      record {
        form = case_clean.form;
        order = case_clean.order;
        range = all_pass (bad_range (rows case)) (row_count case) (nothing _ (later (later (later (later (here refl))))));
        lots = all_pass (bad_lot (rows case)) (row_count case) (nothing _ (later (later (later (later (later (here refl)))))));
        pair = λ i l. absurd (omega arith);
        scores = λ i l. absurd (omega arith);
        repeat = λ i l. absurd (omega arith);
        tie = λ i l. absurd (omega arith);
      }

  pub case_wf : WellFormed (market_in case)
  case_wf = market_wf case [] case_passed

  pub case_counts : ((1 ≤ (market_in case).students) × ((market_in case).students ≤ 512)) × ((1 ≤ (market_in case).workshops) × ((market_in case).workshops ≤ 64))
  unfolding case_causes
  case_counts =
      counts_range case
      (is_false (bad_counts (rows case)) (λ b. nothing (4, whole (bad_counts (rows case))) (later (later (later (here refl)))) 0 (b, refl)))
