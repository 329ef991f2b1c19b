-- A case in which causes 1 to 5 and 13 find nothing is in range, and its text fits where there is room by the counts of its records.
use Prim.Native.Nat.{ℕ, zero, suc, ◌+◌, ◌-◌, ◌*◌, ◌≤◌, ◌<◌}
use mathlib.Core.Path.{◌≡◌}
use mathlib.Core.List.{List}
use native.Mathlib.Omega.{arith}
use lib.ListN.{length}
use Rattle.base.specs.Lists.{tally}
use Rattle.base.proofs.Grid.{named_within}
use Rattle.format.specs.Layout.{row_at, rows, row_count, of_kind, market_of}
use Rattle.format.specs.Causes.{NothingFound}
use Rattle.format.specs.Refusals.{case_causes}
use Rattle.format.specs.Engine.{market_in}
use Rattle.format.proofs.Sorted.{Clean}
use Rattle.format.proofs.Positions.{PairAt, pair_record, pair_says, student_tier_at, student_outside_at, places}
use Rattle.format.proofs.Reading.{student_range, tiers_range}
use Rattle.format.proofs.Cases.{case_clean, case_passed, case_wf, case_counts}
use Rattle.wish_lines.specs.Wishes.{wish_text, pairs_of, Option?, Ranged}
use Rattle.wish_lines.proofs.Length.{text_length}

module _ (case : List ℕ) (nothing : NothingFound (case_causes case)) where
  clean : Clean case (row_count case)
  clean = case_clean case nothing

  pub student_row : (s : ℕ) → 1 ≤ s → s ≤ (market_in case).students → (s - 1 < row_count case) × ((row_at case (s - 1)).kind ≡ 1) × ((row_at case (s - 1)).first ≡ s)
  student_row s l u =
      let r : ((row_at case (s - 1)).kind ≡ 1) × ((row_at case (s - 1)).first ≡ suc (s - 1)) = (places case clean).student (s - 1) (omega arith) in
      (omega (arith, (places case clean).whole), r.0, omega arith)

  in_range : (s x : ℕ) → 1 ≤ s → s ≤ (market_in case).students → Option? (market_in case) s x
      → (1 ≤ (market_in case).student_tier s x) × ((market_in case).student_tier s x ≤ 65)
  in_range s zero l u e =
      let r = student_row s l u in
      rw (student_outside_at case clean s l u) (student_range case (s - 1) r.0 ((case_passed case nothing).range (s - 1) r.0) r.1).1
  in_range s (suc w) l u e =
      let k : (i : ℕ) × PairAt case s (suc w) i = pair_record case s (suc w) e in
      let kind = (pair_says s (suc w) (row_at case k.0) k.1.pair).0 in
      rw (student_tier_at case clean s (suc w) k.0 k.1.inside k.1.pair)
      (tiers_range case k.0 k.1.inside ((case_passed case nothing).range k.0 k.1.inside) kind).0

  pub ranged : Ranged (market_in case)
  ranged =
      record {
        students = (case_counts case nothing).0.1;
        workshops = (case_counts case nothing).1.1;
        student = (case_wf case nothing).student;
        workshop = (case_wf case nothing).workshop;
        tier = in_range;
      }

  -- no more pairs than pair records
  pairs_recorded : pairs_of (market_in case) ≤ tally (of_kind 3) (rows case)
  unfolding pairs_of market_of
  pairs_recorded = named_within (tally (of_kind 1) (rows case)) (tally (of_kind 2) (rows case)) (of_kind 3) (λ r. r.first) (λ r. r.second) (rows case)

  pub text_room_lem : length (wish_text (market_in case)) ≤ 8 * (market_in case).students + 4 * tally (of_kind 3) (rows case)
  text_room_lem = omega (arith, text_length (market_in case) ranged, pairs_recorded)
