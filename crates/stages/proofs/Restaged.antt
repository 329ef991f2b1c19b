-- A case with other stages written into its student records is read as the same case but for these stages: it is valid where the case was, its market
-- is the case's with these stages, and where they agree the list of a finished run is the smallest.
use Prim.Native.Nat.{ℕ, zero, suc, ◌-◌, ◌≤◌, ◌<◌}
use mathlib.Core.Path.{◌≡◌, refl, sym, subst, ap, ◌∙◌, fun_ext}
use mathlib.Core.Logic.{◌⊎◌, inl, inr, ⊎_elim}
use mathlib.Core.Bool.{true, false}
use mathlib.Core.List.{List, [], ◌∷◌, ◌++◌, map}
use mathlib.Core.List.Memᴰ.{of_map}
use mathlib.Core.List.{Memᴰ as Mem}
use mathlib.Core.List.Memᴰ.{append_left as in_left}
use mathlib.Core.List.Memᴰ.{append_right as in_right}
use native.Mathlib.Omega.{arith}
use lib.ListN.{length, get_or, length-map, get_or-map, get_or-eq_default}
use borrow.Author.Tests.{eqb-true, eqb-false, eq-eqb, ne_eqb}
use Rattle.base.specs.Lists.{find}
use Rattle.base.proofs.Tests.{bool_cases, never, and_make, or_false, is_false, eq?, less?}
use Rattle.base.proofs.Below.{tabulate_length, tabulate_in, any_below_lem, any_none, find_none, find_map}
use Rattle.lgs.specs.Market.{matters, Rivals, ConsistentStages}
use Rattle.lgs.specs.Stages.{stage_of, FromOne, LeastStages}
use Rattle.lgs.proofs.Unpriced.{altered}
use Rattle.format.specs.Layout.{Row, row_at, rows, row_count, no_row, with_second, of_kind, is_student, market_of}
use Rattle.format.specs.Encoding.{Bytes, RowFits}
use Rattle.format.specs.Causes.{each, NothingFound}
use Rattle.format.specs.Refusals.{bad_student, bad_range, Room, case_causes, causes}
use Rattle.format.specs.Engine.{market_in}
use Rattle.format.specs.Promises.{Valid}
use Rattle.stages.specs.Restaged.{with_stage, restaged, market_with}
use Rattle.stages.specs.Promises.{ShortList}
use Rattle.format.proofs.Alike.{Alike, same, other_stage, Alikes, empty, more, kind_kept, third_kept, student_kept, workshop_same, tiers_same}
use Rattle.format.proofs.Alike.{market_staged, before, after, case_same, rest_same}
use Rattle.format.proofs.Sorted.{is_within, row_at_lem, Clean, kinds_before}
use Rattle.format.proofs.Positions.{student_place, student_found, students_count, places}
use Rattle.format.proofs.Reading.{student_range}
use Rattle.format.proofs.Causes.{nothing_more, nothing_both}
use Rattle.format.proofs.Encoding.{case_length, round_trip, row_fits}
use Rattle.format.proofs.Cases.{case_whole, case_clean, case_passed, case_counts}
use Rattle.format.proofs.Promises.{demand3}

-- ---- a record with another stage

module _ (stages : List ℕ) where
  abbrev new : Row → Row
  new = with_stage stages

  no_row_lem : new no_row ≡ no_row
  unfolding with_stage
  no_row_lem = refl

  module _ (r : Row) where
    -- a student's record has the stage from the list, and another is as it was
    new_cases : ((r.kind ≡ 1) × (new r ≡ with_second r (stage_of stages r.first))) ⊎ ((r.kind ≡ 1 → ⊥) × (new r ≡ r))
    unfolding with_stage
    new_cases =
        ⊎_elim (λ (e : of_kind 1 r ≡ true). inl (eqb-true _ _ e, rw e)) (λ (e : of_kind 1 r ≡ false). inr (eqb-false _ _ e, rw e)) (bool_cases (of_kind 1 r))

    new_second : r.kind ≡ 1 → (new r).second ≡ stage_of stages r.first
    new_second k = ⊎_elim (λ e. ap (λ q. q.second) e.1) (λ e. absurd (e.0 k)) new_cases

    new_alike : Alike 1 r (new r)
    new_alike = ⊎_elim (λ e. rw e.1 (other_stage _ refl e.0)) (λ e. rw e.1 same) new_cases

    fits_kept : ((s : ℕ) → stage_of stages s ≤ 512) → RowFits r → RowFits (new r)
    fits_kept few f =
        ⊎_elim
        (λ e.
        rw e.1
        (record {
          kind = f.kind;
          pad = f.pad;
          first = f.first;
          second = omega (arith, few r.first);
          third = f.third;
          fourth = f.fourth;
          fifth = f.fifth;
          sixth = f.sixth;
          seventh = f.seventh;
        }))
        (λ e. rw e.1 f)
        new_cases

  -- ---- the records with other stages
  news_alike : (rs : List Row) → Alikes 1 rs (map new rs)
  news_alike [] = empty
  news_alike (r ∷ rs) = more (new_alike r) (news_alike rs)

  new_at : (rs : List Row) (i : ℕ) → get_or (map new rs) i no_row ≡ new (get_or rs i no_row)
  new_at rs i = ap (get_or (map new rs) i) (sym no_row_lem) ∙ get_or-map new rs i no_row

  find_student : (rs : List Row) (s : ℕ) → find (is_student s) no_row (map new rs) ≡ new (find (is_student s) no_row rs)
  find_student rs s = find_map new (is_student s) (λ r. student_kept s r (new r) (new_alike r)) no_row no_row_lem rs

-- ---- the case with other stages
module _ (case stages : List ℕ)
    (nothing : NothingFound (case_causes case))
    (sized : length stages ≡ (market_in case).students)
    (from_one : FromOne (market_in case) (stage_of stages))
    (few : (s : ℕ) → stage_of stages s ≤ 512) where
  c : Clean case (row_count case)
  c = case_clean case nothing

  new_rows : rows (restaged stages case) ≡ map (with_stage stages) (rows case)
  unfolding restaged
  new_rows = round_trip.case (map (with_stage stages) (rows case))

  like : Alikes 1 (rows case) (rows (restaged stages case))
  like = rw new_rows (news_alike stages (rows case))

  new_length : length (restaged stages case) ≡ length case
  unfolding restaged rows
  new_length =
      omega (
        arith,
        case_length (map (with_stage stages) (rows case)),
        length-map (rows case) (with_stage stages),
        tabulate_length (row_at case) (row_count case),
        case_whole case nothing,
      )

  new_bytes : Bytes case → Bytes (restaged stages case)
  unfolding restaged rows
  new_bytes b =
      round_trip.case_is_bytes (map (with_stage stages) (rows case))
      (λ r m.
      let x : (q : Row) × Mem q (rows case) × (with_stage stages q ≡ r) = of_map (with_stage stages) (rows case) m in
      let k : (i : ℕ) × (i < row_count case) × (x.0 ≡ row_at case i) = tabulate_in (row_at case) (row_count case) x.0 x.1 in
      subst RowFits x.2 (fits_kept stages x.0 few (rw k.2 (row_fits case k.0 b))))

  -- the stage of each number
  no_student : (s : ℕ) → ((1 ≤ s) × (s ≤ (market_in case).students) → ⊥) → find (is_student s) no_row (rows case) ≡ no_row
  unfolding rows
  no_student s out =
      find_none (is_student s) no_row (rows case)
      (any_below_lem (row_at case) (is_student s) (row_count case)
      ∙ any_none (λ k. is_student s (row_at case k)) (row_count case)
      (λ k l.
      is_false (is_student s (row_at case k))
      (λ b.
      let p : (k < kinds_before case 1 (row_count case)) × (s ≡ suc k) = student_place case (row_count case) c s k l b in
      out (omega arith, omega (arith, students_count case)))))

  past : (s : ℕ) → ((1 ≤ s) × (s ≤ length stages) → ⊥) → stage_of stages s ≡ 0
  past zero out = refl
  past (suc s) out =
      ⊎_elim (λ (l : s < length stages). absurd (out (omega arith, omega arith))) (λ (u : length stages ≤ s). get_or-eq_default stages 0 u)
      (less? s (length stages))

  found_stage : (s : ℕ) → (market_in (restaged stages case)).stage s ≡ stage_of stages s
  unfolding market_of
  found_stage s =
      rw (new_rows, find_student stages (rows case) s)
      (⊎_elim
      (λ (l : s < 1). beyond (λ q. omega (arith, q)))
      (λ (l : 1 ≤ s).
      ⊎_elim (λ (u : (market_in case).students < s). beyond (λ q. omega (arith, q))) (λ (u : s ≤ (market_in case).students). inside l u)
      (less? (market_in case).students s))
      (less? s 1))
    where
      beyond : ((1 ≤ s) × (s ≤ (market_in case).students) → ⊥) → (with_stage stages (find (is_student s) no_row (rows case))).second ≡ stage_of stages s
      beyond out = rw (no_student s out, no_row_lem stages) (sym (past s (λ q. out (q.0, omega (arith, q)))))

      inside : 1 ≤ s → s ≤ (market_in case).students → (with_stage stages (find (is_student s) no_row (rows case))).second ≡ stage_of stages s
      inside l u =
          let r : ((row_at case (s - 1)).kind ≡ 1) × ((row_at case (s - 1)).first ≡ suc (s - 1)) = (places case c).student (s - 1) (omega arith) in
          let e : (row_at case (s - 1)).first ≡ s = omega arith in
          rw (student_found case c s l u) (new_second stages (row_at case (s - 1)) r.0 ∙ ap (stage_of stages) e)

  pub new_market : market_in (restaged stages case) ≡ market_with (market_in case) stages
  new_market = market_staged like ∙ ap (λ stage. altered (market_in case) stage (market_in case).fare) (fun_ext found_stage)

  -- the ranges: a student's new stage is from 1 to 512
  new_student : (i : ℕ) → i < row_count case → bad_student (rows (restaged stages case)) i ≡ false
  unfolding bad_student
  new_student i l =
      rw (new_rows, new_at stages (rows case) i, row_at_lem case i l)
      (⊎_elim
      (λ (k : (row_at case i).kind ≡ 1).
      let p : (i < kinds_before case 1 (row_count case)) × ((row_at case i).first ≡ suc i) =
      student_place case (row_count case) c (row_at case i).first i l (and_make (eq-eqb _ _ k) (eq-eqb (row_at case i).first _ refl)) in
      rw (
        new_second stages (row_at case i) k,
        third_kept (row_at case i) _ (new_alike stages (row_at case i)),
        is_within 1 512 (stage_of stages (row_at case i).first) (from_one (row_at case i).first (omega arith) (omega (arith, students_count case)))
            (few (row_at case i).first),
        is_within 1 65 (row_at case i).third (student_range case i l ((case_passed case nothing).range i l) k).1.0
            (student_range case i l ((case_passed case nothing).range i l) k).1.1,
        kind_kept (row_at case i) _ (new_alike stages (row_at case i)),
        k,
      ))
      (λ (ne : (row_at case i).kind ≡ 1 → ⊥). rw (kind_kept (row_at case i) _ (new_alike stages (row_at case i)), ne_eqb (row_at case i).kind 1 ne))
      (eq? (row_at case i).kind 1))

  new_range : (i : ℕ) → i < row_count case → bad_range (rows (restaged stages case)) i ≡ false
  unfolding bad_range
  new_range i l =
      rw (new_student i l, workshop_same like i, tiers_same like i)
      (or_false (bad_student (rows case) i) _ ((case_passed case nothing).range i l)).1

  -- the causes of the case are those of the new one, but for that of the ranges, which finds nothing
  pub new_nothing : NothingFound (case_causes (restaged stages case))
  unfolding case_causes
  new_nothing =
      subst NothingFound (sym (case_same case (restaged stages case) like new_length))
      (nothing_both (before case) _ (λ d m. nothing d (in_left _ m))
      (nothing_more _ (after case) (λ i f. never f.found (new_range i f.within))
      (λ d m. nothing d (in_right (before case ++ ((5, each (row_count case) (bad_range (rows case))) ∷ [])) m))))

  new_valid : (book : List ℕ) (lent : Room) → Valid case book lent → Valid (restaged stages case) book lent
  unfolding causes
  new_valid book lent valid =
      nothing_both (case_causes (restaged stages case)) _ new_nothing
      (subst NothingFound (sym (rest_same case (restaged stages case) like book lent)) (λ d m. valid d (in_right (case_causes case) m)))

  module _ (consistent : ConsistentStages (market_in case) (stage_of stages)) where
    new_agree : ConsistentStages (market_in (restaged stages case)) (market_in (restaged stages case)).stage
    unfolding matters
    new_agree =
        rw new_market
        (record {
          earlier = λ w s t r. consistent.earlier w s t (rivals w s t r);
          together = λ w s t r. consistent.together w s t (rivals w s t r);
        })
      where
        rivals : (w s t : ℕ) → Rivals (market_with (market_in case) stages) w s t → Rivals (market_in case) w s t
        rivals w s t r = record { first = r.first; second = r.second }

    pub restaged_short : ShortList case stages
    restaged_short =
        record {
          bytes = new_bytes;
          long = new_length;
          records = new_rows;
          valid = new_valid;
          market = new_market;
          agree = new_agree;
          smallest = λ book lent places vs fares e. (demand3 (restaged stages case) book lent places vs fares e).minimal new_agree;
          cheapest = λ book lent places vs fares e. (demand3 (restaged stages case) book lent places vs fares e).cheapest new_agree;
        }

-- the least stages are such
pub least_short : (case stages : List ℕ) → NothingFound (case_causes case) → LeastStages (market_in case) stages → ShortList case stages
least_short case stages nothing L =
    restaged_short case stages nothing L.whole L.from_one (λ s. omega (arith, L.few s, case_counts case nothing)) L.agree
