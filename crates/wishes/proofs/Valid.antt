-- The copy of a valid case with the groups of a text that is read: causes 1 to 5 and 13 find nothing in it.
use Prim.Native.Nat.{ℕ, zero, suc, ◌-◌, ◌≤◌, ◌<◌}
use mathlib.Core.Path.{◌≡◌, refl, sym, ap, ◌∙◌, subst, fun_ext}
use mathlib.Core.Logic.{⊎_elim}
use mathlib.Core.Bool.{Bool, true, false}
use mathlib.Core.List.{List, [], ◌∷◌, map}
use mathlib.Core.List.Memᴰ.{cases_cons}
use mathlib.Core.List.Memᴰ.{head as here}
use mathlib.Core.List.Memᴰ.{tail as later}
use native.Mathlib.Omega.{arith}
use lib.ListN.{length, get_or, take, length-map, get_or-map}
use borrow.Author.Tests.{eq-eqb, ne_eqb}
use Rattle.base.specs.Lists.{any, tally}
use Rattle.base.proofs.Tests.{never, and_make, or_false, eq?}
use Rattle.base.proofs.Below.{tabulate_length}
use Rattle.format.specs.Layout.{Row, row_at, rows, row_count, no_row, of_kind, unnamed, is_student, is_workshop, is_pair, has_lot}
use Rattle.format.specs.Causes.{Finds, First, NothingFound}
use Rattle.format.specs.Refusals.{bad_form, kind_falls, bad_number, not_rising, names_nobody, bad_order}
use Rattle.format.specs.Refusals.{bad_counts, bad_student, bad_workshop, bad_tiers, bad_range, bad_lot}
use Rattle.format.specs.Refusals.{case_causes}
use Rattle.format.specs.Engine.{market_in}
use Rattle.format.proofs.Sorted.{row_at_lem, is_within}
use Rattle.format.proofs.Positions.{student_from, places, pair_names, pair_there}
use Rattle.format.proofs.Reading.{student_range, tiers_range}
use Rattle.format.proofs.Cases.{case_whole, case_clean, case_passed}
use Rattle.format.proofs.Encoding.{case_length}
use Rattle.wish_lines.specs.Lines.{Line}
use Rattle.wish_lines.specs.Reading.{read, read_lines}
use Rattle.wish_lines.specs.Wishes.{Option?}
use Rattle.wishes.specs.Copy.{with_third, with_wish, wished}
use Rattle.wishes.proofs.Case.{unseen, no_row_lem, any_new, tally_new, new_rows, student_third, pair_third, wish_cases}
use Rattle.wishes.proofs.Copy.{line_range}

take_map : {A B : Type 0} (f : A → B) (i : ℕ) (xs : List A) → take i (map f xs) ≡ map f (take i xs)
take_map f zero xs = refl
take_map f (suc i) [] = refl
take_map f (suc i) (x ∷ xs) = ap (λ l. f x ∷ l) (take_map f i xs)

-- ---- tests that do not see the change

module _ (ls : List Line) (rs : List Row) where
  abbrev new : Row → Row
  new = with_wish ls

  pub new_at : (i : ℕ) → get_or (map new rs) i no_row ≡ new (get_or rs i no_row)
  new_at i = ap (get_or (map new rs) i) (sym (no_row_lem ls)) ∙ get_or-map new rs i no_row

  field : {B : Type 0} (f : Row → B) → ((r : Row) (x : ℕ) → f (with_third r x) ≡ f r) → (i : ℕ) → f (get_or (map new rs) i no_row) ≡ f (get_or rs i no_row)
  field f h i = ap f (new_at i) ∙ unseen ls f h (get_or rs i no_row)

  kind : (i : ℕ) → (get_or (map new rs) i no_row).kind ≡ (get_or rs i no_row).kind
  kind = field (λ r. r.kind) (λ r x. refl)

  first : (i : ℕ) → (get_or (map new rs) i no_row).first ≡ (get_or rs i no_row).first
  first = field (λ r. r.first) (λ r x. refl)

  second : (i : ℕ) → (get_or (map new rs) i no_row).second ≡ (get_or rs i no_row).second
  second = field (λ r. r.second) (λ r x. refl)

  fourth : (i : ℕ) → (get_or (map new rs) i no_row).fourth ≡ (get_or rs i no_row).fourth
  fourth = field (λ r. r.fourth) (λ r x. refl)

  any_before : (p : Row → Bool) → ((r : Row) (x : ℕ) → p (with_third r x) ≡ p r) → (i : ℕ) → any p (take i (map new rs)) ≡ any p (take i rs)
  any_before p h i = ap (any p) (take_map new i rs) ∙ any_new ls p (unseen ls p h) (take i rs)

  tally_before : (p : Row → Bool) → ((r : Row) (x : ℕ) → p (with_third r x) ≡ p r) → (i : ℕ) → tally p (take i (map new rs)) ≡ tally p (take i rs)
  tally_before p h i = ap (tally p) (take_map new i rs) ∙ tally_new ls p (unseen ls p h) (take i rs)

  unnamed_same : (i : ℕ) → unnamed (get_or (map new rs) i no_row) ≡ unnamed (get_or rs i no_row)
  unfolding unnamed
  unnamed_same = field unnamed (λ r x. refl)

  form_same : bad_form (map new rs) ≡ bad_form rs
  unfolding bad_form
  form_same = fun_ext (λ i. rw (unnamed_same i, kind i))

  order_same : bad_order (map new rs) ≡ bad_order rs
  unfolding bad_order kind_falls bad_number not_rising names_nobody
  order_same =
      fun_ext (λ i.
      rw (
        kind i,
        kind (i - 1),
        first i,
        first (i - 1),
        second i,
        second (i - 1),
        tally_before (of_kind (get_or rs i no_row).kind) (λ r x. refl) i,
        any_before (is_student (get_or rs i no_row).first) (λ r x. refl) i,
        any_before (is_workshop (get_or rs i no_row).second) (λ r x. refl) i,
      ))

  counts_same : bad_counts (map new rs) ≡ bad_counts rs
  unfolding bad_counts
  counts_same = rw (tally_new ls (of_kind 1) (unseen ls (of_kind 1) (λ r x. refl)) rs, tally_new ls (of_kind 2) (unseen ls (of_kind 2) (λ r x. refl)) rs)

  lot_same : bad_lot (map new rs) ≡ bad_lot rs
  unfolding bad_lot
  lot_same = fun_ext (λ i. rw (kind i, fourth i, any_before (has_lot (get_or rs i no_row).fourth) (λ r x. refl) i))

module _ (case : List ℕ) (nothing : NothingFound (case_causes case)) (t : List ℕ) (ls : List Line) (e : read_lines (market_in case) t ≡ read ls) where
  abbrev changed : List Row
  changed = map (with_wish ls) (rows case)

  pub copy_length : length (wished ls case) ≡ length case
  unfolding wished rows
  copy_length =
      omega (
        arith,
        case_length (map (with_wish ls) (rows case)),
        length-map (rows case) (with_wish ls),
        tabulate_length (row_at case) (row_count case),
        case_whole case nothing,
      )

  module _ (i : ℕ) (l : i < row_count case) where
    at : get_or changed i no_row ≡ with_wish ls (row_at case i)
    at = new_at ls (rows case) i ∙ ap (with_wish ls) (row_at_lem case i l)

    keep_second : (with_wish ls (row_at case i)).second ≡ (row_at case i).second
    keep_second = unseen ls (λ r. r.second) (λ r x. refl) (row_at case i)

    keep_kind : (with_wish ls (row_at case i)).kind ≡ (row_at case i).kind
    keep_kind = unseen ls (λ r. r.kind) (λ r x. refl) (row_at case i)

    keep_fourth : (with_wish ls (row_at case i)).fourth ≡ (row_at case i).fourth
    keep_fourth = unseen ls (λ r. r.fourth) (λ r x. refl) (row_at case i)

    pub keep_third : ((row_at case i).kind ≡ 1 → ⊥) → ((row_at case i).kind ≡ 3 → ⊥) → with_wish ls (row_at case i) ≡ row_at case i
    keep_third a b = ⊎_elim (λ c. ⊎_elim (λ k. absurd (a k)) (λ k. absurd (b k)) c.1) (λ c. c) (wish_cases ls (row_at case i))

    -- a student's line group, and a pair's group, are within cause 5's range
    pub her_range : (row_at case i).kind ≡ 1 → (1 ≤ (with_wish ls (row_at case i)).third) × ((with_wish ls (row_at case i)).third ≤ 65)
    her_range k =
        let u : i < (market_in case).students = student_from case (case_clean case nothing) i l k in
        let f : (row_at case i).first ≡ suc i = ((places case (case_clean case nothing)).student i u).1 in
        rw (student_third ls (row_at case i) (suc i) k f) (line_range case nothing t ls e (suc i) 0 (omega arith) u refl)

    pub pair_range : (row_at case i).kind ≡ 3 → (1 ≤ (with_wish ls (row_at case i)).third) × ((with_wish ls (row_at case i)).third ≤ 65)
    pair_range k =
        let n = pair_names case (case_clean case nothing) i l k in
        rw (pair_third ls (row_at case i) (row_at case i).first (row_at case i).second k refl refl)
        (line_range case nothing t ls e (row_at case i).first (row_at case i).second n.0.0 n.0.1 (option (row_at case i).second refl n.1.0))
      where
        is_pair_lem : is_pair (row_at case i).first (row_at case i).second (row_at case i) ≡ true
        is_pair_lem = and_make (eq-eqb (row_at case i).kind 3 k) (and_make (eq-eqb (row_at case i).first _ refl) (eq-eqb (row_at case i).second _ refl))

        option : (w : ℕ) → (row_at case i).second ≡ w → 1 ≤ w → Option? (market_in case) (row_at case i).first w
        option zero q low = refl
        option (suc w) q low =
            subst (λ x. (market_in case).paired (row_at case i).first x ≡ true) q
            (pair_there case (case_clean case nothing) (row_at case i).first (row_at case i).second i l is_pair_lem)

    student_good : bad_student changed i ≡ false
    unfolding bad_student
    student_good =
        rw (at, keep_kind, keep_second)
        (⊎_elim
        (λ (k : (row_at case i).kind ≡ 1).
        let r = student_range case i l ((case_passed case nothing).range i l) k in
        let p = her_range k in
        rw (
          is_within 1 512 (row_at case i).second r.0.0 r.0.1,
          is_within 1 65 (with_wish ls (row_at case i)).third p.0 p.1,
          k,
        ))
        (λ (k : (row_at case i).kind ≡ 1 → ⊥). rw (ne_eqb (row_at case i).kind 1 k))
        (eq? (row_at case i).kind 1))

    pair_good : bad_tiers changed i ≡ false
    unfolding bad_tiers
    pair_good =
        rw (at, keep_kind, keep_fourth)
        (⊎_elim
        (λ (k : (row_at case i).kind ≡ 3).
        let r = tiers_range case i l ((case_passed case nothing).range i l) k in
        let p = pair_range k in
        rw (
          is_within 1 513 (row_at case i).fourth r.1.0 r.1.1,
          is_within 1 65 (with_wish ls (row_at case i)).third p.0 p.1,
          k,
        ))
        (λ (k : (row_at case i).kind ≡ 3 → ⊥). rw (ne_eqb (row_at case i).kind 3 k))
        (eq? (row_at case i).kind 3))

    workshop_was : bad_workshop (rows case) i ≡ false
    unfolding bad_range
    workshop_was =
        (or_false (bad_workshop (rows case) i) _ (or_false (bad_student (rows case) i) _ ((case_passed case nothing).range i l)).1).0

    workshop_good : bad_workshop changed i ≡ false
    unfolding bad_workshop
    workshop_good =
        rw at
        (⊎_elim
        (λ (k : (row_at case i).kind ≡ 2).
        rw (keep_third (λ a. omega arith) (λ b. omega arith)) (rw (row_at_lem case i l) at (workshop_was)))
        (λ (k : (row_at case i).kind ≡ 2 → ⊥). rw (keep_kind, ne_eqb (row_at case i).kind 2 k))
        (eq? (row_at case i).kind 2))

    range_good : bad_range changed i ≡ false
    unfolding bad_range
    range_good = rw (student_good, workshop_good, pair_good)

  -- the causes of the copy
  pub copy_nothing : NothingFound (case_causes (wished ls case))
  unfolding case_causes
  copy_nothing =
      rw (
        new_rows ls case nothing,
        copy_length,
        form_same ls (rows case),
        order_same ls (rows case),
        counts_same ls (rows case),
        lot_same ls (rows case),
      )
      (λ c m0 i f.
      ⊎_elim (λ q. nothing c (here q) i f)
      (λ m1.
      ⊎_elim (λ q. nothing c (later (here q)) i f)
      (λ m2.
      ⊎_elim (λ q. nothing c (later (later (here q))) i f)
      (λ m3.
      ⊎_elim (λ q. nothing c (later (later (later (here q)))) i f)
      (λ m4.
      ⊎_elim (λ q. let g : First (bad_range changed) (row_count case) i = subst (λ d. Finds d.1 i) q f in never g.found (range_good i g.within))
      (λ m5. nothing c (later (later (later (later (later m5))))) i f)
      (cases_cons m4))
      (cases_cons m3))
      (cases_cons m2))
      (cases_cons m1))
      (cases_cons m0))
