-- What a case and a book that pass the tests hold: a market that is well formed, and results that part those of a tier.
-- Each lookup finds a record by its place, and the tests that this record passed give the rest.
use Prim.Native.Nat.{ℕ, zero, suc, ◌≤◌, ◌<◌}
use mathlib.Core.Path.{◌≡◌, refl, sym, ap, ◌∙◌}
use mathlib.Core.Logic.{⊎_elim}
use mathlib.Core.Bool.{Bool, true, false, not, ◌||◌}
use mathlib.Core.List.{List}
use native.Mathlib.Omega.{arith}
use native.Mathlib.Nat.{eq-or-lt_of_le}
use lib.Dec.{eqb}
use lib.ListN.{get_or, take}
use borrow.Author.Tests.{eqb-true, eqb-false, eq-eqb, ltb-false}
use Rattle.base.specs.Lists.{any, find}
use Rattle.base.proofs.Tests.{never, and_left, and_right, and_make, or_false, is_false, less?}
use Rattle.base.proofs.Below.{tabulate_at, any_before, any_fails, find_first, find_at}
use Rattle.lgs.specs.Market.{Market, Results}
use Rattle.lgs.specs.Profiles.{outside_or, flip}
use Rattle.lgs.proofs.Valid.{WellFormed, Possible, Distinct, unparted}
use Rattle.format.specs.Layout.{Entry, row_at, row_count, rows, entry_at, entry_count, entries, no_entry, is_interview}
use Rattle.format.specs.Layout.{market_of, results_of, outside_score, says_never}
use Rattle.format.specs.Refusals.{not_within, bad_form, bad_order, bad_counts, bad_range, bad_student, bad_workshop, bad_tiers, bad_score, bad_pair}
use Rattle.format.specs.Refusals.{bad_lot, bad_scores, bad_repeat, student_ties, bad_tie}
use Rattle.format.specs.Engine.{market_in, results_in}
use Rattle.format.proofs.Sorted.{within, row_at_lem, Clean}
use Rattle.format.proofs.Positions.{PairAt, pair_record, pair_says, pair_names, student_tier_at}
use Rattle.format.proofs.Lots.{lots_apart}

-- every record passes the tests on records
pub record Passed (case book : List ℕ) : Type 0 where
  pub form : (i : ℕ) → i < row_count case → bad_form (rows case) i ≡ false
  pub order : (i : ℕ) → i < row_count case → bad_order (rows case) i ≡ false
  pub range : (i : ℕ) → i < row_count case → bad_range (rows case) i ≡ false
  pub lots : (i : ℕ) → i < row_count case → bad_lot (rows case) i ≡ false
  pub pair : (i : ℕ) → i < entry_count book → bad_pair (rows case) (entries book) i ≡ false
  pub scores : (i : ℕ) → i < entry_count book → bad_scores (rows case) (entries book) i ≡ false
  pub repeat : (i : ℕ) → i < entry_count book → bad_repeat (rows case) (entries book) i ≡ false
  pub tie : (i : ℕ) → i < entry_count book → bad_tie (rows case) (entries book) i ≡ false

-- ---- the case

-- two tests on ranges that fail
both : (a b c d x y : ℕ) → (not_within a b x || not_within c d y) ≡ false → ((a ≤ x) × (x ≤ b)) × ((c ≤ y) × (y ≤ d))
both a b c d x y q =
    let r : (not_within a b x ≡ false) × (not_within c d y ≡ false) = or_false (not_within a b x) _ q in
    (within a b x r.0, within c d y r.1)

module _ (case : List ℕ) where
  pub counts_range : bad_counts (rows case) ≡ false
      → ((1 ≤ (market_in case).students) × ((market_in case).students ≤ 512)) × ((1 ≤ (market_in case).workshops) × ((market_in case).workshops ≤ 64))
  unfolding bad_counts market_of
  counts_range = both 1 512 1 64 (market_in case).students (market_in case).workshops

  -- the ranges of a record's fields, by its kind
  module _ (i : ℕ) (l : i < row_count case) (e : bad_range (rows case) i ≡ false) where
    parts : (bad_student (rows case) i ≡ false) × ((bad_workshop (rows case) i ≡ false) × (bad_tiers (rows case) i ≡ false))
    unfolding bad_range
    parts =
        let r : (bad_student (rows case) i ≡ false) × ((bad_workshop (rows case) i || bad_tiers (rows case) i) ≡ false) =
        or_false (bad_student (rows case) i) _ e in
        (r.0, or_false (bad_workshop (rows case) i) _ r.1)

    pub student_range : (row_at case i).kind ≡ 1
        → ((1 ≤ (row_at case i).second) × ((row_at case i).second ≤ 512)) × ((1 ≤ (row_at case i).third) × ((row_at case i).third ≤ 65))
    unfolding bad_student
    student_range k = both 1 512 1 65 (row_at case i).second (row_at case i).third (rw (row_at_lem case i l, k) at parts.0)

    pub workshop_range : (row_at case i).kind ≡ 2
        → ((0 ≤ (row_at case i).second) × ((row_at case i).second ≤ 512)) × ((1 ≤ (row_at case i).third) × ((row_at case i).third ≤ 513))
    unfolding bad_workshop
    workshop_range k = both 0 512 1 513 (row_at case i).second (row_at case i).third (rw (row_at_lem case i l, k) at parts.1.0)

    pub tiers_range : (row_at case i).kind ≡ 3
        → ((1 ≤ (row_at case i).third) × ((row_at case i).third ≤ 65)) × ((1 ≤ (row_at case i).fourth) × ((row_at case i).fourth ≤ 513))
    unfolding bad_tiers
    tiers_range k = both 1 65 1 513 (row_at case i).third (row_at case i).fourth (rw (row_at_lem case i l, k) at parts.1.1)

module _ (case book : List ℕ) (t : Passed case book) where
  pub clean : Clean case (row_count case)
  clean = record { inside = omega arith; form = t.form; order = t.order }

  pub market_wf : WellFormed (market_in case)
  market_wf = record { student = student; workshop = workshop; tier = tier }
    where
      names : (s w : ℕ) → (market_in case).paired s w ≡ true
          → ((1 ≤ s) × (s ≤ (market_in case).students)) × ((1 ≤ w) × (w ≤ (market_in case).workshops))
      names s w e =
          let k : (i : ℕ) × PairAt case s w i = pair_record case s w e in
          let f : ((row_at case k.0).kind ≡ 3) × ((row_at case k.0).first ≡ s) × ((row_at case k.0).second ≡ w) =
          pair_says s w (row_at case k.0) k.1.pair in
          rw (f.1, f.2) at (pair_names case clean k.0 k.1.inside f.0)

      student : (s w : ℕ) → (market_in case).paired s w ≡ true → (1 ≤ s) × (s ≤ (market_in case).students)
      student s w e = (names s w e).0

      workshop : (s w : ℕ) → (market_in case).paired s w ≡ true → (1 ≤ w) × (w ≤ (market_in case).workshops)
      workshop s w e = (names s w e).1

      tier : (s w : ℕ) → (market_in case).paired s w ≡ true → 1 ≤ (market_in case).student_tier s w
      tier s w e =
          let k : (i : ℕ) × PairAt case s w i = pair_record case s w e in
          rw (student_tier_at case clean s w k.0 k.1.inside k.1.pair)
          (tiers_range case k.0 k.1.inside (t.range k.0 k.1.inside) (pair_says s w (row_at case k.0) k.1.pair).0).0.0

-- ---- the book

-- record i is the one found for the interview
pub record EntryAt (book : List ℕ) (s w i : ℕ) : Type 0 where
  pub inside : i < entry_count book
  pub student : (entry_at book i).student ≡ s
  pub workshop : (entry_at book i).workshop ≡ w
  pub found : find (is_interview s w) no_entry (entries book) ≡ entry_at book i

pub interview_says : (s w : ℕ) (e : Entry) → is_interview s w e ≡ true → (e.student ≡ s) × (e.workshop ≡ w)
interview_says s w e q = (eqb-true _ _ (and_left (eqb e.student s) _ q), eqb-true _ _ (and_right (eqb e.student s) _ q))

pub interview_is : (s w : ℕ) (e : Entry) → e.student ≡ s → e.workshop ≡ w → is_interview s w e ≡ true
interview_is s w e p q = and_make (eq-eqb _ _ p) (eq-eqb _ _ q)

module _ (book : List ℕ) where
  pub entry_at_lem : (i : ℕ) → i < entry_count book → get_or (entries book) i no_entry ≡ entry_at book i
  unfolding entries
  entry_at_lem i l = tabulate_at (entry_at book) (entry_count book) i no_entry l

  -- the record that the results' lookup finds
  pub entry_record : (s w : ℕ) → (results_in book).met s w ≡ true → (i : ℕ) × EntryAt book s w i
  unfolding results_of entries
  entry_record s w e =
      let r : (i : ℕ) × (i < entry_count book) × (is_interview s w (entry_at book i) ≡ true) × (find (is_interview s w) no_entry (entries book) ≡ entry_at book i) =
      find_at (entry_at book) (is_interview s w) no_entry (entry_count book) e in
      let q : ((entry_at book r.0).student ≡ s) × ((entry_at book r.0).workshop ≡ w) = interview_says s w (entry_at book r.0) r.2 in
      (r.0, record { inside = r.1; student = q.0; workshop = q.1; found = r.3 })

  none_before : (p : Entry → Bool) (i j : ℕ) → i < j → j < entry_count book → any p (take j (entries book)) ≡ false → p (entry_at book i) ≡ false
  unfolding entries
  none_before p i j l u e = any_fails (λ k. p (entry_at book k)) j (sym (any_before (entry_at book) p (entry_count book) j (omega arith)) ∙ e) i l

module _ (case book : List ℕ) (t : Passed case book) where
  abbrev M : Market
  M = market_in case

  abbrev B : Results
  B = results_in book

  -- the score of the outside option is nobody's
  nonzero : (i : ℕ) → i < entry_count book → ((entry_at book i).student_score ≡ outside_score → ⊥) × ((entry_at book i).workshop_score ≡ outside_score → ⊥)
  unfolding bad_scores
  nonzero i l =
      let r : (bad_score (entry_at book i).student_score ≡ false) × (bad_score (entry_at book i).workshop_score ≡ false) =
      or_false (bad_score (entry_at book i).student_score) _ (rw (entry_at_lem book i l) at (t.scores i l)) in
      (nonzero_of (entry_at book i).student_score r.0, nonzero_of (entry_at book i).workshop_score r.1)
    where
      nonzero_of : (x : ℕ) → bad_score x ≡ false → x ≡ outside_score → ⊥
      nonzero_of x b = eqb-false _ _ (or_false (eqb x outside_score) _ b).0

  student_nonzero : (s w : ℕ) → B.met s (suc w) ≡ true → B.student_score s (suc w) ≡ B.student_score s 0 → ⊥
  unfolding results_of
  student_nonzero s w m e =
      let k : (i : ℕ) × EntryAt book s (suc w) i = entry_record book s (suc w) m in
      (nonzero k.0 k.1.inside).0 (sym (ap (λ e. e.student_score) k.1.found) ∙ e)

  workshop_nonzero : (s w : ℕ) → B.met (suc s) w ≡ true → B.workshop_score w (suc s) ≡ B.workshop_score w 0 → ⊥
  unfolding results_of
  workshop_nonzero s w m e =
      let k : (i : ℕ) × EntryAt book (suc s) w i = entry_record book (suc s) w m in
      (nonzero k.0 k.1.inside).1 (sym (ap (λ e. e.workshop_score) k.1.found) ∙ e)

  -- no later entry ties with an earlier one
  untied : (i j : ℕ) → i < j → j < entry_count book → student_ties (rows case) (entries book) (entry_at book j) (entry_at book i) ≡ false
  unfolding bad_tie
  untied i j l u = none_before book (student_ties (rows case) (entries book) (entry_at book j)) i j l u (rw (entry_at_lem book j u) at (t.tie j u))

  student_clash : (s x y i j : ℕ) → i < j → EntryAt book s x i → EntryAt book s y j → M.student_tier s x ≡ M.student_tier s y
      → (entry_at book i).student_score ≡ (entry_at book j).student_score → says_never (entry_at book j).student_score ≡ false → ⊥
  unfolding student_ties
  student_clash s x y i j l f h g m n =
      never
      (and_make (eq-eqb _ _ (f.student ∙ sym h.student))
      (and_make
      (eq-eqb (M.student_tier (entry_at book j).student (entry_at book i).workshop) (M.student_tier (entry_at book j).student (entry_at book j).workshop)
      (rw (h.student, f.workshop, h.workshop) g))
      (and_make (eq-eqb _ _ m) (ap not n))))
      (untied i j l h.inside)

  -- a student's scores in one tier are different, but where interviews ended in never
  student_apart : (s x y : ℕ) → outside_or (B.met s) x ≡ true → outside_or (B.met s) y ≡ true → Possible B.never s x
      → M.student_tier s x ≡ M.student_tier s y → B.student_score s x ≡ B.student_score s y → x ≡ y
  unfolding results_of
  student_apart s zero zero mx my ok g m = refl
  student_apart s zero (suc y) mx my ok g m = absurd (student_nonzero s y my (sym m))
  student_apart s (suc x) zero mx my ok g m = absurd (student_nonzero s x mx m)
  student_apart s (suc x) (suc y) mx my ok g m =
      let f : (i : ℕ) × EntryAt book s (suc x) i = entry_record book s (suc x) mx in
      let h : (i : ℕ) × EntryAt book s (suc y) i = entry_record book s (suc y) my in
      let n : says_never (entry_at book f.0).student_score ≡ false =
      (or_false (says_never (entry_at book f.0).student_score) _ (rw f.1.found at (ok (omega arith)))).0 in
      let same : (entry_at book f.0).student_score ≡ (entry_at book h.0).student_score =
      sym (ap (λ e. e.student_score) f.1.found) ∙ (m ∙ ap (λ e. e.student_score) h.1.found) in
      ⊎_elim (λ l. absurd (student_clash s (suc x) (suc y) f.0 h.0 l f.1 h.1 g same (ap says_never (sym same) ∙ n)))
      (λ le.
      ⊎_elim (λ q. sym f.1.workshop ∙ ap (λ i. (entry_at book i).workshop) (sym q) ∙ h.1.workshop)
      (λ l. absurd (student_clash s (suc y) (suc x) h.0 f.0 l h.1 f.1 (sym g) (sym same) n))
      (eq-or-lt_of_le le))
      (less? f.0 h.0)

  -- a workshop's scores are different, or the lots are
  workshop_apart : (w x y : ℕ) → outside_or (flip M.paired w) x ≡ true → outside_or (flip M.paired w) y ≡ true
      → outside_or (flip B.met w) x ≡ true → outside_or (flip B.met w) y ≡ true
      → B.workshop_score w x ≡ B.workshop_score w y → M.lot x ≡ M.lot y → x ≡ y
  workshop_apart w zero zero px py mx my e f = refl
  workshop_apart w zero (suc y) px py mx my e f = absurd (workshop_nonzero y w my (sym e))
  workshop_apart w (suc x) zero px py mx my e f = absurd (workshop_nonzero x w mx e)
  workshop_apart w (suc x) (suc y) px py mx my e f =
      let rx : (1 ≤ suc x) × (suc x ≤ M.students) = (market_wf case book t).student (suc x) w px in
      let ry : (1 ≤ suc y) × (suc y ≤ M.students) = (market_wf case book t).student (suc y) w py in
      lots_apart case (clean case book t) t.lots (suc x) (suc y) rx.0 rx.1 ry.0 ry.1 f

  pub results_distinct : Distinct M B
  results_distinct =
      record {
        students = record {
          apart = λ s x y ox oy mx my ok g e f.
              student_apart s x y mx my ok g
              (omega (arith, ltb-false (B.student_score s x) (B.student_score s y) e, ltb-false (B.student_score s y) (B.student_score s x) f));
        };
        workshops = record {
          apart = λ w x y ox oy mx my ok g e f. workshop_apart w x y ox oy mx my (unparted M B w x y e f).0 (unparted M B w x y e f).1;
        };
        outside = outside;
      }
    where
      outside : (s w : ℕ) → M.paired s w ≡ true → B.met s w ≡ true → B.workshop_score w s ≡ B.workshop_score w 0 → ⊥
      outside zero w p m e = omega (arith, (market_wf case book t).student 0 w p)
      outside (suc s) w p m e = workshop_nonzero s w m e

  -- no later entry is of the same pair
  unrepeated : (i j : ℕ) → i < j → j < entry_count book → is_interview (entry_at book j).student (entry_at book j).workshop (entry_at book i) ≡ false
  unfolding bad_repeat
  unrepeated i j l u = none_before book (is_interview (entry_at book j).student (entry_at book j).workshop) i j l u (rw (entry_at_lem book j u) at (t.repeat j u))

  -- two records of one interview are one record
  pub entry_only : (s w i j : ℕ) → i < entry_count book → j < entry_count book
      → is_interview s w (entry_at book i) ≡ true → is_interview s w (entry_at book j) ≡ true → i ≡ j
  entry_only s w i j l u p q =
      ⊎_elim (λ (a : i < j). absurd (clash i j a u p q))
      (λ (a : j ≤ i). ⊎_elim (λ (b : j < i). absurd (clash j i b l q p)) (λ (b : i ≤ j). omega arith) (less? j i))
      (less? i j)
    where
      clash : (i j : ℕ) → i < j → j < entry_count book → is_interview s w (entry_at book i) ≡ true → is_interview s w (entry_at book j) ≡ true → ⊥
      clash i j a u p q =
          let x : ((entry_at book i).student ≡ s) × ((entry_at book i).workshop ≡ w) = interview_says s w (entry_at book i) p in
          let y : ((entry_at book j).student ≡ s) × ((entry_at book j).workshop ≡ w) = interview_says s w (entry_at book j) q in
          never (interview_is _ _ (entry_at book i) (x.0 ∙ sym y.0) (x.1 ∙ sym y.1)) (unrepeated i j a u)

  -- the record that a search finds is the interview's
  pub entry_found : (s w i : ℕ) → i < entry_count book → is_interview s w (entry_at book i) ≡ true → find (is_interview s w) no_entry (entries book) ≡ entry_at book i
  unfolding entries
  entry_found s w i l e =
      find_first (entry_at book) (is_interview s w) no_entry (entry_count book) i l e
      (λ k m. is_false (is_interview s w (entry_at book k)) (λ b. omega (arith, entry_only s w k i (omega arith) l b e)))
