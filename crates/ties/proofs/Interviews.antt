-- A book record by its pair's record and the index, and when two records tie.
use Prim.Native.Nat.{ℕ, zero, suc, ◌+◌, ◌-◌, ◌*◌, ◌≤◌, ◌<◌}
use mathlib.Core.Path.{◌≡◌, refl, sym, ap, ◌∙◌}
use mathlib.Core.Logic.{⊎_elim}
use mathlib.Core.Bool.{Bool, true, false, not}
use mathlib.Core.List.{List}
use Rattle.std.specs.Prelude.{Option, Some, None}
use Rattle.std.specs.Bool.{then_some}
use native.Mathlib.Omega.{arith}
use lib.ListN.{length, get_or}
use lib.Dec.{eqb}
use borrow.Author.Tests.{eq-eqb, eqb-true, not-true, not-false}
use Rattle.base.specs.Words.{signed}
use Rattle.base.specs.Search.{first_bad}
use Rattle.base.proofs.Tests.{bool_cases, and_left, and_right, and_make}
use Rattle.base.proofs.Search.{none_fails, first_below, first_passes, scan_found}
use Rattle.format.specs.Layout.{rows, row_at, row_count, entries, entry_count, entry_at, is_interview, says_never, market_of}
use Rattle.format.specs.Refusals.{bad_pair, bad_repeat, student_ties}
use Rattle.format.specs.Engine.{market_in}
use Rattle.format.proofs.Positions.{pair_says, pair_names, student_tier_at}
use Rattle.records.specs.Records.{pair_place}
use Rattle.tables.specs.Table.{Stretch, workshop_in}
use Rattle.case_tests.proofs.Cases.{clean}
use Rattle.book_tests.specs.Index.{from_one, pairs_from}
use Rattle.book_tests.proofs.Laws.{entry_is}
use Rattle.book_tests.proofs.Indexing.{Placed, placed_by, index_at_lem, number_none, repeat_is}
use Rattle.ties.specs.Ties.{Indexed, tested, tie}

-- the record is not passed over
abbrev pub Counted : List ℕ → ℕ → Type 0
Counted book i = says_never (entry_at book i).student_score ≡ false

-- ---- a record that is passed over, and one that is not
module _ (book : List ℕ) where
  pub tested_none : tested book 0 ≡ None
  unfolding tested
  tested_none = refl

  module _ (i : ℕ) where
    pub tested_over : says_never (entry_at book i).student_score ≡ true → tested book (suc i) ≡ None
    unfolding tested
    tested_over e = rw e

    pub tested_own : Counted book i → tested book (suc i) ≡ Some i
    unfolding tested
    tested_own e = rw e

  pub tested_is : (k i : ℕ) → tested book k ≡ Some i → (k ≡ suc i) × Counted book i
  tested_is zero i e = absurd (let z = tested_none in cc)
  tested_is (suc k) i e =
      ⊎_elim (λ o. absurd (let z = tested_over k o in cc)) (λ o. let z = tested_own k o in let r : k ≡ i = cc in (ap suc r, rw r at o))
      (bool_cases (says_never (entry_at book k).student_score))

  -- what `tested_at` gives for a number from 1
  pub tested_by : (k i : ℕ) → 1 ≤ k → i ≡ k - 1 → (never : Bool) → never ≡ says_never (entry_at book i).student_score
      → then_some (not never) i ≡ tested book k
  tested_by k i l e never n =
      let q : k ≡ suc i = omega arith in rw q (go never n)
    where
      go : (never : Bool) → never ≡ says_never (entry_at book i).student_score → then_some (not never) i ≡ tested book (suc i)
      go true n = sym (tested_over i (sym n))
      go false n = sym (tested_own i (sym n))

-- ---- two records that tie

-- tier and score of record i, in one number
abbrev pub key_of : List ℕ → List ℕ → ℕ → ℕ
key_of case book i = (market_in case).student_tier (entry_at book i).student (entry_at book i).workshop * 65536 + (entry_at book i).student_score

pub record Tied (case book : List ℕ) (i j : ℕ) : Type 0 where
  pub student : (entry_at book j).student ≡ (entry_at book i).student
  pub key : key_of case book j ≡ key_of case book i
  pub counted : Counted book i
  pub other : Counted book j

score_fits : (book : List ℕ) (i : ℕ) → (entry_at book i).student_score < 65536
unfolding entry_at signed
score_fits book i = omega arith

module _ (case book : List ℕ) (i j : ℕ) where
  abbrev tier : ℕ → ℕ
  tier k = (market_in case).student_tier (entry_at book i).student (entry_at book k).workshop

  pub ties_say : tie case book i j ≡ true → Tied case book i j
  unfolding student_ties
  ties_say t =
      let same = eqb (entry_at book j).student (entry_at book i).student in
      let u = and_right same _ t in
      let v = and_right (eqb (tier j) (tier i)) _ u in
      let e : (entry_at book j).student ≡ (entry_at book i).student = eqb-true _ _ (and_left same _ t) in
      let f : tier j ≡ tier i = eqb-true _ _ (and_left (eqb (tier j) (tier i)) _ u) in
      let g : (entry_at book j).student_score ≡ (entry_at book i).student_score =
      eqb-true _ _ (and_left (eqb (entry_at book j).student_score (entry_at book i).student_score) _ v) in
      let c : Counted book i = not-true _ (and_right (eqb (entry_at book j).student_score (entry_at book i).student_score) _ v) in
      record { student = e; key = rw (e, f, g); counted = c; other = ap says_never g ∙ c }

  pub ties_make : (entry_at book j).student ≡ (entry_at book i).student → key_of case book j ≡ key_of case book i → Counted book i → tie case book i j ≡ true
  unfolding student_ties
  ties_make e k c =
      let q : tier j * 65536 + (entry_at book j).student_score ≡ tier i * 65536 + (entry_at book i).student_score = rw e at k in
      and_make (eq-eqb _ _ e)
      (and_make (eq-eqb (tier j) (tier i) (omega (arith, q, score_fits book i, score_fits book j)))
      (and_make (eq-eqb (entry_at book j).student_score (entry_at book i).student_score (omega (arith, q, score_fits book i, score_fits book j))) (ap not c)))

-- ---- a number is that of a place, and at most that of the last one
number_some : (p : ℕ → Bool) (n i : ℕ) → from_one (first_bad p n) ≡ suc i → first_bad p n ≡ Some i
number_some p n i = go (first_bad p n)
  where
    go : (o : Option ℕ) → from_one o ≡ suc i → o ≡ Some i
    go None e = absurd (omega arith)
    go (Some j) e = ap Some (omega arith)

number_few : (p : ℕ → Bool) (n : ℕ) → from_one (first_bad p n) ≤ n
number_few p n = go (first_bad p n) refl
  where
    go : (o : Option ℕ) → first_bad p n ≡ o → from_one o ≤ n
    go None e = omega arith
    go (Some i) e = first_below p n i e

-- where the pair of record i stands
abbrev pub place_of : List ℕ → List ℕ → ℕ → ℕ
place_of case book i = pair_place case (entry_at book i).student (entry_at book i).workshop

module _ {case book index : List ℕ} {first : ℕ} (I : Indexed case book index first) where
  abbrev n : ℕ
  n = (market_in case).students

  abbrev m : ℕ
  m = (market_in case).workshops

  placed : (s w : ℕ) → (market_in case).paired s w ≡ true → Placed case s w (pair_place case s w)
  unfolding market_of
  placed s w e = placed_by case n m I.sound s w e

  index_there : (s w : ℕ) → (market_in case).paired s w ≡ true
      → get_or index (pair_place case s w - first) 0 ≡ from_one (first_bad (λ i. is_interview s w (entry_at book i)) (entry_count book))
  index_there s w e =
      ap (λ k. get_or index (pair_place case s w - k) 0) I.from
      ∙ ap (λ l. get_or l (pair_place case s w - pairs_from case) 0) I.made
      ∙ index_at_lem case n m I.sound book (entry_count book) (length index) s w (pair_place case s w) (placed s w e)

  -- ---- a book record
  module _ (i : ℕ) (l : i < entry_count book) where
    pub entry_paired : (market_in case).paired (entry_at book i).student (entry_at book i).workshop ≡ true
    unfolding bad_pair market_of
    entry_paired =
        not-false _ (rw (entry_is book i l) at (none_fails (bad_pair (rows case) (entries book)) (entry_count book) I.paired i l))

    -- its student is named
    pub entry_named : (1 ≤ (entry_at book i).student) × ((entry_at book i).student ≤ n)
    entry_named =
        let s = (entry_at book i).student in
        let w = (entry_at book i).workshop in
        let p = placed s w entry_paired in
        let r = pair_says s w (row_at case (pair_place case s w)) p.pair in
        rw r.1 at (pair_names case (clean case n m I.sound) (pair_place case s w) p.inside r.0).0

    -- it is the first of its interview, and the index has its number
    pub own_number : get_or index (place_of case book i - first) 0 ≡ suc i
    own_number =
        let q : ℕ → Bool = λ k. is_interview (entry_at book i).student (entry_at book i).workshop (entry_at book k) in
        let r : not (eqb (from_one (first_bad q i)) 0) ≡ false =
        sym (repeat_is case n m I.sound book i l) ∙ none_fails (bad_repeat (rows case) (entries book)) (entry_count book) I.fresh i l in
        index_there (entry_at book i).student (entry_at book i).workshop entry_paired
        ∙ ap from_one
        (scan_found q i (entry_count book) (number_none q i (eqb-true _ _ (not-false _ r)))
        (and_make (eq-eqb (entry_at book i).student (entry_at book i).student refl) (eq-eqb (entry_at book i).workshop (entry_at book i).workshop refl)) l)

  -- ---- a student's pairs
  module _ {s begin many : ℕ} (S : Stretch case s begin many) where
    -- her records have pairs among them
    pub entry_within : (i : ℕ) → i < entry_count book → (entry_at book i).student ≡ s → (begin ≤ place_of case book i) × (place_of case book i < begin + many)
    entry_within i l e = rw (← e) at (S.all (entry_at book i).workshop (rw e at (entry_paired i l)))

    -- ---- pair record p is one of them
    module _ (p : ℕ) (from : begin ≤ p) (to : p < begin + many) where
      abbrev k : ℕ
      k = p - begin

      abbrev w : ℕ
      w = workshop_in case p

      this : begin + k ≡ p
      this = omega arith

      paired : (market_in case).paired s w ≡ true
      paired = rw this at (S.paired k (omega arith))

      stands : pair_place case s w ≡ p
      stands = rw this at (S.place k (omega arith))

      at_index : get_or index (p - first) 0 ≡ from_one (first_bad (λ i. is_interview s w (entry_at book i)) (entry_count book))
      at_index = ap (λ q. get_or index (q - first) 0) (sym stands) ∙ index_there s w paired

      pub at_row : p < row_count case
      at_row = rw this at (S.inside k (omega arith))

      pub at_spot : (first ≤ p) × (p - first < length index) × (get_or index (p - first) 0 ≤ entry_count book)
      at_spot =
          let q = placed s w paired in (
            omega (arith, q.from, I.from, stands),
            omega (arith, q.within, I.from, I.room, stands),
            rw at_index (number_few (λ i. is_interview s w (entry_at book i)) (entry_count book)),
          )

      at_own : (i : ℕ) → i < entry_count book → place_of case book i ≡ p → get_or index (p - first) 0 ≡ suc i
      at_own i u q = ap (λ z. get_or index (z - first) 0) (sym q) ∙ own_number i u

      -- nothing but a record that is passed over has this pair
      pub at_none : tested book (get_or index (p - first) 0) ≡ None → (i : ℕ) → i < entry_count book → Counted book i → place_of case book i ≡ p → ⊥
      at_none z i u c q = let e = ap (tested book) (at_own i u q) in let t = tested_own book i c in cc

      -- record i has it
      module _ (i : ℕ) (e : tested book (get_or index (p - first) 0) ≡ Some i) where
        known : (get_or index (p - first) 0 ≡ suc i) × Counted book i
        known = tested_is book (get_or index (p - first) 0) i e

        -- no other record has it
        pub at_only : (j : ℕ) → j < entry_count book → place_of case book j ≡ p → j ≡ i
        at_only j u q = omega (arith, at_own j u q, known.0)

        found : first_bad (λ i. is_interview s w (entry_at book i)) (entry_count book) ≡ Some i
        found = number_some (λ i. is_interview s w (entry_at book i)) (entry_count book) i (sym at_index ∙ known.0)

        pub at_inside : i < entry_count book
        at_inside = first_below (λ i. is_interview s w (entry_at book i)) (entry_count book) i found

        pub at_counted : Counted book i
        at_counted = known.1

        says : is_interview s w (entry_at book i) ≡ true
        says = first_passes (λ i. is_interview s w (entry_at book i)) (entry_count book) i found

        pub at_student : (entry_at book i).student ≡ s
        at_student = eqb-true _ _ (and_left (eqb (entry_at book i).student s) _ says)

        at_workshop : (entry_at book i).workshop ≡ w
        at_workshop = eqb-true _ _ (and_right (eqb (entry_at book i).student s) _ says)

        pub at_place : place_of case book i ≡ p
        at_place = rw (at_student, at_workshop) stands

        pub at_key : (row_at case p).third * 65536 + (entry_at book i).student_score ≡ key_of case book i
        at_key =
            let q = placed s w paired in
            let t : (market_in case).student_tier s w ≡ (row_at case p).third =
            student_tier_at case (clean case n m I.sound) s w (pair_place case s w) q.inside q.pair ∙ ap (λ z. (row_at case z).third) stands in
            rw (at_student, at_workshop, t)
