-- The index: where the pair of a book record stands, what the index has there, and one record more.
use Prim.Native.Nat.{ℕ, zero, suc, ◌+◌, ◌-◌, ◌*◌, ◌≤◌, ◌<◌}
use mathlib.Core.Path.{◌≡◌, refl, sym, ap, ◌∙◌}
use mathlib.Core.Logic.{⊎_elim}
use mathlib.Core.Bool.{Bool, true, false, not}
use mathlib.Core.List.{List, ◌++◌}
use Rattle.std.specs.Prelude.{Option, Some, None}
use native.Mathlib.Omega.{arith}
use native.Mathlib.Numerals.{add-one}
use lib.ListN.{length, get_or, set, replicate, length-append, length-replicate, get_or-replicate, replicate-append-replicate, get_or-append}
use lib.Seq.{ext_get_or, set-append_left}
use lib.Dec.{eqb, ltb}
use borrow.Author.Tests.{eq-eqb, ne_eqb, eqb-true, lt-ltb, le-ltb, ltb-true, not-false}
use Rattle.base.specs.Lists.{any, tally, tabulate}
use Rattle.base.specs.Below.{any_below}
use Rattle.base.specs.Search.{first_bad, or_end}
use Rattle.base.proofs.Tests.{less?, is_false, and_left, and_right, and_make, or_right}
use Rattle.base.proofs.Below.{tabulate_length, tabulate_at, any_before, tabulate_set, tally_le, tally_append, tally_none, tally_set}
use Rattle.base.proofs.Search.{scan_on, scan_skip, scan_found, end_any, end_some, first_below, first_passes}
use Rattle.format.specs.Layout.{rows, row_count, row_at, entries, entry_count, entry_at, is_pair, is_interview}
use Rattle.format.specs.Refusals.{bad_pair, bad_scores, bad_repeat}
use Rattle.format.proofs.Positions.{places, pair_says, pair_names, pair_from, pairs_rise, pair_only}
use Rattle.records.specs.Records.{pair_place}
use Rattle.records.proofs.Laws.{pair_any}
use Rattle.case_tests.specs.Checked.{CleanCase, pair_count}
use Rattle.book_tests.specs.Index.{bad_any, from_one, number_in, pairs_from, index_to, lent_index, positive, Filled}
use Rattle.book_tests.proofs.Laws.{entry_is}
use Rattle.case_tests.proofs.Cases.{clean, few}
use Rattle.book_tests.proofs.Joined.{none_first, none_second, none_third}

-- the pair of s and w has record p, a pair record
pub record Placed (case : List ℕ) (s w p : ℕ) : Type 0 where
  pub inside : p < row_count case
  pub pair : is_pair s w (row_at case p) ≡ true
  pub from : pairs_from case ≤ p
  pub within : p - pairs_from case < pair_count case

-- some place is found where its number is not 0
pub any_number : (p : ℕ → Bool) (n : ℕ) → any_below p n ≡ not (eqb (from_one (first_bad p n)) 0)
any_number p n = end_any p n ∙ go (first_bad p n) refl
  where
    go : (o : Option ℕ) → first_bad p n ≡ o → ltb (or_end n o) n ≡ not (eqb (from_one o) 0)
    go None e = le-ltb n n (omega arith)
    go (Some i) e = lt-ltb i n (first_below p n i e) ∙ sym (rw (ne_eqb (suc i) 0 (λ q. omega arith)))

pub number_none : (p : ℕ → Bool) (n : ℕ) → from_one (first_bad p n) ≡ 0 → first_bad p n ≡ None
number_none p n e = go (first_bad p n) e
  where
    go : (o : Option ℕ) → from_one o ≡ 0 → o ≡ None
    go None e = refl
    go (Some i) e = absurd (omega arith)

-- what causes 8 to 10 find by themselves where they find nothing together
module _ (case book : List ℕ) (e : first_bad (bad_any (rows case) (entries book)) (entry_count book) ≡ None) where
  pub all_paired : first_bad (bad_pair (rows case) (entries book)) (entry_count book) ≡ None
  unfolding bad_any
  all_paired = none_first (bad_pair (rows case) (entries book)) (bad_scores (rows case) (entries book)) (bad_repeat (rows case) (entries book))
      (entry_count book) e

  pub all_scored : first_bad (bad_scores (rows case) (entries book)) (entry_count book) ≡ None
  unfolding bad_any
  all_scored = none_second (bad_pair (rows case) (entries book)) (bad_scores (rows case) (entries book)) (bad_repeat (rows case) (entries book))
      (entry_count book) e

  pub all_fresh : first_bad (bad_repeat (rows case) (entries book)) (entry_count book) ≡ None
  unfolding bad_any
  all_fresh = none_third (bad_pair (rows case) (entries book)) (bad_scores (rows case) (entries book)) (bad_repeat (rows case) (entries book))
      (entry_count book) e

tabulate_zero : (n : ℕ) → tabulate {A = ℕ} (λ k. 0) n ≡ replicate {A = ℕ} n 0
tabulate_zero n =
    ext_get_or {A = ℕ} 0 (tabulate {A = ℕ} (λ k. 0) n) (replicate {A = ℕ} n 0) (tabulate_length {A = ℕ} (λ k. 0) n ∙ sym (length-replicate {A = ℕ} n 0))
    (λ i l.
    let m : i < n = omega (arith, tabulate_length {A = ℕ} (λ k. 0) n) in
    tabulate_at {A = ℕ} (λ k. 0) n i 0 m ∙ sym (get_or-replicate {A = ℕ} n i 0 0 m))

module _ (case : List ℕ) (n m : ℕ) (c : CleanCase case n m) where
  -- ---- pairs are few: student and workshop, as one number, rise
  code : ℕ → ℕ
  code j = ((row_at case (pairs_from case + j)).first - 1) * 64 + ((row_at case (pairs_from case + j)).second - 1)

  module _ (j : ℕ) (l : j < pair_count case) where
    inside : pairs_from case + j < row_count case
    inside = omega (arith, (places case (clean case n m c)).whole)

    names : ((1 ≤ (row_at case (pairs_from case + j)).first) × ((row_at case (pairs_from case + j)).first ≤ 512))
        × ((1 ≤ (row_at case (pairs_from case + j)).second) × ((row_at case (pairs_from case + j)).second ≤ 64))
    names =
        let r = pair_names case (clean case n m c) (pairs_from case + j) inside
        ((places case (clean case n m c)).pair (pairs_from case + j) (omega arith) inside) in
        let f = few case n m c in
        ((r.0.0, omega (arith, c.students, r.0.1, f.0.1)), (r.1.0, omega (arith, c.workshops, r.1.1, f.1.1)))

  code_least : (j : ℕ) → j < pair_count case → j ≤ code j
  unfolding code
  code_least zero l = omega arith
  code_least (suc j) l =
      let a = names j (omega arith) in
      let b = names (suc j) l in
      let h = code_least j (omega arith) in
      ⊎_elim (λ q. omega (arith, q, a, b, h)) (λ q. omega (arith, q.0, q.1, a, b, h))
      (pairs_rise case (clean case n m c) (pairs_from case + j) (pairs_from case + suc j) (omega arith) (omega arith) (inside (suc j) l))

  pub pairs_few : pair_count case ≤ 32768
  unfolding code
  pairs_few =
      ⊎_elim (λ (q : 32768 < pair_count case). absurd (omega (arith, code_least 32768 q, names 32768 q)))
      (λ (q : pair_count case ≤ 32768). q)
      (less? 32768 (pair_count case))

  -- ---- where a pair stands
  pub placed_by : (s w : ℕ) → any (is_pair s w) (rows case) ≡ true → Placed case s w (pair_place case s w)
  placed_by s w e =
      let l : pair_place case s w < row_count case = ltb-true _ _ (sym (pair_any case s w) ∙ e) in
      let p : is_pair s w (row_at case (pair_place case s w)) ≡ true =
      first_passes (λ i. is_pair s w (row_at case i)) (row_count case) (pair_place case s w) (end_some (λ i. is_pair s w (row_at case i)) (row_count case) l) in
      let f : pairs_from case ≤ pair_place case s w = pair_from case (clean case n m c) (pair_place case s w) l
      (pair_says s w (row_at case (pair_place case s w)) p).0 in
      record { inside = l; pair = p; from = f; within = omega (arith, (places case (clean case n m c)).whole) }

  module _ (book : List ℕ) where
    pub placed_of : (i : ℕ) → i < entry_count book → bad_pair (rows case) (entries book) i ≡ false
        → Placed case (entry_at book i).student (entry_at book i).workshop (pair_place case (entry_at book i).student (entry_at book i).workshop)
    unfolding bad_pair
    placed_of i l e = placed_by (entry_at book i).student (entry_at book i).workshop (not-false _ (rw (entry_is book i l) at e))

    -- ---- what the index of the first i records has for the pair
    pub index_length : (i : ℕ) → length (index_to case book i) ≡ pair_count case
    unfolding index_to
    index_length i = tabulate_length (λ k. number_in book i (row_at case (pairs_from case + k))) (pair_count case)

    pub index_at_lem : (i lent s w p : ℕ) → Placed case s w p
        → get_or (lent_index case book i lent) (p - pairs_from case) 0 ≡ from_one (first_bad (λ k. is_interview s w (entry_at book k)) i)
    unfolding index_to number_in
    index_at_lem i lent s w p q =
        let e : pairs_from case + (p - pairs_from case) ≡ p = omega (arith, q.from) in
        let r = pair_says s w (row_at case p) q.pair in
        get_or-append (index_to case book i) (replicate (lent - pair_count case) 0) 0 (p - pairs_from case) (omega (arith, index_length i, q.within))
        ∙ tabulate_at (λ k. number_in book i (row_at case (pairs_from case + k))) (pair_count case) (p - pairs_from case) 0 q.within
        ∙ rw (e, r.1, r.2)

    pub lent_length : (i lent : ℕ) → pair_count case ≤ lent → length (lent_index case book i lent) ≡ lent
    lent_length i lent l =
        length-append (index_to case book i) (replicate (lent - pair_count case) 0) ∙ omega
        (arith, index_length i, length-replicate {A = ℕ} (lent - pair_count case) 0)

    -- a record's pair is in the book already where the index has a number for it
    pub repeat_is : (i : ℕ) → i < entry_count book
        → bad_repeat (rows case) (entries book) i
        ≡ not (eqb (from_one (first_bad (λ k. is_interview (entry_at book i).student (entry_at book i).workshop (entry_at book k)) i)) 0)
    unfolding bad_repeat entries
    repeat_is i l =
        rw (entry_is book i l)
        (any_before (entry_at book) (is_interview (entry_at book i).student (entry_at book i).workshop) (entry_count book) i (omega arith)
        ∙ any_number (λ k. is_interview (entry_at book i).student (entry_at book i).workshop (entry_at book k)) i)

    -- ---- the loop
    module _ (lent : ℕ) (room : pair_count case ≤ lent) where
      pub fill_start : (index : List ℕ) → length index ≡ lent → index ≡ replicate (length index) 0 → Filled case book lent 0 index
      unfolding first_bad index_to number_in
      fill_start index e z =
          record {
            inside = omega arith;
            filled = z ∙ zeros;
            fine = refl;
            used = ap (tally positive) z ∙ tally_none positive 0 (length index) refl;
          }
        where
          zeros : replicate (length index) 0 ≡ lent_index case book 0 lent
          zeros =
              let d : pair_count case + (lent - pair_count case) ≡ length index = omega arith in
              sym (rw (tabulate_zero (pair_count case), replicate-append-replicate {A = ℕ} (pair_count case) (lent - pair_count case) 0, d))

      module _ (i : ℕ) (index : List ℕ) (h : Filled case book lent i index) where
        pub fill_length : length index ≡ lent
        fill_length = ap length h.filled ∙ lent_length i lent room

        -- no more records than pairs
        pub fill_few : i ≤ pair_count case
        fill_few =
            let a = sym h.used ∙ ap (tally positive) h.filled ∙ tally_append positive (index_to case book i) (replicate (lent - pair_count case) 0) in
            omega (arith, a, tally_le positive (index_to case book i), index_length i, tally_none positive 0 (lent - pair_count case) refl)

        module _ (l : i < entry_count book) (p : ℕ) (q : Placed case (entry_at book i).student (entry_at book i).workshop p) where
          numbered : get_or index (p - pairs_from case) 0 ≡ from_one
              (first_bad (λ k. is_interview (entry_at book i).student (entry_at book i).workshop (entry_at book k)) i)
          numbered = ap (λ l. get_or l (p - pairs_from case) 0) h.filled ∙ index_at_lem i lent (entry_at book i).student (entry_at book i).workshop p q

          pub fill_inside : p - pairs_from case < length index
          fill_inside = omega (arith, fill_length, q.within)

          pub fill_repeat : (get_or index (p - pairs_from case) 0 ≡ 0 → ⊥) → bad_any (rows case) (entries book) i ≡ true
          unfolding bad_any
          fill_repeat f =
              or_right (bad_pair (rows case) (entries book) i) _
              (or_right (bad_scores (rows case) (entries book) i) _ (repeat_is i l ∙ rw (← numbered, ne_eqb (get_or index (p - pairs_from case) 0) 0 f)))

          module _ (paired : bad_pair (rows case) (entries book) i ≡ false) (scored : bad_scores (rows case) (entries book) i ≡ false)
              (z : get_or index (p - pairs_from case) 0 ≡ 0) where
            none_yet : first_bad (λ k. is_interview (entry_at book i).student (entry_at book i).workshop (entry_at book k)) i ≡ None
            none_yet = number_none (λ k. is_interview (entry_at book i).student (entry_at book i).workshop (entry_at book k)) i (sym numbered ∙ z)

            own : is_interview (entry_at book i).student (entry_at book i).workshop (entry_at book i) ≡ true
            own = and_make (eq-eqb (entry_at book i).student (entry_at book i).student refl) (eq-eqb (entry_at book i).workshop (entry_at book i).workshop refl)

            -- the record is of no other pair
            other : (j : ℕ) → j < pair_count case → (j ≡ p - pairs_from case → ⊥)
                → is_interview (row_at case (pairs_from case + j)).first (row_at case (pairs_from case + j)).second (entry_at book i) ≡ false
            other j u f =
                is_false (is_interview (row_at case (pairs_from case + j)).first (row_at case (pairs_from case + j)).second (entry_at book i))
                (λ b.
                let r = row_at case (pairs_from case + j) in
                let s : r.first ≡ (entry_at book i).student = sym (eqb-true _ _ (and_left (eqb (entry_at book i).student r.first) _ b)) in
                let w : r.second ≡ (entry_at book i).workshop = sym (eqb-true _ _ (and_right (eqb (entry_at book i).student r.first) _ b)) in
                let k : r.kind ≡ 3 = (places case (clean case n m c)).pair (pairs_from case + j) (omega arith) (inside j u) in
                let t : is_pair (entry_at book i).student (entry_at book i).workshop r ≡ true =
                and_make (eq-eqb r.kind 3 k) (and_make (eq-eqb r.first (entry_at book i).student s) (eq-eqb r.second (entry_at book i).workshop w)) in
                f (omega (arith, pair_only case (clean case n m c) _ _ (pairs_from case + j) p (inside j u) q.inside t q.pair, q.from)))

            more : set (lent_index case book i lent) (p - pairs_from case) (i + 1) ≡ lent_index case book (i + 1) lent
            unfolding index_to number_in
            more =
                let e : pairs_from case + (p - pairs_from case) ≡ p = omega (arith, q.from) in
                let r = pair_says (entry_at book i).student (entry_at book i).workshop (row_at case p) q.pair in
                set-append_left (index_to case book i) (replicate (lent - pair_count case) 0) (p - pairs_from case) (i + 1)
                (omega (arith, index_length i, q.within))
                ∙ ap (λ l. l ++ replicate (lent - pair_count case) 0)
                (tabulate_set (λ k. number_in book i (row_at case (pairs_from case + k))) (λ k. number_in book (i + 1) (row_at case (pairs_from case + k)))
                (pair_count case)
                (p - pairs_from case) (i + 1) q.within
                (rw (e, r.1, r.2) (ap from_one
                (scan_found (λ k. is_interview (entry_at book i).student (entry_at book i).workshop (entry_at book k)) i (i + 1) none_yet own
                (omega arith)) ∙ sym (add-one i)))
                (λ j a f. ap from_one (scan_skip
                (λ k. is_interview (row_at case (pairs_from case + j)).first (row_at case (pairs_from case + j)).second (entry_at book k)) i (other j a f))))

            pub fill_on : Filled case book lent (i + 1) (set index (p - pairs_from case) (i + 1))
            unfolding bad_any
            fill_on =
                record {
                  inside = omega arith;
                  filled = ap (λ l. set l (p - pairs_from case) (i + 1)) h.filled ∙ more;
                  fine = scan_on (bad_any (rows case) (entries book)) i h.fine (rw (paired, scored) (repeat_is i l ∙ rw none_yet));
                  used = tally_set positive 0 index (p - pairs_from case) (i + 1) fill_inside (rw z) (rw (ne_eqb (i + 1) 0 (λ e. omega arith))) ∙ rw
                      h.used (sym (add-one i));
                }
