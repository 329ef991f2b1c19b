-- Where the records of a clean case stand, by number, for code that reads the case: a record is found at its place, not by a search.
-- All follows from `sorted` (Sorted.antt): students, then workshops, then pairs.
--
-- Of a case whose records pass causes 2 and 3 (`Clean`; `clean_all` makes it from two searches that found nothing), with n students and m
-- workshops in the market, `people` = n + m, and `pair_count` pair records:
--   places              records 0 to n - 1 are the students 1 to n, the next m are the workshops 1 to m, the others pairs; n + m + pairs is the whole
--   student_from        no other record is a student
--   student_found       the record of student s is record s - 1; stage_at, lot_at, student-outside-at: her stage, lot and outside tier stand there
--   workshop_found      the record of workshop w is record n + w - 1; quota_at, workshop-outside-at: its quota and outside tier stand there
--   pair_from           a pair stands at n + m or after; pair-names: it names a student and a workshop of the market
--   pairs_rise          of two pairs the first is lower, by student and then workshop; pair-only: no pair has two records
--   pair_found          the record of a pair is the one that names it, wherever it was found; student_tier_at, workshop_tier_at,
--                       fare-at: its tiers and its fare stand there
--   pair_there          the market has the pair
-- Of the first i records, if these pass (a scan for cause 3 has come to record i):
--   student_known, workshop_known   a student (workshop) with this number stands before i exactly if the number is from 1 to how many do
--   names_at            so "names nobody" is a test on two counts; falls_at, number_at, rising_at are the other tests of cause 3
-- and what these say of a record that passes: kind_within, kind_rises, numbered, pair_rises; row_at_lem, kinds_before_lem go from lists to numbers.
use Prim.Native.Nat.{ℕ, zero, suc, ◌+◌, ◌-◌, ◌≤◌, ◌<◌}
use mathlib.Core.Path.{◌≡◌, sym, ap, ◌∙◌}
use mathlib.Core.Logic.{inl, inr, ⊎_elim}
use mathlib.Core.Bool.{true, false, not, ◌&&◌, ◌||◌, not-not}
use Rattle.std.specs.Prelude.{None}
use mathlib.Core.List.{List}
use native.Mathlib.Omega.{arith}
use lib.Dec.{eqb}
use lib.ListN.{take}
use borrow.Author.Tests.{eqb-true, eq-eqb}
use Rattle.base.specs.Lists.{any, tally, find}
use Rattle.base.specs.Search.{first_bad}
use Rattle.base.proofs.Tests.{bool_cases, never, and_left, and_right, and_make, or_false, is_false, less?}
use Rattle.base.proofs.Below.{tally_below, any_before, any_found, any_none, any_at, find_first, find_at, count_grows}
use Rattle.base.proofs.Search.{none_fails}
use Rattle.format.specs.Layout.{Row, row_at, row_count, rows, no_row, of_kind, is_student, is_workshop, is_pair, market_of}
use Rattle.format.specs.Refusals.{not_within, bad_form, names_nobody, bad_order}
use Rattle.format.specs.Engine.{market_in}
use Rattle.format.proofs.Sorted.{parts}
pub use Rattle.format.proofs.Sorted.{within, is_within, kinds_before, Before, Clean, Sorted, row_at_lem, kinds_before_lem, sorted}
pub use Rattle.format.proofs.Sorted.{falls_at, number_at, rising_at, kind_within, kind_rises, numbered, pair_rises}

-- what stands at k, where there are S students and W workshops
data At (case : List ℕ) (S W k : ℕ) : Type 0 where
  student : k < S → (row_at case k).kind ≡ 1 → (row_at case k).first ≡ suc k → At case S W k
  workshop : S ≤ k → k < S + W → (row_at case k).kind ≡ 2 → S + (row_at case k).first ≡ suc k → At case S W k
  pair : S + W ≤ k → (row_at case k).kind ≡ 3 → At case S W k

-- ---- the first i records
module _ (case : List ℕ) (i : ℕ) (c : Clean case i) where
  I : Sorted case i (kinds_before case 1 i) (kinds_before case 2 i) (kinds_before case 3 i)
  I = sorted case i c

  -- what stands at k
  at : (k : ℕ) → k < i → At case (kinds_before case 1 i) (kinds_before case 2 i) k
  at k l =
      ⊎_elim (λ (a : k < kinds_before case 1 i). student a (I.student k a).0 (I.student k a).1)
      (λ (a : kinds_before case 1 i ≤ k).
      ⊎_elim
      (λ (b : k < kinds_before case 1 i + kinds_before case 2 i).
      let q : kinds_before case 1 i + (k - kinds_before case 1 i) ≡ k = omega arith in
      let f : ((row_at case k).kind ≡ 2) × ((row_at case k).first ≡ suc (k - kinds_before case 1 i)) =
      rw q at (I.workshop (k - kinds_before case 1 i) (omega arith)) in
      workshop a b f.0 (omega arith))
      (λ (b : kinds_before case 1 i + kinds_before case 2 i ≤ k). pair b (I.pair k b l))
      (less? k (kinds_before case 1 i + kinds_before case 2 i)))
      (less? k (kinds_before case 1 i))

  -- pairs stand after the others
  pub pair_place_lem : (k : ℕ) → k < i → (row_at case k).kind ≡ 3 → kinds_before case 1 i + kinds_before case 2 i ≤ k
  pair_place_lem k l e = go (at k l)
    where
      go : At case (kinds_before case 1 i) (kinds_before case 2 i) k → kinds_before case 1 i + kinds_before case 2 i ≤ k
      go (student a b f) = absurd (omega arith)
      go (workshop a b f g) = absurd (omega arith)
      go (pair a f) = a

  -- the record of student a, and that of workshop a
  pub student_place : (a k : ℕ) → k < i → is_student a (row_at case k) ≡ true → (k < kinds_before case 1 i) × (a ≡ suc k)
  student_place a k l e = go (at k l) (eqb-true _ _ (and_left (eqb (row_at case k).kind 1) _ e)) (eqb-true _ _ (and_right (eqb (row_at case k).kind 1) _ e))
    where
      go : At case (kinds_before case 1 i) (kinds_before case 2 i) k → (row_at case k).kind ≡ 1 → (row_at case k).first ≡ a
          → (k < kinds_before case 1 i) × (a ≡ suc k)
      go (student b f g) q r = (b, omega arith)
      go (workshop b d f g) q r = absurd (omega arith)
      go (pair b f) q r = absurd (omega arith)

  pub workshop_place : (a k : ℕ) → k < i → is_workshop a (row_at case k) ≡ true → (1 ≤ a) × (a ≤ kinds_before case 2 i) × (kinds_before case 1 i + a ≡ suc k)
  workshop_place a k l e = go (at k l) (eqb-true _ _ (and_left (eqb (row_at case k).kind 2) _ e)) (eqb-true _ _ (and_right (eqb (row_at case k).kind 2) _ e))
    where
      go : At case (kinds_before case 1 i) (kinds_before case 2 i) k → (row_at case k).kind ≡ 2 → (row_at case k).first ≡ a
          → (1 ≤ a) × (a ≤ kinds_before case 2 i) × (kinds_before case 1 i + a ≡ suc k)
      go (student b f g) q r = absurd (omega arith)
      go (workshop b d f g) q r = (omega arith, omega arith, omega arith)
      go (pair b f) q r = absurd (omega arith)

  pub student_there : (a : ℕ) → 1 ≤ a → a ≤ kinds_before case 1 i → is_student a (row_at case (a - 1)) ≡ true
  student_there a l u =
      let r : ((row_at case (a - 1)).kind ≡ 1) × ((row_at case (a - 1)).first ≡ suc (a - 1)) = I.student (a - 1) (omega arith) in
      and_make (eq-eqb _ _ r.0) (eq-eqb (row_at case (a - 1)).first a (omega arith))

  pub workshop_there : (a : ℕ) → 1 ≤ a → a ≤ kinds_before case 2 i → is_workshop a (row_at case (kinds_before case 1 i + a - 1)) ≡ true
  workshop_there a l u =
      let q : kinds_before case 1 i + (a - 1) ≡ kinds_before case 1 i + a - 1 = omega arith in
      let r : ((row_at case (kinds_before case 1 i + a - 1)).kind ≡ 2) × ((row_at case (kinds_before case 1 i + a - 1)).first ≡ suc (a - 1)) =
      rw q at (I.workshop (a - 1) (omega arith)) in
      and_make (eq-eqb _ _ r.0) (eq-eqb (row_at case (kinds_before case 1 i + a - 1)).first a (omega arith))

  -- the tests of cause 3 for a pair's student and workshop
  pub student_known : (a : ℕ) → any (is_student a) (take i (rows case)) ≡ not (not_within 1 (kinds_before case 1 i) a)
  unfolding rows
  student_known a =
      any_before (row_at case) (is_student a) (row_count case) i c.inside
      ∙ ⊎_elim
      (λ (e : not_within 1 (kinds_before case 1 i) a ≡ true).
      rw e
      (any_none (λ k. is_student a (row_at case k)) i
      (λ k l.
      is_false (is_student a (row_at case k))
      (λ b.
      let p : (k < kinds_before case 1 i) × (a ≡ suc k) = student_place a k l b in
      never e (is_within 1 (kinds_before case 1 i) a (omega arith) (omega arith))))))
      (λ (e : not_within 1 (kinds_before case 1 i) a ≡ false).
      let r : (1 ≤ a) × (a ≤ kinds_before case 1 i) = within 1 (kinds_before case 1 i) a e in
      rw e (any_found (λ k. is_student a (row_at case k)) (a - 1) i (omega (arith, I.whole)) (student_there a r.0 r.1)))
      (bool_cases (not_within 1 (kinds_before case 1 i) a))

  pub workshop_known : (a : ℕ) → any (is_workshop a) (take i (rows case)) ≡ not (not_within 1 (kinds_before case 2 i) a)
  unfolding rows
  workshop_known a =
      any_before (row_at case) (is_workshop a) (row_count case) i c.inside
      ∙ ⊎_elim
      (λ (e : not_within 1 (kinds_before case 2 i) a ≡ true).
      rw e
      (any_none (λ k. is_workshop a (row_at case k)) i
      (λ k l.
      is_false (is_workshop a (row_at case k))
      (λ b.
      let p : (1 ≤ a) × (a ≤ kinds_before case 2 i) × (kinds_before case 1 i + a ≡ suc k) = workshop_place a k l b in
      never e (is_within 1 (kinds_before case 2 i) a p.0 p.1)))))
      (λ (e : not_within 1 (kinds_before case 2 i) a ≡ false).
      let r : (1 ≤ a) × (a ≤ kinds_before case 2 i) = within 1 (kinds_before case 2 i) a e in
      rw e
      (any_found (λ k. is_workshop a (row_at case k)) (kinds_before case 1 i + a - 1) i (omega (arith, I.whole)) (workshop_there a r.0 r.1)))
      (bool_cases (not_within 1 (kinds_before case 2 i) a))

  pub names_at : i < row_count case → names_nobody (rows case) i
      ≡ (eqb (row_at case i).kind 3
      && (not_within 1 (kinds_before case 1 i) (row_at case i).first || not_within 1 (kinds_before case 2 i) (row_at case i).second))
  unfolding names_nobody
  names_at l =
      rw (
        row_at_lem case i l,
        student_known (row_at case i).first,
        workshop_known (row_at case i).second,
        not-not (not_within 1 (kinds_before case 1 i) (row_at case i).first),
        not-not (not_within 1 (kinds_before case 2 i) (row_at case i).second),
      )

-- ---- the whole case
pub pair_says : (s w : ℕ) (r : Row) → is_pair s w r ≡ true → (r.kind ≡ 3) × (r.first ≡ s) × (r.second ≡ w)
pair_says s w r e =
    let f : (eqb r.first s && eqb r.second w) ≡ true = and_right (eqb r.kind 3) _ e in
    (eqb-true _ _ (and_left (eqb r.kind 3) _ e), eqb-true _ _ (and_left (eqb r.first s) _ f), eqb-true _ _ (and_right (eqb r.first s) _ f))

pub clean_all : (case : List ℕ) → first_bad (bad_form (rows case)) (row_count case) ≡ None → first_bad (bad_order (rows case)) (row_count case) ≡ None
    → Clean case (row_count case)
clean_all case f o =
    record {
      inside = omega arith;
      form = none_fails (bad_form (rows case)) (row_count case) f;
      order = none_fails (bad_order (rows case)) (row_count case) o;
    }

-- how many records stand before the pairs, and how many pairs there are
abbrev pub people : List ℕ → ℕ
people case = (market_in case).students + (market_in case).workshops

abbrev pub pair_count : List ℕ → ℕ
pair_count case = tally (of_kind 3) (rows case)

-- record i is the one found for the pair
pub record PairAt (case : List ℕ) (s w i : ℕ) : Type 0 where
  pub inside : i < row_count case
  pub pair : is_pair s w (row_at case i) ≡ true
  pub found : find (is_pair s w) no_row (rows case) ≡ row_at case i

module _ (case : List ℕ) where
  pub students_count : (market_in case).students ≡ kinds_before case 1 (row_count case)
  unfolding market_of rows
  students_count = tally_below (row_at case) (of_kind 1) (row_count case)

  pub workshops_count : (market_in case).workshops ≡ kinds_before case 2 (row_count case)
  unfolding market_of rows
  workshops_count = tally_below (row_at case) (of_kind 2) (row_count case)

  pub pairs_count : pair_count case ≡ kinds_before case 3 (row_count case)
  unfolding rows
  pairs_count = tally_below (row_at case) (of_kind 3) (row_count case)

  -- the record that the market's lookup finds
  pub pair_record : (s w : ℕ) → (market_in case).paired s w ≡ true → (i : ℕ) × PairAt case s w i
  unfolding market_of rows
  pair_record s w e =
      let r : (i : ℕ) × (i < row_count case) × (is_pair s w (row_at case i) ≡ true) × (find (is_pair s w) no_row (rows case) ≡ row_at case i) =
      find_at (row_at case) (is_pair s w) no_row (row_count case) e in
      (r.0, record { inside = r.1; pair = r.2; found = r.3 })

  module _ (c : Clean case (row_count case)) where
    -- students, then workshops, then pairs
    pub places : Sorted case (row_count case) (market_in case).students (market_in case).workshops (pair_count case)
    places = rw (students_count, workshops_count, pairs_count) (sorted case (row_count case) c)

    -- no other record is a student
    pub student_from : (i : ℕ) → i < row_count case → (row_at case i).kind ≡ 1 → i < (market_in case).students
    student_from i l e = go (at case (row_count case) c i l)
      where
        go : At case (kinds_before case 1 (row_count case)) (kinds_before case 2 (row_count case)) i → i < (market_in case).students
        go (student a b f) = omega (arith, students_count)
        go (workshop a b f g) = absurd (omega arith)
        go (pair a f) = absurd (omega arith)

    pub student_found : (s : ℕ) → 1 ≤ s → s ≤ (market_in case).students → find (is_student s) no_row (rows case) ≡ row_at case (s - 1)
    unfolding rows
    student_found s l u =
        let v : s ≤ kinds_before case 1 (row_count case) = omega (arith, students_count) in
        find_first (row_at case) (is_student s) no_row (row_count case) (s - 1) (omega (arith, (sorted case (row_count case) c).whole))
        (student_there case (row_count case) c s l v)
        (λ k m.
        is_false (is_student s (row_at case k))
        (λ b. omega (arith, (student_place case (row_count case) c s k (omega (arith, (sorted case (row_count case) c).whole)) b).1)))

    pub workshop_found : (w : ℕ) → 1 ≤ w → w ≤ (market_in case).workshops
        → find (is_workshop w) no_row (rows case) ≡ row_at case ((market_in case).students + w - 1)
    unfolding rows
    workshop_found w l u =
        let v : w ≤ kinds_before case 2 (row_count case) = omega (arith, workshops_count) in
        rw students_count
        (find_first (row_at case) (is_workshop w) no_row (row_count case) (kinds_before case 1 (row_count case) + w - 1)
        (omega (arith, (sorted case (row_count case) c).whole))
        (workshop_there case (row_count case) c w l v)
        (λ k m.
        is_false (is_workshop w (row_at case k))
        (λ b. omega (arith, (workshop_place case (row_count case) c w k (omega (arith, (sorted case (row_count case) c).whole)) b).2))))

    -- the market's people by position
    pub stage_at : (s : ℕ) → 1 ≤ s → s ≤ (market_in case).students → (market_in case).stage s ≡ (row_at case (s - 1)).second
    unfolding market_of
    stage_at s l u = ap (λ r. r.second) (student_found s l u)

    pub lot_at : (s : ℕ) → 1 ≤ s → s ≤ (market_in case).students → (market_in case).lot s ≡ (row_at case (s - 1)).fourth
    unfolding market_of
    lot_at s l u = ap (λ r. r.fourth) (student_found s l u)

    pub student_outside_at : (s : ℕ) → 1 ≤ s → s ≤ (market_in case).students → (market_in case).student_tier s 0 ≡ (row_at case (s - 1)).third
    unfolding market_of
    student_outside_at s l u = ap (λ r. r.third) (student_found s l u)

    pub quota_at : (w : ℕ) → 1 ≤ w → w ≤ (market_in case).workshops → (market_in case).quota w ≡ (row_at case ((market_in case).students + w - 1)).second
    unfolding market_of
    quota_at w l u = ap (λ r. r.second) (workshop_found w l u)

    pub workshop_outside_at : (w : ℕ) → 1 ≤ w → w ≤ (market_in case).workshops
        → (market_in case).workshop_tier w 0 ≡ (row_at case ((market_in case).students + w - 1)).third
    unfolding market_of
    workshop_outside_at w l u = ap (λ r. r.third) (workshop_found w l u)

    -- ---- pairs
    pub pair_from : (i : ℕ) → i < row_count case → (row_at case i).kind ≡ 3 → people case ≤ i
    pair_from i l e = omega (arith, pair_place_lem case (row_count case) c i l e, students_count, workshops_count)

    -- a pair names a student and a workshop of the market
    pub pair_names : (i : ℕ) → i < row_count case → (row_at case i).kind ≡ 3
        → ((1 ≤ (row_at case i).first) × ((row_at case i).first ≤ (market_in case).students))
        × ((1 ≤ (row_at case i).second) × ((row_at case i).second ≤ (market_in case).workshops))
    pair_names i l e =
        let f : (not_within 1 (kinds_before case 1 i) (row_at case i).first || not_within 1 (kinds_before case 2 i) (row_at case i).second) ≡ false =
        rw e at (sym (names_at case i (clean_to i (omega arith)) l) ∙ (parts case i l (c.order i l)).1.1) in
        let r : (not_within 1 (kinds_before case 1 i) (row_at case i).first ≡ false) × (not_within 1 (kinds_before case 2 i) (row_at case i).second ≡ false) =
        or_false (not_within 1 (kinds_before case 1 i) (row_at case i).first) _ f in
        let s : (1 ≤ (row_at case i).first) × ((row_at case i).first ≤ kinds_before case 1 i) = within 1 (kinds_before case 1 i) (row_at case i).first r.0 in
        let w : (1 ≤ (row_at case i).second) × ((row_at case i).second ≤ kinds_before case 2 i) = within 1 (kinds_before case 2 i) (row_at case i).second r.1 in (
          (s.0, omega (arith, students_count, count_grows (λ k. of_kind 1 (row_at case k)) i (row_count case) (omega arith))),
          (w.0, omega (arith, workshops_count, count_grows (λ k. of_kind 2 (row_at case k)) i (row_count case) (omega arith))),
        )
      where
        clean_to : (i : ℕ) → i ≤ row_count case → Clean case i
        clean_to i u = record { inside = u; form = λ k v. c.form k (omega arith); order = λ k v. c.order k (omega arith) }

    -- pairs rise, by student and then workshop
    pub pairs_rise : (i j : ℕ) → people case ≤ i → i < j → j < row_count case → Before (row_at case i) (row_at case j)
    pairs_rise i zero a l u = absurd (omega arith)
    pairs_rise i (suc j) a l u =
        ⊎_elim (λ (q : i < j). before_then (row_at case i) (row_at case j) (row_at case (suc j)) (pairs_rise i j a q (omega arith)) (next j (omega arith) u))
        (λ (q : j ≤ i). let e : i ≡ j = omega arith in rw e (next j (omega arith) u))
        (less? i j)
      where
        next : (j : ℕ) → people case ≤ j → suc j < row_count case → Before (row_at case j) (row_at case (suc j))
        next j a u =
            let e : suc j - 1 ≡ j = omega arith in
            rw e at (pair_rises case (suc j) u (c.order (suc j) u) (places.pair (suc j) (omega arith) u) (rw e (places.pair j a (omega arith))))

        before_then : (r q t : Row) → Before r q → Before q t → Before r t
        before_then r q t (inl a) (inl b) = inl (omega arith)
        before_then r q t (inl a) (inr b) = inl (omega arith)
        before_then r q t (inr a) (inl b) = inl (omega arith)
        before_then r q t (inr a) (inr b) = inr (omega arith)

    -- two records of one pair are one record
    pub pair_only : (s w i j : ℕ) → i < row_count case → j < row_count case → is_pair s w (row_at case i) ≡ true → is_pair s w (row_at case j) ≡ true → i ≡ j
    pair_only s w i j l u p q =
        ⊎_elim (λ (a : i < j). absurd (clash i j a l u p q))
        (λ (a : j ≤ i). ⊎_elim (λ (b : j < i). absurd (clash j i b u l q p)) (λ (b : i ≤ j). omega arith) (less? j i))
        (less? i j)
      where
        clash : (i j : ℕ) → i < j → i < row_count case → j < row_count case → is_pair s w (row_at case i) ≡ true → is_pair s w (row_at case j) ≡ true → ⊥
        clash i j a l u p q =
            let x : ((row_at case i).kind ≡ 3) × ((row_at case i).first ≡ s) × ((row_at case i).second ≡ w) = pair_says s w (row_at case i) p in
            let y : ((row_at case j).kind ≡ 3) × ((row_at case j).first ≡ s) × ((row_at case j).second ≡ w) = pair_says s w (row_at case j) q in
            ⊎_elim (λ (b : (row_at case i).first < (row_at case j).first). omega arith)
            (λ (b : ((row_at case i).first ≡ (row_at case j).first) × ((row_at case i).second < (row_at case j).second)). omega arith)
            (pairs_rise i j (pair_from i l x.0) a u)

    -- the record that a search finds is the pair's
    pub pair_found : (s w i : ℕ) → i < row_count case → is_pair s w (row_at case i) ≡ true → find (is_pair s w) no_row (rows case) ≡ row_at case i
    unfolding rows
    pair_found s w i l e =
        find_first (row_at case) (is_pair s w) no_row (row_count case) i l e
        (λ k m. is_false (is_pair s w (row_at case k)) (λ b. omega (arith, pair_only s w k i (omega arith) l b e)))

    pub pair_there : (s w i : ℕ) → i < row_count case → is_pair s w (row_at case i) ≡ true → (market_in case).paired s w ≡ true
    unfolding rows market_of
    pair_there s w i l e = any_at (row_at case) (is_pair s w) (row_count case) i l e

    pub student_tier_at : (s w i : ℕ) → i < row_count case → is_pair s w (row_at case i) ≡ true → (market_in case).student_tier s w ≡ (row_at case i).third
    unfolding market_of
    student_tier_at s zero i l e = absurd (omega (arith, (pair_says s 0 (row_at case i) e).2, (pair_names i l (pair_says s 0 (row_at case i) e).0).1.0))
    student_tier_at s (suc w) i l e = ap (λ r. r.third) (pair_found s (suc w) i l e)

    pub workshop_tier_at : (s w i : ℕ) → i < row_count case → is_pair s w (row_at case i) ≡ true → (market_in case).workshop_tier w s ≡ (row_at case i).fourth
    unfolding market_of
    workshop_tier_at zero w i l e = absurd (omega (arith, (pair_says 0 w (row_at case i) e).1, (pair_names i l (pair_says 0 w (row_at case i) e).0).0.0))
    workshop_tier_at (suc s) w i l e = ap (λ r. r.fourth) (pair_found (suc s) w i l e)

    pub fare_at_lem : (s w i : ℕ) → i < row_count case → is_pair s w (row_at case i) ≡ true → (market_in case).fare s w ≡ (row_at case i).fifth
    unfolding market_of
    fare_at_lem s w i l e = ap (λ r. r.fifth) (pair_found s w i l e)
