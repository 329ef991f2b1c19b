-- A case and a book that no cause refuses, with the index of their pairs, have what the run's code reads.
-- People and pairs stand where the laws of a clean case (format: Positions) say, and a book record stands where the index says.
use Prim.Native.Nat.{ℕ, zero, suc, ◌+◌, ◌*◌, ◌-◌, ◌≤◌, ◌<◌}
use mathlib.Core.Path.{◌≡◌, refl, sym, ap, ◌∙◌}
use mathlib.Core.Bool.{true, false, not}
use mathlib.Core.List.{List}
use Rattle.std.specs.Prelude.{Option, Some, None}
use native.Mathlib.Omega.{arith}
use lib.Dec.{eqb, ltb}
use lib.ListN.{length, get_or}
use borrow.Author.Tests.{eqb-true, not-false, ltb-false}
use Rattle.base.specs.Lists.{any, tally}
use Rattle.base.specs.Search.{first_bad}
use Rattle.base.proofs.Tests.{never, or_false, is_false}
use Rattle.base.proofs.Below.{any_below_lem}
use Rattle.base.proofs.Search.{first_below, first_passes, scan_none}
use Rattle.lgs.specs.Market.{all_seats}
use Rattle.format.specs.Layout.{rows, row_count, of_kind, entries, entry_count, entry_at, is_interview, is_pair, market_of, results_of, ends_in_never}
use Rattle.format.specs.Refusals.{Room, needed, bad_form, bad_order, bad_counts, bad_range, bad_room, bad_pair}
use Rattle.format.specs.Promises.{Valid}
use Rattle.format.specs.Engine.{market_in, results_in}
use Rattle.format.proofs.Causes.{passed, counts_pass, room_passes}
use Rattle.format.proofs.Fares.{fare_small}
use Rattle.format.proofs.Reading.{Passed, entry_found, entry_at_lem, interview_says}
use Rattle.records.specs.Records.{pair_place}
use Rattle.lookup.specs.Clean.{Clean, EntryAt, index_at}
use Rattle.lookup.proofs.People.{student_at, workshop_at, pair_at, named_at}
use Rattle.case_tests.specs.Checked.{CleanCase, pair_count}
use Rattle.case_tests.proofs.Cases.{clean, few}
use Rattle.book_tests.specs.Index.{from_one, lent_index}
use Rattle.book_tests.proofs.Indexing.{Placed, placed_by, index_at_lem, lent_length, any_number}
use Rattle.tables.specs.Table.{Tabled, Linked, Staged}
use Rattle.tables.proofs.Standing.{staged}

module _ (case book : List ℕ) (c : CleanCase case (market_in case).students (market_in case).workshops) (passed : Passed case book)
    (bytes : (k : ℕ) → get_or case k 0 < 256) (lent : ℕ) (room : pair_count case ≤ lent) where
  abbrev n : ℕ
  n = (market_in case).students

  abbrev m : ℕ
  m = (market_in case).workshops

  abbrev index : List ℕ
  index = lent_index case book (entry_count book) lent

  indexed_at : (s w : ℕ) → (market_in case).paired s w ≡ true → (n + m ≤ pair_place case s w) × (pair_place case s w - (n + m) < length index)
  unfolding market_of
  indexed_at s w e =
      let p : Placed case s w (pair_place case s w) = placed_by case n m c s w e in
      (p.from, omega (arith, p.within, lent_length case n m c book (entry_count book) lent room))

  -- what the index has for a pair
  index_has : (s w : ℕ) → (market_in case).paired s w ≡ true → index_at case index n m s w ≡ from_one
      (first_bad (λ k. is_interview s w (entry_at book k)) (entry_count book))
  unfolding market_of
  index_has s w e = index_at_lem case n m c book (entry_count book) lent s w (pair_place case s w) (placed_by case n m c s w e)

  -- ---- the book
  -- a book record names a pair
  entry_pair : (s w i : ℕ) → i < entry_count book → is_interview s w (entry_at book i) ≡ true → (market_in case).paired s w ≡ true
  unfolding market_of bad_pair
  entry_pair s w i l e =
      let says : ((entry_at book i).student ≡ s) × ((entry_at book i).workshop ≡ w) = interview_says s w (entry_at book i) e in
      let good : not (any (is_pair (entry_at book i).student (entry_at book i).workshop) (rows case)) ≡ false =
      rw (entry_at_lem book i l) at (passed.pair i l) in
      rw (says.0, says.1) at (not-false (any (is_pair (entry_at book i).student (entry_at book i).workshop) (rows case)) good)

  abbrev number : ℕ → ℕ → Option ℕ
  number s w = first_bad (λ k. is_interview s w (entry_at book k)) (entry_count book)

  met_number : (s w : ℕ) → (results_in book).met s w ≡ not (eqb (from_one (number s w)) 0)
  unfolding results_of entries
  met_number s w = any_below_lem (entry_at book) (is_interview s w) (entry_count book) ∙ any_number (λ k. is_interview s w (entry_at book k)) (entry_count book)

  scores_at : (s w i : ℕ) → i < entry_count book → is_interview s w (entry_at book i) ≡ true
      → ((results_in book).student_score s w ≡ (entry_at book i).student_score) × ((results_in book).workshop_score w s ≡ (entry_at book i).workshop_score)
      × ((results_in book).never s w ≡ ends_in_never (entry_at book i))
  unfolding results_of
  scores_at zero zero i l e = absurd (omega (arith, (named_at case (clean case n m c) 0 0 (entry_pair 0 0 i l e)).0.0))
  scores_at zero (suc w) i l e = absurd (omega (arith, (named_at case (clean case n m c) 0 (suc w) (entry_pair 0 (suc w) i l e)).0.0))
  scores_at (suc s) zero i l e = absurd (omega (arith, (named_at case (clean case n m c) (suc s) 0 (entry_pair (suc s) 0 i l e)).1.0))
  scores_at (suc s) (suc w) i l e =
      let f = entry_found case book passed (suc s) (suc w) i l e in
      (ap (λ r. r.student_score) f, ap (λ r. r.workshop_score) f, ap ends_in_never f)

  -- the record that the index names is the interview's
  entry_named : (s w : ℕ) (o : Option ℕ) → number s w ≡ o → (results_in book).met s w ≡ true → EntryAt book s w (from_one o)
  entry_named s w None e met = never met (met_number s w ∙ rw e)
  entry_named s w (Some i) e met =
      let l : i < entry_count book = first_below (λ k. is_interview s w (entry_at book k)) (entry_count book) i e in
      let scores = scores_at s w i l (first_passes (λ k. is_interview s w (entry_at book k)) (entry_count book) i e) in
      let same : i ≡ suc i - 1 = omega arith in
      record {
        from = omega arith;
        to = omega arith;
        never = scores.2 ∙ ap (λ (k : ℕ). ends_in_never (entry_at book k)) same;
        student_score = scores.0 ∙ ap (λ (k : ℕ). (entry_at book k).student_score) same;
        workshop_score = scores.1 ∙ ap (λ (k : ℕ). (entry_at book k).workshop_score) same;
      }

  met_paired : (s w : ℕ) → (results_in book).met s w ≡ true → (market_in case).paired s w ≡ true
  met_paired s w met = by_number (number s w) refl
    where
      by_number : (o : Option ℕ) → number s w ≡ o → (market_in case).paired s w ≡ true
      by_number None e = never met (met_number s w ∙ rw e)
      by_number (Some i) e =
          entry_pair s w i (first_below (λ k. is_interview s w (entry_at book k)) (entry_count book) i e)
          (first_passes (λ k. is_interview s w (entry_at book k)) (entry_count book) i e)

  pub all_staged : Staged case n
  all_staged =
      staged case (clean case n m c) (few case n m c).0.1 (few case n m c).1.1 passed.range

  pub all_clean : (table : List ℕ) → Tabled case table → Linked case table n → Clean case book index table n m
  all_clean table tabled linked =
      record {
        students = refl;
        workshops = refl;
        many_students = (few case n m c).0.1;
        many_workshops = (few case n m c).1.1;
        tabled = tabled;
        linked = linked;
        student = student_at case (clean case n m c);
        workshop = workshop_at case (clean case n m c);
        pair = pair_at case (clean case n m c);
        fare = fare_small case bytes;
        named = named_at case (clean case n m c);
        indexed = indexed_at;
        met = λ s w met. rw (index_has s w (met_paired s w met)) (entry_named s w (number s w) refl met);
        unmet = λ s w pair unmet. index_has s w pair ∙ eqb-true _ _ (not-false _ (sym (met_number s w) ∙ unmet));
      }

-- ---- from "not refused"
-- the buffers are long enough
pub record Enough (case : List ℕ) (room : Room) : Type 0 where
  pub places : (market_in case).students ≤ room.places
  pub visits : 2 * tally (of_kind 3) (rows case) ≤ room.visits
  pub seats : all_seats (market_in case) ≤ room.seats
  pub index : pair_count case ≤ room.index
  pub states : (market_in case).students ≤ room.states

pub enough : (case book : List ℕ) (room : Room) → Valid case book room → Enough case room
unfolding bad_room needed
enough case book room valid =
    let N : Room = needed (rows case) in
    let a = or_false (ltb room.places N.places) _ (is_false (bad_room (rows case) room) (room_passes case book room valid)) in
    let b = or_false (ltb room.visits N.visits) _ a.1 in
    let c = or_false (ltb room.seats N.seats) _ b.1 in
    let d = or_false (ltb room.index N.index) _ c.1 in
    record {
      places = ltb-false room.places N.places a.0;
      visits = ltb-false room.visits N.visits b.0;
      seats = ltb-false room.seats N.seats c.0;
      index = ltb-false room.index N.index d.0;
      states = ltb-false room.states N.states d.1;
    }

clean_case : (case book : List ℕ) (room : Room) → Valid case book room → CleanCase case (market_in case).students (market_in case).workshops
clean_case case book room valid =
    let all : Passed case book = passed case book room valid in
    record {
      form = scan_none (bad_form (rows case)) (row_count case) all.form;
      order = scan_none (bad_order (rows case)) (row_count case) all.order;
      counts = is_false (bad_counts (rows case)) (counts_pass case book room valid);
      range = scan_none (bad_range (rows case)) (row_count case) all.range;
      students = refl;
      workshops = refl;
    }

pub valid_staged : (case book : List ℕ) (room : Room) → Valid case book room → ((k : ℕ) → get_or case k 0 < 256) → Staged case (market_in case).students
valid_staged case book room valid bytes =
    all_staged case book (clean_case case book room valid) (passed case book room valid) bytes room.index (enough case book room valid).index

pub valid_clean : (case book : List ℕ) (room : Room) → Valid case book room → ((k : ℕ) → get_or case k 0 < 256) → (table : List ℕ) → Tabled case table
    → Linked case table (market_in case).students
    → Clean case book (lent_index case book (entry_count book) room.index) table (market_in case).students (market_in case).workshops
valid_clean case book room valid bytes =
    all_clean case book (clean_case case book room valid) (passed case book room valid) bytes room.index (enough case book room valid).index
