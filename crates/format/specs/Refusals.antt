-- The twelve refusals (document 01, "When the desk says no"; 13: document 02, Paper 3). Each cause is a test on one record, given by its place, or on a
-- whole file.
use Rattle.std.specs.Prelude.{ℕ, suc, ◌-◌, ◌*◌, ◌%◌, Bool, not, ◌&&◌, ◌||◌, List, [], ◌∷◌, ◌++◌, length, get_or, take, ltb, eqb, Option}
use Rattle.base.specs.Lists.{any, tally}
use Rattle.lgs.specs.Market.{all_seats}
use Rattle.format.specs.Layout.{Row, Entry, no_row, no_entry, rows, entries, row_count, entry_count, of_kind, unnamed, is_student, is_workshop}
use Rattle.format.specs.Layout.{has_lot, is_pair, is_interview, market_of, outside_score, says_never}
use Rattle.format.specs.Causes.{Cause, whole, each, first_cause}

-- the number is not from low to high
abbrev pub not_within : ℕ → ℕ → ℕ → Bool
not_within low high x = ltb x low || ltb high x

-- the score is 0 or outside -1000 to 1000 (31768 to 33768, as scores are kept)
abbrev pub bad_score : ℕ → Bool
bad_score x = eqb x outside_score || not_within 31768 33768 x

-- "an equal mark"; -1000 ties with nothing: "several such marks in one group are fine, so number 11 passes over them" (document 02, Paper 1)
abbrev pub tied_scores : ℕ → ℕ → Bool
tied_scores x y = eqb x y && not (says_never y)

-- the lengths of the lent buffers, in entries
pub record Room : Type 0 where
  pub places : ℕ
  pub visits : ℕ
  pub seats : ℕ
  pub index : ℕ
  pub states : ℕ

module _ (rs : List Row) where
  abbrev pub row : ℕ → Row
  row i = get_or rs i no_row

  -- 2: "kind not 1 to 3, or a byte that should be zero"
  unfoldable pub bad_form : ℕ → Bool
  bad_form i = not_within 1 3 (row i).kind || any (λ x. not (eqb x 0)) (unnamed (row i))

  -- 3: "kinds fall" from the record before; the first record has none before it and is compared with itself (0 - 1 is 0)
  unfoldable pub kind_falls : ℕ → Bool
  kind_falls i = ltb (row i).kind (row (i - 1)).kind

  -- 3: "a number out of sequence": a student or a workshop is one more than how many of its kind stand before
  unfoldable pub bad_number : ℕ → Bool
  bad_number i = not (eqb (row i).kind 3) && not (eqb (row i).first (suc (tally (of_kind (row i).kind) (take i rs))))

  -- 3: "pairs not rising", strictly "by student and then workshop"; a pair that is the first record also names nobody
  unfoldable pub not_rising : ℕ → Bool
  not_rising i =
      let prev = row (i - 1) in
      (eqb (row i).kind 3 && eqb prev.kind 3)
      && not
      (ltb prev.first (row i).first || (eqb prev.first (row i).first && ltb prev.second (row i).second))

  -- 3: "a pair names nobody in an earlier record": its student or its workshop has no record before
  unfoldable pub names_nobody : ℕ → Bool
  names_nobody i =
      eqb (row i).kind 3
      && (not (any (is_student (row i).first) (take i rs)) || not (any (is_workshop (row i).second) (take i rs)))

  unfoldable pub bad_order : ℕ → Bool
  bad_order i = (kind_falls i || bad_number i) || (not_rising i || names_nobody i)

  -- 4: "no student, over 512, no workshop, over 64"
  unfoldable pub bad_counts : Bool
  bad_counts = not_within 1 512 (tally (of_kind 1) rs) || not_within 1 64 (tally (of_kind 2) rs)

  -- 5: "stage, quota, group or line out of range"
  unfoldable pub bad_student : ℕ → Bool
  bad_student i = eqb (row i).kind 1 && (not_within 1 512 (row i).second || not_within 1 65 (row i).third)

  unfoldable pub bad_workshop : ℕ → Bool
  bad_workshop i = eqb (row i).kind 2 && (not_within 0 512 (row i).second || not_within 1 513 (row i).third)

  unfoldable pub bad_tiers : ℕ → Bool
  bad_tiers i = eqb (row i).kind 3 && (not_within 1 65 (row i).third || not_within 1 513 (row i).fourth)

  unfoldable pub bad_range : ℕ → Bool
  bad_range i = bad_student i || (bad_workshop i || bad_tiers i)

  -- 13: "when a lot is out of range", 1 to 512, "or already used by an earlier student"
  unfoldable pub bad_lot : ℕ → Bool
  bad_lot i = eqb (row i).kind 1 && (not_within 1 512 (row i).fourth || any (has_lot (row i).fourth) (take i rs))

  -- the lengths needed (document 01, "Buffers"): places and states "one for each student", visits "two 16-bit entries per pair record",
  -- seats "one 16-bit entry per seat of all quotas", index "one 16-bit entry per pair record"
  unfoldable pub needed : Room
  needed =
      let M = market_of rs in
      let pairs = tally (of_kind 3) rs in
      record {
        places = M.students;
        visits = 2 * pairs;
        seats = all_seats M;
        index = pairs;
        states = M.students;
      }

  -- 6: "a lent buffer shorter than above"
  unfoldable pub bad_room : Room → Bool
  bad_room room =
      ltb room.places needed.places
      || (ltb room.visits needed.visits
      || (ltb room.seats needed.seats
      || (ltb room.index needed.index || ltb room.states needed.states)))

  module _ (es : List Entry) where
    abbrev pub entry : ℕ → Entry
    entry i = get_or es i no_entry

    -- 8: "book record without its pair"
    unfoldable pub bad_pair : ℕ → Bool
    bad_pair i = not (any (is_pair (entry i).student (entry i).workshop) rs)

    -- 9: "mark 0 or outside the range"
    unfoldable pub bad_scores : ℕ → Bool
    bad_scores i = bad_score (entry i).student_score || bad_score (entry i).workshop_score

    -- 10: "pair already in the book"
    unfoldable pub bad_repeat : ℕ → Bool
    bad_repeat i = any (is_interview (entry i).student (entry i).workshop) (take i es)

    -- 11: "one person gave an equal mark earlier in the same group"; it "remains for students' marks only" (document 02, Paper 3): the student of both records
    unfoldable pub student_ties : Entry → Entry → Bool
    student_ties e f =
        let tier = (market_of rs).student_tier e.student in
        eqb f.student e.student
        && (eqb (tier f.workshop) (tier e.workshop) && tied_scores f.student_score e.student_score)

    unfoldable pub bad_tie : ℕ → Bool
    bad_tie i = any (student_ties (entry i)) (take i es)

-- ---- the causes: those of the case, the lent buffers' and those of the book, each in the table's order; 13 is "tested after 5 and before 6"

unfoldable pub case_causes : List ℕ → List Cause
case_causes case =
    let rs = rows case in
    (1, whole (not (eqb (length case % 16) 0)))
    ∷ (2, each (row_count case) (bad_form rs))
    ∷ (3, each (row_count case) (bad_order rs))
    ∷ (4, whole (bad_counts rs))
    ∷ (5, each (row_count case) (bad_range rs))
    ∷ (13, each (row_count case) (bad_lot rs))
    ∷ []

unfoldable pub room_causes : List ℕ → Room → List Cause
room_causes case room = (6, whole (bad_room (rows case) room)) ∷ []

unfoldable pub book_causes : List ℕ → List ℕ → List Cause
book_causes case book =
    let rs = rows case in
    let es = entries book in
    (7, whole (not (eqb (length book % 8) 0)))
    ∷ (8, each (entry_count book) (bad_pair rs es))
    ∷ (9, each (entry_count book) (bad_scores rs es))
    ∷ (10, each (entry_count book) (bad_repeat rs es))
    ∷ (11, each (entry_count book) (bad_tie rs es))
    ∷ []

-- the engine's table
unfoldable pub causes : List ℕ → List ℕ → Room → List Cause
causes case book room = case_causes case ++ (room_causes case room ++ book_causes case book)

-- the first cause that finds a place: its number and that place
unfoldable pub refusal : List ℕ → List ℕ → Room → Option (ℕ × ℕ)
refusal case book room = first_cause (causes case book room)
