-- The case and the book as lists of bytes, numbers below 256, and the market and the results that they hold (document 01, "The case and the book").
use Rattle.std.specs.Prelude.{ℕ, zero, suc, ◌+◌, ◌*◌, ◌/◌, Bool, cond, ◌&&◌, ◌||◌, List, [], ◌∷◌, length, get_or, eqb}
use Rattle.base.specs.Lists.{tabulate, any, tally, find}
use Rattle.base.specs.Words.{word, signed}
use Rattle.lgs.specs.Market.{Market, Results}

-- ---- The case: "records of 16 bytes, no header".

-- "Byte 0 is the kind, byte 1 is zero, then 16-bit fields from byte 2."
--   kind 1, student:  first = number,   second = stage,    third = line group, fourth = lot (document 02, Paper 3)
--   kind 2, workshop: first = number,   second = quota,    third = line group
--   kind 3, pair:     first = student,  second = workshop, third = the student's group for the workshop, fourth = the workshop's for the student,
--                     fifth = fare in pence (document 02, Paper 4)
pub record Row : Type 0 where
  pub kind : ℕ
  pub pad : ℕ  -- byte 1
  pub first : ℕ  -- bytes 2 and 3
  pub second : ℕ  -- bytes 4 and 5
  pub third : ℕ  -- bytes 6 and 7
  pub fourth : ℕ  -- bytes 8 and 9
  pub fifth : ℕ  -- bytes 10 and 11
  pub sixth : ℕ  -- bytes 12 and 13
  pub seventh : ℕ  -- bytes 14 and 15

unfoldable pub row_at : List ℕ → ℕ → Row
row_at bytes i =
    let at = 16 * i in
    record {
      kind = get_or bytes at 0;
      pad = get_or bytes (at + 1) 0;
      first = word bytes (at + 2);
      second = word bytes (at + 4);
      third = word bytes (at + 6);
      fourth = word bytes (at + 8);
      fifth = word bytes (at + 10);
      sixth = word bytes (at + 12);
      seventh = word bytes (at + 14);
    }

-- how many whole records the case has
abbrev pub row_count : List ℕ → ℕ
row_count case = length case / 16

unfoldable pub rows : List ℕ → List Row
rows case = tabulate (row_at case) (row_count case)

-- what stands for a record that is not there
abbrev pub no_row : Row
no_row =
    record { kind = 0; pad = 0; first = 0; second = 0; third = 0; fourth = 0; fifth = 0; sixth = 0; seventh = 0 }

-- a record's second field replaced
abbrev pub with_second : Row → ℕ → Row
with_second r x =
    record {
      kind = r.kind;
      pad = r.pad;
      first = r.first;
      second = x;
      third = r.third;
      fourth = r.fourth;
      fifth = r.fifth;
      sixth = r.sixth;
      seventh = r.seventh;
    }

abbrev pub of_kind : ℕ → Row → Bool
of_kind k r = eqb r.kind k

-- "bytes not named are zero": byte 1 and the fields that a record of its kind does not name. "Number 2 no longer tests" a
-- student's lot nor a pair's fare (document 02, Papers 3 and 4).
unfoldable pub unnamed : Row → List ℕ
unnamed r =
    cond (of_kind 2 r)
    (r.pad ∷ r.fourth ∷ r.fifth ∷ r.sixth ∷ r.seventh ∷ [])
    (cond (of_kind 3 r) (r.pad ∷ r.sixth ∷ r.seventh ∷ []) (r.pad ∷ r.fifth ∷ r.sixth ∷ r.seventh ∷ []))

-- the record of student s
abbrev pub is_student : ℕ → Row → Bool
is_student s r = eqb r.kind 1 && eqb r.first s

-- the record of a student with this lot
abbrev pub has_lot : ℕ → Row → Bool
has_lot lot r = eqb r.kind 1 && eqb r.fourth lot

-- the record of workshop w
abbrev pub is_workshop : ℕ → Row → Bool
is_workshop w r = eqb r.kind 2 && eqb r.first w

-- the record of the pair of student s and workshop w
abbrev pub is_pair : ℕ → ℕ → Row → Bool
is_pair s w r = eqb r.kind 3 && (eqb r.first s && eqb r.second w)

-- a for the outside option (0), and else what f gives
abbrev pub outside_else : ℕ → (ℕ → ℕ) → ℕ → ℕ
outside_else a f zero = a
outside_else a f (suc x) = f (suc x)

-- The market: each person and pair by its record, and 0 where there is none. (A pair without a record has tier 0; the rule asks for the record.)
unfoldable pub market_of : List Row → Market
market_of rs =
    record {
      students = tally (of_kind 1) rs;
      workshops = tally (of_kind 2) rs;
      stage = λ s. (find (is_student s) no_row rs).second;
      lot = λ s. (find (is_student s) no_row rs).fourth;
      quota = λ w. (find (is_workshop w) no_row rs).second;
      paired = λ s w. any (is_pair s w) rs;
      fare = λ s w. (find (is_pair s w) no_row rs).fifth;
      student_tier = λ s. outside_else (find (is_student s) no_row rs).third (λ w. (find (is_pair s w) no_row rs).third);
      workshop_tier = λ w. outside_else (find (is_workshop w) no_row rs).third (λ s. (find (is_pair s w) no_row rs).fourth);
    }

-- ---- The book: "records of 8 bytes, no header, in any order".

-- "student, workshop, the student's mark, the workshop's mark. Marks are signed 16-bit numbers"
pub record Entry : Type 0 where
  pub student : ℕ
  pub workshop : ℕ
  pub student_score : ℕ  -- 32768 above its value, and so the next
  pub workshop_score : ℕ

unfoldable pub entry_at : List ℕ → ℕ → Entry
entry_at bytes i =
    let at = 8 * i in
    record {
      student = word bytes at;
      workshop = word bytes (at + 2);
      student_score = signed bytes (at + 4);
      workshop_score = signed bytes (at + 6);
    }

-- how many whole records the book has
abbrev pub entry_count : List ℕ → ℕ
entry_count book = length book / 8

unfoldable pub entries : List ℕ → List Entry
entries book = tabulate (entry_at book) (entry_count book)

-- "none counts as 0"
abbrev pub outside_score : ℕ
outside_score = 32768

-- what stands for a record that is not there
abbrev pub no_entry : Entry
no_entry = record { student = 0; workshop = 0; student_score = 0; workshop_score = 0 }

-- the record of the interview of student s with workshop w
abbrev pub is_interview : ℕ → ℕ → Entry → Bool
is_interview s w e = eqb e.student s && eqb e.workshop w

-- "a mark of -1000" (document 02, Paper 1; 31768, as scores are kept)
abbrev pub says_never : ℕ → Bool
says_never x = eqb x 31768

-- such a mark, "from either side and in any group, now means that the two cannot be placed together"
abbrev pub ends_in_never : Entry → Bool
ends_in_never e = says_never e.student_score || says_never e.workshop_score

-- The results: each interview by its first record.
unfoldable pub results_of : List Entry → Results
results_of es =
    record {
      met = λ s w. any (is_interview s w) es;
      never = λ s w. ends_in_never (find (is_interview s w) no_entry es);
      student_score = λ s. outside_else outside_score (λ w. (find (is_interview s w) no_entry es).student_score);
      workshop_score = λ w. outside_else outside_score (λ s. (find (is_interview s w) no_entry es).workshop_score);
    }
