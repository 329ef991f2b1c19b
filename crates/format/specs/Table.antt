-- The table of proved cases (document 01), and lists of our own for the slips that it does not catch. proofs/Table.antt has the one proof that
-- the definitions give them.
use Rattle.std.specs.Prelude.{ℕ, ◌-◌, ◌≤◌, ◌≡◌, Bool, true, false, length, get_or, take, replicate, Option, Some, None}
use mathlib.Core.List.{List, [], ◌∷◌, ◌++◌, map, flat_map}
use Rattle.base.specs.Lists.{upto, entry_for}
use Rattle.lgs.specs.Rule.{Interview}
use Rattle.format.specs.Layout.{Row}
use Rattle.format.specs.Encoding.{words, case_bytes}
use Rattle.format.specs.Refusals.{Room, bad_counts}
use Rattle.format.specs.Engine.{placed, next, refused, engine, Outcome}
use Rattle.format.specs.Buffers.{places_after, visits_after, scratch_after, values}
use Rattle.format.specs.Printed.{ascii, printed, unread, program_room, program_prints}
use Rattle.format.specs.Promises.{Example, SettledExample, Preferred, OtherFares}

-- ---- bytes from fields

-- a record of the case by its kind and its fields, the others zero
abbrev pub row_with : ℕ → List ℕ → Row
row_with kind fields =
    record {
      kind = kind;
      pad = 0;
      first = get_or fields 0 0;
      second = get_or fields 1 0;
      third = get_or fields 2 0;
      fourth = get_or fields 3 0;
      fifth = get_or fields 4 0;
      sixth = get_or fields 5 0;
      seventh = get_or fields 6 0;
    }

-- a case by the fields of its students, workshops and pairs
unfoldable pub case_of : List (List ℕ) → List (List ℕ) → List (List ℕ) → List ℕ
case_of students workshops pairs = case_bytes (map (row_with 1) students ++ map (row_with 2) workshops ++ map (row_with 3) pairs)

-- a book by the fields of its records
unfoldable pub book_of : List (List ℕ) → List ℕ
book_of records = flat_map words records

-- the field of the mark -x
abbrev pub neg : ℕ → ℕ
neg x = 65536 - x

-- fields
abbrev pub f3 : ℕ → ℕ → ℕ → List ℕ
f3 a b c = a ∷ b ∷ c ∷ []

abbrev pub f4 : ℕ → ℕ → ℕ → ℕ → List ℕ
f4 a b c d = a ∷ b ∷ c ∷ d ∷ []

-- student n by stage and line group: "the table's cases take lots equal to student numbers" (document 02, Paper 3)
abbrev pub numbered : ℕ → ℕ → ℕ → List ℕ
numbered n stage line = f4 n stage line n

-- ---- answers whose visits cost nothing: document 01's, and most of ours

abbrev pub placed_free : List ℕ → List Interview → Outcome
placed_free places vs = placed places vs 0

abbrev pub next_free : ℕ → ℕ → List Interview → Outcome
next_free s w vs = next s w vs 0

-- ---- example K, with what its variants change: the quotas, and the line group of workshop 2

unfoldable pub students_k : List (List ℕ)
students_k = numbered 1 1 2 ∷ numbered 2 2 2 ∷ numbered 3 2 2 ∷ []

unfoldable pub workshops_k : ℕ → ℕ → ℕ → List (List ℕ)
workshops_k q1 q2 line2 = f3 1 q1 3 ∷ f3 2 q2 line2 ∷ []

unfoldable pub pairs_k : List (List ℕ)
pairs_k = f4 1 1 1 1 ∷ f4 1 2 1 1 ∷ f4 2 1 1 2 ∷ f4 2 2 1 2 ∷ f4 3 1 1 2 ∷ f4 3 2 2 2 ∷ []

unfoldable pub case_with : ℕ → ℕ → ℕ → List ℕ
case_with q1 q2 line2 = case_of students_k (workshops_k q1 q2 line2) pairs_k

-- student 1's mark for workshop 1, workshop 2's marks for 1 and 2, student 3's mark for workshop 2, and workshop 2's mark for 3
unfoldable pub book_with : ℕ → ℕ → ℕ → ℕ → ℕ → List ℕ
book_with m11 w21 w22 m32 w23 = book_of (f4 1 1 m11 3 ∷ f4 1 2 2 w21 ∷ f4 2 2 (neg 1) w22 ∷ f4 3 2 m32 w23 ∷ [])

unfoldable pub K : List ℕ
K = case_with 1 1 3

unfoldable pub book_k : List ℕ
book_k = book_with 5 4 1 4 6

-- workshop 2's mark for 3 at 1, as for 2
unfoldable pub tied_k : List ℕ
tied_k = book_with 5 4 1 4 1

unfoldable pub visits_k : List Interview
visits_k = (1, 1) ∷ (1, 2) ∷ (2, 2) ∷ (3, 2) ∷ []

unfoldable pub answer_k : Outcome
answer_k = placed_free (1 ∷ 0 ∷ 2 ∷ []) visits_k

-- to equal marks of workshop 2 for 2 and 3, of whom 2 has the lower lot: "the one for 11 becomes places 1, 2, 0"
unfoldable pub answer_tied_k : Outcome
answer_tied_k = placed_free (1 ∷ 2 ∷ 0 ∷ []) visits_k

-- a case, a book, and the answer to them
pub record Sample : Type 0 where
  pub case : List ℕ
  pub book : List ℕ
  pub answer : Outcome

abbrev pub sample : List ℕ → List ℕ → Outcome → Sample
sample case book answer = record { case = case; book = book; answer = answer }

-- ---- document 01's fifteen

unfoldable pub table : List Sample
table =
    sample K book_k answer_k
    ∷ sample K [] (next_free 1 1 [])
    ∷ sample K (take 16 book_k) (next_free 2 2 ((1, 1) ∷ (1, 2) ∷ []))
    ∷ sample K (book_with 5 4 7 4 6) (placed_free (1 ∷ 2 ∷ 0 ∷ []) visits_k)
    ∷ sample K (book_with 5 4 1 (neg 4) 6) (placed_free (1 ∷ 2 ∷ 0 ∷ []) visits_k)
    ∷ sample (case_with 0 1 3) book_k (placed_free (2 ∷ 0 ∷ 0 ∷ []) ((1, 2) ∷ []))
    ∷ sample (case_with 1 2 3) book_k (placed_free (1 ∷ 2 ∷ 2 ∷ []) visits_k)
    ∷ sample (case_of students_k (workshops_k 1 1 3) []) [] (placed_free (0 ∷ 0 ∷ 0 ∷ []) [])
    ∷ sample (case_with 1 1 2) (book_with 5 4 1 4 (neg 6)) (placed_free (1 ∷ 2 ∷ 0 ∷ []) visits_k)
    ∷ sample K (book_with 5 1 1 4 6) answer_k
    ∷ sample K tied_k answer_tied_k
    ∷ sample K (book_with 1000 4 1 4 6) answer_k
    ∷ sample K (book_with 1001 4 1 4 6) (refused 9 0)
    ∷ sample [] [] (refused 4 0)
    ∷ sample (take 15 K) [] (refused 1 0)
    ∷ []

-- ---- our own: a slip for each, that the fifteen do not catch

-- one student and one workshop
abbrev pub one_each : List ℕ → List ℕ → List (List ℕ) → List ℕ
one_each s w pairs = case_of (s ∷ []) (w ∷ []) pairs

unfoldable pub own_table : List Sample
own_table =
    -- a negative mark outside the line group closes nothing
    sample (one_each (numbered 1 1 1) (f3 1 1 2) (f4 1 1 1 1 ∷ [])) (book_of (f4 1 1 1 (neg 1) ∷ [])) (placed_free (1 ∷ []) ((1, 1) ∷ []))
    -- a workshop with a free seat is deleted for nobody
    ∷ sample (case_of (numbered 1 1 1 ∷ numbered 2 1 1 ∷ []) (f3 1 2 2 ∷ []) (f4 1 1 1 1 ∷ f4 2 1 1 2 ∷ [])) (book_of (f4 1 1 1 1 ∷ []))
    (next_free 2 1 ((1, 1) ∷ []))
    -- marks of two groups are not compared
    ∷ sample (case_of (numbered 1 1 2 ∷ numbered 2 1 2 ∷ []) (f3 1 1 3 ∷ []) (f4 1 1 1 2 ∷ f4 2 1 1 1 ∷ [])) (book_of (f4 1 1 1 5 ∷ f4 2 1 1 1 ∷ []))
    (placed_free (0 ∷ 1 ∷ []) ((1, 1) ∷ (2, 1) ∷ []))
    -- the next group is opened only when nothing is open; groups may have gaps
    ∷ sample (case_of (numbered 1 1 9 ∷ []) (f3 1 1 2 ∷ f3 2 1 2 ∷ []) (f4 1 1 3 1 ∷ f4 1 2 7 1 ∷ [])) (book_of (f4 1 1 (neg 5) 1 ∷ []))
    (placed_free (1 ∷ []) ((1, 1) ∷ []))
    -- stages come before numbers
    ∷ sample (case_of (numbered 1 2 2 ∷ numbered 2 1 2 ∷ []) (f3 1 2 3 ∷ []) (f4 1 1 1 1 ∷ f4 2 1 1 1 ∷ [])) [] (next_free 2 1 [])
    -- a mark below 0 of the student in her line group leaves her without a place, and the visit stays on the list
    ∷ sample (one_each (numbered 1 1 1) (f3 1 1 1) (f4 1 1 1 1 ∷ [])) (book_of (f4 1 1 (neg 1) 1 ∷ [])) (placed_free (0 ∷ []) ((1, 1) ∷ []))
    -- a workshop's mark below 0 in its line group is a no
    ∷ sample (one_each (numbered 1 1 1) (f3 1 1 1) (f4 1 1 1 1 ∷ [])) (book_of (f4 1 1 1 (neg 1) ∷ [])) (placed_free (0 ∷ []) ((1, 1) ∷ []))
    -- a workshop beyond the student's line is never visited, nor a student beyond the workshop's line
    ∷ sample (one_each (numbered 1 1 1) (f3 1 1 1) (f4 1 1 2 1 ∷ [])) [] (placed_free (0 ∷ []) [])
    ∷ sample (one_each (numbered 1 1 1) (f3 1 1 1) (f4 1 1 1 2 ∷ [])) [] (placed_free (0 ∷ []) [])
    -- a dropped student is in hand next
    ∷ sample
    (case_of (numbered 1 1 3 ∷ numbered 2 1 3 ∷ numbered 3 1 3 ∷ []) (f3 1 1 2 ∷ f3 2 1 2 ∷ []) (f4 1 1 1 1 ∷ f4 1 2 2 1 ∷ f4 2 1 1 1 ∷ f4 3 2 1 1 ∷ []))
    (book_of (f4 1 1 1 1 ∷ f4 1 2 1 1 ∷ f4 2 1 1 2 ∷ f4 3 2 1 2 ∷ []))
    (placed_free (0 ∷ 1 ∷ 2 ∷ []) ((1, 1) ∷ (2, 1) ∷ (1, 2) ∷ (3, 2) ∷ []))
    -- a stop inside a group keeps its visits
    ∷ sample K (take 8 book_k) (next_free 1 2 ((1, 1) ∷ []))
    -- a student's equal marks in two groups are fine
    ∷ sample K (book_of (f4 1 1 5 3 ∷ f4 1 2 2 4 ∷ f4 2 2 (neg 1) 1 ∷ f4 3 1 4 9 ∷ f4 3 2 4 6 ∷ [])) answer_k
    -- the ends of the ranges are allowed
    ∷ sample (one_each (numbered 1 512 65) (f3 1 512 513) (f4 1 1 65 513 ∷ [])) (book_of (f4 1 1 (neg 1000) (neg 1000) ∷ []))
    (placed_free (0 ∷ []) ((1, 1) ∷ []))
    -- refusals that the fifteen lack, at the first record
    ∷ sample (one_each (numbered 1 1 1) (1 ∷ 1 ∷ 1 ∷ 7 ∷ []) []) [] (refused 2 1)
    ∷ sample (case_bytes (row_with 4 (f3 1 1 1) ∷ [])) [] (refused 2 0)
    ∷ sample (one_each (numbered 1 1 1) (f3 2 1 1) []) [] (refused 3 1)
    ∷ sample (case_of (numbered 1 1 1 ∷ []) [] (f4 1 1 1 1 ∷ [])) [] (refused 3 1)
    ∷ sample (one_each (numbered 1 1 1) (f3 1 1 1) (f4 1 1 1 1 ∷ f4 1 1 1 1 ∷ [])) [] (refused 3 3)
    ∷ sample (case_of (numbered 1 1 1 ∷ []) [] []) [] (refused 4 0)
    ∷ sample (one_each (numbered 1 513 1) (f3 1 1 1) []) [] (refused 5 0)
    ∷ sample (one_each (numbered 1 1 1) (f3 1 513 1) []) [] (refused 5 1)
    ∷ sample (one_each (numbered 1 1 1) (f3 1 1 1) (f4 1 1 66 1 ∷ [])) [] (refused 5 2)
    ∷ sample (one_each (numbered 1 1 1) (f3 1 1 1) []) (1 ∷ []) (refused 7 0)
    -- half a record of the book, and one with all but a byte of another: no count is rounded
    ∷ sample K (take 4 book_k) (refused 7 0)
    ∷ sample K (take 15 book_k) (refused 7 0)
    ∷ sample (one_each (numbered 1 1 1) (f3 1 1 1) []) (book_of (f4 1 1 1 1 ∷ [])) (refused 8 0)
    ∷ sample K (book_of (f4 1 1 5 3 ∷ f4 1 2 2 0 ∷ [])) (refused 9 1)
    ∷ sample K (book_of (f4 1 1 5 3 ∷ f4 1 1 4 2 ∷ [])) (refused 10 1)
    -- byte 1, and bytes 10 to 15, of a pair 12 to 15; bytes 8 and 9 of a workshop stand above
    ∷ sample (1 ∷ 1 ∷ words (numbered 1 1 1) ++ replicate 6 0) [] (refused 2 0)
    ∷ sample (case_bytes (row_with 1 (numbered 1 1 1) ∷ []) ++ (2 ∷ 1 ∷ words (f3 1 1 1) ++ replicate 8 0)) [] (refused 2 1)
    ∷ sample (one_each (numbered 1 1 1) (f3 1 1 1) [] ++ (3 ∷ 1 ∷ words (f4 1 1 1 1) ++ replicate 6 0)) [] (refused 2 2)
    ∷ sample (one_each (1 ∷ 1 ∷ 1 ∷ 1 ∷ 0 ∷ 1 ∷ []) (f3 1 1 1) []) [] (refused 2 0)
    ∷ sample (one_each (numbered 1 1 1) (1 ∷ 1 ∷ 1 ∷ 0 ∷ 0 ∷ 1 ∷ []) []) [] (refused 2 1)
    ∷ sample (one_each (numbered 1 1 1) (1 ∷ 1 ∷ 1 ∷ 0 ∷ 0 ∷ 0 ∷ 1 ∷ []) []) [] (refused 2 1)
    ∷ sample (one_each (numbered 1 1 1) (f3 1 1 1) ((1 ∷ 1 ∷ 1 ∷ 1 ∷ 0 ∷ 1 ∷ []) ∷ [])) [] (refused 2 2)
    ∷ sample (one_each (numbered 1 1 1) (f3 1 1 1) ((1 ∷ 1 ∷ 1 ∷ 1 ∷ 0 ∷ 256 ∷ []) ∷ [])) [] (refused 2 2)
    ∷ sample (one_each (numbered 1 1 1) (f3 1 1 1) ((1 ∷ 1 ∷ 1 ∷ 1 ∷ 0 ∷ 0 ∷ 256 ∷ []) ∷ [])) [] (refused 2 2)
    ∷ sample (one_each (1 ∷ 1 ∷ 1 ∷ 1 ∷ 0 ∷ 0 ∷ 256 ∷ []) (f3 1 1 1) []) [] (refused 2 0)
    ∷ sample (one_each (1 ∷ 1 ∷ 1 ∷ 1 ∷ 1 ∷ []) (f3 1 1 1) []) [] (refused 2 0)
    ∷ sample (one_each (1 ∷ 1 ∷ 1 ∷ 1 ∷ 256 ∷ []) (f3 1 1 1) []) [] (refused 2 0)
    ∷ sample (one_each (numbered 1 1 1) (1 ∷ 1 ∷ 1 ∷ 0 ∷ 1 ∷ []) []) [] (refused 2 1)
    ∷ sample (one_each (numbered 1 1 1) (1 ∷ 1 ∷ 1 ∷ 0 ∷ 256 ∷ []) []) [] (refused 2 1)
    ∷ sample (case_bytes (row_with 0 (f3 1 1 1) ∷ [])) [] (refused 2 0)
    -- a pair before its workshop, kinds that fall, a pair with nobody, pairs not rising by workshop and by student
    ∷ sample (case_bytes (row_with 1 (numbered 1 1 1) ∷ row_with 3 (f4 1 1 1 1) ∷ row_with 2 (f3 1 1 1) ∷ [])) [] (refused 3 1)
    ∷ sample (case_bytes (row_with 2 (f3 1 1 1) ∷ row_with 1 (numbered 1 1 1) ∷ [])) [] (refused 3 1)
    ∷ sample (one_each (numbered 1 1 1) (f3 1 1 1) (f4 2 1 1 1 ∷ [])) [] (refused 3 2)
    ∷ sample (case_of (numbered 1 1 1 ∷ []) (f3 1 1 1 ∷ f3 2 1 1 ∷ []) (f4 1 2 1 1 ∷ f4 1 1 1 1 ∷ [])) [] (refused 3 4)
    ∷ sample (case_of (numbered 1 1 1 ∷ numbered 2 1 1 ∷ []) (f3 1 1 1 ∷ []) (f4 2 1 1 1 ∷ f4 1 1 1 1 ∷ [])) [] (refused 3 4)
    ∷ sample (case_of [] (f3 1 1 1 ∷ []) []) [] (refused 4 0)
    -- the first numbers out of range
    ∷ sample (one_each (numbered 1 0 1) (f3 1 1 1) []) [] (refused 5 0)
    ∷ sample (one_each (numbered 1 1 66) (f3 1 1 1) []) [] (refused 5 0)
    ∷ sample (one_each (numbered 1 1 0) (f3 1 1 1) []) [] (refused 5 0)
    ∷ sample (one_each (numbered 1 1 1) (f3 1 1 0) []) [] (refused 5 1)
    ∷ sample (one_each (numbered 1 1 1) (f3 1 1 514) []) [] (refused 5 1)
    ∷ sample (one_each (numbered 1 1 1) (f3 1 1 1) (f4 1 1 0 1 ∷ [])) [] (refused 5 2)
    ∷ sample (one_each (numbered 1 1 1) (f3 1 1 1) (f4 1 1 1 0 ∷ [])) [] (refused 5 2)
    ∷ sample (one_each (numbered 1 1 1) (f3 1 1 1) (f4 1 1 1 514 ∷ [])) [] (refused 5 2)
    ∷ sample K (book_with (neg 1001) 4 1 4 6) (refused 9 0)
    ∷ sample K (book_with 5 1001 1 4 6) (refused 9 1)
    ∷ sample K (book_with 5 4 (neg 1001) 4 6) (refused 9 2)
    ∷ sample K (book_of (f4 1 1 5 3 ∷ f4 1 2 0 4 ∷ [])) (refused 9 1)
    -- a student's equal marks in one group, at the later record
    ∷ sample K (book_of (f4 1 1 5 3 ∷ f4 1 2 5 4 ∷ [])) (refused 11 1)
    -- causes in order: a book record without its pair comes before a bad mark in an earlier record
    ∷ sample K (book_of (f4 1 1 0 3 ∷ f4 1 9 2 2 ∷ [])) (refused 8 1)
    ∷ []

-- ---- our own of visits that ended in never

-- the mark -1000
abbrev pub out : ℕ
out = neg 1000

-- student 1 prefers workshop 1 to none, and it her, by group; their marks
abbrev pub wanted : ℕ → ℕ → Outcome → Sample
wanted m w answer = sample (one_each (numbered 1 1 2) (f3 1 1 2) (f4 1 1 1 1 ∷ [])) (book_of (f4 1 1 m w ∷ [])) answer

-- the same, but that she is in the workshop's line group, or it in hers
abbrev pub doubted : ℕ → ℕ → Outcome → Sample
doubted m w answer = sample (one_each (numbered 1 1 2) (f3 1 1 1) (f4 1 1 1 1 ∷ [])) (book_of (f4 1 1 m w ∷ [])) answer

abbrev pub doubtful : ℕ → ℕ → Outcome → Sample
doubtful m w answer = sample (one_each (numbered 1 1 1) (f3 1 1 2) (f4 1 1 1 1 ∷ [])) (book_of (f4 1 1 m w ∷ [])) answer

-- student 1, with this line group, has three workshops in group 1; her marks
abbrev pub three_marks : ℕ → ℕ → ℕ → ℕ → Outcome → Sample
three_marks line a b c answer =
    sample (case_of (numbered 1 1 line ∷ []) (f3 1 1 2 ∷ f3 2 1 2 ∷ f3 3 1 2 ∷ []) (f4 1 1 1 1 ∷ f4 1 2 1 1 ∷ f4 1 3 1 1 ∷ []))
    (book_of (f4 1 1 a 1 ∷ f4 1 2 b 1 ∷ f4 1 3 c 1 ∷ []))
    answer

-- K's book with two of workshop 2 in one group
unfoldable pub never_k : List ℕ
never_k = book_with 5 4 out 4 out

unfoldable pub answer_never_k : Outcome
answer_never_k = placed_free (1 ∷ 0 ∷ 0 ∷ []) visits_k

unfoldable pub never_table : List Sample
never_table =
    -- from the student's side, from the workshop's, from both; -999 is a mark like others
    wanted out 1 (placed_free (0 ∷ []) ((1, 1) ∷ []))
    ∷ wanted 1 out (placed_free (0 ∷ []) ((1, 1) ∷ []))
    ∷ wanted out out (placed_free (0 ∷ []) ((1, 1) ∷ []))
    ∷ wanted (neg 999) (neg 999) (placed_free (1 ∷ []) ((1, 1) ∷ []))
    -- from the one whose line group it is not, though the other's mark is above 0 in the line group
    ∷ doubted out 1 (placed_free (0 ∷ []) ((1, 1) ∷ []))
    ∷ doubtful 1 out (placed_free (0 ∷ []) ((1, 1) ∷ []))
    -- K with (1,1) never, from either side: student 1 has workshop 2, and workshop 1 is free for student 2
    ∷ sample K (book_with out 4 1 4 6) (next_free 2 1 ((1, 1) ∷ (1, 2) ∷ []))
    ∷ sample K (book_of (f4 1 1 5 out ∷ f4 1 2 2 4 ∷ f4 2 2 (neg 1) 1 ∷ f4 3 2 4 6 ∷ [])) (next_free 2 1 ((1, 1) ∷ (1, 2) ∷ []))
    -- two of one workshop in one group, two of one student in one group: not refused
    ∷ sample K never_k answer_never_k
    ∷ three_marks 2 out 7 out (placed_free (2 ∷ []) ((1, 1) ∷ (1, 2) ∷ (1, 3) ∷ []))
    ∷ three_marks 1 out 7 out (placed_free (2 ∷ []) ((1, 1) ∷ (1, 2) ∷ (1, 3) ∷ []))
    -- equal ordinary marks beside one: refused; so is 1000 twice
    ∷ three_marks 2 out 7 7 (refused 11 2)
    ∷ three_marks 2 1000 7 1000 (refused 11 2)
    -- the student's mark of a record is tested where the workshop's is never, in the earlier record and in the later one
    ∷ sample K (book_of (f4 1 1 5 out ∷ f4 1 2 5 4 ∷ [])) (refused 11 1)
    ∷ sample K (book_of (f4 1 2 5 4 ∷ f4 1 1 5 out ∷ [])) (refused 11 1)
    -- nothing open after a never: on to the next group
    ∷ sample (case_of (numbered 1 1 3 ∷ []) (f3 1 1 2 ∷ f3 2 1 2 ∷ []) (f4 1 1 1 1 ∷ f4 1 2 2 1 ∷ [])) (book_of (f4 1 1 out 1 ∷ f4 1 2 1 1 ∷ []))
    (placed_free (2 ∷ []) ((1, 1) ∷ (1, 2) ∷ []))
    -- a never takes no seat: the workshop is deleted for nobody
    ∷ sample (case_of (numbered 1 1 2 ∷ numbered 2 2 2 ∷ []) (f3 1 1 3 ∷ []) (f4 1 1 1 1 ∷ f4 2 1 1 2 ∷ [])) (book_of (f4 1 1 1 out ∷ f4 2 1 1 1 ∷ []))
    (placed_free (0 ∷ 1 ∷ []) ((1, 1) ∷ (2, 1) ∷ []))
    -- a visit that ended in never does not end the group: the next of it is called for
    ∷ sample K (book_of (f4 1 1 out 3 ∷ [])) (next_free 1 2 ((1, 1) ∷ []))
    ∷ []

-- ---- our own of lots (document 02, Paper 3)

-- students 1 to 3 with these lots want workshop 1, which has so many seats, and it has them in these groups, of which 3 is its line group; its marks
abbrev pub rivals : ℕ → List ℕ → List ℕ → List ℕ → Outcome → Sample
rivals seats lots groups marks answer =
    sample
    (case_of
    (map (λ s. f4 s 1 2 (entry_for lots s)) (upto 3))
    (f3 1 seats 3 ∷ [])
    (map (λ s. f4 s 1 1 (entry_for groups s)) (upto 3)))
    (book_of (map (λ s. f4 s 1 1 (entry_for marks s)) (upto 3)))
    answer

-- the places of the three, who have all visited
abbrev pub rivals_placed : ℕ → ℕ → ℕ → Outcome
rivals_placed a b c = placed_free (a ∷ b ∷ c ∷ []) ((1, 1) ∷ (2, 1) ∷ (3, 1) ∷ [])

-- student 1 has workshops 1 and 2 in one group, student 2 workshop 2 and student 3 workshop 1, with these lots
unfoldable pub two_rounds : ℕ → ℕ → ℕ → List ℕ
two_rounds a b c =
    case_of (f4 1 1 2 a ∷ f4 2 1 2 b ∷ f4 3 1 2 c ∷ []) (f3 1 1 3 ∷ f3 2 1 3 ∷ []) (f4 1 1 1 1 ∷ f4 1 2 1 1 ∷ f4 2 2 1 1 ∷ f4 3 1 1 1 ∷ [])

-- 1 likes workshop 1 better, workshop 2 gives 1 and 2 the same mark, and workshop 1 likes 3 better than 1
unfoldable pub two_rounds_book : List ℕ
two_rounds_book = book_of (f4 1 1 5 3 ∷ f4 1 2 2 5 ∷ f4 2 2 1 5 ∷ f4 3 1 1 9 ∷ [])

-- two students, with these lots, have workshop 1 in group 1 and workshop 2 in group 2
unfoldable pub second_choice : ℕ → ℕ → List ℕ
second_choice a b =
    case_of (f4 1 1 3 a ∷ f4 2 1 3 b ∷ []) (f3 1 1 2 ∷ f3 2 1 2 ∷ []) (f4 1 1 1 1 ∷ f4 1 2 2 1 ∷ f4 2 1 1 1 ∷ f4 2 2 2 1 ∷ [])

-- K with these lots
unfoldable pub lots_k : ℕ → ℕ → ℕ → List ℕ
lots_k a b c = case_of (f4 1 1 2 a ∷ f4 2 2 2 b ∷ f4 3 2 2 c ∷ []) (workshops_k 1 1 3) pairs_k

unfoldable pub lots_table : List Sample
lots_table =
    -- one seat, equal marks: the lowest lot is held from the first; comes second and is held; comes last
    rivals 1 (f3 1 2 3) (f3 1 1 1) (f3 5 5 5) (rivals_placed 1 0 0)
    ∷ rivals 1 (f3 2 1 3) (f3 1 1 1) (f3 5 5 5) (rivals_placed 0 1 0)
    ∷ rivals 1 (f3 3 2 1) (f3 1 1 1) (f3 5 5 5) (rivals_placed 0 0 1)
    -- two seats: the highest lot goes without, whether it comes first, last or second
    ∷ rivals 2 (f3 3 1 2) (f3 1 1 1) (f3 5 5 5) (rivals_placed 0 1 1)
    ∷ rivals 2 (f3 1 2 3) (f3 1 1 1) (f3 5 5 5) (rivals_placed 1 1 0)
    ∷ rivals 2 (f3 1 3 2) (f3 1 1 1) (f3 5 5 5) (rivals_placed 1 0 1)
    -- marks come before lots, and groups before marks and lots
    ∷ rivals 1 (f3 3 2 1) (f3 1 1 1) (f3 6 5 5) (rivals_placed 1 0 0)
    ∷ rivals 1 (f3 3 1 2) (f3 1 1 1) (f3 6 5 6) (rivals_placed 0 0 1)
    ∷ rivals 1 (f3 1 2 3) (f3 2 2 1) (f3 5 5 5) (rivals_placed 0 0 1)
    -- below 0, at -999 and at 1000, and in the line group: equal marks are parted there too
    ∷ rivals 1 (f3 2 1 3) (f3 1 1 1) (f3 (neg 5) (neg 5) (neg 5)) (rivals_placed 0 1 0)
    ∷ rivals 1 (f3 2 1 3) (f3 1 1 1) (f3 (neg 999) (neg 999) out) (rivals_placed 0 1 0)
    ∷ rivals 1 (f3 2 1 3) (f3 1 1 1) (f3 1000 1000 999) (rivals_placed 0 1 0)
    ∷ rivals 1 (f3 2 1 3) (f3 3 3 3) (f3 5 5 5) (rivals_placed 0 1 0)
    -- a mark below 0 in the line group is a no, and -1000 a never, whatever the lots
    ∷ rivals 1 (f3 1 2 3) (f3 3 3 3) (f3 (neg 5) (neg 5) 5) (rivals_placed 0 0 1)
    ∷ rivals 1 (f3 1 2 3) (f3 1 1 1) (f3 out out (neg 999)) (rivals_placed 0 0 1)
    ∷ rivals 2 (f3 1 2 3) (f3 1 1 1) (f3 out out out) (rivals_placed 0 0 0)
    -- the ends of the range, gaps, and both bytes of a lot
    ∷ rivals 1 (f3 512 511 1) (f3 1 1 1) (f3 5 5 4) (rivals_placed 0 1 0)
    ∷ rivals 1 (f3 256 1 512) (f3 1 1 1) (f3 5 5 5) (rivals_placed 0 1 0)
    -- out of range
    ∷ rivals 1 (f3 0 2 3) (f3 1 1 1) (f3 5 5 5) (refused 13 0)
    ∷ rivals 1 (f3 1 513 3) (f3 1 1 1) (f3 5 5 5) (refused 13 1)
    ∷ rivals 1 (f3 1 2 65535) (f3 1 1 1) (f3 5 5 5) (refused 13 2)
    -- used by an earlier student: the later record, the first such
    ∷ rivals 1 (f3 2 2 3) (f3 1 1 1) (f3 5 5 5) (refused 13 1)
    ∷ rivals 1 (f3 2 1 2) (f3 1 1 1) (f3 5 5 5) (refused 13 2)
    ∷ rivals 1 (f3 7 7 0) (f3 1 1 1) (f3 5 5 5) (refused 13 1)
    -- K with other lots, as K where marks differ; with equal marks of workshop 2 the lower lot has it
    ∷ sample (lots_k 9 8 7) book_k answer_k
    ∷ sample (lots_k 9 8 7) tied_k answer_k
    -- a workshop's equal marks, one of them of a visit that ended in never
    ∷ sample K (book_of (f4 1 1 5 3 ∷ f4 1 2 2 4 ∷ f4 2 2 out 6 ∷ f4 3 2 4 6 ∷ [])) answer_k
    -- a student's equal marks in one group are refused, whatever the lots, and beside a workshop's
    ∷ sample (lots_k 9 8 7) (book_of (f4 1 1 5 3 ∷ f4 1 2 5 4 ∷ [])) (refused 11 1)
    ∷ sample K (book_of (f4 3 2 4 6 ∷ f4 2 1 5 3 ∷ f4 2 2 5 6 ∷ [])) (refused 11 2)
    -- an equal mark with the lower lot is not below: workshop 2 stays open to student 1, whom workshop 1 drops; with the higher lot it does not
    ∷ sample (two_rounds 1 2 3) two_rounds_book (placed_free (2 ∷ 0 ∷ 1 ∷ []) ((1, 1) ∷ (1, 2) ∷ (2, 2) ∷ (3, 1) ∷ []))
    ∷ sample (two_rounds 2 1 3) two_rounds_book (placed_free (0 ∷ 2 ∷ 1 ∷ []) ((1, 1) ∷ (1, 2) ∷ (2, 2) ∷ (3, 1) ∷ []))
    -- a lot decides who is dropped, and so the next visit
    ∷ sample (second_choice 2 1) (book_of (f4 1 1 1 5 ∷ f4 2 1 1 5 ∷ [])) (next_free 1 2 ((1, 1) ∷ (2, 1) ∷ []))
    ∷ sample (second_choice 1 2) (book_of (f4 1 1 1 5 ∷ f4 2 1 1 5 ∷ [])) (next_free 2 2 ((1, 1) ∷ (2, 1) ∷ []))
    -- after 5, in any record, and before 7
    ∷ sample (case_of (f4 1 1 2 0 ∷ f4 2 513 2 2 ∷ []) (f3 1 1 3 ∷ []) []) [] (refused 5 1)
    ∷ sample (one_each (f4 1 1 2 513) (f3 1 513 3) []) [] (refused 5 1)
    ∷ sample (lots_k 1 1 2) (0 ∷ []) (refused 13 1)
    ∷ []

-- ---- our own of fares

-- K with these fares of student 1's pairs, of student 2's and of student 3's; (2, 1) and (3, 1) are never visited
unfoldable pub fares_k : ℕ → ℕ → ℕ → ℕ → ℕ → ℕ → List ℕ
fares_k a b c d e f =
    case_of students_k (workshops_k 1 1 3)
    ((1 ∷ 1 ∷ 1 ∷ 1 ∷ a ∷ [])
    ∷ (1 ∷ 2 ∷ 1 ∷ 1 ∷ b ∷ [])
    ∷ (2 ∷ 1 ∷ 1 ∷ 2 ∷ c ∷ [])
    ∷ (2 ∷ 2 ∷ 1 ∷ 2 ∷ d ∷ [])
    ∷ (3 ∷ 1 ∷ 1 ∷ 2 ∷ e ∷ [])
    ∷ (3 ∷ 2 ∷ 2 ∷ 2 ∷ f ∷ [])
    ∷ [])

-- no two sets of these fares have the same sum
unfoldable pub tens_k : List ℕ
tens_k = fares_k 1 10 100 1000 10000 20000

-- the listed pairs, whether placed or not, and no other
unfoldable pub answer_paid_k : Outcome
answer_paid_k = placed (1 ∷ 0 ∷ 2 ∷ []) visits_k 21011

unfoldable pub fares_table : List Sample
fares_table =
    sample tens_k book_k answer_paid_k
    -- only at pairs that are never visited
    ∷ sample (fares_k 0 0 65535 0 65535 0) book_k answer_k
    -- the largest fare at several listed pairs: more than 16 bits
    ∷ sample (fares_k 65535 65535 65535 65535 65535 65535) book_k (placed (1 ∷ 0 ∷ 2 ∷ []) visits_k 262140)
    -- low byte and high byte
    ∷ sample (fares_k 255 256 0 0 0 513) book_k (placed (1 ∷ 0 ∷ 2 ∷ []) visits_k 1024)
    -- a stopped run: the visits done, and not the next one
    ∷ sample tens_k [] (next_free 1 1 [])
    ∷ sample tens_k (take 8 book_k) (next 1 2 ((1, 1) ∷ []) 1)
    ∷ sample tens_k (take 16 book_k) (next 2 2 ((1, 1) ∷ (1, 2) ∷ []) 11)
    ∷ sample tens_k (take 24 book_k) (next 3 2 ((1, 1) ∷ (1, 2) ∷ (2, 2) ∷ []) 1011)
    -- a record of the book for a pair that is never visited costs nothing
    ∷ sample tens_k (book_of (f4 1 1 5 3 ∷ f4 1 2 2 4 ∷ f4 2 2 (neg 1) 1 ∷ f4 3 1 4 9 ∷ f4 3 2 4 6 ∷ [])) answer_paid_k
    -- a visit that ended in never, and one after which both say no, cost as others do
    ∷ sample tens_k never_k (placed (1 ∷ 0 ∷ 0 ∷ []) visits_k 21011)
    ∷ sample (one_each (numbered 1 1 1) (f3 1 1 1) ((1 ∷ 1 ∷ 1 ∷ 1 ∷ 7 ∷ []) ∷ [])) (book_of (f4 1 1 (neg 1) (neg 1) ∷ []))
    (placed (0 ∷ []) ((1, 1) ∷ []) 7)
    -- no visit, no fare: the workshop has no seats
    ∷ sample (one_each (numbered 1 1 1) (f3 1 0 1) ((1 ∷ 1 ∷ 1 ∷ 1 ∷ 7 ∷ []) ∷ [])) [] (placed_free (0 ∷ []) [])
    -- a wrong group beside a fare
    ∷ sample (one_each (numbered 1 1 1) (f3 1 1 1) ((1 ∷ 1 ∷ 66 ∷ 1 ∷ 7 ∷ []) ∷ [])) [] (refused 5 2)
    ∷ []

-- room enough for each of these
unfoldable pub ample : Room
ample = record { places = 3; visits = 12; seats = 512; index = 6; states = 3 }

-- K needs three places, twelve visits, two seats, six index entries and three states; each buffer one short
unfoldable pub exact : Room
exact = record { places = 3; visits = 12; seats = 2; index = 6; states = 3 }

unfoldable pub short_rooms : List Room
short_rooms =
    record { places = 2; visits = 12; seats = 2; index = 6; states = 3 }
    ∷ record { places = 3; visits = 11; seats = 2; index = 6; states = 3 }
    ∷ record { places = 3; visits = 12; seats = 1; index = 6; states = 3 }
    ∷ record { places = 3; visits = 12; seats = 2; index = 5; states = 3 }
    ∷ record { places = 3; visits = 12; seats = 2; index = 6; states = 2 }
    ∷ []

-- ---- counts at their limits: so many students and workshops, and whether cause 4 refuses them
unfoldable pub people : ℕ → ℕ → List Row
people n m = map (λ s. row_with 1 (s ∷ [])) (upto n) ++ map (λ w. row_with 2 (w ∷ [])) (upto m)

unfoldable pub counts_refused : List Bool
counts_refused =
    bad_counts (people 0 1)
    ∷ bad_counts (people 1 0)
    ∷ bad_counts (people 512 64)
    ∷ bad_counts (people 513 1)
    ∷ bad_counts (people 1 65)
    ∷ []

-- ---- lent buffers after an answer: K's with a place more than needed and two visits more than used, and those of a next visit and a refusal; the values,
-- with fares

-- a next visit of `tens_k`
abbrev pub next_k : Outcome
next_k = next 2 2 ((1, 1) ∷ (1, 2) ∷ []) 11

unfoldable pub buffers_after : List (List ℕ)
buffers_after =
    places_after answer_k (replicate 4 9)
    ∷ visits_after answer_k (replicate 10 9)
    ∷ places_after next_k (replicate 3 9)
    ∷ visits_after next_k (replicate 6 9)
    ∷ places_after (refused 9 0) (replicate 3 9)
    ∷ visits_after (refused 9 0) (replicate 3 9)
    ∷ scratch_after 0 (replicate 3 9)
    ∷ values answer_paid_k
    ∷ values next_k
    ∷ values (refused 9 1)
    ∷ []

unfoldable pub buffers_expected : List (List ℕ)
buffers_expected =
    (1 ∷ 0 ∷ 2 ∷ 9 ∷ [])
    ∷ (1 ∷ 1 ∷ 1 ∷ 2 ∷ 2 ∷ 2 ∷ 3 ∷ 2 ∷ 9 ∷ 9 ∷ [])
    ∷ (9 ∷ 9 ∷ 9 ∷ [])
    ∷ (1 ∷ 1 ∷ 1 ∷ 2 ∷ 9 ∷ 9 ∷ [])
    ∷ (9 ∷ 9 ∷ 9 ∷ [])
    ∷ (9 ∷ 9 ∷ 9 ∷ [])
    ∷ (0 ∷ 0 ∷ 0 ∷ [])
    ∷ (4 ∷ 21011 ∷ [])
    ∷ (2 ∷ 2 ∷ 2 ∷ 11 ∷ [])
    ∷ (9 ∷ 1 ∷ [])
    ∷ []

-- ---- printed text: of K, of a next visit, of numbers with several digits, and of a file that cannot be read; of K's two files, and with one missing

unfoldable pub texts : List (List ℕ)
texts =
    printed answer_k
    ∷ printed next_k
    ∷ printed (placed (64 ∷ []) ((1, 64) ∷ []) 65535)
    ∷ printed (next 512 64 [] 1024)
    ∷ printed (refused 11 2047)
    ∷ unread
    ∷ program_prints (Some K) (Some book_k)
    ∷ program_prints None (Some book_k)
    ∷ program_prints (Some K) None
    ∷ []

unfoldable pub texts_expected : List (List ℕ)
texts_expected =
    ascii "place 1 1\nplace 2 0\nplace 3 2\nvisits 4\nvisit 1 1\nvisit 1 2\nvisit 2 2\nvisit 3 2\nfares 0\n"
    ∷ ascii "next 2 2\nvisits 2\nvisit 1 1\nvisit 1 2\nfares 11\n"
    ∷ ascii "place 1 64\nvisits 1\nvisit 1 64\nfares 65535\n"
    ∷ ascii "next 512 64\nvisits 0\nfares 1024\n"
    ∷ ascii "refused 11 2047\n"
    ∷ ascii "unread\n"
    ∷ ascii "place 1 1\nplace 2 0\nplace 3 2\nvisits 4\nvisit 1 1\nvisit 1 2\nvisit 2 2\nvisit 3 2\nfares 0\n"
    ∷ ascii "unread\n"
    ∷ ascii "unread\n"
    ∷ []

-- files of up to 65,536 bytes are read, and one of 65,537 or more is not, whatever is in them
pub record Limits : Type 0 where
  pub read : (case book : List ℕ) → length case ≤ 65536 → length book ≤ 65536
      → program_prints (Some case) (Some book) ≡ printed (engine case book program_room)
  pub long_case : (case : List ℕ) (book : Option (List ℕ)) → 65537 ≤ length case → program_prints (Some case) book ≡ unread
  pub long_book : (case : Option (List ℕ)) (book : List ℕ) → 65537 ≤ length book → program_prints case (Some book) ≡ unread

-- what the engine answers to the samples, and what it should
unfoldable pub given : List Sample → List Outcome
given ls = map (λ (l : Sample). engine l.case l.book ample) ls

unfoldable pub expected : List Sample → List Outcome
expected ls = map (λ (l : Sample). l.answer) ls

-- the tables hold, by computation: answers, counts, exact and short buffers (cause 6, after a bad lot and before a bad book length), buffers after an
-- answer, the printed text
pub record Computed : Type 0 where
  pub answers : given table ≡ expected table
  pub own : given own_table ≡ expected own_table
  pub nevers : given never_table ≡ expected never_table
  pub lots : given lots_table ≡ expected lots_table
  pub fares : given fares_table ≡ expected fares_table
  pub counts : counts_refused ≡ true ∷ true ∷ false ∷ true ∷ true ∷ []
  pub exactly : engine K book_k exact ≡ answer_k
  pub exactly_never : engine K never_k exact ≡ answer_never_k
  pub exactly_tied : engine K tied_k exact ≡ answer_tied_k
  pub exactly_paid : engine tens_k book_k exact ≡ answer_paid_k
  pub shortly : map (λ (room : Room). engine K (0 ∷ []) room) short_rooms ≡ map (λ (room : Room). refused 6 0) short_rooms
  pub lot_first : map (λ (room : Room). engine (lots_k 1 2 2) (0 ∷ []) room) short_rooms ≡ map (λ (room : Room). refused 13 2) short_rooms
  pub buffers : buffers_after ≡ buffers_expected
  pub text : texts ≡ texts_expected

-- the program's limit, and K is a run with agreeing stages, also where two of the listed visits ended in never, where a lot decides (workshop 2 has 2 before
-- 3), and with fares; K with fares differs from K in nothing else; after two visits to K student 1 is settled, and student 2 is not
pub record TablesHold : Type 0 where
  pub computed : Computed
  pub limits : Limits
  pub agreeing : Example K book_k exact
  pub agreeing_never : Example K never_k exact
  pub agreeing_lots : Example K tied_k exact
  pub agreeing_fares : Example tens_k book_k exact
  pub otherwise_paid : OtherFares K tens_k
  pub parted : Preferred K tied_k 2 2 3
  pub settling : SettledExample K (take 16 book_k) book_k (book_with 5 4 7 4 6) ample 2 1 2
