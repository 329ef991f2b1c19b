-- The parts' rows of the table of proved cases: a slip for each. proofs/Table.antt has the one proof that the definitions give them.
use Rattle.std.specs.Prelude.{ℕ, ◌≡◌, List, [], ◌∷◌, ◌++◌, map, length, get_or, take, replicate}
use Prim.Native.String.{String}
use Rattle.format.specs.Encoding.{case_bytes}
use Rattle.format.specs.Printed.{ascii}
use Rattle.format.specs.Table.{row_with, case_of, numbered, f3, f4, one_each, workshops_k, K, lots_k}
use Rattle.wish_lines.specs.Lines.{line_text}
use Rattle.wishes.specs.Outcome.{WishesOutcome, given, ungiven, write_wishes, read_wishes, wishes_after, wishes_values}

-- ---- cases and texts

-- K with other groups: of students 1, 2 and 3, each for workshops 1 and 2 and for none
unfoldable pub grouped_k : List ℕ → List ℕ → List ℕ → List ℕ
grouped_k a b c =
    case_of (numbered 1 1 (get_or a 2 0) ∷ numbered 2 2 (get_or b 2 0) ∷ numbered 3 2 (get_or c 2 0) ∷ []) (workshops_k 1 1 3)
    (f4 1 1 (get_or a 0 0) 1 ∷ f4 1 2 (get_or a 1 0) 1 ∷ f4 2 1 (get_or b 0 0) 2 ∷ f4 2 2 (get_or b 1 0) 2
    ∷ f4 3 1 (get_or c 0 0) 2 ∷ f4 3 2 (get_or c 1 0) 2 ∷ [])

-- a case for the paper's own line: students 1 and 2 have no pairs, and student 3 has these groups for workshops 2, 1 and 4, none, and 5
unfoldable pub fitting : ℕ → ℕ → ℕ → ℕ → List ℕ
fitting g2 g14 line g5 =
    case_of (numbered 1 1 1 ∷ numbered 2 1 1 ∷ numbered 3 1 line ∷ []) (f3 1 1 9 ∷ f3 2 1 9 ∷ f3 3 1 9 ∷ f3 4 1 9 ∷ f3 5 1 9 ∷ [])
    (f4 3 1 g14 1 ∷ f4 3 2 g2 1 ∷ f4 3 4 g14 1 ∷ f4 3 5 g5 1 ∷ [])

-- one student, who has pairs with workshops 1 and 2 of three: her groups for them and for none
unfoldable pub single : ℕ → ℕ → ℕ → List ℕ
single g1 g2 line = case_of (numbered 1 1 line ∷ []) (f3 1 1 9 ∷ f3 2 1 9 ∷ f3 3 1 9 ∷ []) (f4 1 1 g1 1 ∷ f4 1 2 g2 1 ∷ [])

-- one student, who has pairs with workshops 2 and 10 of ten
unfoldable pub tens : ℕ → ℕ → ℕ → List ℕ
tens g2 g10 line =
    case_of (numbered 1 1 line ∷ []) (map (λ w. f3 w 1 9) (1 ∷ 2 ∷ 3 ∷ 4 ∷ 5 ∷ 6 ∷ 7 ∷ 8 ∷ 9 ∷ 10 ∷ [])) (f4 1 2 g2 1 ∷ f4 1 10 g10 1 ∷ [])

-- a stage, a lot and a fare that are not 1 or 0; the workshop has quota 0, and the student is beyond its line
unfoldable pub beyond : ℕ → ℕ → List ℕ
beyond g line = case_of (f4 1 512 line 511 ∷ []) (f3 1 0 257 ∷ []) ((1 ∷ 1 ∷ g ∷ 513 ∷ 65535 ∷ []) ∷ [])

-- K's three lines
abbrev pub lines_k : String
lines_k = "1: {1,2},-\n2: {1,2},-\n3: 1,{-,2}\n"

-- ---- the part that writes: a case, the length of the lent text, and the answer

pub record WriteSample : Type 0 where
  pub case : List ℕ
  pub room : ℕ
  pub answer : WishesOutcome

abbrev pub within : ℕ → List ℕ → WishesOutcome → WriteSample
within room case answer = record { case = case; room = room; answer = answer }

abbrev pub text : String → WishesOutcome
text t = given (ascii t)

unfoldable pub write_table : List WriteSample
write_table =
    -- K, in just its room: 8 bytes for each of three students and 4 for each of six pairs
    within 48 K (text lines_k)
    -- the paper's line, with the items in braces rising; groups with gaps give the same
    ∷ within 40 (fitting 1 2 3 4) (text "1: -\n2: -\n3: 2,{1,4},-,5\n")
    ∷ within 99 (fitting 4 9 30 65) (text "1: -\n2: -\n3: 2,{1,4},-,5\n")
    -- none first in braces, and alone in front; all in one group
    ∷ within 48 (grouped_k (f3 2 1 2) (f3 2 2 1) (f3 5 5 5)) (text "1: 2,{-,1}\n2: -,{1,2}\n3: {-,1,2}\n")
    -- two digits, and rising by number; a pair that the rule deletes is written
    ∷ within 16 (tens 1 1 1) (text "1: {-,2,10}\n")
    ∷ within 12 (beyond 7 65) (text "1: 1,-\n")
    -- one byte short of its room, though the text has only 33
    ∷ within 47 K (ungiven 6 0)
    -- 1 to 5 and 13 before 6
    ∷ within 0 (take 15 K) (ungiven 1 0)
    ∷ within 0 (case_bytes (row_with 4 (f3 1 1 1) ∷ [])) (ungiven 2 0)
    ∷ within 0 (one_each (numbered 1 1 1) (f3 2 1 1) []) (ungiven 3 1)
    ∷ within 0 [] (ungiven 4 0)
    ∷ within 0 (single 1 66 1) (ungiven 5 5)
    ∷ within 0 (lots_k 1 1 2) (ungiven 13 1)
    ∷ []

-- ---- the part that reads: a case, a text, the length of the lent copy, and the answer

pub record ReadSample : Type 0 where
  pub case : List ℕ
  pub text : List ℕ
  pub room : ℕ
  pub answer : WishesOutcome

abbrev pub reads : List ℕ → List ℕ → WishesOutcome → ReadSample
reads case text answer = record { case = case; text = text; room = length case; answer = answer }

-- a text for the one student
abbrev pub alone : String → WishesOutcome → ReadSample
alone t answer = reads (single 1 1 1) (ascii t) answer

abbrev pub departs : String → ReadSample
departs t = alone t (ungiven 14 0)

abbrev pub misnames : String → ReadSample
misnames t = alone t (ungiven 15 0)

unfoldable pub read_table : List ReadSample
read_table =
    -- K's own lines, and the same in another order inside braces
    reads K (ascii lines_k) (given K)
    ∷ reads K (ascii "1: {2,1},-\n2: {1,2},-\n3: 1,{2,-}\n") (given K)
    -- other wishes: the groups are the positions
    ∷ reads K (ascii "1: -,2,1\n2: 2,-,1\n3: {1,-,2}\n") (given (grouped_k (f3 3 2 1) (f3 3 1 2) (f3 1 1 1)))
    -- the paper's own line; the case's groups do not matter, nor do their gaps
    ∷ reads (fitting 1 2 3 4) (ascii "1: -\n2: -\n3: 2,{4,1},-,5\n") (given (fitting 1 2 3 4))
    ∷ reads (fitting 4 9 30 65) (ascii "1: -\n2: -\n3: 2,{4,1},-,5\n") (given (fitting 1 2 3 4))
    ∷ alone "1: 2,1,-\n" (given (single 2 1 3))
    -- two digits; a pair that the rule deletes, and the other fields stay; more bytes lent than needed
    ∷ reads (tens 9 9 9) (ascii "1: 10,{2,-}\n") (given (tens 2 1 2))
    ∷ reads (beyond 7 65) (ascii "1: 1,-\n") (given (beyond 1 2))
    ∷ record { case = K; text = ascii lines_k; room = 200; answer = given K }
    -- 14: no line, no line feed, another student's number, also one that is 1 in the lowest byte
    ∷ departs ""
    ∷ departs "1: 1,2,-"
    ∷ departs "2: 1,2,-\n"
    ∷ departs "257: 1,2,-\n"
    -- one item in braces, or none; braces in braces, or not closed, or not begun
    ∷ departs "1: {1},2,-\n"
    ∷ departs "1: {},1,2,-\n"
    ∷ departs "1: {1,{2,-}}\n"
    ∷ departs "1: {1,2,-\n"
    ∷ departs "1: 1,2},-\n"
    -- no none, none twice, in one group too, and none with a digit
    ∷ departs "1: 1,2\n"
    ∷ departs "1: -,1,2,-\n"
    ∷ departs "1: {-,-},1,2\n"
    ∷ departs "1: 1,2,-1\n"
    -- a leading zero, and 0 itself
    ∷ departs "01: 1,2,-\n"
    ∷ departs "1: 01,2,-\n"
    ∷ departs "1: 0,1,2,-\n"
    -- a blank elsewhere, or none; a comma too many; nothing behind the blank; an empty line
    ∷ departs "1: 1, 2,-\n"
    ∷ departs " 1: 1,2,-\n"
    ∷ departs "1: 1,2,- \n"
    ∷ departs "1:1,2,-\n"
    ∷ departs "1: 1,,2,-\n"
    ∷ departs "1: 1,2,-,\n"
    ∷ departs "1: \n"
    ∷ departs "\n"
    -- two blanks, and one before the colon; a comma before a brace or in front; no comma behind a brace; a number that is 1 in the lowest 64 bits
    ∷ departs "1:  1,2,-\n"
    ∷ departs "1 : 1,2,-\n"
    ∷ departs "1: {1,2,},-\n"
    ∷ departs "1: ,1,2,-\n"
    ∷ departs "1: {1,2}-\n"
    ∷ departs "18446744073709551617: 1,2,-\n"
    -- a carriage return
    ∷ reads (single 1 1 1) (ascii "1: 1,2,-" ++ (13 ∷ 10 ∷ [])) (ungiven 14 0)
    -- anything left over: at the place after the last student's
    ∷ alone "1: 1,2,-\n\n" (ungiven 14 1)
    ∷ alone "1: 1,2,-\n2: -\n" (ungiven 14 1)
    -- 15: named twice, in one group too; missing; no pair; too large to be a workshop, also where the lowest bytes are 1
    ∷ misnames "1: 1,2,-,1\n"
    ∷ misnames "1: {1,1},2,-\n"
    ∷ misnames "1: 1,-\n"
    ∷ misnames "1: 1,2,3,-\n"
    ∷ misnames "1: 1,2,65,-\n"
    ∷ misnames "1: 257,2,-\n"
    ∷ misnames "1: 65537,2,-\n"
    ∷ misnames "1: 18446744073709551617,2,-\n"
    -- a workshop that only another student has a pair with
    ∷ reads (fitting 1 2 3 4) (ascii "1: 2,-\n2: -\n3: 2,{4,1},-,5\n") (ungiven 15 0)
    -- 14 before 15 in a line; 15 in a line before 14 in the next, and before a line that is missing; 14 in a line before 15 in the next
    ∷ departs "1: 1,1,-,-\n"
    ∷ departs "1: 1,1,3,-"
    ∷ reads K (ascii "1: {1,2},-\n2: 1,-\n3: 1,2\n") (ungiven 15 1)
    ∷ reads K (ascii "1: 1,-\n") (ungiven 15 0)
    ∷ reads K (ascii "1: {1,2},-\n2: 1,2\n3: 1,-\n") (ungiven 14 1)
    -- a line missing in the middle; the last line is without its line feed
    ∷ reads K (ascii "1: {1,2},-\n3: 1,{-,2}\n") (ungiven 14 1)
    ∷ reads K (ascii "1: {1,2},-\n2: {1,2},-\n3: 1,{-,2}") (ungiven 14 2)
    -- one byte short of the case's length: 6, before 14; and 13 before it
    ∷ record { case = K; text = ascii lines_k; room = 175; answer = ungiven 6 0 }
    ∷ record { case = K; text = []; room = 175; answer = ungiven 6 0 }
    ∷ record { case = lots_k 1 1 2; text = []; room = 0; answer = ungiven 13 1 }
    ∷ record { case = take 15 K; text = []; room = 0; answer = ungiven 1 0 }
    ∷ []

unfoldable pub wishes_given : List WishesOutcome
wishes_given =
    map (λ (l : WriteSample). write_wishes l.case l.room) write_table ++ map (λ (l : ReadSample). read_wishes l.case l.text l.room) read_table

unfoldable pub wishes_expected : List WishesOutcome
wishes_expected = map (λ (l : WriteSample). l.answer) write_table ++ map (λ (l : ReadSample). l.answer) read_table

-- the lent buffer after an answer, of which the last byte is more than needed, and after a refusal; the values; a line that takes just its room, 8 bytes
-- for the student and 4 for the pair
unfoldable pub wishes_left : List (List ℕ)
wishes_left =
    wishes_after (given (1 ∷ 2 ∷ [])) (replicate 3 9)
    ∷ wishes_after (ungiven 14 0) (replicate 3 9)
    ∷ wishes_values (given (1 ∷ 2 ∷ []))
    ∷ wishes_values (ungiven 15 7)
    ∷ line_text (record { student = 100; groups = (0 ∷ 10 ∷ []) ∷ [] })
    ∷ (length (line_text (record { student = 100; groups = (0 ∷ 10 ∷ []) ∷ [] })) ∷ [])
    ∷ []

unfoldable pub wishes_left_expected : List (List ℕ)
wishes_left_expected = (1 ∷ 2 ∷ 9 ∷ []) ∷ (9 ∷ 9 ∷ 9 ∷ []) ∷ (2 ∷ []) ∷ (15 ∷ 7 ∷ []) ∷ ascii "100: {-,10}\n" ∷ (12 ∷ []) ∷ []

-- the rows hold, by computation
pub record WishesComputed : Type 0 where
  pub answers : wishes_given ≡ wishes_expected
  pub buffers : wishes_left ≡ wishes_left_expected
