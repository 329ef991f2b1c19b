-- The two parts for wish lines (document 02, Paper 6): "turn lines into the students' groups and line groups in a copy of the case .., and turn a case back
-- into lines". Their causes, their answers, and the lent buffer after them. Both put bytes at the head of one lent buffer: a text, or a copy of the case.
use Rattle.std.specs.Prelude.{ℕ, ◌+◌, ◌*◌, List, [], ◌∷◌, ◌++◌, length, ltb, Option, Some, None}
use Rattle.base.specs.Lists.{tally}
use Rattle.format.specs.Layout.{rows, of_kind}
use Rattle.format.specs.Causes.{Cause, whole, first_cause}
use Rattle.format.specs.Refusals.{case_causes}
use Rattle.format.specs.Engine.{market_in}
use Rattle.format.specs.Buffers.{with_head}
use Rattle.wish_lines.specs.Reading.{Reading, read, refused, read_lines}
use Rattle.wish_lines.specs.Wishes.{wish_text}
use Rattle.wishes.specs.Copy.{wished}

pub data WishesOutcome : Type 0 where
  given : List ℕ → WishesOutcome  -- the bytes of the text, or of the copy
  ungiven : ℕ → ℕ → WishesOutcome  -- a refusal: number and place

-- ---- The causes before the lines: those of the case, and 6, in the order of testing. `room` is the length of the lent buffer, in bytes.

-- "Room for text .. is as docs/ states from the case's counts": 8 bytes for each student and 4 for each pair
unfoldable pub text_room : List ℕ → ℕ
text_room case = 8 * (market_in case).students + 4 * tally (of_kind 3) (rows case)

-- the case's own, and 6 where fewer bytes are lent than needed
unfoldable pub lent_causes : List ℕ → ℕ → ℕ → List Cause
lent_causes case needed room = case_causes case ++ ((6, whole (ltb room needed)) ∷ [])

-- of the part that writes
unfoldable pub write_causes : List ℕ → ℕ → List Cause
write_causes case room = lent_causes case (text_room case) room

-- of the part that reads: the copy is as long as the case. 14 and 15 come after them, line by line (`read_lines`).
unfoldable pub read_causes : List ℕ → ℕ → List Cause
read_causes case room = lent_causes case (length case) room

-- ---- The answers.

unfoldable pub unless_found : Option (ℕ × ℕ) → WishesOutcome → WishesOutcome
unless_found (Some r) o = ungiven r.0 r.1
unless_found None o = o

-- a case's lines, or a refusal
unfoldable pub write_wishes : List ℕ → ℕ → WishesOutcome
write_wishes case room = unless_found (first_cause (write_causes case room)) (given (wish_text (market_in case)))

-- 14 and 15 "are tested after 6"
unfoldable pub copy_for : List ℕ → Reading → WishesOutcome
copy_for case (read ls) = given (wished ls case)
copy_for case (refused k i) = ungiven k i

-- a copy of the case with the groups of the text's lines, or a refusal
unfoldable pub read_wishes : List ℕ → List ℕ → ℕ → WishesOutcome
read_wishes case text room = unless_found (first_cause (read_causes case room)) (copy_for case (read_lines (market_in case) text))

-- "a refusal leaves their outputs as found" (Paper 2), and bytes past those given stay
unfoldable pub wishes_after : WishesOutcome → List ℕ → List ℕ
wishes_after (given bytes) old = with_head bytes old
wishes_after (ungiven k i) old = old

-- the values of an answer: how many bytes are given; of a refusal its number and place
unfoldable pub wishes_values : WishesOutcome → List ℕ
wishes_values (given bytes) = length bytes ∷ []
wishes_values (ungiven k i) = k ∷ i ∷ []
