-- The part's rows of the table of proved cases: a slip for each. proofs/Table.antt has the one proof that the definitions give them.
use Rattle.std.specs.Prelude.{ℕ, ◌≡◌, List, [], ◌∷◌, map, get_or, take, replicate}
use Rattle.base.specs.Lists.{upto}
use Rattle.format.specs.Encoding.{case_bytes}
use Rattle.format.specs.Table.{row_with, case_of, numbered, f3, f4, one_each, workshops_k, pairs_k, K, lots_k, tens_k}
use Rattle.stages.specs.Outcome.{StagesOutcome, staged, unstaged, work_out, stages_after, stages_values}
use Rattle.stages.specs.Restaged.{restaged}

-- a case, the length of the lent stages, and the answer
pub record StagesSample : Type 0 where
  pub case : List ℕ
  pub room : ℕ
  pub answer : StagesOutcome

abbrev pub within : ℕ → List ℕ → StagesOutcome → StagesSample
within room case answer = record { case = case; room = room; answer = answer }

-- n students at stage 1, and pairs by student, workshop and the workshop's group for the student
unfoldable pub wished : ℕ → List (List ℕ) → List (List ℕ) → List ℕ
wished n workshops pairs = case_of (map (λ s. numbered s 1 1) (upto n)) workshops (map (λ (p : List ℕ). f4 (get_or p 0 0) (get_or p 1 0) 1 (get_or p 2 0)) pairs)

-- workshops 1 to m with one seat and line group 9
abbrev pub one_seat : ℕ → List (List ℕ)
one_seat m = map (λ w. f3 w 1 9) (upto m)

-- two workshops, which rank two students the other way round; with these quotas, and this line group of workshop 2, which has student 1 in group 2
unfoldable pub crossed : ℕ → ℕ → ℕ → List ℕ
crossed q1 q2 line2 = wished 2 (f3 1 q1 9 ∷ f3 2 q2 line2 ∷ []) (f3 1 1 1 ∷ f3 1 2 2 ∷ f3 2 1 2 ∷ f3 2 2 1 ∷ [])

-- K with these stages in its student records; its own are 1, 2, 2
unfoldable pub staged_k : ℕ → ℕ → ℕ → List ℕ
staged_k a b c = case_of (numbered 1 a 2 ∷ numbered 2 b 2 ∷ numbered 3 c 2 ∷ []) (workshops_k 1 1 3) pairs_k

-- no stage numbers agree
abbrev pub none_agreed : StagesOutcome
none_agreed = unstaged 12 0

unfoldable pub stages_table : List StagesSample
stages_table =
    -- K, in stages of just its length
    within 3 K (staged (1 ∷ 2 ∷ 2 ∷ []))
    -- the stages in the file do not matter, at the ends of their range either
    ∷ within 3 (staged_k 512 1 512) (staged (1 ∷ 2 ∷ 2 ∷ []))
    -- two orders that cannot both be kept; a seat for each of two students does not help
    ∷ within 4 (crossed 1 1 9) none_agreed
    ∷ within 4 (crossed 2 2 9) none_agreed
    -- a workshop without seats asks nothing, whichever it is
    ∷ within 4 (crossed 1 0 9) (staged (1 ∷ 2 ∷ []))
    ∷ within 4 (crossed 0 1 9) (staged (2 ∷ 1 ∷ []))
    -- a student beyond the line is passed over, and one in the line group is not
    ∷ within 4 (crossed 1 1 1) (staged (1 ∷ 2 ∷ []))
    ∷ within 4 (crossed 1 1 2) none_agreed
    -- it is the workshop's line: a workshop that is beyond the student's own still ranks her
    ∷ within 4 (case_of (numbered 1 1 1 ∷ numbered 2 1 1 ∷ []) (one_seat 1) (f4 1 1 2 2 ∷ f4 2 1 2 1 ∷ [])) (staged (2 ∷ 1 ∷ []))
    -- no pairs, and a student without pairs: stage 1
    ∷ within 4 (wished 2 (one_seat 1) []) (staged (1 ∷ 1 ∷ []))
    ∷ within 4 (wished 3 (one_seat 1) (f3 1 1 1 ∷ f3 3 1 2 ∷ [])) (staged (1 ∷ 1 ∷ 2 ∷ []))
    -- groups have gaps, and stages need none
    ∷ within 4 (wished 2 (one_seat 1) (f3 1 1 3 ∷ f3 2 1 7 ∷ [])) (staged (1 ∷ 2 ∷ []))
    -- but a stage is not the group's rank: student 1 is first at workshop 1, and behind student 3 at workshop 2
    ∷ within 4 (wished 3 (one_seat 2) (f3 1 1 1 ∷ f3 1 2 2 ∷ f3 2 1 2 ∷ f3 3 2 1 ∷ [])) (staged (2 ∷ 3 ∷ 1 ∷ []))
    -- two of one group have one stage, also where only the other is raised: workshop 2 ties student 3 to student 2, and 4 comes after 3
    ∷ within 4 (wished 4 (one_seat 3) (f3 1 1 1 ∷ f3 2 1 2 ∷ f3 2 2 1 ∷ f3 3 2 1 ∷ f3 3 3 1 ∷ f3 4 3 2 ∷ [])) (staged (1 ∷ 2 ∷ 2 ∷ 3 ∷ []))
    -- the same with workshops 1 and 3 the other way round: each later one raises somebody whom an earlier one has passed
    ∷ within 4 (wished 4 (one_seat 3) (f3 1 3 1 ∷ f3 2 2 1 ∷ f3 2 3 2 ∷ f3 3 1 1 ∷ f3 3 2 1 ∷ f3 4 1 2 ∷ [])) (staged (1 ∷ 2 ∷ 2 ∷ 3 ∷ []))
    -- one group at one workshop and two at another; three workshops in a ring
    ∷ within 4 (wished 2 (one_seat 2) (f3 1 1 1 ∷ f3 1 2 1 ∷ f3 2 1 1 ∷ f3 2 2 2 ∷ [])) none_agreed
    ∷ within 4 (wished 3 (one_seat 3) (f3 1 1 1 ∷ f3 1 3 2 ∷ f3 2 1 2 ∷ f3 2 2 1 ∷ f3 3 2 2 ∷ f3 3 3 1 ∷ [])) none_agreed
    -- refusals 1 to 5 as the engine's: "the stages in the file are only checked for range"
    ∷ within 4 (take 15 K) (unstaged 1 0)
    ∷ within 4 (case_bytes (row_with 4 (f3 1 1 1) ∷ [])) (unstaged 2 0)
    ∷ within 4 (one_each (numbered 1 1 1) (f3 2 1 1) []) (unstaged 3 1)
    ∷ within 4 [] (unstaged 4 0)
    ∷ within 4 (staged_k 1 0 2) (unstaged 5 1)
    ∷ within 4 (staged_k 1 2 513) (unstaged 5 2)
    -- 13, after 5, and before 6 and 12
    ∷ within 4 (lots_k 1 2 513) (unstaged 13 2)
    ∷ within 2 (lots_k 1 1 2) (unstaged 13 1)
    ∷ within 4 (case_of (f4 1 1 2 5 ∷ f4 2 0 2 5 ∷ []) (one_seat 1) []) (unstaged 5 1)
    ∷ within 4 (case_of (f4 1 1 1 3 ∷ f4 2 1 1 3 ∷ []) (one_seat 2) (f4 1 1 1 1 ∷ f4 1 2 1 2 ∷ f4 2 1 1 2 ∷ f4 2 2 1 1 ∷ [])) (unstaged 13 1)
    -- a byte at 10 of a student is refused, and a pair's fare changes nothing
    ∷ within 4 (one_each (1 ∷ 1 ∷ 1 ∷ 1 ∷ 1 ∷ []) (f3 1 1 1) []) (unstaged 2 0)
    ∷ within 3 tens_k (staged (1 ∷ 2 ∷ 2 ∷ []))
    -- lots change no stage
    ∷ within 3 (lots_k 512 1 7) (staged (1 ∷ 2 ∷ 2 ∷ []))
    -- one entry short: 6, after 5 and before 12
    ∷ within 2 K (unstaged 6 0)
    ∷ within 2 (staged_k 1 0 2) (unstaged 5 1)
    ∷ within 1 (crossed 1 1 9) (unstaged 6 0)
    ∷ within 2 (crossed 1 1 9) none_agreed
    ∷ []

unfoldable pub stages_given : List StagesSample → List StagesOutcome
stages_given ls = map (λ (l : StagesSample). work_out l.case l.room) ls

unfoldable pub stages_expected : List StagesSample → List StagesOutcome
stages_expected ls = map (λ (l : StagesSample). l.answer) ls

-- the lent stages after an answer, of which the last entry is more than needed, and after a refusal; the values; K with other stages, restaged
unfoldable pub stages_left : List (List ℕ)
stages_left =
    stages_after (staged (1 ∷ 2 ∷ 2 ∷ [])) (replicate 4 9)
    ∷ stages_after none_agreed (replicate 4 9)
    ∷ stages_values (staged (1 ∷ 2 ∷ 2 ∷ []))
    ∷ stages_values (unstaged 5 1)
    ∷ restaged (1 ∷ 2 ∷ 2 ∷ []) K
    ∷ restaged (1 ∷ 2 ∷ 2 ∷ []) (staged_k 9 9 9)
    ∷ restaged (512 ∷ 256 ∷ 1 ∷ []) K
    ∷ restaged (1 ∷ 2 ∷ 2 ∷ []) (lots_k 512 256 1)
    ∷ []

unfoldable pub stages_left_expected : List (List ℕ)
stages_left_expected =
    (1 ∷ 2 ∷ 2 ∷ 9 ∷ [])
    ∷ (9 ∷ 9 ∷ 9 ∷ 9 ∷ [])
    ∷ (3 ∷ [])
    ∷ (5 ∷ 1 ∷ [])
    ∷ staged_k 1 2 2
    ∷ staged_k 1 2 2
    ∷ staged_k 512 256 1
    ∷ lots_k 512 256 1
    ∷ []

-- the rows hold, by computation
pub record StagesComputed : Type 0 where
  pub answers : stages_given stages_table ≡ stages_expected stages_table
  pub buffers : stages_left ≡ stages_left_expected
