-- How a text of wish lines is read, against the pairs of a market: byte by byte, and line by line. 14 and 15 by the grammar alone stand last.
use Rattle.std.specs.Prelude.{ℕ, zero, suc, ◌+◌, ◌-◌, ◌*◌, ◌<◌, ◌≡◌, ◌↔◌, Bool, true, false, cond, not, ◌&&◌, ◌||◌, length, eqb, ltb, leb, Option, Some, None}
use mathlib.Core.List.{List, [], ◌∷◌, ◌++◌, flatten}
use Rattle.base.specs.Lists.{any, upto}
use Rattle.lgs.specs.Market.{Market}
use Rattle.wish_lines.specs.Lines.{Line, line_text, lines_text, times, Formed}

-- ---- The reader: byte by byte.

-- what was read of a line: the student's number and the whole groups, and of the group in hand the whole items
pub data State : Type 0 where
  start : State
  number : ℕ → State  -- in the student's number
  colon : ℕ → State  -- behind the colon
  group : ℕ → List (List ℕ) → State  -- a group must begin
  alone : ℕ → List (List ℕ) → ℕ → State  -- in or behind an item that has no brace before it
  inside : ℕ → List (List ℕ) → List ℕ → State  -- in braces an item must begin
  among : ℕ → List (List ℕ) → List ℕ → ℕ → State  -- in or behind an item in braces
  closed : ℕ → List (List ℕ) → List ℕ → State  -- behind the closing brace

pub data Step : Type 0 where
  on : State → Step
  done : Line → Step
  wrong : Step

abbrev pub is_digit : ℕ → Bool
is_digit b = leb 48 b && leb b 57

-- "1 to 9"
abbrev pub is_first : ℕ → Bool
is_first b = leb 49 b && leb b 57

-- the number x, and then the digit b
abbrev pub with_digit : ℕ → ℕ → ℕ
with_digit x b = 10 * x + (b - 48)

-- an item must begin
abbrev pub begin_item : (ℕ → State) → ℕ → Step
begin_item k b = cond (eqb b 45) (on (k 0)) (cond (is_first b) (on (k (b - 48))) wrong)

-- a group has ended
abbrev pub end_group : ℕ → List (List ℕ) → ℕ → Step
end_group s gs b = cond (eqb b 44) (on (group s gs)) (cond (eqb b 10) (done (record { student = s; groups = gs })) wrong)

-- an item in braces has ended
abbrev pub end_item : ℕ → List (List ℕ) → List ℕ → ℕ → ℕ → Step
end_item s gs xs x b =
    cond (eqb b 44) (on (inside s gs (xs ++ (x ∷ []))))
    (cond (eqb b 125 && ltb 0 (length xs)) (on (closed s gs (xs ++ (x ∷ [])))) wrong)

unfoldable pub step : State → ℕ → Step
step start b = cond (is_first b) (on (number (b - 48))) wrong
step (number s) b = cond (is_digit b) (on (number (with_digit s b))) (cond (eqb b 58) (on (colon s)) wrong)
step (colon s) b = cond (eqb b 32) (on (group s [])) wrong
step (group s gs) b = cond (eqb b 123) (on (inside s gs [])) (begin_item (alone s gs) b)
step (alone s gs x) b = cond (ltb 0 x && is_digit b) (on (alone s gs (with_digit x b))) (end_group s (gs ++ ((x ∷ []) ∷ [])) b)
step (inside s gs xs) b = begin_item (among s gs xs) b
step (among s gs xs x) b = cond (ltb 0 x && is_digit b) (on (among s gs xs (with_digit x b))) (end_item s gs xs x b)
step (closed s gs g) b = end_group s (gs ++ (g ∷ [])) b

-- a line and what stands behind it
abbrev pub Parsed : Type 0
Parsed = Option (Line × List ℕ)

abbrev pub proceed : Step → (State → Parsed) → List ℕ → Parsed
proceed (on σ) more t = more σ
proceed (done l) more t = Some (l, t)
proceed wrong more t = None

unfoldable pub scan : List ℕ → State → Parsed
scan [] σ = None
scan (b ∷ t) σ = proceed (step σ b) (scan t) t

-- "`-` for none exactly once"
abbrev pub once_none : Parsed → Parsed
once_none None = None
once_none (Some (l, t)) = cond (eqb (times 0 l) 1) (Some (l, t)) None

-- the first line of a text, and the rest
unfoldable pub read_line : List ℕ → Parsed
read_line t = once_none (scan t start)

-- reading is exactly the grammar: the line that is read is of the form, and the text begins with it
abbrev pub ReadsForm : Type 0
ReadsForm = (t : List ℕ) (l : Line) (rest : List ℕ) → (read_line t ≡ Some (l, rest)) ↔ ((t ≡ line_text l ++ rest) × Formed l)

-- a text begins with at most one line
abbrev pub OneReading : Type 0
OneReading = (l l' : Line) (t t' : List ℕ) → Formed l → Formed l' → line_text l ++ t ≡ line_text l' ++ t' → (l ≡ l') × (t ≡ t')

-- ---- All lines of a text, against the pairs of a case.

-- 15: "when a workshop is named twice, is missing, or has no pair"
unfoldable pub misnamed : Market → Line → Bool
misnamed M l =
    any (λ w. ltb 0 w && (ltb 1 (times w l) || not (M.paired l.student w))) (flatten l.groups)
    || any (λ w. M.paired l.student w && eqb (times w l) 0) (upto M.workshops)

pub data Reading : Type 0 where
  read : List Line → Reading
  refused : ℕ → ℕ → Reading  -- the cause and "the line's place from 0"

abbrev pub with_line : Line → Reading → Reading
with_line l (read ls) = read (l ∷ ls)
with_line l (refused c i) = refused c i

-- "in each line 14 and then 15 before the next line": `more` reads the next lines
abbrev pub line_then : Market → ℕ → Parsed → (List ℕ → Reading) → Reading
line_then M k None more = refused 14 k
line_then M k (Some (l, t)) more =
    let rest = more t in
    cond (eqb l.student (suc k)) (cond (misnamed M l) (refused 15 k) (with_line l rest)) (refused 14 k)

-- the lines of n students from number k + 1 on: "lines go from student 1 up"; "a line missing or left over departs too"
unfoldable pub read_from : Market → ℕ → ℕ → List ℕ → Reading
read_from M zero k [] = read []
read_from M zero k (b ∷ t) = refused 14 k
read_from M (suc n) k t = line_then M k (read_line t) (read_from M n (suc k))

unfoldable pub read_lines : Market → List ℕ → Reading
read_lines M t = read_from M M.students 0 t

-- ---- 14 and 15, by the grammar alone.

-- the line at place k is of the form, is the next student's, and names her workshops
pub record FitLine (M : Market) (k : ℕ) (l : Line) : Type 0 where
  pub formed : Formed l
  pub number : l.student ≡ suc k
  pub names : misnamed M l ≡ false

-- the lines from place k on
abbrev pub FitLines : Market → ℕ → List Line → Type 0
FitLines M k [] = Unit {0}
FitLines M k (l ∷ ls) = FitLine M k l × FitLines M (suc k) ls

-- what is wrong at place k of n lines, where `rest` is left of the text
pub data Fault (M : Market) (n k : ℕ) (rest : List ℕ) : ℕ → Type 0 where
  departs : k < n → ((l : Line) (t : List ℕ) → Formed l → l.student ≡ suc k → rest ≡ line_text l ++ t → ⊥) → Fault M n k rest 14
  left_over : k ≡ n → (rest ≡ [] → ⊥) → Fault M n k rest 14
  names : k < n → (l : Line) (t : List ℕ) → Formed l → l.student ≡ suc k → rest ≡ line_text l ++ t → misnamed M l ≡ true → Fault M n k rest 15

-- the lines before fit, and the next has that fault
pub record FirstFault (M : Market) (n k : ℕ) (text : List ℕ) (cause place : ℕ) : Type 0 where
  pub lines : List Line
  pub rest : List ℕ
  pub fit : FitLines M k lines
  pub whole : text ≡ lines_text lines ++ rest
  pub there : place ≡ k + length lines
  pub fault : Fault M n place rest cause
