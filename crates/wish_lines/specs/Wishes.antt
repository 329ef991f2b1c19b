-- The wish lines of a market: "turn a case back into lines", and what "the same order, gaps aside" is.
use Rattle.std.specs.Prelude.{ℕ, zero, suc, ◌≤◌, ◌<◌, ◌≡◌, ◌↔◌, true, List, [], ◌∷◌, eqb, length, get_or}
use Rattle.base.specs.Lists.{upto, keep, count, total}
use Rattle.lgs.specs.Market.{Market}
use Rattle.lgs.specs.Profiles.{outside_or}
use Rattle.wish_lines.specs.Lines.{Line, lines_text}

-- none and the workshops that the student has a pair with, "rising, with `-` first"
unfoldable pub options_of : Market → ℕ → List ℕ
options_of M s = keep (outside_or (M.paired s)) (0 ∷ upto M.workshops)

-- those of tier t
unfoldable pub at_tier : (ℕ → ℕ) → List ℕ → ℕ → List ℕ
at_tier tier xs t = keep (λ x. eqb (tier x) t) xs

-- a group that has items stands in front
abbrev pub cons_group : List ℕ → List (List ℕ) → List (List ℕ)
cons_group [] gs = gs
cons_group (x ∷ xs) gs = (x ∷ xs) ∷ gs

-- k tiers from t on
unfoldable pub groups_from : (ℕ → ℕ) → List ℕ → ℕ → ℕ → List (List ℕ)
groups_from tier xs zero t = []
groups_from tier xs (suc k) t = cons_group (at_tier tier xs t) (groups_from tier xs k (suc t))

-- tiers are 1 to 65 (cause 5)
unfoldable pub line_of : Market → ℕ → Line
line_of M s = record { student = s; groups = groups_from (M.student_tier s) (options_of M s) 65 1 }

-- the lines of n students from number k + 1 on: "lines go from student 1 up"
unfoldable pub lines_from : Market → ℕ → ℕ → List Line
lines_from M zero k = []
lines_from M (suc n) k = line_of M (suc k) ∷ lines_from M n (suc k)

unfoldable pub lines_of : Market → List Line
lines_of M = lines_from M M.students 0

unfoldable pub wish_text : Market → List ℕ
wish_text M = lines_text (lines_of M)

-- how many pairs the case has
unfoldable pub pairs_of : Market → ℕ
pairs_of M = total (λ s. count (M.paired s) M.workshops) M.students

-- ---- What the theorems ask and say.

abbrev pub Option? : Market → ℕ → ℕ → Type 0
Option? M s x = outside_or (M.paired s) x ≡ true

-- "rising"
abbrev pub Rising : List ℕ → Type 0
Rising g = (i j : ℕ) → i < j → j < length g → get_or g i 0 < get_or g j 0

-- what a case that passes 1 to 5 has
pub record Ranged (M : Market) : Type 0 where
  pub students : M.students ≤ 512
  pub workshops : M.workshops ≤ 64
  pub student : (s w : ℕ) → M.paired s w ≡ true → (1 ≤ s) × (s ≤ M.students)
  pub workshop : (s w : ℕ) → M.paired s w ≡ true → (1 ≤ w) × (w ≤ M.workshops)
  pub tier : (s x : ℕ) → 1 ≤ s → s ≤ M.students → Option? M s x → (1 ≤ M.student_tier s x) × (M.student_tier s x ≤ 65)

-- "they have, by number, the same students and pairs, and all students' groups, none included, have the same order, gaps aside": equal groups stay equal,
-- since `<` goes both ways for x, y and for y, x
pub record SameWishes (M M' : Market) : Type 0 where
  pub students : M.students ≡ M'.students
  pub pairs : (s w : ℕ) → M.paired s w ≡ M'.paired s w
  pub order : (s x y : ℕ) → 1 ≤ s → s ≤ M.students → Option? M s x → Option? M s y
      → (M.student_tier s x < M.student_tier s y) ↔ (M'.student_tier s x < M'.student_tier s y)
