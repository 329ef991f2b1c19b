-- Wish lines (document 02, Paper 6), the grammar: "one line for each student, as `3: 2,{4,1},-,5` and a line feed".
use Rattle.std.specs.Prelude.{ℕ, zero, suc, ◌≤◌, ◌≡◌, cond, length, eqb}
use mathlib.Core.List.{List, [], ◌∷◌, ◌++◌, map, flat_map, flatten}
use mathlib.Core.List.{Memᴰ as Mem}
use Rattle.base.specs.Lists.{any, tally}
use Rattle.format.specs.Printed.{ascii, decimal}

-- "It means student 3, groups best first". An item is a workshop's number, or 0 for none.
pub record Line : Type 0 where
  pub student : ℕ
  pub groups : List (List ℕ)

-- "`-` for none"; "numbers begin with 1 to 9"
unfoldable pub item_text : ℕ → List ℕ
item_text zero = ascii "-"
item_text (suc w) = decimal (suc w)

-- texts with a comma between each two
unfoldable pub joined : List (List ℕ) → List ℕ
joined [] = []
joined (t ∷ ts) = t ++ flat_map (λ u. ascii "," ++ u) ts

-- "braces around a group of two or more items"
unfoldable pub group_text : List ℕ → List ℕ
group_text [] = []
group_text (x ∷ []) = item_text x
group_text (x ∷ y ∷ xs) = ascii "{" ++ joined (map item_text (x ∷ y ∷ xs)) ++ ascii "}"

-- "as `3: 2,{4,1},-,5` and a line feed"; "the only blank follows the colon"
unfoldable pub line_text : Line → List ℕ
line_text l = decimal l.student ++ ascii ": " ++ joined (map group_text l.groups) ++ ascii "\n"

unfoldable pub lines_text : List Line → List ℕ
lines_text ls = flat_map line_text ls

-- how often the line names the item
unfoldable pub times : ℕ → Line → ℕ
times x l = tally (eqb x) (flatten l.groups)

-- what makes a line one of this form: "`-` for none exactly once, also allowed inside braces", and no group is empty
pub record Formed (l : Line) : Type 0 where
  pub student : 1 ≤ l.student
  pub groups : (g : List ℕ) → Mem g l.groups → 1 ≤ length g
  pub none : times 0 l ≡ 1

-- what a line means: the number of the group that has the item, "groups counted from 1"; an item that is not in the line gets one past the last:
-- `FitLine` excludes it
unfoldable pub position : List (List ℕ) → ℕ → ℕ
position [] x = 1
position (g ∷ gs) x = cond (any (eqb x) g) 1 (suc (position gs x))
