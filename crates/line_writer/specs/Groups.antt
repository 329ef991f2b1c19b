-- A student's groups as the code has them: for each tier the set of her workshops in it, and the tier of none.
use Rattle.std.specs.Prelude.{ℕ, zero, suc, ◌<◌, ◌≡◌, Bool, true, false, ◌&&◌, eqb, length, get_or}
use mathlib.Core.List.{List, [], ◌++◌, flat_map}
use Rattle.base.specs.Lists.{cons_if}
use Rattle.base.specs.Bits.{member, members}
use Rattle.lgs.specs.Market.{Market}
use Rattle.format.specs.Printed.{ascii}
use Rattle.wish_lines.specs.Lines.{joined}
use Rattle.wish_lines.specs.Wishes.{cons_group}

-- texts with a comma between each two, and one first where something stands before them
abbrev pub left : Bool → List (List ℕ) → List ℕ
left true ts = flat_map (λ u. ascii "," ++ u) ts
left false ts = joined ts

-- none where it is of the group, and the members of the set: "rising, with `-` first"
abbrev pub items_of : Bool → ℕ → List ℕ
items_of outside set = cons_if outside 0 (members set)

-- the groups of k tiers from t on, with none in tier `outside`
unfoldable pub groups_of : List ℕ → ℕ → ℕ → ℕ → List (List ℕ)
groups_of sets outside zero t = []
groups_of sets outside (suc k) t = cons_group (items_of (eqb outside t) (get_or sets t 0)) (groups_of sets outside k (suc t))

-- an empty set for each tier
pub record Empty (sets : List ℕ) : Type 0 where
  pub sized : length sets ≡ 66
  pub zero : (t : ℕ) → get_or sets t 0 ≡ 0

-- no workshops in a tier above `last`
pub record EmptyAbove (last : ℕ) (sets : List ℕ) : Type 0 where
  pub zero : (t : ℕ) → last < t → get_or sets t 0 ≡ 0

-- the workshops of student s, by her tier for them
pub record Gathered (M : Market) (s : ℕ) (sets : List ℕ) : Type 0 where
  pub sized : length sets ≡ 66
  pub set : (t w : ℕ) → member (get_or sets t 0) w ≡ (M.paired s w && eqb (M.student_tier s w) t)
