-- What is noted of the items that a line names, and what is found of its groups.
use Rattle.std.specs.Prelude.{ℕ, ◌+◌, ◌≤◌, ◌<◌, ◌≡◌, ◌⊎◌, true, false, cond, ◌||◌, eqb, leb, length, drop, get_or, set, Option, Some, None}
use mathlib.Core.List.{List, [], flatten}
use Rattle.base.specs.Lists.{one, tally}
use Rattle.base.specs.Bits.{member}
use Rattle.wish_lines.specs.Lines.{position}
use Rattle.wish_lines.specs.Reading.{scan, group}
use Rattle.line_reader.specs.Items.{cap, cap_group}
use Rattle.line_reader.specs.declared.Marks.{Marks}
use Rattle.line_reader.specs.declared.Body.{Body}

-- the item x of group g is noted
pub record Noted (m m' : Marks) (groups groups' : List ℕ) (x g : ℕ) : Type 0 where
  pub written : groups' ≡ cond (leb x 64) (set groups x g) groups
  pub stray : m'.stray ≡ (m.stray || cond (leb x 64) (member m.named x) true)
  pub named : 1 ≤ x → x ≤ 64 → (w : ℕ) → member m'.named w ≡ (eqb w x || member m.named w)
  pub same : x ≡ 0 → m'.named ≡ m.named
  pub nones : m'.nones ≡ cap (m.nones + one (eqb x 0))

-- how often the groups name the item
abbrev pub times_in : List (List ℕ) → ℕ → ℕ
times_in gs x = tally (eqb x) (flatten gs)

-- what is noted where these groups were read: unless a number is `stray`, twice there or above 64, `named` has the others
pub record Marked (gs : List (List ℕ)) (m : Marks) (groups : List ℕ) : Type 0 where
  pub sized : length groups ≡ 65
  pub nones : m.nones ≡ cap (times_in gs 0)
  pub stray : m.stray ≡ true → (w : ℕ) × (1 ≤ w) × ((2 ≤ times_in gs w) ⊎ ((64 < w) × (1 ≤ times_in gs w)))
  pub named : m.stray ≡ false → (w : ℕ) → 1 ≤ w → times_in gs w ≡ one (member m.named w)
  pub position : m.stray ≡ false → (x : ℕ) → times_in gs x ≡ 1 → get_or groups x 0 ≡ cap_group (position gs x)

-- the groups that begin at place `from`, behind the student's number
abbrev pub BodyRead : List ℕ → ℕ → Option Body → List ℕ → Type 0
BodyRead text from None groups = (length groups ≡ 65) × ((s : ℕ) → scan (drop from text) (group s []) ≡ None)
BodyRead text from (Some r) groups =
    (gs : List (List ℕ))
    × ((s : ℕ) → scan (drop from text) (group s []) ≡ Some (record { student = s; groups = gs }, drop r.end text))
    × (r.end ≤ length text)
    × Marked gs r.marks groups
