-- What the code does to the lent copy, and what it finds of a text: byte by byte and line by line.
use Rattle.std.specs.Prelude.{ℕ, zero, suc, ◌+◌, ◌-◌, ◌*◌, ◌/◌, ◌%◌, ◌<◌, ◌≡◌, List, get_or, set, Result, Ok, Err}
use Rattle.lgs.specs.Market.{Market}
use Rattle.format.specs.Layout.{row_at}
use Rattle.tables.specs.Table.{Stretch}
use Rattle.wish_lines.specs.Lines.{Line, position}
use Rattle.wish_lines.specs.Reading.{read, refused, read_lines}
use Rattle.wish_lines.specs.Wishes.{Option?}
use Rattle.wishes.specs.Copy.{groups_in}
use Rattle.api.specs.declared.Refusal.{Refusal}
use Rattle.api.specs.Causes.{number_of}

-- record i with another third field
abbrev pub with_third_at : List ℕ → ℕ → ℕ → List ℕ
with_third_at copy i x = set (set copy (16 * i + 6) (x % 256)) (16 * i + 7) (x / 256)

-- the n pair records from `first` on get the group of their workshop; `group` has the group of each workshop, and at 0 that of none
unfoldable pub with_pairs : List ℕ → (ℕ → ℕ) → ℕ → ℕ → List ℕ → List ℕ
with_pairs case group first zero copy = copy
with_pairs case group first (suc n) copy = with_third_at (with_pairs case group first n copy) (first + n) (group (row_at case (first + n)).second)

-- the record of student s and her pairs' get their groups
pub record StudentPut (case groups : List ℕ) (s : ℕ) (old new : List ℕ) : Type 0 where
  pub first : ℕ
  pub many : ℕ
  pub pairs : Stretch case s first many
  pub put : new ≡ with_pairs case (λ x. get_or groups x 0) first many (with_third_at old (s - 1) (get_or groups 0 0))

-- the groups of each student's options stand from place 65 (s - 1) on: those of the lines
abbrev pub AllNoted : Market → List Line → List ℕ → Type 0
AllNoted M ls groups = (k x : ℕ) → k < M.students → Option? M (suc k) x → get_or groups (65 * k + x) 0 ≡ position (groups_in ls (suc k)) x

-- a text that is not refused is read, and its groups are noted; one that is refused is refused so
abbrev pub Judged : Market → List ℕ → Result (Unit {0}) Refusal → List ℕ → Type 0
Judged M text (Ok done) groups = (ls : List Line) × (read_lines M text ≡ read ls) × AllNoted M ls groups
Judged M text (Err r) groups = read_lines M text ≡ refused (number_of r.cause) r.place
