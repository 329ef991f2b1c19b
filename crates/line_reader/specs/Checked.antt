-- What the test of one wish line finds.
use Rattle.std.specs.Prelude.{ℕ, suc, ◌≤◌, ◌≡◌, cond, List, eqb, length, drop, get_or, Option, Some, None, Result, Ok, Err}
use Rattle.lgs.specs.Market.{Market}
use Rattle.wish_lines.specs.Lines.{Line, position}
use Rattle.wish_lines.specs.Reading.{Parsed, read_line, misnamed}
use Rattle.wish_lines.specs.Wishes.{Option?}
use Rattle.api.specs.declared.Cause.{Cause}
use Rattle.api.specs.declared.Cause.TheVariants.{LineForm, LineNames}

-- why the line at place k, which is that of student k + 1, is refused: "in each line 14 and then 15"
abbrev pub fault_of : Market → ℕ → Parsed → Option Cause
fault_of M k None = Some LineForm
fault_of M k (Some (l, t)) = cond (eqb l.student (suc k)) (cond (misnamed M l) (Some LineNames) None) (Some LineForm)

-- the line that begins at `from` is not refused, and ends at `end`; `groups` has the positions of its items
pub record Fine (M : Market) (text : List ℕ) (from k end : ℕ) (groups : List ℕ) : Type 0 where
  pub line : Line
  pub rest : List ℕ
  pub read : read_line (drop from text) ≡ Some (line, rest)
  pub fault : fault_of M k (Some (line, rest)) ≡ None
  pub left : drop end text ≡ rest
  pub within : end ≤ length text
  pub noted : (x : ℕ) → Option? M (suc k) x → get_or groups x 0 ≡ position line.groups x

-- r is what was found of the line that begins at `from`
abbrev pub LineChecked : Market → List ℕ → ℕ → ℕ → Result ℕ Cause → List ℕ → Type 0
LineChecked M text from k (Err cause) groups = (length groups ≡ 65) × (fault_of M k (read_line (drop from text)) ≡ Some cause)
LineChecked M text from k (Ok end) groups = (length groups ≡ 65) × Fine M text from k end groups
