-- The causes of refusal and their numbers, by the tables of documents 01 and 02.
use Rattle.std.specs.Prelude.{ℕ, ◌-◌, ◌≤◌, ◌≡◌, List, [], ◌∷◌, get_or, Some}
use Rattle.format.specs.Causes.{first_cause}
use Rattle.format.specs.Refusals.{case_causes, book_causes, refusal}
use Rattle.format.specs.Refusals.{Room as Lengths}
use Rattle.api.specs.declared.Cause.{Cause}
use Rattle.api.specs.declared.Cause.TheVariants.{CaseLength, RecordForm, RecordOrder, Counts, Range, Room, BookLength, NoPair, Mark, Twice, EqualMarks}
use Rattle.api.specs.declared.Cause.TheVariants.{NoStages, Lot, LineForm, LineNames}
use Rattle.api.specs.declared.Refusal.{Refusal}

abbrev pub number_of : Cause → ℕ
number_of CaseLength = 1
number_of RecordForm = 2
number_of RecordOrder = 3
number_of Counts = 4
number_of Range = 5
number_of Room = 6
number_of BookLength = 7
number_of NoPair = 8
number_of Mark = 9
number_of Twice = 10
number_of EqualMarks = 11
number_of NoStages = 12
number_of Lot = 13
number_of LineForm = 14
number_of LineNames = 15

-- the causes in the order of their numbers
abbrev pub all_causes : List Cause
all_causes =
    CaseLength
    ∷ RecordForm
    ∷ RecordOrder
    ∷ Counts
    ∷ Range
    ∷ Room
    ∷ BookLength
    ∷ NoPair
    ∷ Mark
    ∷ Twice
    ∷ EqualMarks
    ∷ NoStages
    ∷ Lot
    ∷ LineForm
    ∷ LineNames
    ∷ []

-- the cause with the number
abbrev pub cause_of : ℕ → Cause
cause_of k = get_or all_causes (k - 1) CaseLength

-- a refusal by its number and place
abbrev pub refusal_for : ℕ → ℕ → Refusal
refusal_for k i = record { cause = cause_of k; place = i }

-- each number of the tables is that of its cause, and each cause is that of its number
pub record Numbered : Type 0 where
  pub number : (k : ℕ) → 1 ≤ k → k ≤ 15 → number_of (cause_of k) ≡ k
  pub cause : (c : Cause) → cause_of (number_of c) ≡ c

-- each refusal of the tables has a cause with its number: those of a case, of a book, and the engine's
pub record RefusalNumbers : Type 0 where
  pub case : (case : List ℕ) (k i : ℕ) → first_cause (case_causes case) ≡ Some (k, i) → number_of (cause_of k) ≡ k
  pub book : (case book : List ℕ) (k i : ℕ) → first_cause (book_causes case book) ≡ Some (k, i) → number_of (cause_of k) ≡ k
  pub engine : (case book : List ℕ) (room : Lengths) (k i : ℕ) → refusal case book room ≡ Some (k, i) → number_of (cause_of k) ≡ k
