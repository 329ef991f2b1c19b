-- What the run's code needs of a case, a book, an index of the pairs and the table of the case.
-- It is true where no cause refuses them (answering/proofs/Cleaning.antt).
use Rattle.std.specs.Prelude.{ℕ, zero, suc, Option, Some, None, ◌+◌, ◌-◌, ◌≤◌, ◌<◌, ◌≡◌, true, false, List, length, get_or}
use Rattle.lgs.specs.Market.{student_outside, workshop_outside}
use Rattle.format.specs.Layout.{row_at, row_count, entry_at, entry_count, ends_in_never}
use Rattle.format.specs.Engine.{market_in, results_in}
use Rattle.records.specs.Records.{pair_place}
use Rattle.tables.specs.Table.{Tabled, Linked}

-- record s - 1 is that of student s
pub record StudentAt (case : List ℕ) (s : ℕ) : Type 0 where
  pub from : 1 ≤ s
  pub to : s ≤ row_count case
  pub stage : (market_in case).stage s ≡ (row_at case (s - 1)).second
  pub lot : (market_in case).lot s ≡ (row_at case (s - 1)).fourth
  pub outside : student_outside (market_in case) s ≡ (row_at case (s - 1)).third

-- with n students, record n + w - 1 is that of workshop w
pub record WorkshopAt (case : List ℕ) (n w : ℕ) : Type 0 where
  pub from : 1 ≤ w
  pub to : n + w ≤ row_count case
  pub quota : (market_in case).quota w ≡ (row_at case (n + w - 1)).second
  pub outside : workshop_outside (market_in case) w ≡ (row_at case (n + w - 1)).third

-- the pair has a record, found by its names
pub record PairAt (case : List ℕ) (s w : ℕ) : Type 0 where
  pub within : pair_place case s w < row_count case
  pub student_tier : (market_in case).student_tier s w ≡ (row_at case (pair_place case s w)).third
  pub workshop_tier : (market_in case).workshop_tier w s ≡ (row_at case (pair_place case s w)).fourth
  pub fare : (market_in case).fare s w ≡ (row_at case (pair_place case s w)).fifth

-- what the index has for the pair: the number of its book record plus 1, or 0; with n students and m workshops, entry 0 is that of record n + m
abbrev pub index_at : List ℕ → List ℕ → ℕ → ℕ → ℕ → ℕ → ℕ
index_at case index n m s w = get_or index (pair_place case s w - (n + m)) 0

-- the number of the book record, from what the index has
abbrev pub entry_in : ℕ → Option ℕ
entry_in zero = None
entry_in (suc e) = Some e

-- book record e - 1 is that of the interview
pub record EntryAt (book : List ℕ) (s w e : ℕ) : Type 0 where
  pub from : 1 ≤ e
  pub to : e ≤ entry_count book
  pub never : (results_in book).never s w ≡ ends_in_never (entry_at book (e - 1))
  pub student_score : (results_in book).student_score s w ≡ (entry_at book (e - 1)).student_score
  pub workshop_score : (results_in book).workshop_score w s ≡ (entry_at book (e - 1)).workshop_score

pub record Clean (case book index table : List ℕ) (n m : ℕ) : Type 0 where
  pub students : (market_in case).students ≡ n
  pub workshops : (market_in case).workshops ≡ m
  pub many_students : n ≤ 512
  pub many_workshops : m ≤ 64
  pub tabled : Tabled case table
  pub linked : Linked case table n
  pub student : (s : ℕ) → 1 ≤ s → s ≤ n → StudentAt case s
  pub workshop : (w : ℕ) → 1 ≤ w → w ≤ m → WorkshopAt case n w
  pub pair : (s w : ℕ) → (market_in case).paired s w ≡ true → PairAt case s w
  pub fare : (s w : ℕ) → (market_in case).fare s w ≤ 65535
  pub named : (s w : ℕ) → (market_in case).paired s w ≡ true → ((1 ≤ s) × (s ≤ n)) × ((1 ≤ w) × (w ≤ m))
  pub indexed : (s w : ℕ) → (market_in case).paired s w ≡ true → (n + m ≤ pair_place case s w) × (pair_place case s w - (n + m) < length index)
  pub met : (s w : ℕ) → (results_in book).met s w ≡ true → EntryAt book s w (index_at case index n m s w)
  pub unmet : (s w : ℕ) → (market_in case).paired s w ≡ true → (results_in book).met s w ≡ false → index_at case index n m s w ≡ 0
