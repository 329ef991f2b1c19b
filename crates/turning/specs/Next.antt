-- The next student in the order of stages, by the links in the table of the case.
use Rattle.std.specs.Prelude.{ℕ, ◌≤◌, ◌<◌, ◌≡◌, List, length}
use Rattle.format.specs.Engine.{market_in}
use Rattle.tables.specs.Table.{head_of, Linked}
use Rattle.lookup.specs.Clean.{StudentAt}

-- what the search for the next student reads
pub record Ordered (case table : List ℕ) : Type 0 where
  pub sized : length table ≡ 1089
  pub many : (market_in case).students ≤ 512
  pub student : (t : ℕ) → 1 ≤ t → t ≤ (market_in case).students → StudentAt case t
  pub linked : Linked case table (market_in case).students

-- r is the first student of the first stage after `stage` that has one, or 0 where none has
pub record FirstAfter (table : List ℕ) (stage r : ℕ) : Type 0 where
  pub none : r ≡ 0 → (t : ℕ) → stage < t → t ≤ 512 → head_of table t ≡ 0
  pub some : 0 < r → (t : ℕ) × (stage < t) × (t ≤ 512) × (head_of table t ≡ r) × ((u : ℕ) → stage < u → u < t → head_of table u ≡ 0)
