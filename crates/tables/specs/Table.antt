-- The table of a case: 1089 entries of 64 bits, made once for a call. By it a pair's record, a workshop's seats and the next student are found without
-- a search.
use Rattle.std.specs.Prelude.{ℕ, ◌+◌, ◌-◌, ◌/◌, ◌%◌, ◌≤◌, ◌<◌, ◌≡◌, true, List, length, get_or}
use Rattle.base.specs.Lists.{count}
use Rattle.base.specs.Bits.{member}
use Rattle.lgs.specs.Market.{seats_before}
use Rattle.format.specs.Layout.{row_at, row_count}
use Rattle.format.specs.Engine.{market_in}
use Rattle.records.specs.Records.{pair_place}

-- ---- The entries.

-- the workshops with which student s, from 1 to 512, has pairs
abbrev pub set_of : List ℕ → ℕ → ℕ
set_of table s = get_or table (s - 1) 0

-- her entry, which has three numbers
abbrev pub entry_of : List ℕ → ℕ → ℕ
entry_of table s = get_or table (511 + s) 0

-- the number of her first pair's record
abbrev pub first_of : List ℕ → ℕ → ℕ
first_of table s = entry_of table s % 65536

-- the next student of her stage, or 0
abbrev pub next_of : List ℕ → ℕ → ℕ
next_of table s = entry_of table s / 65536 % 65536

-- the first student of stage t, from 1 to 512, or 0
abbrev pub head_of : List ℕ → ℕ → ℕ
head_of table t = entry_of table t / 4294967296

-- where the seats of workshop w, from 1 to 64, start
abbrev pub start_of : List ℕ → ℕ → ℕ
start_of table w = get_or table (1023 + w) 0

-- the set of all workshops, from 1 on
abbrev pub all_of : List ℕ → ℕ
all_of table = get_or table 1088 0

-- how many of her pairs are with the workshops 1 to n
abbrev pub pairs_up_to : List ℕ → ℕ → ℕ → ℕ
pairs_up_to table s n = count (member (set_of table s)) n

pub record Blank (table : List ℕ) : Type 0 where
  pub sized : length table ≡ 1089
  pub zero : (k : ℕ) → get_or table k 0 ≡ 0

-- the student and the workshop of record k, a pair
abbrev pub student_in : List ℕ → ℕ → ℕ
student_in case k = (row_at case k).first

abbrev pub workshop_in : List ℕ → ℕ → ℕ
workshop_in case k = (row_at case k).second

-- ---- The table describes the case.
pub record Tabled (case table : List ℕ) : Type 0 where
  pub sized : length table ≡ 1089
  pub named : (s w : ℕ) → (market_in case).paired s w ≡ true → ((1 ≤ s) × (s ≤ 512)) × ((1 ≤ w) × (w ≤ 64))
  pub set : (s w : ℕ) → 1 ≤ s → s ≤ 512 → member (set_of table s) w ≡ (market_in case).paired s w
  pub place : (s w : ℕ) → (market_in case).paired s w ≡ true → pair_place case s w ≡ first_of table s + pairs_up_to table s (w - 1)
  pub all : (w x : ℕ) → member (all_of table) w ≡ true → 1 ≤ x → x ≤ w → member (all_of table) x ≡ true
  pub few : (market_in case).workshops ≤ 64
  pub start : (w : ℕ) → 1 ≤ w → w ≤ (market_in case).workshops → start_of table w ≡ seats_before (market_in case) w

-- As it is made: nothing but the first pairs' records stands in the students' entries yet.
pub record Made (case table : List ℕ) : Type 0 where
  pub tabled : Tabled case table
  pub small : (s : ℕ) → 1 ≤ s → s ≤ 512 → entry_of table s < 65536

-- The pairs of student s are the records from `first` on, as many as `many`.
pub record Stretch (case : List ℕ) (s first many : ℕ) : Type 0 where
  pub small : first < 65536
  pub few : many ≤ 64
  pub inside : (k : ℕ) → k < many → first + k < row_count case
  pub each : (k : ℕ) → k < many → ((row_at case (first + k)).kind ≡ 3) × ((row_at case (first + k)).first ≡ s)
  pub paired : (k : ℕ) → k < many → (market_in case).paired s (workshop_in case (first + k)) ≡ true
  pub place : (k : ℕ) → k < many → pair_place case s (workshop_in case (first + k)) ≡ first + k
  pub all : (w : ℕ) → (market_in case).paired s w ≡ true → (first ≤ pair_place case s w) × (pair_place case s w < first + many)

-- ---- The students of a stage, one after the other.

-- r is the first of the students s + 1 to n who has stage t, or 0 where none has it
pub record Following (stage : ℕ → ℕ) (t s n r : ℕ) : Type 0 where
  pub none : r ≡ 0 → (k : ℕ) → s < k → k ≤ n → stage k ≡ t → ⊥
  pub some : 0 < r → (s < r) × (r ≤ n) × (stage r ≡ t)
  pub first : (k : ℕ) → s < k → k < r → stage k ≡ t → ⊥

-- each of n students has the next one of her stage, and each stage its first student
pub record Linked (case table : List ℕ) (n : ℕ) : Type 0 where
  pub range : (s : ℕ) → 1 ≤ s → s ≤ n → (1 ≤ (market_in case).stage s) × ((market_in case).stage s ≤ 512)
  pub next : (s : ℕ) → 1 ≤ s → s ≤ n → Following (market_in case).stage ((market_in case).stage s) s n (next_of table s)
  pub head : (t : ℕ) → 1 ≤ t → t ≤ 512 → Following (market_in case).stage t 0 n (head_of table t)

-- record s - 1 has the stage of student s, for each of n students
pub record Staged (case : List ℕ) (n : ℕ) : Type 0 where
  pub many : n ≤ 512
  pub inside : n ≤ row_count case
  pub stage : (s : ℕ) → 1 ≤ s → s ≤ n → (market_in case).stage s ≡ (row_at case (s - 1)).second
  pub range : (s : ℕ) → 1 ≤ s → s ≤ n → (1 ≤ (market_in case).stage s) × ((market_in case).stage s ≤ 512)

-- an entry has these three numbers
pub record Holds (entry a b c : ℕ) : Type 0 where
  pub first : entry % 65536 ≡ a
  pub next : entry / 65536 % 65536 ≡ b
  pub head : entry / 4294967296 ≡ c

-- nothing but the links has changed
pub record Kept (old new : List ℕ) : Type 0 where
  pub sized : length new ≡ length old
  pub low : (k : ℕ) → k < 512 → get_or new k 0 ≡ get_or old k 0
  pub high : (k : ℕ) → 1024 ≤ k → get_or new k 0 ≡ get_or old k 0
  pub first : (s : ℕ) → 1 ≤ s → s ≤ 512 → first_of new s ≡ first_of old s

-- ---- What the table is made from.

-- the records of m workshops stand after those of n students, and the pairs' after both: so it is where causes 2 to 5 find nothing
pub record Standing (case : List ℕ) (n m : ℕ) : Type 0 where
  pub workshops : (market_in case).workshops ≡ m
  pub many_students : n ≤ 512
  pub many_workshops : m ≤ 64
  pub inside : n + m ≤ row_count case
  pub quota : (w : ℕ) → 1 ≤ w → w ≤ m → (market_in case).quota w ≡ (row_at case (n + w - 1)).second
  pub only : (k : ℕ) → k < row_count case → (row_at case k).kind ≡ 3 → n + m ≤ k
  pub pair : (k : ℕ) → n + m ≤ k → k < row_count case → (row_at case k).kind ≡ 3
  pub named : (k : ℕ) → n + m ≤ k → k < row_count case
      → ((1 ≤ student_in case k) × (student_in case k ≤ 512)) × ((1 ≤ workshop_in case k) × (workshop_in case k ≤ 64))

-- ---- What the steps of its making give.

-- the table describes the pairs (a k, b k) with k from `from` to i - 1
pub record Noted (a b : ℕ → ℕ) (from i : ℕ) (table : List ℕ) : Type 0 where
  pub sized : length table ≡ 1089
  pub sound : (s x : ℕ) → 1 ≤ s → s ≤ 512 → member (set_of table s) x ≡ true → (k : ℕ) × (from ≤ k) × (k < i) × (a k ≡ s) × (b k ≡ x)
  pub full : (k : ℕ) → from ≤ k → k < i → member (set_of table (a k)) (b k) ≡ true
  pub place : (k : ℕ) → from ≤ k → k < i → entry_of table (a k) + pairs_up_to table (a k) (b k - 1) ≡ k
  pub small : (s : ℕ) → 1 ≤ s → s ≤ 512 → entry_of table s < 65536

-- the table with the starts of the seats of workshops 1 to m - 1, and their set, beside its other entries
pub record Started (case : List ℕ) (old new : List ℕ) (m : ℕ) : Type 0 where
  pub sized : length new ≡ 1089
  pub others : (k : ℕ) → k < 1024 → get_or new k 0 ≡ get_or old k 0
  pub all : (w x : ℕ) → member (all_of new) w ≡ true → 1 ≤ x → x ≤ w → member (all_of new) x ≡ true
  pub start : (w : ℕ) → 1 ≤ w → w < m → start_of new w ≡ seats_before (market_in case) w
