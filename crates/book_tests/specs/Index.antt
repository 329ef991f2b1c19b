-- The index: for each pair record, in order, the number of its book record plus 1, or 0.
use Rattle.std.specs.Prelude.{ℕ, suc, ◌+◌, ◌-◌, ◌≤◌, ◌≡◌, Bool, not, ◌||◌, List, ◌++◌, replicate, eqb, Option, Some, None}
use Rattle.base.specs.Lists.{tabulate, tally}
use Rattle.base.specs.Search.{first_bad}
use Rattle.format.specs.Layout.{Row, Entry, row_at, rows, entry_at, entries, entry_count, is_interview}
use Rattle.format.specs.Causes.{first_cause}
use Rattle.format.specs.Refusals.{bad_pair, bad_scores, bad_repeat, book_causes}
use Rattle.format.specs.Engine.{market_in}
use Rattle.case_tests.specs.Checked.{CleanCase, pair_count}

-- causes 8 to 10: a book record without its pair, with a bad score, or of a pair that is in the book already
unfoldable pub bad_any : List Row → List Entry → ℕ → Bool
bad_any rs es i = bad_pair rs es i || (bad_scores rs es i || bad_repeat rs es i)

-- causes 7 to 11
abbrev pub book_refusal : List ℕ → List ℕ → Option (ℕ × ℕ)
book_refusal case book = first_cause (book_causes case book)

-- a place plus 1, or 0 for none
abbrev pub from_one : Option ℕ → ℕ
from_one None = 0
from_one (Some i) = suc i

-- the number from 1 of the pair's record among the book's first n, or 0
unfoldable pub number_in : List ℕ → ℕ → Row → ℕ
number_in book n r = from_one (first_bad (λ i. is_interview r.first r.second (entry_at book i)) n)

-- the first pair record
abbrev pub pairs_from : List ℕ → ℕ
pairs_from case = (market_in case).students + (market_in case).workshops

-- the case is clean, and its pair records begin at `first`
pub record Prepared (case : List ℕ) (first : ℕ) : Type 0 where
  pub clean : CleanCase case (market_in case).students (market_in case).workshops
  pub from : first ≡ pairs_from case

-- the index of the book's first n records
unfoldable pub index_to : List ℕ → List ℕ → ℕ → List ℕ
index_to case book n = tabulate (λ k. number_in book n (row_at case (pairs_from case + k))) (pair_count case)

-- the index, and zeros up to the lent length
abbrev pub lent_index : List ℕ → List ℕ → ℕ → ℕ → List ℕ
lent_index case book n lent = index_to case book n ++ replicate (lent - pair_count case) 0

-- the lent index after the test of a case and a book: zero where they are refused
abbrev pub index_after : Option (ℕ × ℕ) → List ℕ → List ℕ → ℕ → List ℕ
index_after (Some r) case book lent = replicate lent 0
index_after None case book lent = lent_index case book (entry_count book) lent

-- ---- the index on the way

abbrev pub positive : ℕ → Bool
positive x = not (eqb x 0)

-- the first i records of the book have pairs, good scores and no pair twice, and the index is theirs
pub record Filled (case book : List ℕ) (lent i : ℕ) (index : List ℕ) : Type 0 where
  pub inside : i ≤ entry_count book
  pub filled : index ≡ lent_index case book i lent
  pub fine : first_bad (bad_any (rows case) (entries book)) i ≡ None
  pub used : tally positive index ≡ i
