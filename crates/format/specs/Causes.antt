-- A table of causes for refusal, in the order in which they are tested, and the first that finds something. Later tables are built from the same
-- pieces in another order, so what is promised goes by the order in the table and not by the numbers.
use Rattle.std.specs.Prelude.{ℕ, ◌<◌, ◌≡◌, Bool, true, false, List, [], ◌∷◌, ◌++◌, Option, Some, None}
use mathlib.Core.List.{Memᴰ as Mem}
use Rattle.base.specs.Search.{first_bad, some_if}

pub data Test : Type 0 where
  whole : Bool → Test  -- of a whole file: it finds place 0
  each : ℕ → (ℕ → Bool) → Test  -- of each of so many records, "places count records from 0": it finds the first that is bad

-- a cause: its number and its test
abbrev pub Cause : Type 0
Cause = ℕ × Test

-- the place that a test finds
abbrev pub finds : Test → Option ℕ
finds (whole bad) = some_if bad 0
finds (each n bad) = first_bad bad n

-- "Each cause is tested over its whole file before the next one, in this order": the first cause that finds a place, by its number, and that place
abbrev pub first_cause : List Cause → Option (ℕ × ℕ)
first_cause [] = None
first_cause (c ∷ cs) = elim (finds c.1) [ None ↦ first_cause cs | Some i ↦ Some (c.0, i) ]

-- ---- the same as statements

-- i is the first of the places 0 to n - 1 that is bad
pub record First (bad : ℕ → Bool) (n i : ℕ) : Type 0 where
  pub within : i < n
  pub found : bad i ≡ true
  pub earlier : (k : ℕ) → k < i → bad k ≡ false

-- the test finds the place i
abbrev pub Finds : Test → ℕ → Type 0
Finds (whole bad) i = (bad ≡ true) × (i ≡ 0)
Finds (each n bad) i = First bad n i

-- no cause of the table finds anything
abbrev pub NothingFound : List Cause → Type 0
NothingFound cs = (c : Cause) → Mem c cs → (i : ℕ) → Finds c.1 i → ⊥

-- the cause with the number k finds the place i, and no cause before it in the table finds anything
pub record FoundFirst (cs : List Cause) (k i : ℕ) : Type 0 where
  pub before : List Cause
  pub test : Test
  pub after : List Cause
  pub table : cs ≡ before ++ ((k, test) ∷ after)
  pub found : Finds test i
  pub nothing : NothingFound before
