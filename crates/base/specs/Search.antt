-- The first place of 0 to n - 1 that passes a test.
use Rattle.std.specs.Prelude.{ℕ, zero, suc, Bool, true, false, Option, Some, None}

-- i if the test passed
abbrev pub some_if : Bool → ℕ → Option ℕ
some_if true i = Some i
some_if false i = None

-- the first, or else the second
abbrev pub or_else : Option ℕ → Option ℕ → Option ℕ
or_else None y = y
or_else (Some i) y = Some i

-- the first of the places 0 to n - 1 that passes
unfoldable pub first_bad : (ℕ → Bool) → ℕ → Option ℕ
first_bad bad zero = None
first_bad bad (suc n) = or_else (first_bad bad n) (some_if (bad n) n)

-- the place found, or n where there is none
abbrev pub or_end : ℕ → Option ℕ → ℕ
or_end n None = n
or_end n (Some i) = i
