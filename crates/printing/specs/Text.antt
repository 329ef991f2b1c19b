-- What the buffers of an answer must have for its text, and the numbers of a line.
use Rattle.std.specs.Prelude.{ℕ, ◌*◌, ◌≤◌, List, [], ◌∷◌, ◌++◌, length, Result, Ok, Err}
use Rattle.format.specs.Printed.{ascii, decimal}
use Rattle.api.specs.declared.Answer.{Answer}
use Rattle.api.specs.declared.Answer.TheVariants.{Placed, Next}
use Rattle.api.specs.declared.Refusal.{Refusal}

-- the buffers have what the answer speaks of: n places, and the interviews of its count
abbrev pub TextFits : Result Answer Refusal → ℕ → List ℕ → List ℕ → Type 0
TextFits (Ok (Placed count fares)) n places visits = (n ≤ length places) × (2 * count ≤ length visits)
TextFits (Ok (Next s w count fares)) n places visits = 2 * count ≤ length visits
TextFits (Err r) n places visits = Unit {0}

-- numbers, each behind a space
unfoldable pub spaced : List ℕ → List ℕ
spaced [] = []
spaced (n ∷ ns) = ascii " " ++ decimal n ++ spaced ns
