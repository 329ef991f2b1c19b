-- The text that the program prints for the library's answer, from the buffers.
use Rattle.std.specs.Prelude.{ℕ, ◌+◌, ◌*◌, List, [], ◌∷◌, ◌++◌, get_or, take, Result, Ok, Err}
use Rattle.base.specs.Lists.{tabulate}
use Rattle.lgs.specs.Rule.{Interview}
use Rattle.format.specs.Printed.{place_lines, visits_text, line_of, next_word, refused_word}
use Rattle.api.specs.declared.Answer.{Answer}
use Rattle.api.specs.declared.Answer.TheVariants.{Placed, Next}
use Rattle.api.specs.declared.Refusal.{Refusal}
use Rattle.api.specs.Causes.{number_of}

-- the first n interviews of the buffer: "student, workshop in the order visited"
unfoldable pub interviews_at : ℕ → List ℕ → List Interview
interviews_at n visits = tabulate (λ i. (get_or visits (2 * i) 0, get_or visits (2 * i + 1) 0)) n

-- the text for the answer, with n students, from the buffers
unfoldable pub text_of : Result Answer Refusal → ℕ → List ℕ → List ℕ → List ℕ
text_of (Ok (Placed count fares)) n places visits = place_lines 1 (take n places) ++ visits_text (interviews_at count visits) fares
text_of (Ok (Next s w count fares)) n places visits = line_of next_word (s ∷ w ∷ []) ++ visits_text (interviews_at count visits) fares
text_of (Err r) n places visits = line_of refused_word (number_of r.cause ∷ r.place ∷ [])
