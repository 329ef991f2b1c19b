-- What a reading gives of an input whose bytes are known.
use Rattle.std.specs.Prelude.{List, ℕ, Some}
use Rattle.program.specs.Files.{ReadOf}

-- the n bytes read are the input's, as far as the buffer goes
abbrev pub BytesOf : ℕ → List ℕ → List ℕ → Type 0
BytesOf n buffer input = ReadOf (Some input) (Some n) buffer
