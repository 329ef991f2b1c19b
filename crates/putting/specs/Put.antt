-- What it is to put a text into a buffer of bytes.
use Rattle.std.specs.Prelude.{ℕ, ◌+◌, min, ◌≡◌, List, length}
use Rattle.std.proofs.lemmas.List.Edits.{sets}
use Rattle.format.specs.Printed.{Whole}

-- `out` has become `after`: the text stands from `at` on, cut off at the buffer's end; the next text goes to `end`
pub record Put (text : List ℕ) (at : ℕ) (out after : List ℕ) (end : ℕ) : Type 0 where
  pub buffer : after ≡ sets out at text
  pub reach : end ≡ min (at + length text) (length out)

-- the same from the buffer's start, and nothing is cut off
pub record PutWhole (text out after : List ℕ) (end : ℕ) : Type 0 where
  pub put : Put text 0 out after end
  pub whole : Whole text after end
