-- What a call of the two parts for wish lines leaves, for any bytes, any length and any contents of the lent buffer.
use Rattle.std.specs.Prelude.{ℕ, ◌≡◌, List, length, Result, Ok, Err}
use Rattle.wishes.specs.Outcome.{WishesOutcome, given, ungiven, write_wishes, read_wishes, wishes_after, wishes_values}
use Rattle.wishes.specs.Promises.{WritePromised, ReadPromised}
use Rattle.api.specs.declared.Refusal.{Refusal}
use Rattle.api.specs.Causes.{refusal_for}
use Rattle.api.specs.Parts.{part_values_of}

-- the answer for an outcome: how many bytes are given, or the refusal with this number and place
unfoldable pub wishes_answer_for : WishesOutcome → Result ℕ Refusal
wishes_answer_for (given bytes) = Ok (length bytes)
wishes_answer_for (ungiven k i) = Err (refusal_for k i)

-- the buffer at entry is `out`, and at exit `out'`: the answer is that of the outcome `o`
pub record Gives (o : WishesOutcome) (out : List ℕ) (a : Result ℕ Refusal) (out' : List ℕ) : Type 0 where
  pub answer : a ≡ wishes_answer_for o
  -- how many bytes are given, or the refusal's number and place
  pub values : part_values_of a ≡ wishes_values o
  -- the bytes at the head of the buffer; "a refusal leaves their outputs as found"
  pub in_buffer : out' ≡ wishes_after o out

-- a call of the part that writes: the lent text is `text`
pub record WriteAnswered (case text : List ℕ) (a : Result ℕ Refusal) (text' : List ℕ) : Type 0 where
  pub gives : Gives (write_wishes case (length text)) text a text'
  pub promised : WritePromised case (length text) (write_wishes case (length text))

-- a call of the part that reads: the lent copy is `copy`
pub record ReadAnswered (case text copy : List ℕ) (a : Result ℕ Refusal) (copy' : List ℕ) : Type 0 where
  pub gives : Gives (read_wishes case text (length copy)) copy a copy'
  pub promised : ReadPromised case text (length copy) (read_wishes case text (length copy))
