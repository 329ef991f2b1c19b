-- `records::u16_at` meets its contract. Both bytes by what `from` gives.
use native.Mathlib.Numerals.{add-one}
use Rattle.base.specs.Words.{word}
use Rattle.records.proofs.u16_at.Goals as goal

pub returns : goal.returns
unfolding word
returns c = rw (c.from.ensures, c.from-2.ensures, add-one)
