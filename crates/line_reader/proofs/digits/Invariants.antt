-- `line_reader::digits` meets its contract. The invariant: what was read and what is left make the whole number.
use Rattle.line_reader.proofs.Taking.{Counting}
use Rattle.line_reader.proofs.digits.Given as goal

abbrev pub invariant-loop-k : goal.invariant-loop-k
invariant-loop-k l = Counting l.b-items l.x l.k l.value
