-- `records::equal` meets its contract. The bits are equal where the biased numbers are (`code_same`).
use Rattle.base.proofs.Signed.{code_same}
use Rattle.records.proofs.equal.Goals as goal

pub returns : goal.returns
returns c = code_same c.args.a c.args.b c.ranges.a c.ranges.b
