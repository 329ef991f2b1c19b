-- `records::above` meets its contract. A signed test reads the bits back (`code_less`), and compares as the biased numbers do.
use Rattle.base.proofs.Signed.{code_less}
use Rattle.records.proofs.above.Goals as goal

pub returns : goal.returns
returns c = code_less c.args.b c.args.a c.ranges.b c.ranges.a
