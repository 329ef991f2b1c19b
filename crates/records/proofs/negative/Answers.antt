-- `records::negative` meets its contract. As `above`, against 0.
use native.Mathlib.Omega.{arith}
use lib.IntN.{pos}
use Rattle.base.specs.Words.{biased}
use Rattle.base.proofs.Signed.{code_less}
use Rattle.records.proofs.negative.Goals as goal

pub returns : goal.returns
unfolding biased
returns c = code_less c.args.a (pos 0) c.ranges.a (record { sfits = omega arith })
