-- `records::is_never` meets its contract. The bits are equal where the raised numbers are (`code_same`).
use native.Mathlib.Omega.{arith}
use lib.IntN.{negsuc}
use Rattle.base.specs.Words.{biased}
use Rattle.base.proofs.Signed.{code_same}
use Rattle.records.proofs.is_never.Goals as goal

pub returns : goal.returns
unfolding biased
returns c = code_same c.args.score (negsuc 999) c.ranges.score (record { sfits = omega arith })
