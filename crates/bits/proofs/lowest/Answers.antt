-- `bits::lowest` meets its contract. The count of trailing zeros is the lowest digit, from 0 (`low_law`).
use native.Mathlib.Omega.{arith}
use Rattle.base.proofs.Digits.{low_law}
use Rattle.bits.proofs.lowest.Goals as goal

pub returns : goal.returns
returns c = low_law c.args.bits (omega arith) (omega arith)
