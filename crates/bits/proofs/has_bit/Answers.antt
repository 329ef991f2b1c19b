-- `bits::has_bit` meets its contract. The digit is the set's (`has_law`).
use native.Mathlib.Omega.{arith}
use Rattle.base.proofs.Digits.{has_law}
use Rattle.bits.proofs.has_bit.Goals as goal

pub returns : goal.returns
returns c = has_law c.args.bits c.args.w (omega arith)
