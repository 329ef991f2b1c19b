-- `bits::with_bit` meets its contract. `|` with a power of two adds a member (`with_law`).
use native.Mathlib.Omega.{arith}
use Rattle.base.proofs.Digits.{with_law}
use Rattle.bits.proofs.with_bit.Goals as goal

pub returns-clause-by_index : goal.returns-clause-by_index
returns-clause-by_index c = (λ x. with_law c.args.bits c.args.w x (omega arith) (omega arith))
