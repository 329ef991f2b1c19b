-- `bits::without_bit` meets its contract. `&` with the complement of a power of two takes a member out (`without_law`), and the number falls (`without_less`).
use native.Mathlib.Omega.{arith}
use Rattle.base.proofs.Digits.{without_law, without_less}
use Rattle.bits.proofs.without_bit.Goals as goal

pub returns-clause-by_index : goal.returns-clause-by_index
returns-clause-by_index c = (λ x. without_law c.args.bits c.args.w x (omega arith) (omega arith) (omega arith))

pub returns-clause-upper_bound : goal.returns-clause-upper_bound
returns-clause-upper_bound c = (λ set. without_less c.args.bits c.args.w (omega arith) (omega arith) (omega arith) set)
