-- `bits::without_lowest` meets its contract. `&` with the number before takes the lowest member out (`lowest_law`), and is no more than that number.
use native.Mathlib.Omega.{arith}
use Rattle.bits.proofs.LowestDigit.{lowest_law}
use Rattle.bits.proofs.without_lowest.Goals as goal

pub returns-clause-by_index : goal.returns-clause-by_index
returns-clause-by_index c = (λ w low x. lowest_law c.args.bits w x (omega arith) low)
