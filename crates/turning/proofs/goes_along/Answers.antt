-- `turning::goes_along` meets its contract. Both counts by what they ensure.
use native.Mathlib.Omega.{arith}
use Rattle.base.specs.Bits.{member}
use Rattle.base.proofs.Counting.{count_le}
use Rattle.turning.proofs.goes_along.Goals as goal

pub overflow_mul-result : goal.overflow_mul-result
overflow_mul-result c = omega (arith, c.count-2.ensures, count_le (member c.args.set) 64)
