-- `bits::count` meets its contract. The count of ones is the count of members (`ones_count`).
use Rattle.base.proofs.Digits.{ones_count}
use Rattle.bits.proofs.count.Goals as goal

pub returns : goal.returns
returns c = ones_count 64 c.args.bits c.ranges.bits.fits
