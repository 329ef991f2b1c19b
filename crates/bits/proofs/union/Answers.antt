-- `bits::union` meets its contract. `|` joins two sets (`member_or`).
use Rattle.base.proofs.Digits.{member_or}
use Rattle.bits.proofs.union.Goals as goal

pub returns-clause-by_index : goal.returns-clause-by_index
returns-clause-by_index c = (λ x. member_or c.args.a c.args.b x)
