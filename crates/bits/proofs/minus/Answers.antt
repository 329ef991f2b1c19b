-- `bits::minus` meets its contract. `&` with the complement takes the second set out (`member_minus`).
use native.Mathlib.Omega.{arith}
use Rattle.base.proofs.Digits.{member_minus}
use Rattle.bits.proofs.minus.Goals as goal

pub returns : goal.returns
returns c = λ x. member_minus 64 c.args.a c.args.b x (omega arith) (omega arith)
