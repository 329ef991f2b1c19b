-- `putting::put_decimal` meets its contract: one digit, or two, are those of the definition.
use Prim.Native.Nat.{◌/◌}
use native.Mathlib.Omega.{arith}
use Rattle.putting.proofs.Decimal.{decimal_digit, decimal_more}
use Rattle.putting.proofs.Laws.{put_then}
use Rattle.putting.proofs.put_decimal.Goals as goal

pub returns-then-n-lt10 : goal.returns-then-n-lt10
returns-then-n-lt10 c = rw (decimal_digit c.args.n (omega arith)) c.put_digit.ensures

pub returns-then-n-lt100 : goal.returns-then-n-lt100
returns-then-n-lt100 c =
    let n = c.args.n in
    rw (decimal_more n (omega arith), decimal_digit (n / 10) (omega arith))
    (put_then c.requires c.put_digit-end.ensures c.put_digit-then-n-lt100.ensures)
