-- `putting::put_digits` meets its contract: the digits of the number's tenth, and then its last one, are those of the definition.
use native.Mathlib.Omega.{arith}
use Rattle.putting.proofs.Decimal.{decimal_digit, decimal_more}
use Rattle.putting.proofs.Laws.{put_then}
use Rattle.putting.proofs.+put_digits.Goals as goal

pub returns-then-n-lt10 : goal.returns-then-n-lt10
returns-then-n-lt10 t c = rw (decimal_digit c.args.n (omega arith)) c.put_digit.ensures

pub returns : goal.returns
returns t c = rw (decimal_more c.args.n (omega arith)) (put_then c.requires c.put_digits-end.ensures c.put_digit-2.ensures)
