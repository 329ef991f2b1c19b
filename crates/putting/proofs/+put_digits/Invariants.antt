-- `putting::put_digits` ends: the number gets smaller.
use Rattle.putting.proofs.+put_digits.Given as goal

abbrev pub decreases-put_digits : goal.decreases-put_digits
decreases-put_digits l = l.n
