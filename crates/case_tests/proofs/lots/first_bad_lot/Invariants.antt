-- `case_tests::lots::first_bad_lot` meets its contract. The invariant: the lots so far pass, and are those in the set.
use mathlib.Core.Path.{◌≡◌}
use lib.ListN.{length}
use Rattle.case_tests.proofs.Drawing.{Drawn}
use Rattle.case_tests.proofs.lots.first_bad_lot.Given as goal

abbrev pub invariant-loop-i : goal.invariant-loop-i
invariant-loop-i l = record { long : length l.used ≡ 8; drawn : Drawn l.case l.used l.i }
