-- `case_tests::sound::heads` meets its contract. The invariant: the records so far pass, are counted, and end with no pair.
use Prim.Native.Nat.{◌-◌, ◌<◌}
use mathlib.Core.Path.{◌≡◌}
use Rattle.format.specs.Layout.{row_at}
use Rattle.case_tests.specs.Order.{Sound, heads_end}
use Rattle.case_tests.proofs.sound.heads.Given as goal

abbrev pub invariant-loop-i : goal.invariant-loop-i
invariant-loop-i l = record {
  sound : Sound l.case l.i l.tally.students l.tally.workshops;
  all : l.i ≡ heads_end l.tally;
  no_pair : 0 < l.i → (row_at l.case (l.i - 1)).kind < 3;
}
