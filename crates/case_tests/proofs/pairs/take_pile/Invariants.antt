-- `case_tests::pairs::take_pile` meets its contract. The invariant: her pairs before record i, the last with workshop `last` (`Piling`, `Trail`).
use Prim.Native.Nat.{ℕ, ◌≤◌}
use Rattle.tables.specs.Table.{student_in, workshop_in}
use Rattle.case_tests.specs.Pairs.{Trail}
use Rattle.case_tests.proofs.Noting.{Piling}
use Rattle.case_tests.proofs.pairs.take_pile.Given as goal

abbrev pub invariant-loop-i : goal.invariant-loop-i
invariant-loop-i l = record {
  few : l.last ≤ 64;
  piling : Piling (student_in l.case) (workshop_in l.case) l.from l.i l.s l.last l.set;
  trail : (n : ℕ) → l.s ≤ n → Trail l.case n l.workshops l.from l.s 0 → Trail l.case n l.workshops l.i l.s l.last;
}
