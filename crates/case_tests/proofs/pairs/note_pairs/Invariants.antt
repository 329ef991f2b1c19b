-- `case_tests::pairs::note_pairs` meets its contract. The invariant: the table has the pairs of students 1 to s, which stand before record `at` and pass.
use Prim.Native.Nat.{◌+◌}
use Rattle.tables.specs.Table.{student_in, workshop_in}
use Rattle.case_tests.specs.Order.{heads_end}
use Rattle.case_tests.specs.Pairs.{Trail}
use Rattle.case_tests.proofs.Noting.{Shelved}
use Rattle.case_tests.proofs.pairs.note_pairs.Given as goal

abbrev pub invariant-loop-s : goal.invariant-loop-s
invariant-loop-s l = record {
  shelved : Shelved (student_in l.case) (workshop_in l.case) (heads_end l.heads) l.s l.at l.table;
  trail : Trail l.case l.heads.students l.heads.workshops l.at (l.s + 1) 0;
}
