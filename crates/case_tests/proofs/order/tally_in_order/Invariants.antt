-- `case_tests::order::tally_in_order` meets its contract. The invariant: the records so far are in order, and counted.
use Rattle.case_tests.specs.Order.{Counted}
use Rattle.case_tests.proofs.order.tally_in_order.Given as goal

abbrev pub invariant-loop-i : goal.invariant-loop-i
invariant-loop-i l = Counted l.case l.i l.tally.students l.tally.workshops
