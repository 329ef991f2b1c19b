-- `wishes::copying::put_student` meets its contract. The invariant: the student's record and those of her pairs so far are written.
use Rattle.wishes.proofs.Records.{PairsTo}
use Rattle.wishes.proofs.copying.put_student.Given as goal

abbrev pub invariant-loop-pair : goal.invariant-loop-pair
invariant-loop-pair l = PairsTo l.table.case.now l.groups l.s l.pair-iterator.start l.pair-iterator.end l.initial.copy l.copy
