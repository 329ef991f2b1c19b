-- `seating::settle` meets its contract. The invariant: seat i - 1 is free for x, and whoever was behind has moved on (`Settling`).
use Prim.Native.Nat.{◌-◌}
use Rattle.format.specs.Engine.{market_in, results_in}
use Rattle.seating.proofs.Laws.{Settling}
use Rattle.seating.proofs.settle.Given as goal

abbrev pub invariant-loop-i : goal.invariant-loop-i
invariant-loop-i l =
    Settling (market_in l.input.table.case.now) (results_in l.input.book.now) l.w l.x l.initial.part l.part (l.i - 1)
