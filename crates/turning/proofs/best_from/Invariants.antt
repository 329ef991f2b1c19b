-- `turning::best_from` meets its contract. The invariant is `Best`.
use Rattle.base.specs.Bits.{members}
use Rattle.format.specs.Engine.{market_in, results_in}
use Rattle.turning.proofs.Laws.{Best}
use Rattle.turning.proofs.best_from.Given as goal

abbrev pub invariant-loop-w : goal.invariant-loop-w
invariant-loop-w l =
    Best (market_in l.input.table.case.now) (results_in l.input.book.now) l.s l.start l.set l.best l.top (members l.w-iterator.0)
