-- `turning::best_along` meets its contract. The invariant is `Along`.
use mathlib.Core.Path.{◌≡◌}
use Rattle.format.specs.Engine.{results_in}
use Rattle.turning.proofs.Along.{Along}
use Rattle.turning.proofs.best_along.Given as goal

abbrev pub invariant-loop-pair : goal.invariant-loop-pair
invariant-loop-pair l =
    (l.pair-iterator.end ≡ l.initial.pair-iterator.end)
    × Along l.input.table.case.now (results_in l.input.book.now) l.s l.initial.pair-iterator.start l.start l.set l.mine l.pair-iterator.start l.best l.top
