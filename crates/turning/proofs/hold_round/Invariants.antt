-- `turning::hold_round` meets its contract. The invariant is `Going`: how far the list of the tier's workshops has been gone over, and what the round
-- so far has given.
use Rattle.std.proofs.Common.{length}
use Rattle.format.specs.Engine.{results_in}
use Rattle.turning.proofs.Listing.{Going}
use Rattle.turning.proofs.hold_round.Given as goal

abbrev pub invariant-loop-pair : goal.invariant-loop-pair
invariant-loop-pair l =
    Going l.input.table.case.now (results_in l.input.book.now) l.seats l.s l.tier l.set l.held l.input.workshops (length l.pair-items) l.pair-items
    l.initial.visits l.visits l.count l.openings l.fares l.pair-index
