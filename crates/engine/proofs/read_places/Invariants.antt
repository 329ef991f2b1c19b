-- `engine::read_places` meets its contract. The invariant: the places of the first i students are read.
use Rattle.std.proofs.Common.{◌≡◌}
use Rattle.answering.specs.Finish.{places_held}
use Rattle.engine.proofs.read_places.Given as goal

abbrev pub invariant-loop-i : goal.invariant-loop-i
invariant-loop-i l = l.places ≡ places_held l.i l.states l.initial.places
