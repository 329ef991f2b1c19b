-- `turning::list_tier` meets its contract. The invariant is `Listing`: which of her pairs so far have been listed.
use Prim.Native.Nat.{◌+◌}
use Rattle.turning.proofs.Listing.{Listing}
use Rattle.turning.proofs.list_tier.Given as goal

abbrev pub invariant-loop-k : goal.invariant-loop-k
invariant-loop-k l = Listing l.input.table.case.now l.s l.tier l.own.start l.initial.pairs l.pairs l.n (l.own.start + l.k)
