-- `ties::lower` meets its contract. The invariant is `LoweredBy` for the records looked at.
use lib.ListN.{take}
use Rattle.ties.specs.Ties.{LoweredBy}
use Rattle.ties.proofs.lower.Given as goal

abbrev pub invariant-loop-other : goal.invariant-loop-other
invariant-loop-other l = LoweredBy (take l.other-index l.earlier) l.this l.low l.after
