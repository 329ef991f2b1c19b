-- `stages::raising::climb` meets its contract. An empty tier stays empty (`climbing_past`), another climbs (`climbing_more`).
use native.Mathlib.Omega.{arith}
use Rattle.stages.proofs.Raises.{climbing_past, climbing_more, climbed}
use Rattle.stages.proofs.raising.climb.Goals as goal
use Rattle.stages.proofs.raising.climb.Goals.{then-tops-g-ne0, else-tops-g-ne0}

pub loop-g-preserved : goal.loop-g-preserved
loop-g-preserved c =
    let tops = c.args.tops.now in
    let here = c.loop-g in
    let I = here.invariant in
    elim c.if-tops-g-ne0.branch [
      | then-tops-g-ne0 w ↦
          rw (w.tops-is, w.best-is)
          (climbing_more tops c.requires here.tops here.best here.g _ I here.auto.g c.loop-g-test.true (omega (arith, w.if-tops-g-ne0.true)) w.max-best.ensures)
      | else-tops-g-ne0 w ↦ rw (w.tops-is, w.best-is) (climbing_past tops here.tops here.best here.g I here.auto.g (omega arith))
    ]

pub returns : goal.returns
returns c =
    let here = c.loop-g in
    climbed c.args.tops.now c.requires here.tops here.best here.g here.invariant (omega arith) (omega arith)
