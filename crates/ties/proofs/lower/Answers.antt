-- `ties::lower` meets its contract. The invariant is `LoweredBy` for the records looked at.
use native.Mathlib.Omega.{arith}
use lib.ListN.{get_or}
use Rattle.std.proofs.lemmas.List.{take_more}
use Rattle.ties.specs.Ties.{blank}
use Rattle.ties.proofs.Lowering.{by_on, by_skip}
use Rattle.ties.proofs.lower.Goals as goal
use Rattle.ties.proofs.lower.Goals.{then-other-this, else-other-this}

pub loop-other-preserved : goal.loop-other-preserved
loop-other-preserved c =
    let a = c.args in
    let here = c.loop-other in
    let other = get_or a.earlier.now here.other-index blank in
    rw (take_more a.earlier.now here.other-index blank (omega arith))
    (elim c.if-other-this.branch [
      | then-other-this w ↦ by_on here.invariant other _ w.if-other-this.true (omega arith)
      | else-other-this w ↦ rw w.after-is (by_skip here.invariant other w.if-other-this.false)
    ])
