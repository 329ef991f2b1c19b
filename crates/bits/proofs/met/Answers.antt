-- `bits::met` meets its contract: a digit is read and added.
use native.Mathlib.Omega.{arith}
use Rattle.bits.proofs.Slots.{met_now}
use Rattle.bits.proofs.met.Goals as goal

pub returns : goal.returns
returns c =
    let a = c.args in
    met_now a.seen.now a.slot (omega arith)
