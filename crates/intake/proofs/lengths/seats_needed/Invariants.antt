-- `intake::lengths::seats_needed` meets its contract. The invariant: the seats of the first w workshops.
use Prim.Native.Nat.{◌≤◌, ◌*◌}
use mathlib.Core.Path.{◌≡◌}
use Rattle.base.specs.Lists.{total}
use Rattle.lgs.specs.Market.{seats_of}
use Rattle.format.specs.Engine.{market_in}
use Rattle.intake.proofs.lengths.seats_needed.Given as goal

abbrev pub invariant-loop-w : goal.invariant-loop-w
invariant-loop-w l = (l.sum ≡ total (seats_of (market_in l.case)) l.w) × (l.sum ≤ 65535 * l.w)
