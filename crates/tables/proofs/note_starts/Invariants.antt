-- `tables::note_starts` meets its contract. The invariant: the starts of the workshops before w, and the sum so far with a bound so that it does not wrap.
use Prim.Native.Nat.{◌+◌, ◌*◌, ◌≤◌}
use mathlib.Core.Path.{◌≡◌}
use Rattle.lgs.specs.Market.{seats_before}
use Rattle.format.specs.Engine.{market_in}
use Rattle.tables.proofs.Laws.{Starting}
use Rattle.tables.proofs.note_starts.Given as goal

abbrev pub invariant-loop-w : goal.invariant-loop-w
invariant-loop-w l =
    (1 ≤ l.w) × (l.w ≤ l.workshops + 1) × (l.sum ≤ 65535 * l.w) × (l.sum ≡ seats_before (market_in l.case) l.w)
    × Starting l.case l.initial.table l.table l.w l.all
