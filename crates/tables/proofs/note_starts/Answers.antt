-- `tables::note_starts` meets its contract. The invariant: the starts of the workshops before w, and the sum so far with a bound so that it does not wrap.
use mathlib.Core.Path.{sym, ap}
use native.Mathlib.Omega.{arith}
use Rattle.format.specs.Engine.{market_in}
use Rattle.tables.proofs.Laws.{seats_first, seats_next, starting_none, starting_more}
use Rattle.tables.proofs.note_starts.Goals as goal

pub loop-w-init : goal.loop-w-init
loop-w-init c =
    (omega arith, omega arith, omega arith, sym (seats_first (market_in c.args.case.now)), starting_none _ _ c.requires.table_len)

pub loop-w-preserved : goal.loop-w-preserved
loop-w-preserved c =
    let here = c.loop-w in
    let case = c.args.case.now in
    let q = c.requires.standing.quota here.w here.invariant.0 (omega arith) in (
      omega arith,
      omega arith,
      omega arith,
      omega (arith, here.invariant.3, ap (λ r. r.second) c.row_at.ensures, seats_next (market_in case) here.w here.invariant.0, q),
      starting_more case _ here.table here.w here.sum here.all c.with_bit-all.result here.invariant.4 here.invariant.0
          (omega (arith, c.requires.standing.many_workshops)) here.invariant.3 c.with_bit-all.ensures.by_index,
    )
