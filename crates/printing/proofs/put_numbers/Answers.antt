-- `printing::put_numbers` meets its contract.
use native.Mathlib.Numerals.{add-one}
use Rattle.putting.proofs.Laws.{put_none, put_then}
use Rattle.printing.proofs.Decimal.{spaced_none, spaced_on}
use Rattle.printing.proofs.put_numbers.Goals as goal

pub loop-n-init : goal.loop-n-init
loop-n-init c = rw (spaced_none c.args.numbers.now) (put_none _ _ c.requires)

pub loop-n-preserved : goal.loop-n-preserved
loop-n-preserved c =
    let here = c.loop-n in
    rw (add-one here.n-index, spaced_on c.args.numbers.now here.n-index c.loop-n-test.true)
    (put_then c.requires here.invariant c.put_number-end.ensures)
