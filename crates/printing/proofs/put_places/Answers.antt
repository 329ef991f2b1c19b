-- `printing::put_places` meets its contract.
use Prim.Native.Nat.{◌+◌}
use mathlib.Core.List.{[], ◌∷◌}
use native.Mathlib.Numerals.{add-one}
use lib.ListN.{get_or}
use Rattle.format.specs.Printed.{line_of, place_word}
use Rattle.putting.specs.Put.{Put}
use Rattle.putting.proofs.Laws.{put_none, put_then}
use Rattle.printing.proofs.Lines.{places_on, places_none}
use Rattle.printing.proofs.put_places.Goals as goal

pub loop-i-init : goal.loop-i-init
loop-i-init c = rw (places_none 1 c.args.places.now) (put_none _ _ c.requires)

pub loop-i-preserved : goal.loop-i-preserved
loop-i-preserved c =
    let here = c.loop-i in
    let l = c.args.places.now in
    let put = c.put_line-end in
    let line : Put (line_of place_word ((here.i + 1) ∷ get_or l here.i 0 ∷ [])) here.end here.out put.new.out put.result =
    rw c.from.ensures at put.ensures.put in
    rw (add-one here.i, places_on l 1 here.i c.loop-i-test.true) (put_then c.requires here.invariant line)
