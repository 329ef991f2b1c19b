use Rattle.std.proofs.Common.{List, ℕ, ◌∙◌, ap, arith, set}
use Rattle.format.proofs.Heads.{head_none, head_on}
use Rattle.answering.specs.Finish.{held_at}
use Rattle.engine.proofs.read_places.Goals as goal

pub loop-i-init : goal.loop-i-init
loop-i-init c = head_none (held_at c.args.states.now) c.args.places.now

pub loop-i-preserved : goal.loop-i-preserved
loop-i-preserved c =
    let states = c.args.states.now in
    let places = c.args.places.now in
    let here = c.loop-i in
    c.put_place.ensures
    ∙ (ap (λ (l : List ℕ). set l here.i (held_at states here.i)) here.invariant
    ∙ head_on (held_at states) here.i places (omega (arith, c.loop-i-test.true, c.requires.many_places)))
