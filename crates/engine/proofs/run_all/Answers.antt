use Rattle.std.proofs.Common.{◌∙◌, sym, arith}
use Rattle.lgs.specs.Rule.{fuel}
use Rattle.format.specs.Engine.{market_in, results_in}
use Rattle.model.specs.Turn.{run_of}
use Rattle.engine.proofs.Runs.{run_here, left_less}
use Rattle.engine.proofs.Going.{turned, same_end}
use Rattle.engine.proofs.run_all.Goals as goal

pub take_turn-r-requires : goal.take_turn-r-requires
unfolding run_of
take_turn-r-requires c =
    let can = c.loop-r.invariant.can in
    let more = c.loop-r-test.true in
    record { hand = more; within = can.within 0 more; ready = can.ready 0 more }

pub loop-r-smaller : goal.loop-r-smaller
loop-r-smaller c =
    let i = c.args.input.now in
    let here = c.loop-r in
    let M = market_in i.table.case.now in
    let B = results_in i.book.now in
    rw c.take_turn-r.ensures (left_less M B (fuel M B) (here.visits, (here.seats, (here.states, here.r))) here.invariant.can.ends c.loop-r-test.true)

pub loop-r-preserved : goal.loop-r-preserved
loop-r-preserved c =
    let here = c.loop-r in
    let e = c.take_turn-r.ensures in
    record {
      can = turned _ _ _ here.invariant.can c.loop-r-test.true _ e;
      same = same_end _ _ _ here.invariant.can c.loop-r-test.true _ e ∙ here.invariant.same;
    }

pub returns : goal.returns
returns c =
    let i = c.args.input.now in
    let here = c.loop-r in
    let M = market_in i.table.case.now in
    let B = results_in i.book.now in
    sym (run_here M B (fuel M B) (here.visits, (here.seats, (here.states, here.r))) (omega arith)) ∙ here.invariant.same
