-- `engine::run_all` meets its contract. The invariant: the run can be taken on from here, and ends where it would have ended from the beginning. The
-- measure: how many turns are left.
use Rattle.std.proofs.Common.{◌≡◌}
use Rattle.lgs.specs.Rule.{fuel}
use Rattle.format.specs.Engine.{market_in, results_in}
use Rattle.engine.specs.Runs.{whole_run, CanRun}
use Rattle.engine.proofs.Runs.{turns_left}
use Rattle.engine.proofs.run_all.Given as goal

abbrev pub invariant-loop-r : goal.invariant-loop-r
invariant-loop-r l =
    let M = market_in l.input.table.case.now in
    let B = results_in l.input.book.now in
    record {
      can : CanRun M B l.visits l.seats l.states l.r;
      same : whole_run M B l.visits l.seats l.states l.r ≡ whole_run M B l.initial.visits l.initial.seats l.initial.states l.initial.r;
    }

abbrev pub decreases-loop-r : goal.decreases-loop-r
decreases-loop-r l =
    let M = market_in l.input.table.case.now in
    let B = results_in l.input.book.now in
    turns_left M B (fuel M B) (l.visits, (l.seats, (l.states, l.r)))
