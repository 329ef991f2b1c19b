use Rattle.std.proofs.Common.{◌≡◌, ◌∙◌, ap, length, replicate}
use Rattle.lgs.specs.Rule.{fuel}
use Rattle.api.specs.Answered.{zero_state}
use Rattle.format.specs.Engine.{market_in, results_in}
use Rattle.engine.proofs.Going.{can_run, as_begun}
use Rattle.answering.proofs.Composing.{after, can_read_lem, ran}
use Rattle.turning.proofs.Next.{ordered}
use Rattle.engine.proofs.run.Goals as goal
use Rattle.engine.proofs.run.Goals.{After-run_all-r}

pub begin_run-start-requires : goal.begin_run-start-requires
begin_run-start-requires c = ordered c.args.input.now.clean

pub run_all-r-requires : goal.run_all-r-requires
run_all-r-requires c =
    let a = c.args in
    let i = a.input.now in
    can_run _ _ _ _ a.places.now a.visits.now a.seats.now a.states.now _ _ i.clean c.requires.runnable c.requires.blank c.begin_run-start.result
    (c.begin_run-start.ensures (results_in i.book.now))

-- what the run has left is what the rule leaves
taken : (c : After-run_all-r) → (let a = c.args in let i = a.input.now in let r = c.run_all-r in
    (r.new.visits, (r.new.seats, (r.new.states, r.result)))
    ≡ after i.table.case.now i.book.now i.index.now i.table.words.now a.places.now a.visits.now a.seats.now (length a.states.now) i.students i.workshops
    i.clean c.requires.runnable (fuel (market_in i.table.case.now) (results_in i.book.now)))
taken c =
    let a = c.args in
    let i = a.input.now in
    c.run_all-r.ensures
    ∙ as_begun _ _ _ _ a.places.now a.visits.now a.seats.now a.states.now _ _ i.clean c.requires.runnable c.requires.blank c.begin_run-start.result
    (c.begin_run-start.ensures (results_in i.book.now))

pub read_places-requires : goal.read_places-requires
read_places-requires c =
    let a = c.args in
    let i = a.input.now in
    let r = c.run_all-r in
    rw c.to_place-n.ensures
    (can_read_lem _ _ _ _ a.places.now a.visits.now a.seats.now _ _ _ i.clean c.requires.runnable
    r.new.visits r.new.seats r.new.states r.result (taken (goal.at.read_places-requires c).After-run_all-r))

pub returns : goal.returns
returns c =
    let a = c.args in
    let i = a.input.now in
    let r = c.run_all-r in
    let f = c.finish in
    record {
      ran = ran _ _ _ _ a.places.now a.visits.now a.seats.now _ _ _ i.clean c.requires.runnable
          r.new.visits r.new.seats r.new.states r.result (taken (goal.at.returns c).After-run_all-r)
          f.result f.new.seats c.read_places.new.places f.ensures.value
          (rw (← c.to_place-n.ensures) c.read_places.ensures) (f.ensures.seats_after ∙ ap (λ k. replicate k 0) r.auto.seats);
      blank = c.fill.ensures.after (λ y e. e) ∙ ap (λ k. replicate k zero_state) r.auto.states;
    }
