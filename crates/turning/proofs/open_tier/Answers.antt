-- `turning::open_tier` meets its contract. What `hold_round` and `after_round` ensure, as the model has it.
use Prim.Native.Nat.{◌+◌}
use mathlib.Core.Path.{ap}
use native.Mathlib.Omega.{arith}
use native.Mathlib.Numerals.{add-one}
use Rattle.format.specs.Engine.{market_in, results_in}
use Rattle.model.specs.Turn.{round_to}
use Rattle.turning.specs.declared.Round.{Round}
use Rattle.turning.proofs.Rounds.{round_cheap}
use Rattle.turning.proofs.Turns.{open_turned, open_visits}
use Rattle.turning.proofs.open_tier.Goals as goal

pub after_round-requires : goal.after_round-requires
after_round-requires c =
    let a = c.args in
    let k = c.args.input.now.clean in
    omega (
      arith,
      c.requires.le_hand.3,
      ap (λ (o : Round). o.fares) c.hold_round-round.ensures.value,
      round_cheap (market_in a.input.now.table.case.now) (results_in a.input.now.book.now) a.seats.now a.run.hand (a.state.reached + 1) a.state.openings
          k.fare a.input.now.workshops k.many_workshops,
    )

pub returns-clause-value : goal.returns-clause-value
returns-clause-value c =
    let a = c.args in
    let o = round_to (market_in a.input.now.table.case.now) (results_in a.input.now.book.now) a.seats.now a.run.hand (a.state.reached + 1) a.state.openings
    a.input.now.workshops in
    open_turned (market_in a.input.now.table.case.now) (results_in a.input.now.book.now) a.visits.now a.seats.now a.state a.run a.input.now.workshops
    (a.state.reached + 1) c.args.input.now.clean.workshops (add-one a.state.reached) c.hold_round-round.result
    c.after_round.result c.hold_round-round.ensures.value (c.after_round.ensures (market_in a.input.now.table.case.now)
    (results_in a.input.now.book.now) o c.hold_round-round.ensures.value)

pub returns-clause-visits_after : goal.returns-clause-visits_after
returns-clause-visits_after c =
    let a = c.args in
    let o = round_to (market_in a.input.now.table.case.now) (results_in a.input.now.book.now) a.seats.now a.run.hand (a.state.reached + 1) a.state.openings
    a.input.now.workshops in
    open_visits (market_in a.input.now.table.case.now) (results_in a.input.now.book.now) a.visits.now a.seats.now a.state a.run a.input.now.workshops
    (a.state.reached + 1) c.args.input.now.clean.workshops (add-one a.state.reached) _ c.hold_round-round.ensures.visits_after
