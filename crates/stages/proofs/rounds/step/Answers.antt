-- `stages::rounds::step` meets its contract. Nothing is done, or the workshop's students are raised (`step_raises`), or somebody too high (`too_high`).
use mathlib.Core.Path.{◌≡◌, ◌∙◌, ap}
use mathlib.Core.Bool.{Bool, not, ◌||◌}
use native.Mathlib.Omega.{arith}
use lib.Dec.{eqb}
use Rattle.format.specs.Engine.{market_in}
use Rattle.stages.specs.Rounds.{Going, Stepped}
use Rattle.stages.specs.declared.rounds.Progress.{Progress}
use Rattle.stages.proofs.Rounding.{too_high, step_raises}
use Rattle.stages.proofs.rounds.step.Goals as goal
use Rattle.stages.proofs.rounds.step.Goals.{After-with_bit}

-- what the turn leaves where nobody is too high
taken : (c : After-with_bit) (moving : Bool) → moving ≡ (c.args.p.moving || not (eqb c.raise-r.result.moved 0)) → (let a = c.args in
    let M = market_in a.input.now.table.case.now in
    let own = c.raise-r.new.own in
    let q : Progress = record { resting = c.with_bit.result; moving = moving; limit = c.min-limit.result } in
    Going M own q × Stepped M a.w a.own.now own a.p q)
taken c moving e =
    let a = c.args in
    let i = a.input.now in
    let r = c.raise-r in
    step_raises (market_in i.table.case.now) a.w i.students a.own.now r.new.own a.p r.result.moved r.result.top r.result.kinds i.ready.students c.requires.going
    r.ensures.raised r.ensures.enough _ e c.min-limit.ensures (omega (arith, c.if-limit-from.false, c.from.ensures))
    (λ x. c.with_bit.ensures.by_index x ∙ ap (λ b. eqb x a.w || b) (c.minus.ensures x))

pub returns-then-limit-from : goal.returns-then-limit-from
returns-then-limit-from c =
    let a = c.args in
    let i = a.input.now in
    let r = c.raise-r in
    too_high (market_in i.table.case.now) a.w i.students a.own.now r.new.own a.p r.result.moved r.result.top r.result.kinds i.ready.students c.requires.going
    r.ensures.raised r.ensures.enough (omega (arith, c.if-limit-from.true, c.min-limit.ensures, c.from.ensures))

pub returns-then-p : goal.returns-then-p
returns-then-p c = taken (goal.at.returns-then-p c).After-with_bit _ (rw c.if-p.true)

pub returns-else-p : goal.returns-else-p
returns-else-p c = taken (goal.at.returns-else-p c).After-with_bit _ (rw c.if-p.false)
