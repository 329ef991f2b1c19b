-- `stages::raising::raise` meets its contract. What the three steps give together (`raised`), and how many kinds of students there are (`kinds_enough`).
use Prim.Native.Nat.{suc}
use mathlib.Core.Path.{◌≡◌, ◌∙◌, sym, ap}
use Rattle.base.specs.Lists.{count}
use Rattle.lgs.specs.Stages.{stage_of}
use Rattle.format.specs.Engine.{market_in}
use Rattle.stages.specs.Raising.{tier_for, stands_for}
use Rattle.stages.proofs.Tiers.{tier_most, ready_wf}
use Rattle.stages.proofs.Raises.{tops_small, kinds_enough, raised}
use Rattle.stages.proofs.raising.raise.Goals as goal

pub climb-top-requires : goal.climb-top-requires
climb-top-requires c =
    let a = c.args in
    let i = a.input.now in
    tops_small (tier_for (market_in i.table.case.now) a.w) (stage_of a.own.now) i.students _ _ c.note_tops-kinds.ensures.noted c.requires.fit.small

pub lift-moved-requires : goal.lift-moved-requires
lift-moved-requires c =
    let a = c.args in
    let i = a.input.now in
    λ k l. rw (c.note_tops-kinds.ensures.noted.tier k l) (tier_most (market_in i.table.case.now) a.w (suc k) (λ p. (i.ready.tier (suc k) a.w p).1))

pub returns-clause-raised : goal.returns-clause-raised
returns-clause-raised c =
    let a = c.args in
    let i = a.input.now in
    raised (market_in i.table.case.now) a.w i.students a.own.now _ _ _ _ _ _ i.ready.students
    (λ s p. (i.ready.named s a.w p).0) (λ s p. (i.ready.tier s a.w p).0) c.requires.fit c.note_tops-kinds.ensures.noted c.climb-top.ensures c.lift-moved.ensures

pub returns-clause-enough : goal.returns-clause-enough
returns-clause-enough c =
    let a = c.args in
    let i = a.input.now in
    let M = market_in i.table.case.now in
    let noted = c.note_tops-kinds in
    let kinds : noted.result ≡ count (stands_for (tier_for M a.w)) M.students =
    noted.ensures.value ∙ ap (count (stands_for (tier_for M a.w))) (sym i.ready.students) in
    rw kinds (kinds_enough M (ready_wf i) a.w)
