-- `turning::best_along` meets its contract. The invariant is `Along`.
use Prim.Native.Nat.{◌-◌, ◌<◌}
use mathlib.Core.Path.{◌≡◌, refl, sym, ◌∙◌}
use native.Mathlib.Omega.{arith}
use mir.Syntax.{w16}
use mir.Val.{to_z, of_z}
use mir.ValLaws.{to_z-of_z}
use Rattle.base.specs.Words.{biased}
use Rattle.format.specs.Engine.{results_in}
use Rattle.records.specs.Records.{pair_place}
use Rattle.tables.specs.Table.{Stretch}
use Rattle.turning.proofs.Along.{along_start, along_some, along_end, along_passed, along_higher, along_kept, place_now}
use Rattle.turning.proofs.best_along.Goals as goal
use Rattle.turning.proofs.best_along.Goals.{After-into_iter-pair-iterator, In-Some, After-has_bit}

-- the records that the loop goes over are those of her pairs
own : (d : After-into_iter-pair-iterator) → Stretch d.args.input.now.table.case.now d.args.s d.into_iter-pair-iterator.result.start
    (d.into_iter-pair-iterator.result.end - d.into_iter-pair-iterator.result.start)
own d = rw d.into_iter-pair-iterator.ensures.into_iter_gives d.pairs_of-pair-items.ensures.stretch

-- a pair is left, and so is a workshop
some : (c : In-Some) → 0 < c.loop-pair.mine
some c =
    let a = c.args in
    let here = c.loop-pair in
    let it = c.into_iter-pair-iterator in
    let all : Stretch a.input.now.table.case.now a.s it.result.start (it.result.end - it.result.start) =
    rw it.ensures.into_iter_gives c.pairs_of-pair-items.ensures.stretch in
    along_some a.input.now.clean.tabled all
    c.requires.by_index here.invariant.1 (omega (arith, here.invariant.1.from, c.in-Some.ensures.steps))

-- the pair that comes next is that of the lowest workshop that is left
comes : (c : After-has_bit) → (pair_place c.args.input.now.table.case.now c.args.s c.lowest-w.result ≡ c.loop-pair.pair-iterator.start)
comes c =
    let a = c.args in
    let here = c.loop-pair in
    let low = c.lowest-w in
    let less = c.without_lowest-mine in
    let it = c.into_iter-pair-iterator in
    let all : Stretch a.input.now.table.case.now a.s it.result.start (it.result.end - it.result.start) =
    rw it.ensures.into_iter_gives c.pairs_of-pair-items.ensures.stretch in
    place_now a.input.now.clean.tabled all
    c.requires.by_index here.invariant.1 less.result low.ensures (less.ensures.by_index low.result low.ensures)

pub loop-pair-init : goal.loop-pair-init
loop-pair-init c =
    let a = c.args in
    let x = c.score_of-top in
    let e : biased (to_z w16 (of_z w16 x.result)) ≡ (results_in a.input.now.book.now).student_score a.s a.start =
    rw (to_z-of_z w16 x.result (record { sfits = x.type_inv })) x.ensures in (
      refl,
      along_start a.input.now.clean.tabled (own (goal.at.loop-pair-init c).After-into_iter-pair-iterator) c.requires.by_index c.set_of-mine.ensures.by_index e,
    )

pub lowest-w-requires : goal.lowest-w-requires
lowest-w-requires c = let p = goal.at.lowest-w-requires c in some p.In-Some

pub without_lowest-mine-requires : goal.without_lowest-mine-requires
without_lowest-mine-requires c = let p = goal.at.without_lowest-mine-requires c in some p.In-Some

pub student_score_by-given-requires : goal.student_score_by-given-requires
student_score_by-given-requires c = (
  c.requires.by_index c.lowest-w.result (sym c.has_bit.ensures ∙ c.if-has_bit.true),
  c.in-Some.ensures.steps.1.1 ∙ sym (comes (goal.at.student_score_by-given-requires c).After-has_bit),
)

pub loop-pair-preserved-then-above : goal.loop-pair-preserved-then-above
loop-pair-preserved-then-above c =
    let a = c.args in
    let here = c.loop-pair in
    let steps = c.in-Some.ensures.steps in
    let low = c.lowest-w in
    let less = c.without_lowest-mine in
    let x = c.student_score_by-given in
    let e : biased (to_z w16 (of_z w16 x.result)) ≡ (results_in a.input.now.book.now).student_score a.s low.result =
    rw (to_z-of_z w16 x.result (record { sfits = x.type_inv })) x.ensures in
    rw steps.1.2 (
      steps.0 ∙ here.invariant.0,
      along_higher a.input.now.clean.tabled (own (goal.at.loop-pair-preserved-then-above c).After-into_iter-pair-iterator) c.requires.by_index
          here.invariant.1 less.result low.ensures (less.ensures.by_index low.result low.ensures)
          (sym c.has_bit.ensures ∙ c.if-has_bit.true) _ e (sym c.above.ensures ∙ c.if-above.true),
    )

pub loop-pair-preserved-else-above : goal.loop-pair-preserved-else-above
loop-pair-preserved-else-above c =
    let a = c.args in
    let here = c.loop-pair in
    let steps = c.in-Some.ensures.steps in
    let low = c.lowest-w in
    let less = c.without_lowest-mine in
    let x = c.student_score_by-given in
    let e : biased (to_z w16 (of_z w16 x.result)) ≡ (results_in a.input.now.book.now).student_score a.s low.result =
    rw (to_z-of_z w16 x.result (record { sfits = x.type_inv })) x.ensures in
    rw steps.1.2 (
      steps.0 ∙ here.invariant.0,
      along_kept a.input.now.clean.tabled (own (goal.at.loop-pair-preserved-else-above c).After-into_iter-pair-iterator) c.requires.by_index
          here.invariant.1 less.result low.ensures (less.ensures.by_index low.result low.ensures)
          (sym c.has_bit.ensures ∙ c.if-has_bit.true) _ e (sym c.above.ensures ∙ c.if-above.false),
    )

pub loop-pair-preserved : goal.loop-pair-preserved
loop-pair-preserved c =
    let a = c.args in
    let here = c.loop-pair in
    let steps = c.in-Some.ensures.steps in
    let low = c.lowest-w in
    let less = c.without_lowest-mine in
    rw steps.1.2 (
      steps.0 ∙ here.invariant.0,
      along_passed a.input.now.clean.tabled (own (goal.at.loop-pair-preserved c).After-into_iter-pair-iterator) c.requires.by_index
          here.invariant.1 less.result low.ensures (less.ensures.by_index low.result low.ensures)
          (sym c.has_bit.ensures ∙ c.if-has_bit.false),
    )

pub returns : goal.returns
returns c =
    let a = c.args in
    let here = c.loop-pair in
    along_end a.input.now.clean.tabled (own (goal.at.returns c).After-into_iter-pair-iterator) c.requires.by_index here.invariant.1
    (omega (arith, here.invariant.0, here.invariant.1.from, c.in-None.ensures.steps))
