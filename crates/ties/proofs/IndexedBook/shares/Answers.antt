-- `ties::IndexedBook::shares` meets its contract. The invariant: the slots of her records before the next pair are met, and no two of them tie.
use Prim.Native.Nat.{◌-◌}
use mathlib.Core.Path.{refl, sym, ◌∙◌}
use mathlib.Core.Bool.{false}
use native.Mathlib.Omega.{arith}
use Rattle.base.specs.Bits.{Met}
use Rattle.tables.specs.Table.{Stretch}
use Rattle.ties.specs.Seen.{slot_of}
use Rattle.ties.proofs.Interviews.{at_row, at_spot, at_inside}
use Rattle.ties.proofs.Sharing.{apart_start, apart_skip, apart_on, apart_all}
use Rattle.ties.proofs.IndexedBook.shares.Goals as goal
use Rattle.ties.proofs.IndexedBook.shares.Goals.{After-into_iter-pair-iterator}

-- the records that the loop goes over are those of her pairs
own : (d : After-into_iter-pair-iterator) → Stretch d.args.self.now.table.case.now d.args.s d.into_iter-pair-iterator.result.start
    (d.into_iter-pair-iterator.result.end - d.into_iter-pair-iterator.result.start)
own d = rw d.into_iter-pair-iterator.ensures.into_iter_gives d.pairs_of-own.ensures.stretch

pub loop-pair-init : goal.loop-pair-init
loop-pair-init c =
    ((omega arith, refl, refl), apart_start c.args.self.now.indexed (own (goal.at.loop-pair-init c).After-into_iter-pair-iterator) _)

pub tested_at-requires : goal.tested_at-requires
tested_at-requires c =
    let steps = c.in-Some.ensures.steps in
    let all = own (goal.at.tested_at-requires c).After-into_iter-pair-iterator in
    rw steps.1.1 (at_spot c.args.self.now.indexed all c.loop-pair.pair-iterator.start (omega arith) (omega (arith, steps)))

pub loop-pair-preserved-in_default : goal.loop-pair-preserved-in_default
loop-pair-preserved-in_default c =
    let here = c.loop-pair in
    let steps = c.in-Some.ensures.steps in
    let all = own (goal.at.loop-pair-preserved-in_default c).After-into_iter-pair-iterator in
    rw steps.1.2 (
      (omega arith, steps.0 ∙ here.invariant.0.1, here.invariant.0.2),
      apart_skip c.args.self.now.indexed all (omega arith) (omega (arith, steps)) here.invariant.1
          (rw steps.1.1 at (sym c.tested_at.ensures ∙ c.in_default.is)),
    )

pub key_at-key-requires : goal.key_at-key-requires
key_at-key-requires c =
    let p = c.loop-pair.pair-iterator.start in
    let steps = c.in-Some.ensures.steps in
    let all = own (goal.at.key_at-key-requires c).After-into_iter-pair-iterator in
    rw (steps.1.1, c.from.ensures) (
      at_row c.args.self.now.indexed all p (omega arith) (omega (arith, steps)),
      at_inside c.args.self.now.indexed all p (omega arith) (omega (arith, steps)) c.in-Some-tested_at.i
          (rw steps.1.1 at (sym c.tested_at.ensures ∙ c.in-Some-tested_at.is)),
    )

pub loop-pair-preserved : goal.loop-pair-preserved
loop-pair-preserved c =
    let here = c.loop-pair in
    let steps = c.in-Some.ensures.steps in
    let all = own (goal.at.loop-pair-preserved c).After-into_iter-pair-iterator in
    let key = c.key_at-key in
    let t : Met here.seen c.met.new.seen (slot_of 128 16 key.result) false = rw (c.slot_of.ensures, c.if-met.false) at c.met.ensures in
    rw steps.1.2 (
      (omega arith, steps.0 ∙ here.invariant.0.1, c.met.auto.seen ∙ here.invariant.0.2),
      apart_on c.args.self.now.indexed all (omega arith) (omega (arith, steps)) here.invariant.1 (record { key = key.result; entry = c.in-Some-tested_at.i })
          (rw steps.1.1 at (sym c.tested_at.ensures ∙ c.in-Some-tested_at.is)) (rw (steps.1.1, c.from.ensures) at key.ensures) t,
    )

pub returns : goal.returns
returns c =
    let all = own (goal.at.returns c).After-into_iter-pair-iterator in
    λ e. apart_all c.args.self.now.indexed all (omega (arith, c.in-None.ensures.steps, all.few)) c.loop-pair.invariant.1
