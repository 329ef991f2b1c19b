-- `ties::IndexedBook::tie_of` meets its contract. The invariant: her records before the next pair are gathered, their slots are met, and `after` is lowered
-- by them.
use Prim.Native.Nat.{ℕ, ◌-◌, ◌≤◌, ◌<◌}
use mathlib.Core.Path.{◌≡◌, refl, sym, ◌∙◌}
use native.Mathlib.Omega.{arith}
use lib.ListN.{length-set}
use Rattle.std.proofs.lemmas.List.{take_more_set}
use Rattle.format.specs.Layout.{entry_at, entry_count}
use Rattle.tables.specs.Table.{Stretch}
use Rattle.ties.specs.declared.Keyed.{Keyed}
use Rattle.ties.specs.Seen.{slot_of}
use Rattle.ties.proofs.Seeing.{marked_none}
use Rattle.ties.proofs.Interviews.{place_of, entry_within, at_row, at_spot, at_inside}
use Rattle.ties.proofs.Gathering.{gather_start, before_start, turn_skip, turn_on_lem, before_all}
use Rattle.ties.proofs.IndexedBook.tie_of.Goals as goal
use Rattle.ties.proofs.IndexedBook.tie_of.Goals.{After-into_iter-pair-iterator}

-- the records that the loop goes over are those of her pairs
own : (d : After-into_iter-pair-iterator) → Stretch d.args.self.now.table.case.now d.args.s d.into_iter-pair-iterator.result.start
    (d.into_iter-pair-iterator.result.end - d.into_iter-pair-iterator.result.start)
own d = rw d.into_iter-pair-iterator.ensures.into_iter_gives d.pairs_of-pairs.ensures.stretch

pub loop-pair-init : goal.loop-pair-init
loop-pair-init c =
    let book = c.args.self.now.book.now in
    let all = own (goal.at.loop-pair-init c).After-into_iter-pair-iterator in
    let ahead : (i : ℕ) → i < entry_count book → (entry_at book i).student ≡ c.args.s
    → c.into_iter-pair-iterator.result.start ≤ place_of c.args.self.now.table.case.now book i =
    λ i l q. (entry_within c.args.self.now.indexed all i l q).0 in (
      (omega arith, refl, refl, refl),
      gather_start ahead,
      marked_none (slot_of 64 1) _,
      before_start ahead c.args.low,
    )

pub tested_at-requires : goal.tested_at-requires
tested_at-requires c =
    let steps = c.in-Some.ensures.steps in
    let all = own (goal.at.tested_at-requires c).After-into_iter-pair-iterator in
    rw steps.1.1 (at_spot c.args.self.now.indexed all c.loop-pair.pair-iterator.start (omega arith) (omega (arith, steps)))

pub loop-pair-preserved-in_default : goal.loop-pair-preserved-in_default
loop-pair-preserved-in_default c =
    let here = c.loop-pair in
    let steps = c.in-Some.ensures.steps in
    let all = own (goal.at.loop-pair-preserved-in_default c).After-into_iter-pair-iterator in
    let turn = turn_skip c.args.self.now.indexed all (omega arith) (omega (arith, steps)) here.invariant.1 here.invariant.3
    (rw steps.1.1 at (sym c.tested_at.ensures ∙ c.in_default.is)) in
    rw steps.1.2 ((omega arith, steps.0 ∙ here.invariant.0.1, here.invariant.0.2, here.invariant.0.3), turn.0, here.invariant.2, turn.1)

pub key_at-key-requires : goal.key_at-key-requires
key_at-key-requires c =
    let p = c.loop-pair.pair-iterator.start in
    let steps = c.in-Some.ensures.steps in
    let all = own (goal.at.key_at-key-requires c).After-into_iter-pair-iterator in
    rw (steps.1.1, c.from.ensures) (
      at_row c.args.self.now.indexed all p (omega arith) (omega (arith, steps)),
      at_inside c.args.self.now.indexed all p (omega arith) (omega (arith, steps)) c.in-Some-tested_at.entry
          (rw steps.1.1 at (sym c.tested_at.ensures ∙ c.in-Some-tested_at.is)),
    )

pub loop-pair-preserved : goal.loop-pair-preserved
loop-pair-preserved c =
    let here = c.loop-pair in
    let steps = c.in-Some.ensures.steps in
    let all = own (goal.at.loop-pair-preserved c).After-into_iter-pair-iterator in
    let this : Keyed = record { key = c.key_at-key.result; entry = c.in-Some-tested_at.entry } in
    let lowered = c.lower_if_met-after in
    let turn = turn_on_lem c.args.self.now.indexed all (omega arith) (omega (arith, steps)) here.invariant.1 here.invariant.3 this
    (rw steps.1.1 at (sym c.tested_at.ensures ∙ c.in-Some-tested_at.is)) (rw (steps.1.1, c.from.ensures) at c.key_at-key.ensures)
    lowered.ensures.lowered_by in
    rw (steps.1.2, take_more_set here.noted here.m this (omega (arith, steps, here.invariant.0, all.few))) (
      (
        omega (arith, here.invariant.0),
        steps.0 ∙ here.invariant.0.1,
        length-set here.noted here.m this ∙ here.invariant.0.2,
        lowered.auto.seen ∙ here.invariant.0.3,
      ),
      turn.0,
      lowered.ensures.marked,
      turn.1,
    )

pub returns : goal.returns
returns c =
    let all = own (goal.at.returns c).After-into_iter-pair-iterator in
    before_all (λ i l q. omega (arith, c.in-None.ensures.steps, all.few, (entry_within c.args.self.now.indexed all i l q).1)) c.loop-pair.invariant.3
