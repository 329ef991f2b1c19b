-- `line_writer::sets::gather` meets its contract. The invariant: the workshops of her records so far are in the sets, none above `last`.
use Prim.Native.Nat.{◌<◌}
use mathlib.Core.Path.{ap, ◌∙◌}
use native.Mathlib.Omega.{arith}
use native.Mathlib.Nat.{max-le}
use Rattle.case_tests.proofs.Cases.{few, none_clean}
use Rattle.format.specs.Layout.{row_at}
use Rattle.line_writer.proofs.Gathering.{to_none, to_more, to_all, next_tier, next_workshop, above_set}
use Rattle.line_writer.proofs.sets.gather.Goals as goal
use Rattle.line_writer.proofs.sets.gather.Goals.{After-from-tier}

-- the record's tier has an entry
small : (c : After-from-tier) → c.from-tier.result < 66
small c =
    let steps = c.in-Some.ensures.steps in
    let row = ap (λ r. r.third) c.row_at-row.ensures in
    let tier = next_tier _ c.requires.case_value _ _ _ _ c.loop-pair.invariant.gathering (omega (arith, steps)) in
    omega (arith, c.from-tier.ensures ∙ (row ∙ ap (λ i. (row_at c.args.table.now.case.now i).third) steps.1.1), tier)

pub pairs_of-pair-items-requires : goal.pairs_of-pair-items-requires
pairs_of-pair-items-requires c = omega (arith, c.requires.le_s, (few _ _ _ (none_clean _ c.requires.case_value)).0)

pub loop-pair-init : goal.loop-pair-init
loop-pair-init c =
    let pairs = c.pairs_of-pair-items.ensures in
    rw c.into_iter-pair-iterator.ensures.into_iter_gives record {
      gathering = to_none _ _ _ _ _ pairs.stretch pairs.order c.requires.empty;
      small = omega arith;
      above = record { zero = λ t l. c.requires.empty.zero t };
    }

pub bounds-sets-tier : goal.bounds-sets-tier
bounds-sets-tier c = omega (arith, small (goal.at.bounds-sets-tier c).After-from-tier, c.loop-pair.invariant.gathering.gathering.sized)

pub with_bit-requires : goal.with_bit-requires
with_bit-requires c =
    let steps = c.in-Some.ensures.steps in
    let row = ap (λ r. r.second) c.row_at-row.ensures in
    let named = next_workshop _ c.requires.case_value _ _ _ _ c.loop-pair.invariant.gathering _ c.args.table.now.tabled (omega (arith, steps)) in
    omega (arith, c.from.ensures ∙ (row ∙ ap (λ i. (row_at c.args.table.now.case.now i).second) steps.1.1), named)

pub bounds-sets-tier-in-loop-pair : goal.bounds-sets-tier-in-loop-pair
bounds-sets-tier-in-loop-pair c =
    omega (arith, small (goal.at.bounds-sets-tier-in-loop-pair c).After-from-tier, c.loop-pair.invariant.gathering.gathering.sized)

pub loop-pair-preserved : goal.loop-pair-preserved
loop-pair-preserved c =
    let here = c.loop-pair in
    let steps = c.in-Some.ensures.steps in
    let row = c.row_at-row.ensures ∙ ap (row_at c.args.table.now.case.now) steps.1.1 in
    let low = small (goal.at.loop-pair-preserved c).After-from-tier in
    record {
      gathering = to_more _ c.requires.case_value _ _ _ _ here.invariant.gathering _ _ _ c.from.result _ (omega (arith, steps)) steps.1.2 steps.0
          (c.from.ensures ∙ ap (λ r. r.second) row) (c.from-tier.ensures ∙ ap (λ r. r.third) row) c.with_bit.ensures.by_index;
      small = rw c.max-last.ensures (max-le here.invariant.small (omega (arith, low)));
      above = rw c.max-last.ensures (above_set here.sets here.last _ _ here.invariant.above);
    }

pub returns-clause-gathered : goal.returns-clause-gathered
returns-clause-gathered c = to_all _ c.requires.case_value _ _ _ _ c.loop-pair.invariant.gathering c.in-None.ensures.steps.1.0
