-- `wishes::copying::put_student` meets its contract. The invariant: the student's record and those of her pairs so far are written.
use mathlib.Core.Path.{ap, ◌∙◌}
use native.Mathlib.Omega.{arith}
use lib.ListN.{get_or}
use Rattle.format.specs.Layout.{row_at}
use Rattle.wishes.specs.Records.{with_third_at}
use Rattle.wishes.proofs.Records.{pairs_start, next_paired, pairs_next}
use Rattle.wishes.proofs.copying.put_student.Goals as goal

pub loop-pair-init : goal.loop-pair-init
loop-pair-init c =
    let own = c.pairs_of-pair-items.ensures in
    rw c.into_iter-pair-iterator.ensures.into_iter_gives (pairs_start _ _ _ _ _ _ own.stretch own.order)

pub bounds-groups-w : goal.bounds-groups-w
bounds-groups-w c =
    let steps = c.in-Some.ensures.steps in
    let row = c.row_at.ensures ∙ ap (row_at c.args.table.now.case.now) steps.1.1 in
    let paired = next_paired _ _ _ _ _ _ _ c.loop-pair.invariant (omega (arith, steps)) in
    omega (arith, c.from-w.ensures ∙ ap (λ r. r.second) row, (c.args.table.now.tabled.named _ _ paired).1, c.requires.groups_len.0)

pub loop-pair-preserved : goal.loop-pair-preserved
loop-pair-preserved c =
    let steps = c.in-Some.ensures.steps in
    let row = c.row_at.ensures ∙ ap (row_at c.args.table.now.case.now) steps.1.1 in
    let group = ap (λ w. get_or c.args.groups.now w 0) (c.from-w.ensures ∙ ap (λ r. r.second) row) in
    let put = c.put_third-in-loop-pair.ensures ∙ ap (λ i. with_third_at c.loop-pair.copy i c.from-in-loop-pair.result) steps.1.1 in
    pairs_next _ _ _ _ _ _ _ c.loop-pair.invariant (omega (arith, steps)) _ _ _ _ steps.1.2 steps.0 (c.from-in-loop-pair.ensures ∙ group) put
