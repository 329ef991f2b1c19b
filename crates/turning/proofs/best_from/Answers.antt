-- `turning::best_from` meets its contract. The invariant is `Best`.
use mathlib.Core.Path.{◌≡◌, sym, ◌∙◌}
use mathlib.Core.List.{◌∷◌}
use mir.Syntax.{w16}
use mir.Val.{to_z, of_z}
use mir.ValLaws.{to_z-of_z}
use Rattle.base.specs.Words.{biased}
use Rattle.base.specs.Bits.{members}
use Rattle.format.specs.Engine.{market_in, results_in}
use Rattle.turning.proofs.Laws.{Best, best_start, next_known, best_higher, best_kept, best_end}
use Rattle.turning.proofs.best_from.Goals as goal
use Rattle.turning.proofs.best_from.Goals.{In-Some, After-student_score_of-score}

-- the next member is w
next : (c : In-Some) → (let a = c.args in
    Best (market_in a.input.now.table.case.now) (results_in a.input.now.book.now) a.s a.start a.set c.loop-w.best (to_z w16 c.loop-w.top-bits)
    (c.in-Some.w ∷ members c.next.new.self.0))
next c = rw c.in-Some.ensures.steps at c.loop-w.invariant

-- her score for it
given : (c : After-student_score_of-score) → (biased (to_z w16 (of_z w16 c.student_score_of-score.result))
    ≡ (results_in c.args.input.now.book.now).student_score c.args.s c.in-Some.w)
given c =
    let x = c.student_score_of-score in
    rw (to_z-of_z w16 x.result (record { sfits = x.type_inv })) x.ensures

pub loop-w-init : goal.loop-w-init
loop-w-init c =
    let a = c.args in
    let x = c.score_of-top in
    rw c.into_iter-w-iterator.ensures.into_iter_gives
    (best_start (rw (to_z-of_z w16 x.result (record { sfits = x.type_inv })) x.ensures) c.requires.by_index)

pub student_score_of-score-requires : goal.student_score_of-score-requires
student_score_of-score-requires c =
    next_known (next (goal.at.student_score_of-score-requires c).In-Some)

pub loop-w-preserved-then-above : goal.loop-w-preserved-then-above
loop-w-preserved-then-above c =
    let p = goal.at.loop-w-preserved-then-above c in
    best_higher (next p.In-Some) _ (given p.After-student_score_of-score) (sym c.above.ensures ∙ c.if-above.true)

pub loop-w-preserved : goal.loop-w-preserved
loop-w-preserved c =
    let p = goal.at.loop-w-preserved c in
    best_kept (next p.In-Some) _ (given p.After-student_score_of-score) (sym c.above.ensures ∙ c.if-above.false)

pub returns : goal.returns
returns c =
    best_end (rw c.in-None.ensures.steps.0 at c.loop-w.invariant)
