-- `answering::test` meets its contract: what the test of the input says, and the links.
use native.Mathlib.Omega.{arith}
use Rattle.std.proofs.lemmas.Result.{err_from_is_err_and}
use Rattle.answering.proofs.Testing.{made, stages, tested_refused, tested_passed}
use Rattle.answering.proofs.test.Goals as goal

pub link-requires-clause-staged : goal.link-requires-clause-staged
link-requires-clause-staged c =
    stages _ _ _ _ _ c.check.result c.check.ensures _ (c.fill.ensures.after (λ y e. e)) c.in_ok-counts.counts c.in_ok-counts.was
    (λ j. omega (arith, c.type_inv.case j))

pub link-requires-clause-by_index : goal.link-requires-clause-by_index
link-requires-clause-by_index c =
    (made _ _ _ _ _ c.check.result c.check.ensures _ (c.fill.ensures.after (λ y e. e)) c.in_ok-counts.counts c.in_ok-counts.was
    (λ j. omega (arith, c.type_inv.case j))).small

pub returns-in_err-counts : goal.returns-in_err-counts
returns-in_err-counts c =
    let p = err_from_is_err_and c.from_residual.result c.from_residual.ensures.1 in
    rw (p.1, p.2, ← c.in_err-counts.was) (tested_refused _ _ _ _ _ c.check.result c.check.ensures _ (c.fill.ensures.after (λ y e. e)) _ c.in_err-counts.was)

pub returns : goal.returns
returns c =
    tested_passed _ _ _ _ _ c.check.result c.check.ensures _ (c.fill.ensures.after (λ y e. e)) c.in_ok-counts.counts c.in_ok-counts.was
    (λ j. omega (arith, c.type_inv.case j)) c.link.new.table c.link.ensures.linked c.link.ensures.kept
