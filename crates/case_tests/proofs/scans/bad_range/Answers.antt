-- `case_tests::scans::bad_range` meets its contract. The record passes the first range of its kind: the second decides.
use mathlib.Core.Path.{sym, ap, ◌∙◌}
use Rattle.std.proofs.Common.{rules, arith}
use Rattle.std.proofs.lemmas.Grind.{common_steps}
use Rattle.format.specs.Layout.{Row}
use Rattle.case_tests.proofs.Ranging.{student, workshop, tiers}
use Rattle.case_tests.proofs.scans.bad_range.Goals as goal

pub returns-else-not-contains : goal.returns-else-not-contains
returns-else-not-contains c =
    let k = ap (λ (r : Row). r.kind) (sym c.row_at-r.ensures) ∙ c.in-1.is in
    rw (student c.args.case.now c.args.i c.requires k, ← c.row_at-r.ensures) (search rules)

pub returns-else-r-gt512 : goal.returns-else-r-gt512
returns-else-r-gt512 c =
    let k = ap (λ (r : Row). r.kind) (sym c.row_at-r.ensures) ∙ c.in-2.is in
    rw (workshop c.args.case.now c.args.i c.requires k, ← c.row_at-r.ensures) (grind (arith, common_steps))

pub returns-else-not-contains-2 : goal.returns-else-not-contains-2
returns-else-not-contains-2 c =
    let k = ap (λ (r : Row). r.kind) (sym c.row_at-r.ensures) ∙ c.in-3.is in
    rw (tiers c.args.case.now c.args.i c.requires k, ← c.row_at-r.ensures) (search rules)
