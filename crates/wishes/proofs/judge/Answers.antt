-- `wishes::judge` meets its contract. The invariant: k lines are read, up to place `at`, and their groups are noted.
use Rattle.std.proofs.Common.{rules}
use Prim.Native.Nat.{suc, ◌+◌, ◌-◌, ◌*◌, ◌≤◌}
use mathlib.Core.Path.{◌≡◌, sym, ap, ◌∙◌, subst}
use native.Mathlib.Omega.{arith}
use lib.ListN.{length, length-drop}
use Rattle.std.proofs.lemmas.Result.{err_from_is_err_and}
use Rattle.format.specs.Engine.{market_in}
use Rattle.wish_lines.specs.Reading.{refused}
use Rattle.wish_lines.proofs.Ranged.{ranged}
use Rattle.wishes.proofs.Working.{passed, part_within}
use Rattle.wishes.proofs.Judging.{Passed, passed_none, passed_on, passed_fault, passed_over, passed_all, narrow, ok_before, err_before}
use Rattle.wishes.proofs.Judging.{part_below, part_own, part_long}
use Rattle.wishes.proofs.judge.Goals as goal
use Rattle.wishes.proofs.judge.Goals.{In-loop-k, After-loop-k}

-- the places of line k are within the groups
within : (c : In-loop-k) → 65 * c.loop-k.k + 65 ≤ 33280
within c = part_within c.args.input.now.table.case.now c.args.input.now.clean.0 c.loop-k.k _ c.args.input.now.clean.1 c.loop-k-test.true

pub loop-k-init : goal.loop-k-init
loop-k-init c = (c.requires, passed_none (market_in c.args.input.now.table.case.now) c.args.text.now c.args.groups.now)

pub overflow_mul-own : goal.overflow_mul-own
overflow_mul-own c = omega (arith, within c)

pub overflow_mul-own-in-loop-k : goal.overflow_mul-own-in-loop-k
overflow_mul-own-in-loop-k c = omega (arith, within c)

pub overflow_add-own : goal.overflow_add-own
overflow_add-own c = omega (arith, within c)

pub slice_bounds-own-end : goal.slice_bounds-own-end
slice_bounds-own-end c = omega (arith, c.loop-k.invariant.0, within c)

pub check_line-found-requires-clause-ranged : goal.check_line-found-requires-clause-ranged
check_line-found-requires-clause-ranged c = ranged c.args.input.now.table.case.now (passed c.args.input.now.table.case.now c.args.input.now.clean.0)

pub returns-in_err-at : goal.returns-in_err-at
returns-in_err-at c =
    let here = c.loop-k in
    let M = market_in c.args.input.now.table.case.now in
    let p = err_from_is_err_and c.from_residual.result c.from_residual.ensures.1 in
    let line = err_before _ c.check_line-found.result c.map_err.ensures.cases c.in_err-at.was in
    let is : p.0 ≡ record { cause = line.0; place = here.k } = p.2 ∙ search rules in
    rw (p.1, is)
    (passed_fault M c.args.text.now here.k here.at here.groups line.0 here.invariant.1
    (omega (arith, c.loop-k-test.true, c.args.input.now.clean.1)) (rw line.1 at c.check_line-found.ensures).1)

pub loop-k-preserved : goal.loop-k-preserved
loop-k-preserved c =
    let here = c.loop-k in
    let line = c.check_line-found in
    let fine = rw (ok_before _ line.result c.map_err.ensures.cases c.in_ok-at.was) at line.ensures in
    let M = market_in c.args.input.now.table.case.now in
    let R = ranged c.args.input.now.table.case.now (passed c.args.input.now.table.case.now c.args.input.now.clean.0) in
    let own = 65 * here.k in
    let part : own + 65 ≤ length here.groups = omega (arith, here.invariant.0, within (goal.at.loop-k-preserved c).In-loop-k) in (
      part_long own (own + 65 - own) here.groups line.new.groups (omega (arith, part)) (fine.0 ∙ omega arith) ∙ here.invariant.0,
      passed_on M c.args.text.now R here.k here.at c.in_ok-at.at here.groups _ line.new.groups here.invariant.1
          (omega (arith, c.loop-k-test.true, c.args.input.now.clean.1)) fine.1
          (λ i l. part_below own (own + 65 - own) here.groups line.new.groups (omega (arith, part)) i l)
          (λ x o.
          part_own own (own + 65 - own) here.groups line.new.groups (omega (arith, part)) x
          (omega (arith, fine.0, narrow M R (suc here.k) x o))),
    )

-- all lines are read
all_lines : (c : After-loop-k)
    → Passed (market_in c.args.input.now.table.case.now) c.args.text.now (market_in c.args.input.now.table.case.now).students c.loop-k.at c.loop-k.groups
all_lines c =
    let here = c.loop-k in
    let M = market_in c.args.input.now.table.case.now in
    let done : here.k ≡ M.students = omega (arith, c.loop-k-test.false, c.args.input.now.clean.1, here.invariant.1.few) in
    subst (λ k. Passed M c.args.text.now k here.at here.groups) done here.invariant.1

pub returns-then-at-text : goal.returns-then-at-text
returns-then-at-text c =
    let here = c.loop-k in
    let M = market_in c.args.input.now.table.case.now in
    let text = c.args.text.now in
    rw c.at.ensures
    (passed_over M text here.at here.groups (all_lines (goal.at.returns-then-at-text c).After-loop-k)
    (omega (arith, c.if-at-text.true, length-drop here.at text))
    ∙ ap (refused 14) (sym c.args.input.now.clean.1))

pub returns : goal.returns
returns c =
    passed_all (market_in c.args.input.now.table.case.now) c.args.text.now c.loop-k.at c.loop-k.groups (all_lines (goal.at.returns c).After-loop-k)
    (omega (arith, c.if-at-text.false))
