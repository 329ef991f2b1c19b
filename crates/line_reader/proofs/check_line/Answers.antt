-- `line_reader::check_line` meets its contract.
use mathlib.Core.Path.{◌≡◌, refl}
use mathlib.Core.Bool.{true, ◌&&◌, not}
use Prim.Native.Nat.{ℕ, ◌+◌}
use native.Mathlib.Omega.{arith}
use lib.Dec.{eqb}
use Rattle.std.specs.Prelude.{Some, None}
use Rattle.std.proofs.lemmas.Result.{err_from_is_err_and}
use Rattle.api.specs.declared.Cause.TheVariants.{LineForm}
use Rattle.format.specs.Engine.{market_in}
use Rattle.line_reader.specs.Checked.{LineChecked}
use Rattle.line_reader.specs.Items.{Headed}
use Rattle.line_reader.specs.Marks.{BodyRead}
use Rattle.line_reader.proofs.Deciding.{departs, no_body, decided, checked}
use Rattle.line_reader.proofs.check_line.Goals.{In_ok-head, In_ok-body, Else-not-form}
use Rattle.line_reader.proofs.check_line.Goals as goal

headed : (c : In_ok-head) → Headed c.args.text.now c.args.from (Some c.in_ok-head.head)
headed c = let some : c.head.result ≡ Some c.in_ok-head.head = grind arith in rw some at c.head.ensures

body_read : (c : In_ok-body) → BodyRead c.args.text.now c.in_ok-head.head.end (Some c.in_ok-body.body) c.read_groups.new.groups
body_read c = let some : c.read_groups.result ≡ Some c.in_ok-body.body = grind arith in rw some at c.read_groups.ensures

pub returns-in_err-head : goal.returns-in_err-head
returns-in_err-head c =
    let a = c.args in
    let p = err_from_is_err_and c.from_residual.result c.from_residual.ensures.1 in
    let none : c.head.result ≡ None = grind arith in
    let cause : c.in_err-head.field-0.0 ≡ LineForm = grind arith in
    rw (p.1, p.2, cause)
    (departs (market_in a.table.now.case.now) a.text.now a.from a.k a.groups.now c.requires.groups_len (rw none at c.head.ensures))

pub returns-in_err-body : goal.returns-in_err-body
returns-in_err-body c =
    let a = c.args in
    let p = err_from_is_err_and c.from_residual-in_err-body.result c.from_residual-in_err-body.ensures.1 in
    let none : c.read_groups.result ≡ None = grind arith in
    let cause : c.in_err-body.field-0.0 ≡ LineForm = grind arith in
    rw (p.1, p.2, cause)
    (no_body (market_in a.table.now.case.now) a.text.now a.from a.k c.read_groups.new.groups c.in_ok-head.head
    (headed (goal.at.returns-in_err-body c).In_ok-head) (rw none at c.read_groups.ensures))

pub returns-then-not-form : goal.returns-then-not-form
returns-then-not-form c =
    let a = c.args in
    let b = c.in_ok-body.body in
    let form : c.if-marks-eq1.form ≡ (eqb b.marks.nones 1 && eqb c.in_ok-head.head.value (a.k + 1)) = grind arith in
    let high = λ (p w : ℕ) (e : (market_in a.table.now.case.now).paired p w ≡ true). (a.table.now.tabled.named p w e).1.1 in
    let own = c.set_of-own in
    rw c.if-not-form.true at
    (checked (market_in a.table.now.case.now) a.text.now a.from a.k c.read_groups.new.groups c.in_ok-head.head
    (headed (goal.at.returns-then-not-form c).In_ok-head) c.requires.ranged high c.requires.k_bound.0 b
    (body_read (goal.at.returns-then-not-form c).In_ok-body) own.result own.ensures.by_index c.if-marks-eq1.form _ form refl)

tested : (c : Else-not-form)
    → LineChecked (market_in c.args.table.now.case.now) c.args.text.now c.args.from c.args.k
    (decided c.in_ok-body.body.end true c.if-not-marks.names) c.read_groups.new.groups
tested c =
    let a = c.args in
    let b = c.in_ok-body.body in
    let form : true ≡ (eqb b.marks.nones 1 && eqb c.in_ok-head.head.value (a.k + 1)) = grind arith in
    let names : c.if-not-marks.names ≡ (not b.marks.stray && eqb b.marks.named c.set_of-own.result) = grind arith in
    let high = λ (p w : ℕ) (e : (market_in a.table.now.case.now).paired p w ≡ true). (a.table.now.tabled.named p w e).1.1 in
    let own = c.set_of-own in
    checked (market_in a.table.now.case.now) a.text.now a.from a.k c.read_groups.new.groups c.in_ok-head.head
    (headed (goal.at.Else-not-form c).In_ok-head) c.requires.ranged high c.requires.k_bound.0 b
    (body_read (goal.at.Else-not-form c).In_ok-body) own.result own.ensures.by_index true c.if-not-marks.names form names

pub returns-then-not-names : goal.returns-then-not-names
returns-then-not-names c = rw c.if-not-names.true at (tested (goal.at.returns-then-not-names c).Else-not-form)

pub returns : goal.returns
returns c = rw c.if-not-names.false at (tested (goal.at.returns c).Else-not-form)
