-- `line_reader::next_item` meets its contract.
use mathlib.Core.Path.{sym, ◌∙◌}
use Rattle.line_reader.proofs.Scanning.{next_inner, next_brace, next_alone}
use Rattle.line_reader.proofs.next_item.Goals as goal

pub returns-then-within : goal.returns-then-within
returns-then-within c = let a = c.args in rw c.in_braces.ensures (next_inner a.text.now a.i a.within c.if-within.true)

pub returns-then-stands : goal.returns-then-stands
returns-then-stands c =
    let a = c.args in
    rw c.in_braces-then-stands.ensures
    (next_brace a.text.now a.i a.within c.if-within.false (sym c.stands.ensures ∙ c.if-stands.true))

pub returns-in_err-value : goal.returns-in_err-value
returns-in_err-value c =
    let a = c.args in
    rw c.from_residual.ensures
    (rw (sym c.item_at.ensures ∙ c.in_err-value.was) at
    (next_alone a.text.now a.i a.within c.if-within.false (sym c.stands.ensures ∙ c.if-stands.false)))

pub returns : goal.returns
returns c =
    let a = c.args in
    rw c.behind_group.ensures
    (rw (sym c.item_at.ensures ∙ c.in_ok-value.was) at
    (next_alone a.text.now a.i a.within c.if-within.false (sym c.stands.ensures ∙ c.if-stands.false)))
