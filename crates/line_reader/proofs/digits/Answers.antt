-- `line_reader::digits` meets its contract.
use Prim.Native.Nat.{◌+◌, ◌*◌}
use mathlib.Core.Path.{sym, ap, ◌∙◌}
use native.Mathlib.Omega.{arith}
use lib.ListN.{length-drop}
use Rattle.std.proofs.lemmas.List.{take_rest}
use Rattle.line_reader.specs.Items.{cap}
use Rattle.line_reader.proofs.Taking.{counting_on, counting_stops, counting_ends}
use Rattle.line_reader.proofs.digits.Goals as goal

pub loop-k-preserved : goal.loop-k-preserved
loop-k-preserved c =
    let l = c.loop-k in
    let v = c.min-value.ensures ∙ ap (λ d. cap (10 * l.value + d)) c.from.ensures in
    counting_on l.invariant c.min-value.result c.loop-k-test.true
    (sym c.is_digit.ensures ∙ c.if-not-is_digit.false) v

pub returns-then-not-is_digit : goal.returns-then-not-is_digit
returns-then-not-is_digit c =
    let r = rw (take_rest c.args.text.now c.args.from) at
    (counting_stops c.loop-k.invariant c.loop-k-test.true (sym c.is_digit.ensures ∙ c.if-not-is_digit.true)) in
    (r.0, omega (arith, r.1))

pub returns : goal.returns
returns c =
    let text = c.args.text.now in
    let r = rw (take_rest text c.args.from) at (counting_ends c.loop-k.invariant c.loop-k-test.false) in
    let low = rw (take_rest text c.args.from) at c.loop-k-test.false in
    let high = rw (take_rest text c.args.from) at c.loop-k.auto.k-end in
    (r.0, omega (arith, r.1, low, high, length-drop c.args.from text))
