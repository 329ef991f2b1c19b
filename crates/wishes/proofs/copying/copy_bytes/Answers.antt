-- `wishes::copying::copy_bytes` meets its contract. The invariant: the first i bytes are written.
use Prim.Native.Nat.{ℕ}
use mathlib.Core.Path.{◌≡◌, ◌∙◌, ap}
use native.Mathlib.Omega.{arith}
use lib.ListN.{length, get_or, set}
use lib.Seq.{take-length}
use Rattle.base.specs.Lists.{tabulate}
use Rattle.format.specs.Buffers.{with_head}
use Rattle.format.proofs.Heads.{head_none, head_on, head_taken}
use Rattle.wishes.proofs.copying.copy_bytes.Goals as goal

pub loop-i-init : goal.loop-i-init
loop-i-init c = head_none (λ k. get_or c.args.case.now k 0) c.args.copy.now

pub loop-i-preserved : goal.loop-i-preserved
loop-i-preserved c =
    let a = c.args in
    let here = c.loop-i in
    let f : ℕ → ℕ = λ k. get_or a.case.now k 0 in
    ap (λ l. set l here.i (f here.i)) here.invariant ∙ head_on f here.i a.copy.now (omega (arith, c.requires, c.loop-i-test.true))

pub returns : goal.returns
returns c =
    let a = c.args in
    let here = c.loop-i in
    let e : here.i ≡ length a.case.now = omega arith in
    here.invariant
    ∙ ap (λ l. with_head l a.copy.now)
    (ap (tabulate (λ k. get_or a.case.now k 0)) e ∙ (head_taken (length a.case.now) a.case.now (omega arith) ∙ take-length a.case.now))
