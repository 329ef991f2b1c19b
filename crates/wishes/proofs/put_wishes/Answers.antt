-- `wishes::put_wishes` meets its contract. The invariant: the records of the students so far have their groups, and the groups of the others are left.
use Prim.Native.Nat.{ℕ, suc, ◌+◌, ◌*◌, ◌<◌}
use mathlib.Core.Path.{◌≡◌, refl, sym, ap, ◌∙◌, subst}
use native.Mathlib.Omega.{arith}
use lib.ListN.{length, get_or, take, drop}
use lib.Seq.{length-take-le}
use Rattle.std.specs.Iterator.Adapters.{enumerate_source, enumerate_count}
use Rattle.std.specs.Slice.Iter.{chunks_exact_rest}
use Rattle.format.specs.Engine.{market_in}
use Rattle.format.specs.Encoding.{Bytes}
use Rattle.format.specs.Buffers.{with_head}
use Rattle.wish_lines.proofs.Ranged.{ranged, student_row}
use Rattle.wishes.specs.Copy.{wished}
use Rattle.wishes.specs.Records.{StudentPut}
use Rattle.wishes.proofs.Working.{few, passed, parts_within}
use Rattle.wishes.proofs.Judging.{narrow, next_part, no_part, head_over}
use Rattle.wishes.proofs.Records.{Filled, filled_none, filled_all, student_shown, wished_long, head_bytes}
use Rattle.wishes.proofs.put_wishes.Goals as goal
use Rattle.wishes.proofs.put_wishes.Goals.{In-Some}

-- the next line's groups, and those left
own : (c : In-Some) → (let students = c.args.input.now.students in
    let groups = c.args.groups.now in
    let k = enumerate_count c.loop-k.k-iterator in
    (k < students)
    × (chunks_exact_rest (enumerate_source c.next.new.self) ≡ drop (65 * (k + 1)) (take (65 * students) groups))
    × ((x : ℕ) → x < 65 → get_or c.in-Some.own.now x 0 ≡ get_or groups (65 * k + x) 0))
own c =
    let here = c.loop-k.invariant in
    let chunk = c.in-Some.ensures.steps.0 in
    let long = parts_within c.args.input.now.table.case.now c.args.input.now.clean.0 c.args.input.now.students c.args.input.now.clean.1 in
    next_part c.args.groups.now c.args.input.now.students _ (omega (arith, c.requires.0, long)) c.in-Some.own.now _ (sym here.rest ∙ chunk.1.0)
    (chunk.1.1 ∙ here.size)

pub overflow_mul-input : goal.overflow_mul-input
overflow_mul-input c = omega (arith, parts_within c.args.input.now.table.case.now c.args.input.now.clean.0 c.args.input.now.students c.args.input.now.clean.1)

pub slice_bounds-chunks_exact-end : goal.slice_bounds-chunks_exact-end
slice_bounds-chunks_exact-end c =
    let long = parts_within c.args.input.now.table.case.now c.args.input.now.clean.0 c.args.input.now.students c.args.input.now.clean.1 in
    sym (length-take-le (65 * c.args.input.now.students) c.args.groups.now (omega (arith, c.requires.0, long)))

pub loop-k-init : goal.loop-k-init
loop-k-init c =
    let a = c.args in
    let head = c.copy_bytes.ensures in
    let bytes : Bytes a.input.now.table.case.now = head_bytes _ a.copy.now (λ k. omega (arith, rw head at c.type_inv.copy k)) in
    let chunks = c.chunks_exact.ensures in
    let numbered = c.enumerate-k-items.ensures in
    rw (c.into_iter-k-iterator.ensures.into_iter_gives, numbered.source, numbered.count) record {
      size = chunks.size;
      rest = chunks.rest;
      few = omega arith;
      sized = refl;
      filled = λ nothing ls e.
          filled_none a.input.now.table.case.now nothing ls bytes _ _
          (head
          ∙ (sym (head_over a.input.now.table.case.now a.input.now.table.case.now a.copy.now refl) ∙ ap (with_head a.input.now.table.case.now) (sym head)));
    }

pub put_student-requires-clause-le_s : goal.put_student-requires-clause-le_s
put_student-requires-clause-le_s c =
    let case = c.args.input.now.table.case.now in
    let p = c.requires in
    let k = c.in-Some.k in
    let less : k < (market_in case).students =
    omega (arith, (own (goal.at.put_student-requires-clause-le_s c).In-Some).0, c.in-Some.ensures.steps.1, c.args.input.now.clean.1) in
    let row = (student_row case (passed case c.args.input.now.clean.0) (k + 1) (omega arith) (omega arith)).0 in
    ((omega arith, omega (arith, few case c.args.input.now.clean.0)), omega (arith, row))

pub loop-k-preserved : goal.loop-k-preserved
loop-k-preserved c =
    let a = c.args in
    let here = c.loop-k.invariant in
    let steps = c.in-Some.ensures.steps in
    let n = enumerate_count c.loop-k.k-iterator in
    let own = own (goal.at.loop-k-preserved c).In-Some in
    let put = c.put_student in
    let old = c.copy_bytes.new.copy in
    let less : n < (market_in a.input.now.table.case.now).students = omega (arith, own.0, c.args.input.now.clean.1) in
    let student : c.in-Some.k + 1 ≡ suc n = omega (arith, steps.1) in
    let more : suc n ≡ enumerate_count c.next.new.self = omega (arith, steps.2) in
    record {
      size = steps.0.0 ∙ here.size;
      rest = rw steps.2 own.1;
      few = omega (arith, steps.2, own.0);
      sized = put.ensures.copy_len_unchanged ∙ here.sized;
      filled = λ nothing ls e.
          subst (λ m. Filled a.input.now.table.case.now nothing ls m old put.new.copy) more
          (student_shown a.input.now.table.case.now nothing ls n less c.in-Some.own.now
          (λ x o. own.2 x (omega (arith, narrow (market_in a.input.now.table.case.now) (ranged a.input.now.table.case.now nothing) (suc n) x o)) ∙ e n x less o)
          old c.loop-k.copy put.new.copy
          (subst (λ s. StudentPut a.input.now.table.case.now c.in-Some.own.now s c.loop-k.copy put.new.copy) student put.ensures.student_put)
          (here.filled nothing ls e));
    }

pub returns : goal.returns
returns c =
    λ ls e.
    let a = c.args in
    let here = c.loop-k.invariant in
    let case = a.input.now.table.case.now in
    let old = c.copy_bytes.new.copy in
    let clean = passed case c.args.input.now.clean.0 in
    let head = c.copy_bytes.ensures in
    let long = parts_within case c.args.input.now.clean.0 a.input.now.students c.args.input.now.clean.1 in
    let few = ap length (sym here.rest) in
    let done : enumerate_count c.loop-k.k-iterator ≡ (market_in case).students =
    no_part a.groups.now a.input.now.students _ (omega (arith, c.requires.0, long)) here.few (omega (arith, few, c.in-None.ensures.steps.0.1.0, here.size))
    ∙ c.args.input.now.clean.1 in
    filled_all case clean ls old c.loop-k.copy (subst (λ k. Filled case clean ls k old c.loop-k.copy) done (here.filled clean ls e))
    ∙ (ap (with_head (wished ls case)) head ∙ head_over (wished ls case) case a.copy.now (wished_long case clean ls))
