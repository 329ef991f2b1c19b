-- `printing::put_visit_lines` meets its contract.
use Prim.Native.Nat.{◌+◌, ◌*◌}
use mathlib.Core.Path.{◌≡◌, sym, ap, ◌∙◌}
use mathlib.Core.List.{[], ◌∷◌, ◌++◌}
use native.Mathlib.Numerals.{add-one}
use lib.ListN.{length, get_or, length-append}
use Rattle.format.specs.Printed.{line_of, visit_word}
use Rattle.putting.specs.Put.{Put}
use Rattle.putting.proofs.Laws.{put_none, put_then}
use Rattle.std.specs.Slice.Iter.{chunks_exact_rest, chunks_exact_size}
use Rattle.printing.proofs.Lines.{visits_on, visits_none, pair_on}
use Rattle.printing.proofs.put_visit_lines.Goals as goal

pub loop-visit-init : goal.loop-visit-init
loop-visit-init c =
    let e = c.into_iter-visit-iterator.ensures.into_iter_gives in
    record {
      size = ap chunks_exact_size e ∙ c.chunks_exact-visit-items.ensures.size;
      rest = ap chunks_exact_rest e ∙ c.chunks_exact-visit-items.ensures.rest;
      put = rw (visits_none c.args.visits.now) (put_none _ _ c.requires.0);
    }

pub loop-visit-preserved : goal.loop-visit-preserved
loop-visit-preserved c =
    let here = c.loop-visit in
    let k = length here.yielded in
    let l = c.args.visits.now in
    let put = c.put_line-end in
    let step = c.in-Some.ensures.steps in
    let pair = pair_on l c.in-Some.visit.now (chunks_exact_rest c.next.new.self) (2 * c.args.count) k
    (sym here.invariant.rest ∙ step.1.0) (step.1.1 ∙ here.invariant.size) in
    let more : length (here.yielded ++ (c.in-Some.visit ∷ [])) ≡ k + 1 = length-append here.yielded (c.in-Some.visit ∷ []) in
    let line : Put (line_of visit_word (get_or l (2 * k) 0 ∷ get_or l (2 * k + 1) 0 ∷ [])) here.end here.out put.new.out put.result =
    rw (c.from.ensures ∙ pair.1, c.from-in-loop-visit.ensures ∙ pair.2) at put.ensures.put in
    record {
      size = step.0 ∙ here.invariant.size;
      rest = rw more pair.0;
      put = rw (more, add-one k, visits_on l k) (put_then c.requires.0 here.invariant.put line);
    }
