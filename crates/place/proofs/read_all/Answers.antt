use Rattle.std.proofs.Common.{◌≡◌, ◌∙◌, ap, ℕ, ◌+◌, ◌-◌, ◌≤◌, List, ◌++◌, length, length-take, take, arith, rules}
use Rattle.std.proofs.KnownBytes.{Consumes-trans}
use Rattle.std.proofs.Math.Seq.{take-append-add}
use Rattle.std.proofs.lemmas.List.{take-append-le}
use borrow.Rule.Slice.PartMut.{put_mid, post_of}
use Rattle.place.proofs.read_all.Goals as goal

-- the head of a buffer of which a part was filled: what was before it, and the part's head
head : (at k n : ℕ) (before part : List ℕ) → at ≤ length before → n ≤ length part
    → take (at + n) (put_mid at k before part) ≡ take at before ++ take n part
head at k n before part l m =
    let rest = post_of at k before in
    let e : length (take at before) ≡ at = omega (arith, length-take at before) in
    rw e at (take-append-add (take at before) (part ++ rest) n) ∙ ap (λ xs. take at before ++ xs) (take-append-le n part rest m)

pub loop-done-preserved : goal.loop-done-preserved
loop-done-preserved g c =
    let here = c.loop-done in
    let joined = head here.done (length here.buf - here.done) c.in_ok-n.n here.buf c.read.new.buf (omega arith) c.in_ok-n.ensures.bound.0 in
    record {
      in_bounds = search rules;
      given = rw joined (Consumes-trans _ _ _ _ _ here.invariant.given c.in_ok-n.ensures.bytes.0);
    }
