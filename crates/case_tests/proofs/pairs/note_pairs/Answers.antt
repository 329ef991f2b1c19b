-- `case_tests::pairs::note_pairs` meets its contract. The invariant: the table has the pairs of students 1 to s, which stand before record `at` and pass.
use Prim.Native.Nat.{suc, ◌+◌}
use mathlib.Core.Path.{◌≡◌}
use native.Mathlib.Omega.{arith}
use Rattle.case_tests.specs.Order.{heads_end}
use Rattle.case_tests.proofs.Noting.{shelved_none, shelved_more}
use Rattle.case_tests.proofs.Trails.{trail_first, trail_end, sifted}
use Rattle.case_tests.proofs.pairs.note_pairs.Goals as goal

pub loop-s-init : goal.loop-s-init
loop-s-init c =
    let a = c.args in
    record {
      shelved = shelved_none _ _ (heads_end a.heads) a.table.now c.requires.blank;
      trail = trail_first a.case.now a.heads c.requires.students_bound.1 c.requires.heads;
    }

pub loop-s-preserved : goal.loop-s-preserved
loop-s-preserved c =
    let a = c.args in
    let here = c.loop-s in
    let pile = c.take_pile-own in
    let e : here.s + 1 ≡ suc here.s = omega arith in
    record {
      shelved = shelved_more _ _ (heads_end a.heads) here.s here.at here.table here.invariant.shelved (omega (arith, c.requires.students_bound.0))
          (omega (arith, c.requires.students_bound)) pile.result.set pile.result.end (rw e at pile.ensures.piled);
      trail = pile.ensures.by_index a.heads.students (omega arith) here.invariant.trail;
    }

pub returns : goal.returns
returns c =
    let a = c.args in
    let here = c.loop-s in
    let e : here.s ≡ a.heads.students = omega arith in
    let t = rw e at here.invariant.trail in
    rw (c.then_some.ensures, c.row_count.ensures)
    (sifted a.case.now a.heads here.at here.table t.sound
    (trail_end a.case.now a.heads.students a.heads.workshops c.requires.students_bound.1 here.at t) here.invariant.shelved.noted)
