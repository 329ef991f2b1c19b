-- `case_tests::sound::heads` meets its contract. The invariant: the records so far pass, are counted, and end with no pair.
use Prim.Native.Nat.{◌+◌, ◌-◌, ◌<◌}
use mathlib.Core.Path.{ap, ◌≡◌, refl}
use native.Mathlib.Omega.{arith}
use Rattle.format.specs.Layout.{row_count}
use Rattle.case_tests.proofs.Sounding.{sound_start, sound_on, one_more}
use Rattle.case_tests.proofs.sound.heads.Goals as goal

pub loop-i-init : goal.loop-i-init
loop-i-init c = record { sound = sound_start c.args.case.now; all = refl; no_pair = λ l. absurd (omega (arith, l)) }

pub loop-i-preserved : goal.loop-i-preserved
loop-i-preserved c =
    let case = c.args.case.now in
    let here = c.loop-i in
    let l : here.i < row_count case = omega (arith, c.row_count-i-end.ensures) in
    let passes = c.is_sound_head.ensures.passes (c.if-not-is_sound_head.false) in
    let t = c.with-tally.ensures in
    let kind = ap (λ r. r.kind) c.row_at.ensures in
    let one = rw (← kind) at (one_more case here.i l passes.0.0 passes.1) in
    let e : here.i + 1 - 1 ≡ here.i = omega arith in
    record {
      sound = rw (t.students, t.workshops, kind) (sound_on case here.i here.tally.students here.tally.workshops here.invariant.sound l passes.0);
      all = omega (arith, one, t.students, t.workshops);
      no_pair = λ g. rw e passes.1;
    }
