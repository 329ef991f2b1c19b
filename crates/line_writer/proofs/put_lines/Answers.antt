-- `line_writer::put_lines` meets its contract. The invariant: the lines of the students before s are put.
use Prim.Native.Nat.{◌+◌, ◌-◌}
use mathlib.Core.Path.{◌≡◌}
use native.Mathlib.Omega.{arith}
use Rattle.format.specs.Engine.{market_in}
use Rattle.putting.specs.Put.{Put}
use Rattle.putting.proofs.Laws.{put_none}
use Rattle.wish_lines.specs.Lines.{lines_text}
use Rattle.wish_lines.specs.Wishes.{lines_from}
use Rattle.case_tests.proofs.Cases.{few, none_clean}
use Rattle.line_writer.proofs.Lines.{no_lines_lem, next_line, all_lines}
use Rattle.line_writer.proofs.put_lines.Goals as goal
use Rattle.line_writer.proofs.put_lines.Goals.{After-put_line-end}

-- the lines are put up to that of student s
shown : (c : After-put_line-end)
    → Put (lines_text (lines_from (market_in c.args.table.now.case.now) c.loop-s.s 0)) 0 c.args.text.now c.put_line-end.new.text c.put_line-end.result
shown c =
    let s : c.loop-s.s - 1 + 1 ≡ c.loop-s.s = omega arith in
    let line = c.put_line-end in
    rw s at
    (next_line c.args.table.now.case.now {after = line.new.text} {end' = line.result} (c.loop-s.s - 1) c.loop-s.invariant (rw s line.ensures))

pub loop-s-init : goal.loop-s-init
loop-s-init c = rw (no_lines_lem c.args.table.now.case.now) (put_none _ _ (omega arith))

pub loop-s-preserved : goal.loop-s-preserved
loop-s-preserved c =
    let s : c.loop-s.s ≡ c.loop-s.s + 1 - 1 = omega arith in
    rw s at (shown (goal.at.loop-s-preserved c).After-put_line-end)

pub returns : goal.returns
returns c =
    let none : c.loop-s.s - 1 ≡ c.args.students = omega (arith, few _ _ _ (none_clean _ c.requires.case_value)) in
    let all = all_lines c.args.table.now.case.now c.requires.case_value c.args.students (rw none at c.loop-s.invariant) c.requires.students_value
    c.requires.case_in_bounds in
    record { value = all.0; text_after = all.1 }

pub returns-2 : goal.returns-2
returns-2 c =
    let last : c.loop-s.s ≡ c.args.students = omega arith in
    let all = all_lines c.args.table.now.case.now c.requires.case_value c.args.students (rw last at (shown (goal.at.returns-2 c).After-put_line-end))
    c.requires.students_value c.requires.case_in_bounds in
    record { value = all.0; text_after = all.1 }
