-- `line_writer::put_line` meets its contract: the number, a colon and a blank, the groups, and the end of the line.
use mathlib.Core.Path.{ap, ◌∙◌}
use native.Mathlib.Nat.{le-max_right, max-le}
use Rattle.putting.proofs.Laws.{put_then}
use Rattle.line_writer.proofs.Lines.{no_sets, student_inside, outside_small, line_text_lem}
use Rattle.line_writer.proofs.Gathering.{above_larger}
use Rattle.line_writer.proofs.put_line.Goals as goal

pub gather-last-requires-clause-empty : goal.gather-last-requires-clause-empty
gather-last-requires-clause-empty c = no_sets

pub row_at-requires : goal.row_at-requires
row_at-requires c = student_inside _ c.requires.case_value _ c.requires.le_s.0.0 c.requires.le_s.0.1

pub put_groups-end-requires-clause-outside_le_last : goal.put_groups-end-requires-clause-outside_le_last
put_groups-end-requires-clause-outside_le_last c =
    let larger = c.max-last.ensures in
    let sets = c.gather-last.ensures in
    let few = outside_small _ c.requires.case_value _ c.requires.le_s.0.0 c.requires.le_s.0.1 _ (c.from-outside.ensures ∙ ap (λ r. r.third) c.row_at.ensures) in
    ((rw larger (le-max_right _ _), rw larger (max-le sets.upper_bound.0 few)), rw larger (above_larger _ _ _ sets.upper_bound.1))

pub returns : goal.returns
returns c =
    let fits = c.requires.le_s.1 in
    let numbered = put_then fits c.put_decimal-end.ensures c.put_byte-end.ensures in
    let headed = put_then fits numbered c.put_byte-end-2.ensures in
    let listed = put_then fits headed c.put_groups-end.ensures in
    let whole = put_then fits listed c.put_byte.ensures in
    let line = line_text_lem c.args.table.now.case.now c.requires.case_value c.args.s c.requires.le_s.0.0 c.requires.le_s.0.1 _ _
    c.gather-last.ensures.gathered (c.from-outside.ensures ∙ ap (λ r. r.third) c.row_at.ensures) in
    rw line at whole
