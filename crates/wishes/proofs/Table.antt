-- The parts' rows: the definitions give them, by computation.
use mathlib.Core.Path.{refl}
use mathlib.Core.List.{flat_map, flatten}
use Rattle.base.specs.Lists.{upto, tabulate, any, tally, find, keep}
use Rattle.base.specs.Search.{first_bad}
use Rattle.base.specs.Words.{word}
use Rattle.format.specs.Layout.{row_at, rows, unnamed, market_of}
use Rattle.format.specs.Refusals.{bad_form, kind_falls, bad_number, not_rising, names_nobody, bad_order, bad_counts, bad_student, bad_workshop}
use Rattle.format.specs.Refusals.{bad_tiers, bad_range, bad_lot, case_causes}
use Rattle.format.specs.Encoding.{words, row_bytes, case_bytes}
use Rattle.format.specs.Printed.{decimal, digits_within}
use Rattle.format.specs.Table.{case_of, students_k, workshops_k, pairs_k, case_with, K, lots_k}
use Rattle.wish_lines.specs.Lines.{item_text, joined, group_text, line_text, lines_text, times, position}
use Rattle.wish_lines.specs.Reading.{step, scan, read_line, misnamed, read_from, read_lines}
use Rattle.wish_lines.specs.Wishes.{options_of, at_tier, groups_from, line_of, lines_from, lines_of, wish_text}
use Rattle.wishes.specs.Copy.{with_wish, wished}
use Rattle.wishes.specs.Outcome.{text_room, lent_causes, write_causes, read_causes, unless_found}
use Rattle.wishes.specs.Outcome.{copy_for, write_wishes, read_wishes, wishes_after, wishes_values}
use Rattle.wishes.specs.Table.{grouped_k, fitting, single, tens, beyond, write_table, read_table}
use Rattle.wishes.specs.Table.{wishes_given, wishes_expected, wishes_left, wishes_left_expected, WishesComputed}

pub wishes_computed : WishesComputed
unfolding grouped_k fitting single tens beyond write_table read_table wishes_given wishes_expected wishes_left wishes_left_expected write_wishes read_wishes
    copy_for
    unless_found write_causes read_causes lent_causes text_room wishes_after wishes_values with_wish wished
    wish_text lines_of lines_from line_of groups_from at_tier options_of read_lines read_from misnamed read_line scan step position times lines_text line_text
    group_text
    joined item_text decimal digits_within keep flatten
    K case_with lots_k case_of students_k workshops_k pairs_k words row_bytes case_bytes flat_map
    case_causes bad_lot bad_range bad_tiers bad_workshop bad_student bad_counts bad_order names_nobody not_rising bad_number kind_falls bad_form
    unnamed market_of rows row_at word first_bad find tally any tabulate upto
wishes_computed = record { answers = refl; buffers = refl }
