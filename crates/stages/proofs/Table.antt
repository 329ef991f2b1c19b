-- The part's rows: the definitions give them, by computation.
use mathlib.Core.Path.{refl}
use mathlib.Core.List.{flat_map}
use Rattle.base.specs.Lists.{largest, upto, tabulate, any, tally, find}
use Rattle.base.specs.Search.{first_bad}
use Rattle.base.specs.Words.{word}
use Rattle.lgs.specs.Market.{matters}
use Rattle.lgs.specs.Stages.{asked, raised, moves, settled, least_stages}
use Rattle.format.specs.Layout.{row_at, rows, unnamed, market_of}
use Rattle.format.specs.Refusals.{bad_form, kind_falls, bad_number, not_rising, names_nobody, bad_order, bad_counts, bad_student, bad_workshop}
use Rattle.format.specs.Refusals.{bad_tiers, bad_range, bad_lot, case_causes}
use Rattle.format.specs.Encoding.{words, row_bytes, case_bytes}
use Rattle.format.specs.Table.{case_of, students_k, workshops_k, pairs_k, case_with, K, lots_k, fares_k, tens_k}
use Rattle.stages.specs.Outcome.{none_agree, stages_room_causes, stages_causes, stages_unless, work_out, stages_after, stages_values}
use Rattle.stages.specs.Restaged.{with_stage, restaged}
use Rattle.stages.specs.Table.{wished, crossed, staged_k, stages_table, stages_given, stages_expected, stages_left, stages_left_expected, StagesComputed}

pub stages_computed : StagesComputed
unfolding wished crossed staged_k stages_table stages_given stages_expected stages_left stages_left_expected work_out stages_unless stages_causes stages_room_causes
    none_agree least_stages settled moves raised asked matters largest stages_after stages_values with_stage restaged
    K case_with lots_k tens_k fares_k case_of students_k workshops_k pairs_k words row_bytes case_bytes flat_map
    case_causes bad_lot bad_range bad_tiers bad_workshop bad_student bad_counts bad_order names_nobody not_rising bad_number kind_falls bad_form
    unnamed market_of rows row_at word first_bad find tally any tabulate upto
stages_computed = record { answers = refl; buffers = refl }
