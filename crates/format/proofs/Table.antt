-- The table of proved cases: the definitions give document 01's fifteen answers, and those of our own list.
-- Shown by computation, from the bytes to the answer. Also: exact and short buffers, and the printed text of K.
use mathlib.Core.Path.{refl}
use mathlib.Core.List.{flat_map}
use Rattle.base.specs.Lists.{count, total, upto, tabulate, keep, any, tally, sum_of, find, pick, update}
use Rattle.base.specs.Search.{first_bad}
use Rattle.base.specs.Words.{word, signed}
use Rattle.lgs.specs.Market.{all_seats, seats_of, outscored}
use Rattle.lgs.specs.Rule.{interviewed, insert, by_stage, start, declined, unopened, open?, choices, due, holders, below, lowest_of, best}
use Rattle.lgs.specs.Rule.{interview_all, close, settle, apply, turn, step, run, fuel, lazy_gale_shapley}
use Rattle.lgs.specs.Fares.{fares_of}
use Rattle.format.specs.Layout.{row_at, rows, unnamed, market_of, entry_at, entries, results_of}
use Rattle.format.specs.Refusals.{bad_form, kind_falls, bad_number, not_rising, names_nobody, bad_order, bad_counts, bad_student, bad_workshop}
use Rattle.format.specs.Refusals.{bad_tiers, bad_range, needed, bad_room, bad_pair, bad_scores, bad_repeat, student_ties, bad_lot, bad_tie}
use Rattle.format.specs.Refusals.{case_causes, room_causes, book_causes, causes, refusal}
use Rattle.format.specs.Encoding.{words, row_bytes, case_bytes}
use Rattle.format.specs.Buffers.{flat, places_after, visits_after, values}
use Rattle.format.specs.Engine.{engine, outcome_of, rule_outcome, outcome_unless}
use Rattle.format.specs.Printed.{digits_within, decimal, numbers, place_lines, visit_lines, visits_text, printed, unread, program_prints}
use Rattle.format.specs.Table.{Computed, case_of, book_of, students_k, workshops_k, pairs_k, case_with, book_with, K, book_k, visits_k, answer_k, table}
use Rattle.format.specs.Table.{own_table, ample, exact, short_rooms, people, counts_refused, buffers_after, buffers_expected, texts, texts_expected}
use Rattle.format.specs.Table.{never_table, never_k, answer_never_k, tied_k, answer_tied_k, lots_k, lots_table, given, expected}
use Rattle.format.specs.Table.{two_rounds, two_rounds_book, second_choice, fares_k, tens_k, answer_paid_k, fares_table}

pub computed : Computed
unfolding given expected table own_table never_table never_k answer_never_k tied_k answer_tied_k lots_k two_rounds two_rounds_book second_choice lots_table
    fares_k tens_k answer_paid_k fares_table fares_of sum_of
    ample exact short_rooms people counts_refused buffers_after buffers_expected
    flat places_after visits_after values
    texts texts_expected program_prints unread words row_bytes case_bytes flat_map case_of book_of students_k workshops_k pairs_k case_with book_with K book_k visits_k
    answer_k engine outcome_unless rule_outcome outcome_of refusal causes case_causes room_causes book_causes bad_tie student_ties bad_lot bad_repeat bad_scores
    bad_pair bad_room needed all_seats seats_of bad_range bad_tiers bad_workshop bad_student bad_counts bad_order names_nobody not_rising bad_number kind_falls
    bad_form results_of entries entry_at unnamed market_of rows row_at signed word first_bad update pick find tally any keep tabulate upto total count
    lazy_gale_shapley fuel run step turn apply settle close interview_all best lowest_of below holders due choices open? unopened declined outscored start
    by_stage insert interviewed printed visits_text visit_lines place_lines numbers decimal digits_within
computed =
    record {
      answers = refl;
      own = refl;
      nevers = refl;
      lots = refl;
      fares = refl;
      counts = refl;
      exactly = refl;
      exactly_never = refl;
      exactly_tied = refl;
      exactly_paid = refl;
      shortly = refl;
      lot_first = refl;
      buffers = refl;
      text = refl;
    }
