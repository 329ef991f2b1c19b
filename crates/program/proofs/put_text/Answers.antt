-- `program::put_text` meets its contract: the text of the refusal, or of the answer from the buffers that the run leaves. Their lengths bound the text's.
use mathlib.Core.Path.{◌≡◌, sym}
use native.Mathlib.Omega.{arith}
use Prim.Native.Nat.{ℕ}
use mathlib.Core.List.{List}
use lib.ListN.{length, replicate}
use Rattle.tables.proofs.Laws.{blank}
use Rattle.program.proofs.Laws.{refused_text, tested_clean, ready, ran_fits, ran_text}
use Rattle.program.proofs.put_text.Goals as goal

-- the buffers before the call
abbrev places₀ : List ℕ
places₀ = replicate 512 0

abbrev visits₀ : List ℕ
visits₀ = replicate 8192 0

abbrev seats₀ : List ℕ
seats₀ = replicate 32768 0

abbrev index₀ : List ℕ
index₀ = replicate 4096 0

pub test-requires : goal.test-requires
test-requires c = blank

pub returns-in-Err : goal.returns-in-Err
returns-in-Err c =
    let a = c.args in
    let test = c.test in
    let put = c.put_answer.ensures in
    rw (sym (refused_text a.case.now a.book.now places₀ visits₀ seats₀ index₀ test.result test.new.seats test.new.index test.new.table test.ensures
    c.in-Err.refusal c.in-Err.is))
    (record { put = put.put; whole = put.whole (omega arith) })

pub new-input-requires : goal.new-input-requires
new-input-requires c =
    let a = c.args in
    let test = c.test in
    tested_clean a.case.now a.book.now places₀ visits₀ seats₀ index₀ test.result test.new.seats test.new.index test.new.table test.ensures
    c.in-Ok.counts c.in-Ok.is

pub run_alone-answer-requires : goal.run_alone-answer-requires
run_alone-answer-requires c =
    let a = c.args in
    let test = c.test in
    let input = c.new-input.ensures in
    rw (input.case_kept, input.book_kept, input.index_kept)
    (ready a.case.now a.book.now places₀ visits₀ seats₀ index₀ test.result test.new.seats test.new.index test.new.table test.ensures
    c.in-Ok.counts c.in-Ok.is test.auto.seats test.auto.index)

pub put_answer-requires-2 : goal.put_answer-requires-2
put_answer-requires-2 c =
    let a = c.args in
    let test = c.test in
    let run = c.run_alone-answer in
    let input = c.new-input.ensures in
    ran_fits a.case.now a.book.now places₀ visits₀ seats₀ index₀ test.result test.new.seats test.new.index test.new.table test.ensures
    c.in-Ok.counts c.in-Ok.is test.auto.seats run.result run.new.places run.new.visits run.new.seats (rw (input.case_kept, input.book_kept) at run.ensures)

pub returns : goal.returns
returns c =
    let a = c.args in
    let test = c.test in
    let run = c.run_alone-answer in
    let input = c.new-input.ensures in
    let places : length run.new.places ≡ 512 = run.auto.places in
    let visits : length run.new.visits ≡ 8192 = run.auto.visits in
    let put = c.put_answer-2.ensures in
    rw (sym (ran_text a.case.now a.book.now places₀ visits₀ seats₀ index₀ test.result test.new.seats test.new.index test.new.table test.ensures
    c.in-Ok.counts c.in-Ok.is test.auto.seats run.result run.new.places run.new.visits run.new.seats (rw (input.case_kept, input.book_kept) at run.ensures)))
    (record { put = put.put; whole = put.whole (omega (arith, c.requires, places, visits)) })
