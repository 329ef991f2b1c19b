-- `engine::place` meets its contract: a refusal at once, or what the run leaves.
use Rattle.std.proofs.Common.{◌∙◌, ap, subst, ℕ, length, replicate}
use Rattle.std.proofs.lemmas.Result.{err_from_is_err_and}
use Rattle.api.specs.Answered.{zero_state, lent, room_of}
use Rattle.lookup.specs.Clean.{Clean}
use Rattle.answering.specs.Call.{TestedInput, Runnable}
use Rattle.answering.proofs.Composing.{answered_refused, runnable, answered_ran}
use Rattle.tables.proofs.Laws.{blank}
use Rattle.engine.proofs.place.Goals as goal
use Rattle.engine.proofs.place.Goals.{After-test, In_ok-counts}

-- what the test says, in the room that was lent
tested : (c : After-test) → (let a = c.args in let t = c.test in
    TestedInput a.case.now a.book.now (lent a.case.now a.book.now a.places.now a.visits.now a.seats.now a.index.now a.states.now) t.result
    t.new.seats t.new.index t.new.table)
tested c =
    let a = c.args in
    let t = c.test in
    subst (λ (n : ℕ). TestedInput a.case.now a.book.now
    (room_of (length a.places.now) (length a.visits.now) (length a.seats.now) (length a.index.now) n) t.result t.new.seats t.new.index t.new.table)
    c.fill.auto.self t.ensures

pub test-requires : goal.test-requires
test-requires c = blank

pub returns-in_err-counts : goal.returns-in_err-counts
returns-in_err-counts c =
    let a = c.args in
    let p = err_from_is_err_and c.from_residual.result c.from_residual.ensures.1 in
    rw (p.1, p.2, c.fill.ensures.after (λ y e. e))
    (answered_refused a.case.now a.book.now a.places.now a.visits.now a.seats.now a.index.now a.states.now _ _ _ _
    (tested (goal.at.returns-in_err-counts c).After-test) _ c.in_err-counts.was)

-- where it refuses nothing, what it leaves is what a run asks
asked : (c : In_ok-counts) → (let a = c.args in let t = c.test in let n = c.in_ok-counts.counts in
    Clean a.case.now a.book.now t.new.index t.new.table n.students n.workshops
    × Runnable a.case.now a.book.now t.new.index a.places.now a.visits.now t.new.seats (length a.states.now))
asked c =
    let a = c.args in
    let t = c.test in
    runnable a.case.now a.book.now a.places.now a.visits.now a.seats.now a.index.now a.states.now _ _ _ _
    (tested (goal.at.In_ok-counts c).After-test) c.in_ok-counts.counts c.in_ok-counts.was t.auto.seats t.auto.index

pub new-input-requires : goal.new-input-requires
new-input-requires c = (asked (goal.at.new-input-requires c).In_ok-counts).0

pub run-answer-requires-clause-runnable : goal.run-answer-requires-clause-runnable
run-answer-requires-clause-runnable c =
    let i = c.new-input.ensures in
    rw (i.case_kept, i.book_kept, i.index_kept, c.fill.auto.self) (asked (goal.at.run-answer-requires-clause-runnable c).In_ok-counts).1

pub returns : goal.returns
returns c =
    let a = c.args in
    let t = c.test in
    let i = c.new-input.ensures in
    let r = c.run-answer in
    let left = rw (i.case_kept, i.book_kept) at r.ensures.ran in
    rw (r.ensures.blank ∙ ap (λ (n : ℕ). replicate n zero_state) c.fill.auto.self)
    (answered_ran a.case.now a.book.now a.places.now a.visits.now a.seats.now a.index.now a.states.now _ _ _ _
    (tested (goal.at.returns c).After-test) c.in_ok-counts.counts c.in_ok-counts.was
    r.result r.new.places r.new.visits r.new.seats c.fill-2.new.self t.auto.seats left
    (c.fill-2.ensures.after (λ y e. e) ∙ ap (λ (n : ℕ). replicate n 0) t.auto.index))
