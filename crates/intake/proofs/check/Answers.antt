-- `intake::check` meets its contract. Each return by what the parts of the table found.
use mathlib.Core.Path.{◌≡◌, ◌∙◌, sym, ap}
use Rattle.std.specs.Prelude.{None}
use native.Mathlib.Omega.{arith}
use lib.ListN.{replicate}
use Rattle.std.proofs.lemmas.Result.{err_from_is_err_and}
use Rattle.format.specs.Layout.{rows}
use Rattle.format.specs.Refusals.{bad_room}
use Rattle.format.specs.Engine.{market_in}
use Rattle.case_tests.specs.Checked.{CleanCase, pair_count, checked_of, case_refusal}
use Rattle.case_tests.proofs.Cases.{as_refused, as_clean, none_clean}
use Rattle.intake.specs.Tested.{lengths_of}
use Rattle.intake.proofs.Joining.{refusal_case, refusal_room, refusal_book, refused_tested, room_is, room_index}
use Rattle.intake.proofs.check.Goals as goal
use Rattle.intake.proofs.check.Goals.{After-fill, After-lacks, In_ok-counts}

-- what the case's answer says where it is clean
answer : (e : In_ok-counts)
    → (case_refusal e.args.case.now ≡ None)
    × (e.in_ok-counts.counts.students ≡ (market_in e.args.case.now).students)
    × (e.in_ok-counts.counts.workshops ≡ (market_in e.args.case.now).workshops)
    × (e.in_ok-counts.counts.pairs ≡ pair_count e.args.case.now)
answer e =
    let case = e.args.case.now in
    as_clean case (case_refusal case) _ e.in_ok-counts.ensures.value

tidy : (e : In_ok-counts) → CleanCase e.args.case.now e.in_ok-counts.counts.students e.in_ok-counts.counts.workshops
tidy e =
    let s = none_clean e.args.case.now (answer e).0 in
    record { form = s.form; order = s.order; counts = s.counts; range = s.range; students = (answer e).1; workshops = (answer e).2 }

-- what the test of the lengths says
tested : (c : After-lacks) → (let a = c.args in let counts = c.in_ok-counts.counts in
    counts.students ≡ (market_in a.case.now).students
    → counts.pairs ≡ pair_count a.case.now
    → bad_room (rows a.case.now) (lengths_of a.room) ≡ c.lacks.result)
tested c students pairs =
    room_is c.args.case.now (lengths_of c.args.room) _ _ c.seats_needed-seats.result students pairs c.seats_needed-seats.ensures ∙ sym c.lacks.ensures

-- the index is zero, and has the length that the room says
cleared : (d : After-fill) → d.fill.new.self ≡ replicate d.args.room.index 0
cleared d = d.fill.ensures.after (λ y e. e) ∙ ap (λ k. replicate k 0) (sym d.requires.index_value)

pub returns-in_err-counts : goal.returns-in_err-counts
returns-in_err-counts c =
    let case = c.args.case.now in
    let room = lengths_of c.args.room in
    let r = as_refused case (case_refusal case) c.in_err-counts.field-0.0 c.in_err-counts.ensures.value in
    let p = err_from_is_err_and c.from_residual.result c.from_residual.ensures.1 in
    rw (p.1, p.2) (refused_tested case c.args.book.now room (refusal_case case c.args.book.now room r.0 r.1) r.2
    (cleared (goal.at.returns-in_err-counts c).After-fill))

pub seats_needed-seats-requires : goal.seats_needed-seats-requires
seats_needed-seats-requires c = tidy (goal.at.seats_needed-seats-requires c).In_ok-counts

pub returns-then-lacks : goal.returns-then-lacks
returns-then-lacks c =
    let case = c.args.case.now in
    let book = c.args.book.now in
    let room = lengths_of c.args.room in
    let says = answer (goal.at.returns-then-lacks c).In_ok-counts in
    let short = tested (goal.at.returns-then-lacks c).After-lacks says.1 says.3 ∙ c.if-lacks.true in
    refused_tested case book room (refusal_room case book room says.0 short) c.at.ensures (cleared (goal.at.returns-then-lacks c).After-fill)

pub invariant_of-table : goal.invariant_of-table
invariant_of-table c =
    record { tabled = (c.check_case.ensures.made (answer (goal.at.invariant_of-table c).In_ok-counts).0).tabled }

pub check_book-requires : goal.check_book-requires
check_book-requires c =
    let a = c.args in
    let d = (goal.at.check_book-requires c).In_ok-counts in
    let says = answer d in
    let enough = room_index a.case.now (lengths_of a.room) (tested (goal.at.check_book-requires c).After-lacks says.1 says.3 ∙ c.if-lacks.false) in
    record {
      clean = tidy d;
      pairs = says.3;
      room = omega (arith, says.3, enough, c.fill.auto.self, c.requires.index_value);
      blank = c.fill.ensures.after (λ y e. e) ∙ ap (λ k. replicate k 0) (sym c.fill.auto.self);
    }

pub returns : goal.returns
returns c =
    let case = c.args.case.now in
    let book = c.args.book.now in
    let room = lengths_of c.args.room in
    let says = answer (goal.at.returns c).In_ok-counts in
    let o = refusal_book case book room says.0 (tested (goal.at.returns c).After-lacks says.1 says.3 ∙ c.if-lacks.false) in
    record {
      answer = c.check_book.ensures.value ∙ ap (λ o. checked_of o case) (sym o);
      left = c.check_book.ensures.index_after ∙ rw (c.fill.auto.self, o, ← c.requires.index_value);
      tabled = λ n. c.check_case.ensures.made says.0;
    }
