-- `turning::hold_round` meets its contract. The invariant is `Going`: how far the list of the tier's workshops has been gone over, and what the round
-- so far has given.
use Prim.Native.Nat.{suc, ◌≤◌, ◌<◌}
use mathlib.Core.Path.{◌≡◌, refl, sym, ap, ◌∙◌}
use mathlib.Core.Bool.{true, false}
use native.Mathlib.Omega.{arith}
use lib.ListN.{length, get_or, take}
use lib.Seq.{length-take-le}
use Rattle.base.proofs.Counting.{count_le}
use Rattle.format.specs.Layout.{row_count}
use Rattle.format.specs.Engine.{market_in, results_in}
use Rattle.std.specs.Prelude.{Some, None}
use Rattle.model.specs.Turn.{due_at, round_to}
use Rattle.model.specs.Ready.{Booked}
use Rattle.lookup.specs.Clean.{PairAt, EntryAt}
use Rattle.lookup.proofs.Laws.{entry_known, met_by, unmet_by}
use Rattle.turning.specs.Round.{in_tier, TierListed}
use Rattle.turning.proofs.Due.{tier_pair, tier_due, tier_at_lem, fare_at_lem, entry_none, entry_some, says_by}
use Rattle.turning.proofs.Rounds.{Answers, round_cheap, round_skip, round_room, round_held, round_missing, round_end}
use Rattle.turning.proofs.Listing.{Coming, listed_head, going_start, going_end, coming_within, coming_as, going_on}
use Rattle.turning.proofs.hold_round.Goals as goal
use Rattle.turning.proofs.hold_round.Goals.{After-list_tier-n, After-row_at-row, After-loop-pair, Else-is_shut, In-loop-pair, In_default, In-Some}

-- the tier's pairs are listed, and there is room for them
listed : (c : After-list_tier-n) → (let a = c.args in
    TierListed a.input.now.table.case.now a.s a.tier a.input.now.workshops c.list_tier-n.result c.list_tier-n.new.pairs)
listed c = c.list_tier-n.ensures c.args.input.now.workshops (λ w p. (c.args.input.now.clean.named c.args.s w p).1.1)

few : (c : After-list_tier-n) → c.list_tier-n.result ≤ length c.list_tier-n.new.pairs
few c =
    let a = c.args in
    omega (arith, (listed c).many, count_le (in_tier (market_in a.input.now.table.case.now) a.s a.tier) a.input.now.workshops, a.input.now.clean.many_workshops)

-- the record at this place of the list is that of a pair, which names the workshop
within : (c : In-loop-pair)
    → get_or (take c.list_tier-n.result c.list_tier-n.new.pairs) c.loop-pair.pair-index 0 < row_count c.args.input.now.table.case.now
within c = coming_within c.loop-pair.invariant (omega arith) (c.args.input.now.clean.pair c.args.s)

comes : (c : After-row_at-row) → (let a = c.args in let here = c.loop-pair in
    Coming a.input.now.table.case.now (results_in a.input.now.book.now) a.seats.now a.s a.tier a.set a.held a.input.now.workshops a.visits.now here.visits
    here.count here.openings here.fares here.pair-index c.row_at-row.result.second
    (get_or (take c.list_tier-n.result c.list_tier-n.new.pairs) here.pair-index 0))
comes c =
    coming_as c.loop-pair.invariant (omega arith) (c.args.input.now.clean.pair c.args.s) c.row_at-row.result.second
    (ap (λ r. r.second) c.row_at-row.ensures)

paired : (c : After-row_at-row) → (market_in c.args.input.now.table.case.now).paired c.args.s c.row_at-row.result.second ≡ true
paired c =
    let a = c.args in
    tier_pair (market_in a.input.now.table.case.now) (results_in a.input.now.book.now) a.seats.now a.s a.tier c.row_at-row.result.second (comes c).tier

pair_at : (c : After-row_at-row) → PairAt c.args.input.now.table.case.now c.args.s c.row_at-row.result.second
pair_at c = c.args.input.now.clean.pair c.args.s c.row_at-row.result.second (paired c)

-- the tier that the code reads is the workshop's for her
tier : (c : After-row_at-row) → c.row_at-row.result.fourth ≡ (market_in c.args.input.now.table.case.now).workshop_tier c.row_at-row.result.second c.args.s
tier c =
    tier_at_lem c.args.input.now.table.case.now c.args.s c.row_at-row.result.second _ c.row_at-row.result.fourth (pair_at c) (comes c).pair
    (ap (λ r. r.fourth) c.row_at-row.ensures)

-- the workshop's number is that of one of the workshops
bounds : (c : After-row_at-row)
    → (1 ≤ c.row_at-row.result.second) × (c.row_at-row.result.second ≤ c.args.input.now.workshops) × (c.args.input.now.workshops ≤ 64)
bounds c = let x = comes c in (omega (arith, x.number), omega (arith, x.number, x.below), c.args.input.now.clean.many_workshops)

pub slice_bounds-pairs-end : goal.slice_bounds-pairs-end
slice_bounds-pairs-end c = few (goal.at.slice_bounds-pairs-end c).After-list_tier-n

pub slice_bounds-pair-items-end : goal.slice_bounds-pair-items-end
slice_bounds-pair-items-end c =
    sym (length-take-le c.list_tier-n.result c.list_tier-n.new.pairs (few (goal.at.slice_bounds-pair-items-end c).After-list_tier-n))

pub loop-pair-init : goal.loop-pair-init
loop-pair-init c =
    let l = (goal.at.loop-pair-init c).After-list_tier-n in
    let a = c.args in
    going_start (listed_head a.input.now.table.case.now a.s a.tier a.input.now.workshops c.list_tier-n.result c.list_tier-n.new.pairs (few l) (listed l))

pub row_at-row-requires : goal.row_at-row-requires
row_at-row-requires c = within (goal.at.row_at-row-requires c).In-loop-pair

pub start_of-from-requires : goal.start_of-from-requires
start_of-from-requires c =
    let b = bounds (goal.at.start_of-from-requires c).After-row_at-row in
    (b.0, omega (arith, b.1, c.args.input.now.clean.workshops))

pub seats_of-requires : goal.seats_of-requires
seats_of-requires c =
    let b = bounds (goal.at.seats_of-requires c).After-row_at-row in c.args.input.now.clean.workshop c.row_at-row.result.second b.0 b.1

pub overflow_add-own : goal.overflow_add-own
overflow_add-own c =
    let b = bounds (goal.at.overflow_add-own c).After-row_at-row in
    omega (arith, c.start_of-from.ensures, c.seats_of.ensures, (c.requires.by_index c.row_at-row.result.second b.0 b.1).long)

pub is_shut-requires-clause-seats_at : goal.is_shut-requires-clause-seats_at
is_shut-requires-clause-seats_at c =
    let b = bounds (goal.at.is_shut-requires-clause-seats_at c).After-row_at-row in c.requires.by_index c.row_at-row.result.second b.0 b.1

pub loop-pair-preserved-then-is_shut : goal.loop-pair-preserved-then-is_shut
loop-pair-preserved-then-is_shut c =
    let a = c.args in
    let w = (goal.at.loop-pair-preserved-then-is_shut c).After-row_at-row in
    let x = comes w in
    let d = tier_due (market_in a.input.now.table.case.now) (results_in a.input.now.book.now) a.seats.now a.s a.tier c.row_at-row.result.second x.tier true
    (sym (c.is_shut.ensures (results_in a.input.now.book.now) a.s (tier w)) ∙ c.if-is_shut.true) in
    going_on c.loop-pair.invariant _ _ _ _ _ _ x
    (round_skip a.input.now.workshops x.so c.requires.workshops_in_bounds x.below c.row_at-row.result.second x.number d)

-- it is to be interviewed, where it is not shut to her
due : (c : Else-is_shut) → (let a = c.args in
    due_at (market_in a.input.now.table.case.now) (results_in a.input.now.book.now) a.seats.now a.s a.tier c.row_at-row.result.second ≡ true)
due c =
    let a = c.args in
    let x = coming_as c.loop-pair.invariant (omega arith) (a.input.now.clean.pair a.s) c.row_at-row.result.second (ap (λ r. r.second) c.row_at-row.ensures) in
    let p = tier_pair (market_in a.input.now.table.case.now) (results_in a.input.now.book.now) a.seats.now a.s a.tier c.row_at-row.result.second x.tier in
    let t = tier_at_lem a.input.now.table.case.now a.s c.row_at-row.result.second _ c.row_at-row.result.fourth
    (a.input.now.clean.pair a.s _ p) x.pair (ap (λ r. r.fourth) c.row_at-row.ensures) in
    tier_due (market_in a.input.now.table.case.now) (results_in a.input.now.book.now) a.seats.now a.s a.tier c.row_at-row.result.second x.tier false
    (sym (c.is_shut.ensures (results_in a.input.now.book.now) a.s t) ∙ c.if-is_shut.false)

pub entry_of-requires : goal.entry_of-requires
entry_of-requires c =
    let w = (goal.at.entry_of-requires c).After-row_at-row in
    omega (arith, c.args.input.now.clean.indexed c.args.s c.row_at-row.result.second (paired w), (comes w).pair)

-- it is not there: the round stops
missing : (c : In_default) → (let a = c.args in let here = c.loop-pair in
    due_at (market_in a.input.now.table.case.now) (results_in a.input.now.book.now) a.seats.now a.s a.tier c.row_at-row.result.second ≡ true
    → Answers (market_in a.input.now.table.case.now)
    (record { count = here.count; openings = here.openings; missing = Some c.row_at-row.result.second; fares = here.fares })
    here.visits a.held
    (round_to (market_in a.input.now.table.case.now) (results_in a.input.now.book.now) a.seats.now a.s a.tier a.set a.input.now.workshops) a.visits.now)
missing c d =
    let a = c.args in
    let x = coming_as c.loop-pair.invariant (omega arith) (a.input.now.clean.pair a.s) c.row_at-row.result.second (ap (λ r. r.second) c.row_at-row.ensures) in
    let p = tier_pair (market_in a.input.now.table.case.now) (results_in a.input.now.book.now) a.seats.now a.s a.tier c.row_at-row.result.second x.tier in
    round_missing a.input.now.workshops x.so c.requires.workshops_in_bounds x.below c.row_at-row.result.second x.number d
    (unmet_by a.input.now.clean a.s c.row_at-row.result.second p _ _ x.pair refl (entry_none _ (sym c.entry_of.ensures ∙ c.in_default.is)))

pub returns-in_default-clause-value : goal.returns-in_default-clause-value
returns-in_default-clause-value c = let p = goal.at.returns-in_default-clause-value c in (missing p.In_default (due p.Else-is_shut)).0

pub returns-in_default-clause-visits_after : goal.returns-in_default-clause-visits_after
returns-in_default-clause-visits_after c = let p = goal.at.returns-in_default-clause-visits_after c in (missing p.In_default (due p.Else-is_shut)).1

-- its interview is in the book, where the index says
booked : (c : In-Some) → Booked (market_in c.args.input.now.table.case.now) (results_in c.args.input.now.book.now) c.args.s c.row_at-row.result.second
booked c =
    let a = c.args in
    let k = a.input.now.clean in
    let x = coming_as c.loop-pair.invariant (omega arith) (a.input.now.clean.pair a.s) c.row_at-row.result.second (ap (λ r. r.second) c.row_at-row.ensures) in
    let p = tier_pair (market_in a.input.now.table.case.now) (results_in a.input.now.book.now) a.seats.now a.s a.tier c.row_at-row.result.second x.tier in
    record {
      student = (c.requires.le_s.0, omega (arith, k.students, c.requires.le_s));
      workshop = (omega (arith, x.number), omega (arith, k.workshops, x.number, x.below));
      pair = p;
      met = met_by k a.s c.row_at-row.result.second p _ _ x.pair refl (λ z. omega (arith, entry_some _ _ (sym c.entry_of.ensures ∙ c.in-Some.is), z));
    }

entered : (c : In-Some) → EntryAt c.args.input.now.book.now c.args.s c.row_at-row.result.second (suc c.in-Some.e)
entered c =
    let a = c.args in
    let x = coming_as c.loop-pair.invariant (omega arith) (a.input.now.clean.pair a.s) c.row_at-row.result.second (ap (λ r. r.second) c.row_at-row.ensures) in
    entry_known a.input.now.clean (booked c) _ _ x.pair (sym (entry_some _ _ (sym c.entry_of.ensures ∙ c.in-Some.is)))

pub entry_at-entry-requires : goal.entry_at-entry-requires
entry_at-entry-requires c = omega (arith, entered (goal.at.entry_at-entry-requires c).In-Some)

pub put_interview-requires : goal.put_interview-requires
put_interview-requires c =
    let p = goal.at.put_interview-requires c in
    let x = comes p.After-row_at-row in
    round_room c.args.input.now.workshops x.so c.requires.workshops_in_bounds x.below c.row_at-row.result.second x.number (due p.Else-is_shut)

pub opened-openings-requires : goal.opened-openings-requires
opened-openings-requires c =
    let b = bounds (goal.at.opened-openings-requires c).After-row_at-row in
    (omega (arith, b), c.args.input.now.clean.workshop c.row_at-row.result.second b.0 b.1)

pub overflow_add-fares : goal.overflow_add-fares
overflow_add-fares c =
    let a = c.args in
    let here = c.loop-pair in
    omega (
      arith,
      here.invariant.so.paid,
      round_cheap (market_in a.input.now.table.case.now) (results_in a.input.now.book.now) a.seats.now a.s a.tier a.set
          a.input.now.clean.fare here.invariant.done (omega (arith, here.invariant.within, a.input.now.clean.many_workshops)),
    )

pub loop-pair-preserved : goal.loop-pair-preserved
loop-pair-preserved c =
    let a = c.args in
    let p = goal.at.loop-pair-preserved c in
    let x = comes p.After-row_at-row in
    let k = pair_at p.After-row_at-row in
    let f = fare_at_lem a.input.now.table.case.now a.s c.row_at-row.result.second _ c.row_at-row.result.fifth k x.pair
    (ap (λ r. r.fifth) c.row_at-row.ensures) in
    let r = round_held a.input.now.workshops x.so c.requires.workshops_in_bounds x.below c.row_at-row.result.second x.number (due p.Else-is_shut)
    (booked p.In-Some).met c.row_at-row.result.fifth f in
    let o = says_by a.input.now.book.now a.s c.row_at-row.result.second c.in-Some.e c.entry_at-entry.result (entered p.In-Some) c.entry_at-entry.ensures in
    going_on c.loop-pair.invariant _ _ _ _ _ _ x
    (rw (c.put_interview.ensures, c.opened-openings.ensures a.input.now.book.now a.s (tier p.After-row_at-row) o) r)

-- the list is done
over : (c : After-loop-pair) → (let a = c.args in let here = c.loop-pair in
    Answers (market_in a.input.now.table.case.now) (record { count = here.count; openings = here.openings; missing = None; fares = here.fares })
    here.visits a.held
    (round_to (market_in a.input.now.table.case.now) (results_in a.input.now.book.now) a.seats.now a.s a.tier a.set a.input.now.workshops) a.visits.now)
over c = round_end c.args.input.now.workshops (going_end c.loop-pair.invariant (omega arith)) refl

pub returns-clause-value : goal.returns-clause-value
returns-clause-value c = (over (goal.at.returns-clause-value c).After-loop-pair).0

pub returns-clause-visits_after : goal.returns-clause-visits_after
returns-clause-visits_after c = (over (goal.at.returns-clause-visits_after c).After-loop-pair).1
