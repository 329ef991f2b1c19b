-- `book_tests::fill` meets its contract. A record is bad, or its number at its pair's place gives the index of one record more.
use Prim.Native.Nat.{◌-◌, ◌≤◌, ◌<◌}
use mathlib.Core.Path.{◌≡◌, refl, sym, ap, ◌∙◌}
use mathlib.Core.Bool.{true, false}
use Rattle.std.specs.Prelude.{Some}
use native.Mathlib.Omega.{arith}
use lib.ListN.{length, get_or}
use Rattle.base.proofs.Tests.{or_left, or_right}
use Rattle.base.specs.Search.{first_bad}
use Rattle.base.proofs.Search.{scan_found}
use Rattle.format.specs.Layout.{rows, entries, entry_at, entry_count}
use Rattle.format.specs.Refusals.{bad_pair, bad_scores}
use Rattle.records.specs.Records.{entry_of}
use Rattle.book_tests.specs.Index.{bad_any}
use Rattle.book_tests.proofs.Indexing.{Placed, pairs_few, fill_start, fill_few, fill_repeat, fill_on}
use Rattle.book_tests.proofs.Scanning.{unpaired_is, unscored_is, located}
use Rattle.book_tests.proofs.fill.Goals as goal
use Rattle.book_tests.proofs.fill.Goals.{After-take-e, After-pair_at-p}
use Rattle.book_tests.proofs.fill.Goals.{then-is_unpaired-via-then-is_unpaired, then-is_unpaired-via-else-is_unpaired+then-is_unscored}

-- the record that was read is record i
read : (d : After-take-e) → entry_of d.take-e.result ≡ entry_at d.args.book.now d.loop-i.i
read d = rw (d.loop-i.invariant.book, d.loop-i.invariant.next) at d.take-e.ensures.0

inside : (d : After-take-e) → d.loop-i.i < entry_count d.args.book.now
inside d = omega (arith, d.entry_count-i-end.ensures)

pub loop-i-init : goal.loop-i-init
loop-i-init c =
    record {
      filled = fill_start c.args.table.now.case.now _ _ c.requires.prepared.clean c.args.book.now (length c.args.index.now) c.requires.case_in_bounds.0
          c.args.index.now refl c.requires.case_in_bounds.1;
      book = refl;
      next = refl;
    }

-- a bad record is the first
first : (d : After-take-e) → bad_any (rows d.args.table.now.case.now) (entries d.args.book.now) d.loop-i.i ≡ true
    → Some d.loop-i.i ≡ first_bad (bad_any (rows d.args.table.now.case.now) (entries d.args.book.now)) (entry_count d.args.book.now)
first d e =
    sym (scan_found (bad_any (rows d.args.table.now.case.now) (entries d.args.book.now)) d.loop-i.i _ d.loop-i.invariant.filled.fine e (inside d))

pub returns-then-is_unpaired-clause-value : goal.returns-then-is_unpaired-clause-value
unfolding bad_any
returns-then-is_unpaired-clause-value c =
    let d = (goal.at.returns-then-is_unpaired-clause-value c).After-take-e in
    let case = c.args.table.now.case.now in
    let book = c.args.book.now in
    first d
    (elim c.then-is_unpaired.branch [
      | then-is_unpaired-via-then-is_unpaired w ↦ or_left _ _
          (sym (unpaired_is case book _ (inside d) _ (read d)) ∙ sym c.is_unpaired.ensures ∙ w.if-is_unpaired.true)
      | then-is_unpaired-via-else-is_unpaired+then-is_unscored w ↦ or_right _ _
          (or_left _ _ (sym (unscored_is case book _ (inside d) _ (read d)) ∙ sym w.is_unscored.ensures ∙ w.if-is_unscored.true))
    ])

-- a record that passes by itself: its pair has record p, which has a place in the index, and its number fits
module _ (d : After-pair_at-p) where
  abbrev taken : After-take-e
  taken = (goal.at.overflow_sub-k d).After-take-e

  paired : bad_pair (rows d.args.table.now.case.now) (entries d.args.book.now) d.loop-i.i ≡ false
  paired = sym (unpaired_is d.args.table.now.case.now d.args.book.now _ (inside taken) _ (read taken)) ∙ sym d.is_unpaired.ensures ∙ d.if-is_unpaired.false

  scored : bad_scores (rows d.args.table.now.case.now) (entries d.args.book.now) d.loop-i.i ≡ false
  scored = sym (unscored_is d.args.table.now.case.now d.args.book.now _ (inside taken) _ (read taken)) ∙ sym d.is_unscored.ensures ∙ d.if-is_unscored.false

  placed : Placed d.args.table.now.case.now (entry_at d.args.book.now d.loop-i.i).student (entry_at d.args.book.now d.loop-i.i).workshop d.pair_at-p.result
  placed =
      located d.args.table.now.case.now d.args.book.now _ (inside taken) _ (read taken) _ _ d.requires.prepared.clean paired _
      (rw (← d.from.ensures, ← d.from-in-loop-i.ensures) d.pair_at-p.ensures)

  -- from the book's first pair record on
  spot : (d.args.from ≤ d.pair_at-p.result) × (d.pair_at-p.result - d.args.from < 32768) × (d.pair_at-p.result - d.args.from < length d.loop-i.index)
  spot =
      let few = pairs_few d.args.table.now.case.now _ _ d.requires.prepared.clean in
      let from = d.requires.prepared.from in
      let room = d.requires.case_in_bounds.0 in
      (omega (arith, from, placed.from), omega (arith, from, placed.within, few), omega (arith, from, placed.within, room, d.loop-i.auto.index))

  few : d.loop-i.i ≤ 32768
  few =
      omega (
        arith,
        fill_few d.args.table.now.case.now _ _ d.requires.prepared.clean d.args.book.now (length d.args.index.now) d.requires.case_in_bounds.0
            d.loop-i.i d.loop-i.index d.loop-i.invariant.filled,
        pairs_few d.args.table.now.case.now _ _ d.requires.prepared.clean,
      )

pub overflow_sub-k : goal.overflow_sub-k
overflow_sub-k c = (spot (goal.at.overflow_sub-k c).After-pair_at-p).0

pub offset_bounds-index-k : goal.offset_bounds-index-k
offset_bounds-index-k c = omega (arith, (spot (goal.at.offset_bounds-index-k c).After-pair_at-p).1)

pub bounds-index-k : goal.bounds-index-k
bounds-index-k c = (spot (goal.at.bounds-index-k c).After-pair_at-p).2

pub returns-then-index-k-ne0-clause-value : goal.returns-then-index-k-ne0-clause-value
returns-then-index-k-ne0-clause-value c =
    let d = goal.at.returns-then-index-k-ne0-clause-value c in
    first d.After-take-e
    (fill_repeat c.args.table.now.case.now _ _ c.requires.prepared.clean c.args.book.now _ c.requires.case_in_bounds.0 _ _ c.loop-i.invariant.filled
    (inside d.After-take-e) _ (placed d.After-pair_at-p)
    (λ q. c.if-index-k-ne0.true (ap (λ k. get_or c.loop-i.index (c.pair_at-p.result - k) 0) c.requires.prepared.from ∙ q)))

pub overflow_cast-index : goal.overflow_cast-index
overflow_cast-index c = omega (arith, few (goal.at.overflow_cast-index c).After-pair_at-p)

pub offset_bounds-index-k-in-loop-i : goal.offset_bounds-index-k-in-loop-i
offset_bounds-index-k-in-loop-i c = omega (arith, (spot (goal.at.offset_bounds-index-k-in-loop-i c).After-pair_at-p).1)

pub bounds-index-k-in-loop-i : goal.bounds-index-k-in-loop-i
bounds-index-k-in-loop-i c = (spot (goal.at.bounds-index-k-in-loop-i c).After-pair_at-p).2

pub loop-i-preserved : goal.loop-i-preserved
loop-i-preserved c =
    let d = goal.at.loop-i-preserved c in
    let k = d.After-pair_at-p in
    let zero = sym (ap (λ k. get_or c.loop-i.index (c.pair_at-p.result - k) 0) c.requires.prepared.from) ∙ c.if-index-k-ne0.false in
    record {
      filled = rw c.requires.prepared.from
          (fill_on c.args.table.now.case.now _ _ c.requires.prepared.clean c.args.book.now _ c.requires.case_in_bounds.0 _ _ c.loop-i.invariant.filled
          (inside d.After-take-e) _ (placed k) (paired k) (scored k) zero);
      book = rw c.take-e.ensures.1.0 c.loop-i.invariant.book;
      next = omega (arith, c.take-e.ensures.1.1, c.loop-i.invariant.next);
    }
