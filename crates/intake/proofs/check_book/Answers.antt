-- `intake::check_book` meets its contract. Each return by what the causes before it found.
use Prim.Native.Nat.{ℕ, ◌+◌, ◌%◌}
use mathlib.Core.Path.{◌≡◌, ◌∙◌, sym, ap}
use Rattle.std.specs.Prelude.{None}
use native.Mathlib.Omega.{arith}
use lib.ListN.{length, replicate}
use lib.Bits.{bit_and, and_mask}
use Rattle.base.specs.Search.{first_bad}
use Rattle.format.specs.Layout.{rows, entries, entry_count}
use Rattle.case_tests.proofs.Cases.{few, sound, whole_none, whole_some, clean_as}
use Rattle.book_tests.specs.Index.{Prepared, bad_any, lent_index}
use Rattle.book_tests.proofs.Books.{book_7, book_11, book_clean, refused_with}
use Rattle.book_tests.proofs.Indexing.{all_paired, all_scored, all_fresh}
use Rattle.intake.proofs.check_book.Goals as goal
use Rattle.intake.proofs.check_book.Goals.{In_default, Start}

-- the lowest three binary digits are the remainder by 8
low_three : (n : ℕ) → bit_and n 7 ≡ n % 8
low_three n = and_mask n 3

-- what the tests of the book need
prepared : (start : Start) → Prepared start.args.table.now.case.now (start.args.counts.students + start.args.counts.workshops)
prepared start =
    let a = start.args in
    record {
      clean = sound a.table.now.case.now a.counts.students a.counts.workshops start.requires.clean;
      from = omega (arith, start.requires.clean.students, start.requires.clean.workshops);
    }

-- the book has whole records
whole : (d : In_default) → length d.args.book.now % 8 ≡ 0
whole d = sym (low_three _) ∙ d.if-book-ne0.false

-- causes 8 to 10 find nothing when the fill goes through
fine : (d : In_default) → first_bad (bad_any (rows d.args.table.now.case.now) (entries d.args.book.now)) (entry_count d.args.book.now) ≡ None
fine d = sym d.fill.ensures.value ∙ d.in_default.is

-- the index when it is filled
made : (d : In_default)
    → d.fill.new.index
    ≡ lent_index d.args.table.now.case.now d.args.book.now (entry_count d.args.book.now) (length d.args.index.now)
made d = rw d.in_default.is at d.fill.ensures.index_after

pub returns-then-book-ne0 : goal.returns-then-book-ne0
returns-then-book-ne0 c =
    let case = c.args.table.now.case.now in
    let book = c.args.book.now in
    let part : length book % 8 ≡ 0 → ⊥ = λ q. c.if-book-ne0.true (low_three _ ∙ q) in
    let r = refused_with case book _ 7 0 _ _ _ (book_7 case book (whole_some (length book % 8) part)) c.at.ensures c.requires.blank in
    record { value = r.0; index_after = r.1 }

pub overflow_add-from : goal.overflow_add-from
overflow_add-from c = omega (arith, few c.args.table.now.case.now c.args.counts.students c.args.counts.workshops c.requires.clean)

pub invariant_of-indexed : goal.invariant_of-indexed
invariant_of-indexed c =
    let d = (goal.at.invariant_of-indexed c).In_default in
    let ready = prepared (goal.at.invariant_of-indexed c).Start in
    let case = c.args.table.now.case.now in
    let book = c.args.book.now in
    let long = c.fill.auto.index in
    record {
      indexed =
          record {
            sound = ready.clean;
            paired = all_paired case book (fine d);
            fresh = all_fresh case book (fine d);
            made = made d ∙ ap (λ k. lent_index case book (entry_count book) k) (sym long);
            room = omega (arith, c.requires.pairs, c.requires.room, long);
            from = ready.from;
          };
    }

pub returns-in-Some-first_tie : goal.returns-in-Some-first_tie
returns-in-Some-first_tie c =
    let d = (goal.at.returns-in-Some-first_tie c).In_default in
    let case = c.args.table.now.case.now in
    let book = c.args.book.now in
    let o = book_11 case book (whole_none _ (whole d)) (all_paired case book (fine d)) (all_scored case book (fine d)) (all_fresh case book (fine d))
    c.in-Some-first_tie.tie (sym c.first_tie.ensures ∙ c.in-Some-first_tie.is) in
    let cleared = c.fill-in-Some-first_tie.ensures.after (λ y e. e) ∙ ap (λ k. replicate k 0) c.fill.auto.index in
    let r = refused_with case book _ 11 _ _ _ _ o c.at-in-Some-first_tie.ensures cleared in
    record { value = r.0; index_after = r.1 }

pub returns : goal.returns
returns c =
    let d = (goal.at.returns c).In_default in
    let a = c.args in
    let case = a.table.now.case.now in
    let book = a.book.now in
    let clean = c.requires.clean in
    let o = book_clean case book (whole_none _ (whole d)) (all_paired case book (fine d)) (all_scored case book (fine d)) (all_fresh case book (fine d))
    (sym c.first_tie.ensures ∙ c.in_default-first_tie.is) in
    record {
      value = sym (clean_as case _ a.counts.students a.counts.workshops a.counts.pairs o clean.students clean.workshops c.requires.pairs);
      index_after = rw o (made d);
    }
