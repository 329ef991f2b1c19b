-- `book_tests::book_fault` meets its contract. Each return by what the causes before it found; the last by what the three find together.
use Prim.Native.Nat.{ℕ}
use mathlib.Core.Path.{◌≡◌, sym, ◌∙◌}
use mathlib.Core.Bool.{true, false}
use Rattle.std.proofs.Common.{rules}
use Rattle.std.specs.Prelude.{Err, Some}
use Rattle.std.proofs.lemmas.Iterator.{first_from_Range}
use lib.ListN.{length}
use Rattle.base.specs.Search.{first_bad}
use Rattle.format.specs.Layout.{rows, entries, entry_count}
use Rattle.format.specs.Refusals.{bad_pair, bad_scores}
use Rattle.api.specs.declared.Refusal.{Refusal}
use Rattle.api.specs.Causes.{refusal_for}
use Rattle.case_tests.specs.Checked.{checked_of}
use Rattle.case_tests.proofs.Finding.{first_by}
use Rattle.book_tests.specs.Index.{book_refusal, index_after}
use Rattle.book_tests.proofs.Scanning.{unpaired, unscored, first_unpaired, first_unscored}
use Rattle.book_tests.proofs.Books.{fault_pair, fault_score, fault_repeat, refused_with}
use Rattle.book_tests.proofs.book_fault.Goals as goal
use Rattle.book_tests.proofs.book_fault.Goals.{After-find, After-find-2, After-at, After-at-in-Some-find, After-at-2}

-- what the first and the second `find` give
found_pair : (c : After-find) → c.find.result ≡ first_bad (bad_pair (rows c.args.table.now.case.now) (entries c.args.book.now)) (entry_count c.args.book.now)
found_pair c =
    let bad = unpaired c.args.table.now.case.now c.args.book.now in
    rw (← c.entry_count-n.ensures.1)
    (first_by bad c.entry_count-n.result c.find.result
    (first_from_Range _ _ _ c.find.result (λ i. bad i ≡ true) (λ i. bad i ≡ false) c.find.ensures.ran (λ x q k. search rules) (λ x q k. search rules)))
    ∙ first_unpaired c.args.table.now.case.now c.args.book.now

found_score : (c : After-find-2)
    → c.find-2.result ≡ first_bad (bad_scores (rows c.args.table.now.case.now) (entries c.args.book.now)) (entry_count c.args.book.now)
found_score c =
    let bad = unscored c.args.book.now in
    rw (← c.entry_count-n.ensures.1)
    (first_by bad c.entry_count-n.result c.find-2.result
    (first_from_Range _ _ _ c.find-2.result (λ i. bad i ≡ true) (λ i. bad i ≡ false) c.find-2.ensures.ran (λ x q k. search rules) (λ x q k. search rules)))
    ∙ first_unscored c.args.table.now.case.now c.args.book.now

-- a refusal with number k and place i, and the index with it
abbrev Told : After-find → Refusal → Type 0
Told c r =
    let a = c.args in
    (Err r ≡ checked_of (book_refusal a.table.now.case.now a.book.now) a.table.now.case.now)
    × (c.fill.new.self ≡ index_after (book_refusal a.table.now.case.now a.book.now) a.table.now.case.now a.book.now (length a.index.now))

told : (c : After-find) (k i : ℕ) (r : Refusal) → r ≡ refusal_for k i → book_refusal c.args.table.now.case.now c.args.book.now ≡ Some (k, i) → Told c r
told c k i r e o = refused_with c.args.table.now.case.now c.args.book.now _ k i _ r _ o e (c.fill.ensures.after (λ y e. e))

told_pair : (c : After-at) → Told (goal.at.returns-in-Some-clause-value c).After-find c.at.result
told_pair c =
    let a = c.args in
    let d = (goal.at.returns-in-Some-clause-value c).After-find in
    told d 8 c.in-Some.pair _ c.at.ensures
    (fault_pair a.table.now.case.now a.book.now c.requires.book_len a.at c.requires.book_value _ (sym (found_pair d) ∙ c.in-Some.is))

told_score : (c : After-at-in-Some-find) → Told (goal.at.returns-in-Some-find-clause-value c).After-find c.at-in-Some-find.result
told_score c =
    let a = c.args in
    let d = goal.at.returns-in-Some-find-clause-value c in
    told d.After-find 9 c.in-Some-find.score _ c.at-in-Some-find.ensures
    (fault_score a.table.now.case.now a.book.now c.requires.book_len a.at c.requires.book_value (sym (found_pair d.After-find) ∙ c.in_default.is) _
    (sym (found_score d.After-find-2) ∙ c.in-Some-find.is))

told_repeat : (c : After-at-2) → Told (goal.at.returns-clause-value c).After-find c.at-2.result
told_repeat c =
    let a = c.args in
    let d = goal.at.returns-clause-value c in
    told d.After-find 10 a.at _ c.at-2.ensures
    (fault_repeat a.table.now.case.now a.book.now c.requires.book_len a.at c.requires.book_value (sym (found_pair d.After-find) ∙ c.in_default.is)
    (sym (found_score d.After-find-2) ∙ c.in_default-find.is))

pub returns-in-Some-clause-value : goal.returns-in-Some-clause-value
returns-in-Some-clause-value c = (told_pair c).0

pub returns-in-Some-clause-index_after : goal.returns-in-Some-clause-index_after
returns-in-Some-clause-index_after c = (told_pair c).1

pub returns-in-Some-find-clause-value : goal.returns-in-Some-find-clause-value
returns-in-Some-find-clause-value c = (told_score c).0

pub returns-in-Some-find-clause-index_after : goal.returns-in-Some-find-clause-index_after
returns-in-Some-find-clause-index_after c = (told_score c).1

pub returns-clause-value : goal.returns-clause-value
returns-clause-value c = (told_repeat c).0

pub returns-clause-index_after : goal.returns-clause-index_after
returns-clause-index_after c = (told_repeat c).1
