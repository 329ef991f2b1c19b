-- Where a cause of the book finds something, and those before it nothing; and the first of 8 to 10.
use Prim.Native.Nat.{ℕ, ◌%◌}
use mathlib.Core.Path.{◌≡◌}
use mathlib.Core.Bool.{not}
use mathlib.Core.List.{List}
use Rattle.std.specs.Prelude.{Option, Some, None, Err}
use lib.ListN.{length, replicate}
use lib.Dec.{eqb}
use Rattle.base.specs.Search.{first_bad, some_if}
use Rattle.format.specs.Layout.{rows, entries, entry_count}
use Rattle.format.specs.Causes.{first_cause}
use Rattle.format.specs.Refusals.{bad_pair, bad_scores, bad_repeat, bad_tie, book_causes}
use Rattle.api.specs.declared.Refusal.{Refusal}
use Rattle.api.specs.Causes.{refusal_for}
use Rattle.case_tests.specs.Checked.{checked_of}
use Rattle.case_tests.proofs.Cases.{whole_none, refused_as}
use Rattle.book_tests.specs.Index.{bad_any, book_refusal, index_after}
use Rattle.book_tests.proofs.Joined.{some_third}

module _ (case book : List ℕ) where
  pub book_7 : some_if (not (eqb (length book % 8) 0)) 0 ≡ Some 0 → book_refusal case book ≡ Some (7, 0)
  unfolding book_causes
  book_7 e = rw (e, first_cause)

  module _ (whole : some_if (not (eqb (length book % 8) 0)) 0 ≡ None) where
    pub book_8 : (i : ℕ) → first_bad (bad_pair (rows case) (entries book)) (entry_count book) ≡ Some i → book_refusal case book ≡ Some (8, i)
    unfolding book_causes
    book_8 i e = rw (whole, e, first_cause)

    module _ (pair : first_bad (bad_pair (rows case) (entries book)) (entry_count book) ≡ None) where
      pub book_9 : (i : ℕ) → first_bad (bad_scores (rows case) (entries book)) (entry_count book) ≡ Some i → book_refusal case book ≡ Some (9, i)
      unfolding book_causes
      book_9 i e = rw (whole, pair, e, first_cause)

      module _ (score : first_bad (bad_scores (rows case) (entries book)) (entry_count book) ≡ None) where
        pub book_10 : (i : ℕ) → first_bad (bad_repeat (rows case) (entries book)) (entry_count book) ≡ Some i → book_refusal case book ≡ Some (10, i)
        unfolding book_causes
        book_10 i e = rw (whole, pair, score, e, first_cause)

        module _ (fresh : first_bad (bad_repeat (rows case) (entries book)) (entry_count book) ≡ None) where
          pub book_11 : (i : ℕ) → first_bad (bad_tie (rows case) (entries book)) (entry_count book) ≡ Some i → book_refusal case book ≡ Some (11, i)
          unfolding book_causes
          book_11 i e = rw (whole, pair, score, fresh, e, first_cause)

          pub book_clean : first_bad (bad_tie (rows case) (entries book)) (entry_count book) ≡ None → book_refusal case book ≡ None
          unfolding book_causes
          book_clean e = rw (whole, pair, score, fresh, e, first_cause)

-- the first cause of 8 to 10, by what each of 8 and 9 finds and what all three find together
module _ (case book : List ℕ) (whole : length book % 8 ≡ 0) (at : ℕ)
    (any : first_bad (bad_any (rows case) (entries book)) (entry_count book) ≡ Some at) where
  pub fault_pair : (i : ℕ) → first_bad (bad_pair (rows case) (entries book)) (entry_count book) ≡ Some i → book_refusal case book ≡ Some (8, i)
  fault_pair i p = book_8 case book (whole_none _ whole) i p

  module _ (paired : first_bad (bad_pair (rows case) (entries book)) (entry_count book) ≡ None) where
    pub fault_score : (i : ℕ) → first_bad (bad_scores (rows case) (entries book)) (entry_count book) ≡ Some i → book_refusal case book ≡ Some (9, i)
    fault_score i s = book_9 case book (whole_none _ whole) paired i s

    pub fault_repeat : first_bad (bad_scores (rows case) (entries book)) (entry_count book) ≡ None → book_refusal case book ≡ Some (10, at)
    unfolding bad_any
    fault_repeat scored =
        book_10 case book (whole_none _ whole) paired scored at
        (some_third (bad_pair (rows case) (entries book)) (bad_scores (rows case) (entries book)) (bad_repeat (rows case) (entries book))
        (entry_count book) at any paired scored)

-- a refusal, and the index with it
pub refused_with : (case book : List ℕ) (o : Option (ℕ × ℕ)) (k i lent : ℕ) (r : Refusal) (index : List ℕ) → o ≡ Some (k, i) → r ≡ refusal_for k i
    → index ≡ replicate lent 0
    → (Err r ≡ checked_of o case) × (index ≡ index_after o case book lent)
refused_with case book o k i lent r index e a b = (refused_as case o k i r a e, rw e b)
