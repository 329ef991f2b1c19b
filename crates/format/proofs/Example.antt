-- Example K has agreeing stages, and a finished run that lists more than the placed pairs: demand 3 speaks of it, and is no matter of course.
-- The stages agree by a test over the pairs of its records, and the test is computed.
use Prim.Native.Nat.{ℕ, ◌≤◌, ◌<◌}
use mathlib.Core.Path.{◌≡◌, refl, sym, ap, ◌∙◌}
use mathlib.Core.Logic.{inr, ⊎_elim}
use mathlib.Core.Bool.{Bool, true, false, not, ◌&&◌, ◌||◌}
use mathlib.Core.List.Memᴰ.{append_left as in_left}
use mathlib.Core.List.{List, [], ◌∷◌, ◌++◌, flat_map}
use Rattle.std.specs.Prelude.{Option, Some, None}
use native.Mathlib.Omega.{arith}
use lib.Dec.{eqb, ltb}
use lib.ListN.{length, get_or, take, get_or-eq_default}
use borrow.Author.Tests.{lt-ltb, le-ltb, eqb-true, eq-eqb, ne_eqb, not-false}
use Rattle.base.specs.Lists.{any, tabulate, tally, find}
use Rattle.base.specs.Words.{word, signed}
use Rattle.base.specs.Below.{any_below}
use Rattle.base.proofs.Below.{any_fails}
use Rattle.base.proofs.Tests.{bool_cases, never, or_false, or_left, or_right, and_make, less?, eq?}
use Rattle.lgs.specs.Market.{Market, matters, Rivals, ConsistentStages}
use Rattle.lgs.specs.Rule.{interviewed}
use Rattle.lgs.specs.Promises.{matching_of}
use Rattle.lgs.proofs.Matters.{matters_true}
use Rattle.format.specs.Layout.{Row, Entry, is_pair, of_kind, row_at, rows, market_of, entry_at, entries, results_of}
use Rattle.format.specs.Engine.{placed, refused, engine, Outcome}
use Rattle.format.specs.Promises.{Example, SettledExample, Preferred, OtherFares, of_fare}
use Rattle.format.specs.Encoding.{words, row_bytes, case_bytes}
use Rattle.format.specs.Table.{case_of, students_k, workshops_k, pairs_k, case_with, K, book_k, visits_k, answer_k, never_k, answer_never_k, exact}
use Rattle.format.specs.Table.{book_of, book_with, tied_k, answer_tied_k, fares_k, tens_k, answer_paid_k, table, ample, given, expected, Limits, TablesHold}
use Rattle.format.specs.Printed.{unread, readable, program_text, program_prints}
use Rattle.format.proofs.Positions.{pair_says}
use Rattle.format.proofs.Table.{computed}

-- ---- a test for agreeing stages

-- students s and t matter to w, and their stages do not tell as their tiers do
differ : Market → ℕ → ℕ → ℕ → Bool
differ M w s t =
    (matters M w s && matters M w t)
    && ((ltb (M.workshop_tier w s) (M.workshop_tier w t) && not (ltb (M.stage s) (M.stage t)))
    || (eqb (M.workshop_tier w s) (M.workshop_tier w t) && not (eqb (M.stage s) (M.stage t))))

-- they are the students of two pair records of one workshop
meets : Market → Row → Row → Bool
meets M r q = of_kind 3 q && (eqb r.second q.second && differ M r.second r.first q.first)

-- some two records are such
some_differ : List Row → Bool
some_differ rs = any (λ r. of_kind 3 r && any (meets (market_of rs) r) rs) rs

-- of the elements that pass one test, where none passes another
witness : {A : Type 0} (p q : A → Bool) (xs : List A) → any p xs ≡ true → any q xs ≡ false → (x : A) × (p x ≡ true) × (q x ≡ false)
unfolding any
witness p q [] e f = never e refl
witness p q (x ∷ xs) e f =
    let r : (q x ≡ false) × (any q xs ≡ false) = or_false (q x) _ f in
    ⊎_elim (λ (b : p x ≡ true). (x, b, r.0)) (λ (b : p x ≡ false). witness p q xs (rw b at e) r.1) (bool_cases (p x))

module _ (rs : List Row) (alike : some_differ rs ≡ false) where
  abbrev M : Market
  M = market_of rs

  agree : (w s t : ℕ) → M.paired s w ≡ true → M.paired t w ≡ true → differ M w s t ≡ false
  unfolding some_differ meets market_of
  agree w s t e f =
      let r : (r : Row) × (is_pair s w r ≡ true) × ((of_kind 3 r && any (meets M r) rs) ≡ false) =
      witness (is_pair s w) (λ r. of_kind 3 r && any (meets M r) rs) rs e alike in
      let x : (r.0.kind ≡ 3) × (r.0.first ≡ s) × (r.0.second ≡ w) = pair_says s w r.0 r.1 in
      let q : (q : Row) × (is_pair t w q ≡ true) × (meets M r.0 q ≡ false) = witness (is_pair t w) (meets M r.0) rs f (rw x.0 at r.2) in
      let y : (q.0.kind ≡ 3) × (q.0.first ≡ t) × (q.0.second ≡ w) = pair_says t w q.0 q.1 in
      rw (y.0, y.1, y.2, x.1, x.2, eq-eqb w w refl) at q.2

  stages_agree : ConsistentStages (market_of rs) (market_of rs).stage
  unfolding differ
  stages_agree = record { earlier = earlier; together = together }
    where
      apart : (w s t : ℕ) → Rivals M w s t → differ M w s t ≡ false
      apart w s t R = agree w s t (matters_true M w s R.first).1 (matters_true M w t R.second).1

      earlier : (w s t : ℕ) → Rivals M w s t → M.workshop_tier w s < M.workshop_tier w t → M.stage s < M.stage t
      earlier w s t R l =
          ⊎_elim (λ less. less)
          (λ le.
          never
          (and_make (and_make R.first R.second)
          (or_left (ltb (M.workshop_tier w s) (M.workshop_tier w t) && not (ltb (M.stage s) (M.stage t))) _
          (and_make (lt-ltb _ _ l) (ap not (le-ltb (M.stage s) (M.stage t) le)))))
          (apart w s t R))
          (less? (M.stage s) (M.stage t))

      together : (w s t : ℕ) → Rivals M w s t → M.workshop_tier w s ≡ M.workshop_tier w t → M.stage s ≡ M.stage t
      together w s t R e =
          ⊎_elim (λ same. same)
          (λ other.
          never
          (and_make (and_make R.first R.second)
          (or_right (ltb (M.workshop_tier w s) (M.workshop_tier w t) && not (ltb (M.stage s) (M.stage t))) _
          (and_make (eq-eqb _ _ e) (ap not (ne_eqb (M.stage s) (M.stage t) other)))))
          (apart w s t R))
          (eq? (M.stage s) (M.stage t))

-- ---- example K

agrees_k : some_differ (rows K) ≡ false
unfolding some_differ meets differ matters market_of rows row_at word any find tally tabulate K case_with case_of flat_map case_bytes row_bytes words students_k
    workshops_k pairs_k
agrees_k = refl

-- with fares
agrees_tens : some_differ (rows tens_k) ≡ false
unfolding some_differ meets differ matters market_of rows row_at word any find tally tabulate tens_k fares_k case_of flat_map case_bytes row_bytes words students_k
    workshops_k
agrees_tens = refl

-- a run on it that lists K's visits, one of them of a pair that is not placed
on_k : (case book places : List ℕ) (fares : ℕ)
    → some_differ (rows case) ≡ false
    → engine case book exact ≡ placed places visits_k fares
    → (s : ℕ) × (w : ℕ) × (interviewed visits_k s w ≡ true) × (matching_of places s ≡ w → ⊥)
    → Example case book exact
on_k case book places fares agrees answer unplaced =
    record {
      places = places;
      interviews = visits_k;
      fares = fares;
      answer = answer;
      consistent = stages_agree (rows case) agrees;
      listed_unplaced = unplaced;
    }

pub example_k : Example K book_k exact
unfolding answer_k visits_k interviewed any
example_k = on_k K book_k (1 ∷ 0 ∷ 2 ∷ []) 0 agrees_k computed.exactly (1, 2, refl, λ e. omega arith)

-- two of the visits ended in never
pub example_never_k : Example K never_k exact
unfolding answer_never_k visits_k interviewed any
example_never_k = on_k K never_k (1 ∷ 0 ∷ 0 ∷ []) 0 agrees_k computed.exactly_never (2, 2, refl, λ e. omega arith)

-- two of the visits brought equal marks of a workshop
pub example_tied_k : Example K tied_k exact
unfolding answer_tied_k visits_k interviewed any
example_tied_k = on_k K tied_k (1 ∷ 2 ∷ 0 ∷ []) 0 agrees_k computed.exactly_tied (3, 2, refl, λ e. omega arith)

-- the visits cost something
pub example_fares_k : Example tens_k book_k exact
unfolding answer_paid_k visits_k interviewed any
example_fares_k = on_k tens_k book_k (1 ∷ 0 ∷ 2 ∷ []) 21011 agrees_tens computed.exactly_paid (1, 2, refl, λ e. omega arith)

-- of students 2 and 3 of its group 2, with equal marks, workshop 2 prefers 2, who has the lower lot
preferred_k : Preferred K tied_k 2 2 3
unfolding market_of results_of rows row_at entries entry_at word signed any find tally tabulate K tied_k case_with case_of book_with book_of flat_map case_bytes
    row_bytes words students_k workshops_k pairs_k
preferred_k =
    record { pair = refl; pair' = refl; met = refl; met' = refl; tier = refl; above = inr (refl, omega arith) }

-- K after two visits, and two books that go on from there: the answers are rows of the table
row : ℕ → List Outcome → Outcome
row i answers = get_or answers i (refused 0 0)

-- the records after the first two
rest_k : (book : List ℕ) → List Entry
rest_k book = entry_at book 2 ∷ entry_at book 3 ∷ []

more_k : (entries book_k ≡ entries (take 16 book_k) ++ rest_k book_k)
    × (entries (book_with 5 4 7 4 6) ≡ entries (take 16 book_k) ++ rest_k (book_with 5 4 7 4 6))
unfolding rest_k entries entry_at word signed tabulate book_k book_with book_of flat_map words
more_k = (refl, refl)

settled_k : SettledExample K (take 16 book_k) book_k (book_with 5 4 7 4 6) ample 2 1 2
unfolding row given expected table answer_k market_of rows row_at word any find tally tabulate K case_with case_of flat_map case_bytes row_bytes words students_k
    workshops_k pairs_k
settled_k =
    record {
      consistent = stages_agree (rows K) agrees_k;
      stops = (2, (1, 1) ∷ (1, 2) ∷ [], 0, ap (row 2) computed.answers);
      more' = λ e m. rw more_k.0 (in_left (rest_k book_k) m);
      more'' = λ e m. rw more_k.1 (in_left (rest_k (book_with 5 4 7 4 6)) m);
      places' = 1 ∷ 0 ∷ 2 ∷ [];
      places'' = 1 ∷ 2 ∷ 0 ∷ [];
      answer' = (visits_k, 0, ap (row 0) computed.answers);
      answer'' = (visits_k, 0, ap (row 3) computed.answers);
      student = (omega arith, omega arith);
      earlier = omega arith;
      unsettled = λ e. omega arith;
    }

-- K with fares is K but for these: no other byte differs
differs : ℕ → Bool
differs k = not (of_fare K k) && not (eqb (get_or tens_k k 0) (get_or K k 0))

none_differs : any_below differs 176 ≡ false
unfolding any_below differs K tens_k fares_k case_with case_of flat_map case_bytes row_bytes words students_k workshops_k pairs_k
none_differs = refl

both_long : (length K ≡ 176) × (length tens_k ≡ 176)
unfolding K tens_k fares_k case_with case_of flat_map case_bytes row_bytes words students_k workshops_k pairs_k
both_long = (refl, refl)

other_k : OtherFares K tens_k
unfolding differs
other_k =
    record {
      long = both_long.1 ∙ sym both_long.0;
      bytes = λ k e.
          ⊎_elim
          (λ (l : k < 176). eqb-true _ _ (not-false (eqb (get_or tens_k k 0) (get_or K k 0)) (rw e at (any_fails differs 176 none_differs k l))))
          (λ (l : 176 ≤ k). get_or-eq_default tens_k 0 (omega (arith, both_long.1)) ∙ sym (get_or-eq_default K 0 (omega (arith, both_long.0))))
          (less? k 176);
    }

-- ---- the program's limit
limits : Limits
unfolding program_prints
limits =
    record {
      read = λ case book l m. rw (le-ltb 65536 (length case) l, le-ltb 65536 (length book) m);
      long_case = λ case book l. rw (lt-ltb 65536 (length case) (omega arith));
      long_book = long_book_lem;
    }
  where
    unread_book : (case : Option (List ℕ)) → program_text case None ≡ unread
    unread_book None = refl
    unread_book (Some case) = refl

    long_book_lem : (case : Option (List ℕ)) (book : List ℕ) → 65537 ≤ length book → program_prints case (Some book) ≡ unread
    long_book_lem case book l = rw (lt-ltb 65536 (length book) (omega arith)) (unread_book (readable case))

-- ---- the tables of proved cases
pub tables_hold : TablesHold
tables_hold =
    record {
      computed = computed;
      limits = limits;
      agreeing = example_k;
      agreeing_never = example_never_k;
      agreeing_lots = example_tied_k;
      agreeing_fares = example_fares_k;
      otherwise_paid = other_k;
      parted = preferred_k;
      settling = settled_k;
    }
