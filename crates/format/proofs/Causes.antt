-- The first cause that finds anything is the refusal, with the first place that it finds; there is none exactly where no cause finds anything.
-- By induction on the table, whatever its causes are; then of the engine's table.
use Prim.Native.Nat.{ℕ, ◌<◌}
use mathlib.Core.Path.{◌≡◌, refl, sym, ap, ◌∙◌}
use mathlib.Core.Logic.{⊎_elim}
use mathlib.Core.Bool.{Bool, true, false}
use Rattle.std.specs.Prelude.{Option, Some, None}
use mathlib.Core.List.{List, [], ◌∷◌, ◌++◌, map}
use mathlib.Core.List.Memᴰ.{cases_cons}
use mathlib.Core.List.Memᴰ.{head as here}
use mathlib.Core.List.Memᴰ.{not-nil}
use mathlib.Core.List.Memᴰ.{tail as later}
use mathlib.Core.List.{Memᴰ as Mem}
use mathlib.Core.List.Memᴰ.{append_cases}
use native.Mathlib.Omega.{arith}
use lib.Dec.{eqb}
use borrow.Author.Tests.{eq-eqb}
use Rattle.base.specs.Lists.{any}
use Rattle.base.specs.Search.{first_bad}
use Rattle.base.proofs.Tests.{never, or_left, or_right, or_false}
use Rattle.base.proofs.Search.{scan_none, scan_found, first_below, first_passes, first_fails, none_fails}
use Rattle.format.specs.Layout.{rows, entries, row_count, entry_count}
use Rattle.format.specs.Causes.{Test, whole, each, Cause, finds, first_cause, First, Finds, NothingFound, FoundFirst}
use Rattle.format.specs.Refusals.{Room, bad_form, bad_order, bad_range, bad_lot, bad_counts, bad_room, bad_pair, bad_scores, bad_repeat, bad_tie}
use Rattle.format.specs.Refusals.{case_causes, room_causes, book_causes, causes, refusal}
use Rattle.format.specs.Promises.{Valid, Refused, Twelve}
use Rattle.format.proofs.Reading.{Passed}

some_none : {A : Type 0} {B : Type 0} (x : B) → Some x ≡ None → A
some_none x e = let z : ◌≡◌ {A = ℕ} 0 1 = cc in absurd (omega arith)

-- a refusal has one number and one place
same : (r q : ℕ × ℕ) → Some r ≡ Some q → (r.0 ≡ q.0) × (r.1 ≡ q.1)
same r q e = let p : r ≡ q = cc in (ap (λ (x : ℕ × ℕ). x.0) p, ap (λ (x : ℕ × ℕ). x.1) p)

-- ---- one test
module _ (bad : ℕ → Bool) (n i : ℕ) where
  first_of : first_bad bad n ≡ Some i → First bad n i
  first_of e = record { within = first_below bad n i e; found = first_passes bad n i e; earlier = first_fails bad n i e }

  of_first : First bad n i → first_bad bad n ≡ Some i
  of_first f = scan_found bad i n (scan_none bad i f.earlier) f.found f.within

finds_of : (t : Test) (i : ℕ) → finds t ≡ Some i → Finds t i
finds_of (whole true) i e = (refl, cc)
finds_of (whole false) i e = some_none i (sym e)
finds_of (each n bad) i e = first_of bad n i e

of_finds : (t : Test) (i : ℕ) → Finds t i → finds t ≡ Some i
of_finds (whole bad) i f = rw (f.0, f.1)
of_finds (each n bad) i f = of_first bad n i f

finds_none : (t : Test) → finds t ≡ None → (i : ℕ) → Finds t i → ⊥
finds_none t e i f = some_none i (sym (of_finds t i f) ∙ e)

-- every record passes a test that finds none
pub all_pass : (bad : ℕ → Bool) (n : ℕ) → ((i : ℕ) → First bad n i → ⊥) → (k : ℕ) → k < n → bad k ≡ false
all_pass bad n nope = go (first_bad bad n) refl
  where
    go : (o : Option ℕ) → first_bad bad n ≡ o → (k : ℕ) → k < n → bad k ≡ false
    go None e = none_fails bad n e
    go (Some i) e = absurd (nope i (first_of bad n i e))

-- ---- a table

pub nothing_more : (c : Cause) (cs : List Cause) → ((i : ℕ) → Finds c.1 i → ⊥) → NothingFound cs → NothingFound (c ∷ cs)
nothing_more c cs f rest d m i g = ⊎_elim (λ (e : d ≡ c). f i (rw e at g)) (λ k. rest d k i g) (cases_cons m)

pub nothing_both : (cs ds : List Cause) → NothingFound cs → NothingFound ds → NothingFound (cs ++ ds)
nothing_both cs ds n o c m i f = ⊎_elim (λ a. n c a i f) (λ a. o c a i f) (append_cases cs m)

pub table_none : (cs : List Cause) → first_cause cs ≡ None → NothingFound cs
table_none [] e = λ c m i f. not-nil m
table_none ((k, t) ∷ cs) e = go (finds t) refl (λ r. table_none cs r)
  where
    go : (o : Option ℕ) → finds t ≡ o → (first_cause cs ≡ None → NothingFound cs) → NothingFound ((k, t) ∷ cs)
    go None f rest = nothing_more (k, t) cs (finds_none t f) (rest (rw (f, first_cause) at e))
    go (Some i) f rest = some_none (k, i) (rw (f, first_cause) at e)

pub none_table : (cs : List Cause) → NothingFound cs → first_cause cs ≡ None
none_table [] n = refl
none_table ((k, t) ∷ cs) n = go (finds t) refl (none_table cs (λ c m. n c (later m)))
  where
    go : (o : Option ℕ) → finds t ≡ o → first_cause cs ≡ None → first_cause ((k, t) ∷ cs) ≡ None
    go None f rest = rw (f, first_cause) rest
    go (Some i) f rest = absurd (n (k, t) (here refl) i (finds_of t i f))

pub table_some : (cs : List Cause) (k i : ℕ) → first_cause cs ≡ Some (k, i) → FoundFirst cs k i
table_some [] k i e = some_none (k, i) (sym e)
table_some ((j, t) ∷ cs) k i e = go (finds t) refl (λ r. table_some cs k i r)
  where
    go : (o : Option ℕ) → finds t ≡ o → (first_cause cs ≡ Some (k, i) → FoundFirst cs k i) → FoundFirst ((j, t) ∷ cs) k i
    go None f rest =
        let r : FoundFirst cs k i = rest (rw (f, first_cause) at e) in
        record {
          before = (j, t) ∷ r.before;
          test = r.test;
          after = r.after;
          table = ap (λ l. (j, t) ∷ l) r.table;
          found = r.found;
          nothing = nothing_more (j, t) r.before (finds_none t f) r.nothing;
        }
    go (Some h) f rest =
        let p : (j ≡ k) × (h ≡ i) = same (j, h) (k, i) (rw (f, first_cause) at e) in
        record {
          before = [];
          test = t;
          after = cs;
          table = ap (λ n. (n, t) ∷ cs) p.0;
          found = rw p.1 at (finds_of t h f);
          nothing = λ c m. absurd (not-nil m);
        }

pub some_table : (cs : List Cause) (k i : ℕ) → FoundFirst cs k i → first_cause cs ≡ Some (k, i)
some_table cs k i r = rw r.table (behind r.before r.nothing)
  where
    behind : (before : List Cause) → NothingFound before → first_cause (before ++ ((k, r.test) ∷ r.after)) ≡ Some (k, i)
    behind [] n = rw (of_finds r.test i r.found, first_cause)
    behind (c ∷ before) n = go (finds c.1) refl (behind before (λ d m. n d (later m)))
      where
        go : (o : Option ℕ) → finds c.1 ≡ o → first_cause (before ++ ((k, r.test) ∷ r.after)) ≡ Some (k, i)
            → first_cause (c ∷ (before ++ ((k, r.test) ∷ r.after))) ≡ Some (k, i)
        go None f rest = rw (f, first_cause) rest
        go (Some j) f rest = absurd (n c (here refl) j (finds_of c.1 j f))

-- ---- two tables in one

-- what the first part finds is found, and where it finds nothing the second is left
pub first_left : (cs ds : List Cause) (r : ℕ × ℕ) → first_cause cs ≡ Some r → first_cause (cs ++ ds) ≡ Some r
first_left [] ds r e = some_none r (sym e)
first_left ((k, t) ∷ cs) ds r e = go (finds t) refl (λ q. first_left cs ds r q)
  where
    go : (o : Option ℕ) → finds t ≡ o → (first_cause cs ≡ Some r → first_cause (cs ++ ds) ≡ Some r) → first_cause ((k, t) ∷ (cs ++ ds)) ≡ Some r
    go None f rest = rw (f, first_cause) (rest (rw (f, first_cause) at e))
    go (Some i) f rest = rw (f, first_cause) (rw (f, first_cause) at e)

pub first_right : (cs ds : List Cause) → first_cause cs ≡ None → first_cause (cs ++ ds) ≡ first_cause ds
first_right [] ds e = refl
first_right ((k, t) ∷ cs) ds e = go (finds t) refl (λ q. first_right cs ds q)
  where
    go : (o : Option ℕ) → finds t ≡ o → (first_cause cs ≡ None → first_cause (cs ++ ds) ≡ first_cause ds) → first_cause ((k, t) ∷ (cs ++ ds)) ≡ first_cause ds
    go None f rest = rw (f, first_cause) (rest (rw (f, first_cause) at e))
    go (Some i) f rest = some_none (k, i) (rw (f, first_cause) at e)

-- ---- the number of a refusal

abbrev pub numbers : List Cause → List ℕ
numbers = map (λ (c : Cause). c.0)

-- the number given passes no test that no number of the table passes
pub number_among : (p : ℕ → Bool) (cs : List Cause) (k i : ℕ) → any p (numbers cs) ≡ false → first_cause cs ≡ Some (k, i) → p k ≡ false
unfolding any
number_among p [] k i f e = some_none (k, i) (sym e)
number_among p ((j, t) ∷ cs) k i f e = go (finds t) refl (λ r. number_among p cs k i (or_false (p j) _ f).1 r)
  where
    go : (o : Option ℕ) → finds t ≡ o → (first_cause cs ≡ Some (k, i) → p k ≡ false) → p k ≡ false
    go None h rest = rest (rw (h, first_cause) at e)
    go (Some h) q rest = ap p (sym (same (j, h) (k, i) (rw (q, first_cause) at e)).0) ∙ (or_false (p j) _ f).0

-- a number that no cause of the table has is not given
pub other_number : (n : ℕ) (cs : List Cause) (k i : ℕ) → any (eqb n) (numbers cs) ≡ false → first_cause cs ≡ Some (k, i) → k ≡ n → ⊥
other_number n cs k i f e q = never (eq-eqb n k (sym q)) (number_among (eqb n) cs k i f e)

-- a number that one cause has is given where that cause is the first to find anything
module _ (cs ds : List Cause) (k : ℕ) (t : Test) (i : ℕ) where
  pub only_number : any (eqb k) (numbers cs) ≡ false → any (eqb k) (numbers ds) ≡ false → first_cause (cs ++ ((k, t) ∷ ds)) ≡ Some (k, i)
      → NothingFound cs × Finds t i
  only_number f g e = before (first_cause cs) refl
    where
      at : (o : Option ℕ) → finds t ≡ o → first_cause ((k, t) ∷ ds) ≡ Some (k, i) → Finds t i
      at None q r = absurd (other_number k ds k i g (rw (q, first_cause) at r) refl)
      at (Some h) q r = rw (same (k, h) (k, i) (rw (q, first_cause) at r)).1 at (finds_of t h q)

      before : (o : Option (ℕ × ℕ)) → first_cause cs ≡ o → NothingFound cs × Finds t i
      before None q = (table_none cs q, at (finds t) refl (sym (first_right cs ((k, t) ∷ ds) q) ∙ e))
      before (Some (j, h)) q = absurd (other_number k cs j h f q (same (j, h) (k, i) (sym (first_left cs ((k, t) ∷ ds) (j, h) q) ∙ e)).0)

  pub number_only : NothingFound cs → Finds t i → first_cause (cs ++ ((k, t) ∷ ds)) ≡ Some (k, i)
  number_only nothing found =
      some_table (cs ++ ((k, t) ∷ ds)) k i (record { before = cs; test = t; after = ds; table = refl; found = found; nothing = nothing })

-- ---- the engine's table
module _ (case book : List ℕ) (room : Room) where
  pub refusal_some : (k i : ℕ) → refusal case book room ≡ Some (k, i) → Refused case book room k i
  unfolding refusal
  refusal_some k i e = table_some (causes case book room) k i e

  pub some_refusal : (k i : ℕ) → Refused case book room k i → refusal case book room ≡ Some (k, i)
  unfolding refusal
  some_refusal k i r = some_table (causes case book room) k i r

  pub refusal_none : refusal case book room ≡ None → Valid case book room
  unfolding refusal
  refusal_none e = table_none (causes case book room) e

  pub none_refusal : Valid case book room → refusal case book room ≡ None
  unfolding refusal
  none_refusal valid = none_table (causes case book room) valid

  -- where no cause finds anything, every record passes, and so does the room
  module _ (valid : Valid case book room) where
    pub passed : Passed case book
    unfolding causes case_causes room_causes book_causes
    passed =
        record {
          form = all_pass (bad_form (rows case)) (row_count case) (valid _ (later (here refl)));
          order = all_pass (bad_order (rows case)) (row_count case) (valid _ (later (later (here refl))));
          range = all_pass (bad_range (rows case)) (row_count case) (valid _ (later (later (later (later (here refl))))));
          lots = all_pass (bad_lot (rows case)) (row_count case) (valid _ (later (later (later (later (later (here refl)))))));
          pair = all_pass (bad_pair (rows case) (entries book)) (entry_count book) (valid _ (in_book (later (here refl))));
          scores = all_pass (bad_scores (rows case) (entries book)) (entry_count book) (valid _ (in_book (later (later (here refl)))));
          repeat = all_pass (bad_repeat (rows case) (entries book)) (entry_count book) (valid _ (in_book (later (later (later (here refl))))));
          tie = all_pass (bad_tie (rows case) (entries book)) (entry_count book) (valid _ (in_book (later (later (later (later (here refl)))))));
        }
      where
        in_book : {c : Cause} → Mem c (book_causes case book) → Mem c (causes case book room)
        in_book m = later (later (later (later (later (later (later m))))))

    pub counts_pass : bad_counts (rows case) ≡ true → ⊥
    unfolding causes case_causes room_causes book_causes
    counts_pass b = valid (4, whole (bad_counts (rows case))) (later (later (later (here refl)))) 0 (b, refl)

    pub room_passes : bad_room (rows case) room ≡ true → ⊥
    unfolding causes case_causes room_causes book_causes
    room_passes b = valid (6, whole (bad_room (rows case) room)) (later (later (later (later (later (later (here refl))))))) 0 (b, refl)

pub twelve : Twelve
unfolding causes case_causes room_causes book_causes
twelve case book room = refl
