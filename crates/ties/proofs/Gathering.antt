-- A student's records, gathered pair by pair with their keys: one pair more, all her pairs, all students.
use Prim.Native.Nat.{ℕ, ◌+◌, ◌-◌, ◌*◌, ◌≤◌, ◌<◌, max}
use mathlib.Core.Path.{◌≡◌, sym, ap, ◌∙◌}
use mathlib.Core.Logic.{◌⊎◌, inl, inr, ⊎_elim}
use mathlib.Core.Bool.{true, false}
use mathlib.Core.List.{List, [], ◌∷◌, ◌++◌}
use Rattle.std.specs.Prelude.{Some, None}
use native.Mathlib.Omega.{arith}
use lib.ListN.{length, get_or}
use lib.Dec.{ltb}
use borrow.Author.Tests.{lt-ltb, le-ltb}
use Rattle.std.specs.Bool.{then_some}
use Rattle.std.proofs.lemmas.List.{length_push}
use Rattle.base.specs.Below.{any_below}
use Rattle.base.specs.Search.{first_bad}
use Rattle.base.proofs.Tests.{less?, is_false}
use Rattle.base.proofs.Below.{any_before, any_found, any_first}
use Rattle.base.proofs.Search.{scan_none, scan_found}
use Rattle.format.specs.Layout.{rows, row_at, entries, entry_count, entry_at}
use Rattle.format.specs.Refusals.{bad_tie, student_ties}
use Rattle.format.specs.Engine.{market_in}
use Rattle.tables.specs.Table.{Stretch}
use Rattle.book_tests.proofs.Laws.{entry_is}
use Rattle.ties.specs.declared.Keyed.{Keyed}
use Rattle.ties.specs.Ties.{Indexed, tested, tie, blank, Lowered, LoweredBy}
use Rattle.ties.proofs.Interviews.{key_of, place_of, Counted, ties_say, ties_make, entry_named}
use Rattle.ties.proofs.Interviews.{at_none, at_only, at_inside, at_counted, at_student, at_place, at_key}
use Rattle.ties.proofs.Lowering.{at_old, at_new, lowered_none, lowered_as, lowered_then}

-- this record of student s counts, and has its key; its pair stands before p
pub record Noted (case book : List ℕ) (s p : ℕ) (this : Keyed) : Type 0 where
  pub inside : this.entry < entry_count book
  pub student : (entry_at book this.entry).student ≡ s
  pub counted : Counted book this.entry
  pub before : place_of case book this.entry < p
  pub same : this.key ≡ key_of case book this.entry

-- these are the records of student s that count, as far as their pairs stand before p
pub record Gathered (case book : List ℕ) (s p : ℕ) (noted : List Keyed) : Type 0 where
  pub own : (j : ℕ) → j < length noted → Noted case book s p (get_or noted j blank)
  pub all : (i : ℕ) → i < entry_count book → (entry_at book i).student ≡ s → Counted book i → place_of case book i < p
      → (j : ℕ) × (j < length noted) × ((get_or noted j blank).entry ≡ i)

-- both are hers, and their pairs stand before p
abbrev pub Before : List ℕ → List ℕ → ℕ → ℕ → ℕ → ℕ → Type 0
Before case book s p i j = ((entry_at book i).student ≡ s) × (place_of case book i < p) × (place_of case book j < p)

noted_on : {case book : List ℕ} {s p : ℕ} {this : Keyed} → Noted case book s p this → Noted case book s (p + 1) this
noted_on h =
    record { inside = h.inside; student = h.student; counted = h.counted; before = omega (arith, h.before); same = h.same }

module _ {case book : List ℕ} {s p : ℕ} where
  -- her first pair stands at p, or she has none
  module _ (ahead : (i : ℕ) → i < entry_count book → (entry_at book i).student ≡ s → p ≤ place_of case book i) where
    pub gather_start : Gathered case book s p []
    gather_start = record { own = λ j l. absurd (omega arith); all = λ i l e c u. absurd (omega (arith, ahead i l e)) }

    pub before_start : (low : ℕ) → Lowered case book (Before case book s p) low low
    before_start low = lowered_none case book (Before case book s p) low (λ i j l r. omega (arith, r.1, ahead i l r.0))

  module _ {noted : List Keyed} (G : Gathered case book s p noted) where
    -- no record that counts has the pair at p
    module _ (free : (i : ℕ) → i < entry_count book → Counted book i → place_of case book i ≡ p → ⊥) where
      pub gather_skip : Gathered case book s (p + 1) noted
      gather_skip =
          record {
            own = λ j l. noted_on (G.own j l);
            all = λ i l e c u.
                ⊎_elim (λ (q : place_of case book i < p). G.all i l e c q) (λ (q : p ≤ place_of case book i). absurd (free i l c (omega arith)))
                (less? (place_of case book i) p);
          }

      pub before_skip : {low after : ℕ} → Lowered case book (Before case book s p) low after → Lowered case book (Before case book s (p + 1)) low after
      before_skip h = lowered_as case book (Before case book s p) (Before case book s (p + 1)) h go
        where
          go : (i j : ℕ) → i < entry_count book → j < i → tie case book i j ≡ true → Before case book s (p + 1) i j → Before case book s p i j
          go i j l u t r =
              let d = ties_say case book i j t in
              (r.0, less i l d.counted r.1, less j (omega arith) d.other r.2)
            where
              less : (k : ℕ) → k < entry_count book → Counted book k → place_of case book k < p + 1 → place_of case book k < p
              less k v c q =
                  ⊎_elim (λ (a : place_of case book k < p). a) (λ (a : p ≤ place_of case book k). absurd (free k v c (omega arith)))
                  (less? (place_of case book k) p)

    -- this record, which counts, has it, and no other does
    module _ {this : Keyed} (N : Noted case book s (p + 1) this) (at : place_of case book this.entry ≡ p)
        (only : (k : ℕ) → k < entry_count book → place_of case book k ≡ p → k ≡ this.entry) where
      pub gather_on : Gathered case book s (p + 1) (noted ++ this ∷ [])
      gather_on =
          record {
            own = λ j l.
                ⊎_elim (λ (q : j < length noted). rw (at_old noted this j q) (noted_on (G.own j q)))
                (λ (q : length noted ≤ j). rw (at_new noted this j q l) N)
                (less? j (length noted));
            all = λ k l e c u.
                ⊎_elim
                (λ (q : place_of case book k < p).
                let a = G.all k l e c q in
                (a.0, omega (arith, a.1, length_push noted this), ap (λ (x : Keyed). x.entry) (at_old noted this a.0 a.1) ∙ a.2))
                (λ (q : p ≤ place_of case book k).
                let m : length noted < length (noted ++ this ∷ []) = omega (arith, length_push noted this) in
                (length noted, m, ap (λ (x : Keyed). x.entry) (at_new noted this (length noted) (omega arith) m) ∙ sym (only k l (omega arith))))
                (less? (place_of case book k) p);
          }

      module _ {low mid after : ℕ} (h : Lowered case book (Before case book s p) low mid) (b : LoweredBy noted this mid after) where
        -- a record before p that has the key of this one
        met_with : (k : ℕ) → k < entry_count book → (entry_at book k).student ≡ s → Counted book k → place_of case book k < p
            → key_of case book k ≡ key_of case book this.entry → after ≤ max this.entry k
        met_with k l e c u q =
            let a = G.all k l e c u in
            let f : (get_or noted a.0 blank).key ≡ this.key =
            (G.own a.0 a.1).same ∙ ap (key_of case book) a.2 ∙ q ∙ sym N.same in
            rw a.2 at (b.below a.0 a.1 f)

        below : (k j : ℕ) → k < entry_count book → j < k → Before case book s (p + 1) k j → tie case book k j ≡ true → after ≤ k
        below k j l u r t =
            let d = ties_say case book k j t in
            let e : (entry_at book j).student ≡ s = d.student ∙ r.0 in
            ⊎_elim
            (λ (x : place_of case book k < p).
            ⊎_elim (λ (y : place_of case book j < p). omega (arith, h.below k j l u (r.0, x, y) t, b.least))
            (λ (y : p ≤ place_of case book j).
            let z : j ≡ this.entry = only j (omega arith) (omega (arith, r.2)) in
            omega (arith, z, met_with k l r.0 d.counted x (sym d.key ∙ ap (key_of case book) z)))
            (less? (place_of case book j) p))
            (λ (x : p ≤ place_of case book k).
            let z : k ≡ this.entry = only k l (omega (arith, r.1)) in
            let v : place_of case book j < p =
            ⊎_elim (λ (y : place_of case book j < p). y)
            (λ (y : p ≤ place_of case book j). absurd (omega (arith, z, only j (omega arith) (omega (arith, r.2)))))
            (less? (place_of case book j) p) in
            omega (arith, z, met_with j (omega arith) e d.other v (d.key ∙ ap (key_of case book) z)))
            (less? (place_of case book k) p)

        tied_with : (j : ℕ) → j < length noted → (get_or noted j blank).key ≡ this.key → after ≡ max this.entry (get_or noted j blank).entry
            → (k : ℕ) × (j : ℕ) × (k < entry_count book) × (j < k) × (tie case book k j ≡ true) × (after ≡ k)
        tied_with j l e a =
            let o = G.own j l in
            let i = this.entry in
            let k = (get_or noted j blank).entry in
            let q : key_of case book k ≡ key_of case book i = sym o.same ∙ e ∙ N.same in
            let f : (entry_at book k).student ≡ (entry_at book i).student = o.student ∙ sym N.student in
            ⊎_elim (λ (u : k < i). (i, k, N.inside, u, ties_make case book i k f q N.counted, omega arith))
            (λ (u : i ≤ k).
            ⊎_elim (λ (v : i < k). (k, i, o.inside, v, ties_make case book k i (sym f) (sym q) o.counted, omega arith))
            (λ (v : k ≤ i). let z : k ≡ i = omega arith in absurd (omega (arith, o.before, at, ap (place_of case book) z)))
            (less? i k))
            (less? k i)

        pub before_on : Lowered case book (Before case book s (p + 1)) low after
        before_on =
            record {
              least = omega (arith, h.least, b.least);
              below = below;
              reached =
                  ⊎_elim (λ (q : after ≡ mid). rw q h.reached) (λ r. inr (tied_with r.0 r.1 r.2 r.3)) b.reached;
            }

  -- all her pairs stand before p
  pub before_all : ((i : ℕ) → i < entry_count book → (entry_at book i).student ≡ s → place_of case book i < p)
      → {low after : ℕ}
      → Lowered case book (Before case book s p) low after
      → Lowered case book (λ i j. (entry_at book i).student ≡ s) low after
  before_all f h =
      lowered_as case book (Before case book s p) (λ i j. (entry_at book i).student ≡ s) h
      (λ i j l u t e. (e, f i l e, f j (omega arith) ((ties_say case book i j t).student ∙ e)))

-- ---- a turn: her pair record p, for which `tested_at` gives what `tested` is
module _ {case book index : List ℕ} {first : ℕ} (I : Indexed case book index first) {s begin many : ℕ} (S : Stretch case s begin many) {p : ℕ}
    (from : begin ≤ p) (to : p < begin + many) {noted : List Keyed} (G : Gathered case book s p noted)
    {low mid : ℕ} (h : Lowered case book (Before case book s p) low mid) where
  pub turn_skip : tested book (get_or index (p - first) 0) ≡ None
      → Gathered case book s (p + 1) noted × Lowered case book (Before case book s (p + 1)) low mid
  turn_skip z =
      let free = at_none I S p from to z in
      (gather_skip G free, before_skip G free h)

  module _ (this : Keyed) (e : tested book (get_or index (p - first) 0) ≡ Some this.entry)
      (c : this.key ≡ (row_at case p).third * 65536 + (entry_at book this.entry).student_score) where
    at : place_of case book this.entry ≡ p
    at = at_place I S p from to this.entry e

    note : Noted case book s (p + 1) this
    note =
        record {
          inside = at_inside I S p from to this.entry e;
          student = at_student I S p from to this.entry e;
          counted = at_counted I S p from to this.entry e;
          before = omega (arith, at);
          same = c ∙ at_key I S p from to this.entry e;
        }

    pub turn_on_lem : {after : ℕ} → LoweredBy noted this mid after
        → Gathered case book s (p + 1) (noted ++ this ∷ []) × Lowered case book (Before case book s (p + 1)) low after
    turn_on_lem b =
        let only = at_only I S p from to this.entry e in
        (gather_on G note at only, before_on G note at only h b)

-- ---- all students
module _ {case book index : List ℕ} {first : ℕ} (I : Indexed case book index first) where
  pub students_start : (low : ℕ) → Lowered case book (λ i j. (entry_at book i).student < 1) low low
  students_start low =
      lowered_none case book (λ i j. (entry_at book i).student < 1) low (λ i j l r. omega (arith, r, (entry_named I i l).0))

  pub students_on : (s : ℕ) {low mid after : ℕ}
      → Lowered case book (λ i j. (entry_at book i).student < s) low mid
      → Lowered case book (λ i j. (entry_at book i).student ≡ s) mid after
      → Lowered case book (λ i j. (entry_at book i).student < s + 1) low after
  students_on s h g =
      lowered_then case book (λ i j. (entry_at book i).student < s) (λ i j. (entry_at book i).student ≡ s) (λ i j. (entry_at book i).student < s + 1)
      h g (λ i j l r. split (entry_at book i).student r)
    where
      split : (a : ℕ) → a < s + 1 → (a < s) ⊎ (a ≡ s)
      split a r = ⊎_elim (λ (l : a < s). inl l) (λ (l : s ≤ a). inr (omega arith)) (less? a s)

  tie_is : (i : ℕ) → i < entry_count book → bad_tie (rows case) (entries book) i ≡ any_below (tie case book i) i
  unfolding bad_tie entries
  tie_is i l =
      rw (entry_is book i l) (any_before (entry_at book) (student_ties (rows case) (entries book) (entry_at book i)) (entry_count book) i (omega arith))

  module _ {s : ℕ} (last : (market_in case).students < s) {low : ℕ} (h : Lowered case book (λ i j. (entry_at book i).student < s) (entry_count book) low) where
    -- no record below ties
    clear : (k : ℕ) → k < entry_count book → k < low → bad_tie (rows case) (entries book) k ≡ false
    clear k l u =
        is_false (bad_tie (rows case) (entries book) k)
        (λ t.
        let f = any_first (tie case book k) k (sym (tie_is k l) ∙ t) in
        omega (arith, h.below k f.0 l f.1 (omega (arith, (entry_named I k l).1)) f.2))

    found : (i j : ℕ) → i < entry_count book → j < i → tie case book i j ≡ true → low ≡ i → first_bad (bad_tie (rows case) (entries book))
        (entry_count book) ≡ Some i
    found i j l u t e =
        scan_found (bad_tie (rows case) (entries book)) i (entry_count book)
        (scan_none (bad_tie (rows case) (entries book)) i (λ k q. clear k (omega arith) (omega arith)))
        (tie_is i l ∙ any_found (tie case book i) j i u t)
        l

    -- a record below the end, or none
    pub students_all : then_some (ltb low (entry_count book)) low ≡ first_bad (bad_tie (rows case) (entries book)) (entry_count book)
    students_all =
        ⊎_elim
        (λ (q : low ≡ entry_count book).
        rw (q, le-ltb (entry_count book) (entry_count book) (omega arith))
        (sym (scan_none (bad_tie (rows case) (entries book)) (entry_count book) (λ k l. clear k l (omega arith)))))
        (λ r. rw (r.5, lt-ltb r.0 (entry_count book) r.2) (sym (found r.0 r.1 r.2 r.3 r.4 r.5)))
        h.reached
