-- What the code does to the lent copy, record by record.
use Prim.Native.Nat.{ℕ, zero, suc, ◌+◌, ◌-◌, ◌*◌, ◌/◌, ◌%◌, ◌≤◌, ◌<◌}
use mathlib.Core.Path.{◌≡◌, refl, sym, ap, ◌∙◌, subst}
use mathlib.Core.Logic.{◌⊎◌, inl, inr, ⊎_elim}
use mathlib.Core.Bool.{true, cond, ◌&&◌}
use mathlib.Core.List.{List, map}
use native.Mathlib.Omega.{arith}
use borrow.Author.Tests.{eq-eqb, ne_eqb, le-leb, lt-leb}
use lib.Dec.{eqb, leb}
use lib.ListN.{length, get_or, set, drop, length-set, length-map, get_or-append, get_or-eq_default}
use lib.Seq.{ext_get_or, get_or-set_same, get_or-set_other}
use Rattle.base.specs.Lists.{tabulate}
use Rattle.base.proofs.Tests.{eq?, less?, and_make}
use Rattle.base.proofs.Below.{tabulate_length, tabulate_at}
use Rattle.format.specs.Layout.{Row, row_at, rows, row_count, no_row, is_pair}
use Rattle.format.specs.Encoding.{case_bytes, Bytes}
use Rattle.format.specs.Causes.{NothingFound}
use Rattle.format.specs.Refusals.{case_causes}
use Rattle.format.specs.Engine.{market_in}
use Rattle.format.specs.Buffers.{with_head}
use Rattle.format.proofs.Encoding.{case_length}
use Rattle.format.proofs.Positions.{student_place, student_from, places, pair_only, pair_names}
use Rattle.format.proofs.Positions.{pair_there as in-market}
use Rattle.format.proofs.Cases.{case_whole, case_clean}
use Rattle.records.specs.Records.{pair_place}
use Rattle.tables.specs.Table.{Stretch}
use Rattle.tables.proofs.Reading.{pair_there}
use Rattle.wish_lines.specs.Lines.{Line, position}
use Rattle.wish_lines.specs.Wishes.{Option?}
use Rattle.wish_lines.proofs.Ranged.{student_row}
use Rattle.wishes.specs.Copy.{groups_in, with_third, with_wish, wished}
use Rattle.wishes.specs.Records.{with_third_at, with_pairs, StudentPut}
use Rattle.wishes.proofs.Case.{wish_cases}
use Rattle.wishes.proofs.Fields.{field_set, rows_back}
use Rattle.wishes.proofs.Valid.{new_at}

-- ---- the loop over a student's pairs

pub pairs_none : (case : List ℕ) (group : ℕ → ℕ) (first : ℕ) (copy : List ℕ) → copy ≡ with_pairs case group first 0 copy
unfolding with_pairs
pairs_none case group first copy = refl

pub pairs_on : (case : List ℕ) (group : ℕ → ℕ) (first k : ℕ) (old copy : List ℕ) → copy ≡ with_pairs case group first k old
    → with_third_at copy (first + k) (group (row_at case (first + k)).second) ≡ with_pairs case group first (k + 1) old
unfolding with_pairs
pairs_on case group first k old copy e =
    let q : k + 1 ≡ suc k = omega arith in
    rw q (ap (λ c. with_third_at c (first + k) (group (row_at case (first + k)).second)) e)

pub third_long : (copy : List ℕ) (i x : ℕ) → length (with_third_at copy i x) ≡ length copy
third_long copy i x = length-set (set copy (16 * i + 6) (x % 256)) (16 * i + 7) (x / 256) ∙ length-set copy (16 * i + 6) (x % 256)

-- what begins with the case has its bytes
pub head_bytes : (case old : List ℕ) → ((i : ℕ) → get_or (with_head case old) i 0 < 256) → Bytes case
head_bytes case old f =
    record {
      below = λ i.
          ⊎_elim (λ (l : i < length case). rw (get_or-append case (drop (length case) old) 0 i l) at (f i))
          (λ (u : length case ≤ i). omega (arith, get_or-eq_default case 0 u))
          (less? i (length case));
    }

-- the records of the student's pairs before `next` have their groups; `stop` is behind her last
pub record PairsTo (case groups : List ℕ) (s next stop : ℕ) (old copy : List ℕ) : Type 0 where
  pub first : ℕ
  pub pairs : Stretch case s first (stop - first)
  pub order : (first ≤ next) × (next ≤ stop)
  pub put : copy ≡ with_pairs case (λ x. get_or groups x 0) first (next - first) old
  pub sized : length copy ≡ length old

pub pairs_start : (case groups : List ℕ) (s first stop : ℕ) (old : List ℕ) → Stretch case s first (stop - first) → first ≤ stop
    → PairsTo case groups s first stop old old
pairs_start case groups s first stop old S l =
    let none : first - first ≡ 0 = omega arith in
    record {
      first = first;
      pairs = S;
      order = (omega arith, l);
      put = rw none (pairs_none case (λ x. get_or groups x 0) first old);
      sized = refl;
    }

-- the pair whose record is next
module _ (case groups : List ℕ) (s next stop : ℕ) (old copy : List ℕ) (I : PairsTo case groups s next stop old copy) (l : next < stop) where
  here : I.first + (next - I.first) ≡ next
  here = omega (arith, I.order)

  pub next_inside : next < row_count case
  next_inside = rw here at (I.pairs.inside (next - I.first) (omega (arith, I.order)))

  pub next_paired : (market_in case).paired s (row_at case next).second ≡ true
  next_paired = rw here at (I.pairs.paired (next - I.first) (omega (arith, I.order)))

  pub pairs_next : (next' stop' x : ℕ) (copy' : List ℕ) → next' ≡ next + 1 → stop' ≡ stop → x ≡ get_or groups (row_at case next).second 0
      → copy' ≡ with_third_at copy next x → PairsTo case groups s next' stop' old copy'
  pairs_next next' stop' x copy' n m g e =
      let more : next - I.first + 1 ≡ next' - I.first = omega (arith, I.order) in
      let put = pairs_on case (λ x. get_or groups x 0) I.first (next - I.first) old copy I.put in
      record {
        first = I.first;
        pairs = rw m I.pairs;
        order = omega (arith, I.order);
        put = e ∙ (ap (with_third_at copy next) g ∙ rw (here, more) at put);
        sized = ap length e ∙ (third_long copy next x ∙ I.sized);
      }

pub pairs_end : (case groups : List ℕ) (s next stop : ℕ) (old copy : List ℕ) (I : PairsTo case groups s next stop old copy) → stop - next ≡ 0
    → copy ≡ with_pairs case (λ x. get_or groups x 0) I.first (stop - I.first) old
pairs_end case groups s next stop old copy I l =
    let whole : next - I.first ≡ stop - I.first = omega (arith, I.order) in
    rw whole at I.put

-- ---- the copy by its records

-- n records at the head of the buffer
abbrev shown_by : (ℕ → Row) → ℕ → List ℕ → List ℕ
shown_by f n old = with_head (case_bytes (tabulate f n)) old

rows_set : (f g : ℕ → Row) (n i : ℕ) (r : Row) → i < n → g i ≡ r → ((j : ℕ) → j < n → (j ≡ i → ⊥) → g j ≡ f j) → set (tabulate f n) i r ≡ tabulate g n
rows_set f g n i r l e same =
    ext_get_or no_row (set (tabulate f n) i r) (tabulate g n) (length-set (tabulate f n) i r ∙ tabulate_length f n ∙ sym (tabulate_length g n)) at
  where
    at : (j : ℕ) → j < length (set (tabulate f n) i r) → get_or (set (tabulate f n) i r) j no_row ≡ get_or (tabulate g n) j no_row
    at j h =
        let m : j < n = omega (arith, length-set (tabulate f n) i r, tabulate_length f n) in
        ⊎_elim
        (λ (q : j ≡ i). rw q (get_or-set_same (tabulate f n) i r no_row (omega (arith, tabulate_length f n)) ∙ sym (tabulate_at g n i no_row l ∙ e)))
        (λ (q : j ≡ i → ⊥). get_or-set_other (tabulate f n) i j r no_row q ∙ tabulate_at f n j no_row m ∙ sym (tabulate_at g n j no_row m ∙ same j m q))
        (eq? j i)

third_shown : (f g : ℕ → Row) (n i x : ℕ) (old : List ℕ) → i < n → g i ≡ with_third (f i) x → ((j : ℕ) → j < n → (j ≡ i → ⊥) → g j ≡ f j)
    → with_third_at (shown_by f n old) i x ≡ shown_by g n old
third_shown f g n i x old l e same =
    field_set (tabulate f n) old i x (omega (arith, tabulate_length f n))
    ∙ ap (λ rs. with_head (case_bytes rs) old)
    (ap (λ r. set (tabulate f n) i (with_third r x)) (tabulate_at f n i no_row l) ∙ rows_set f g n i (with_third (f i) x) l e same)

-- k pairs from `first` on have their groups
abbrev pairs_by : List ℕ → (ℕ → ℕ) → ℕ → ℕ → (ℕ → Row) → ℕ → Row
pairs_by case group first k f i = cond (leb first i && leb (suc i) (first + k)) (with_third (f i) (group (row_at case i).second)) (f i)

outside : (case : List ℕ) (group : ℕ → ℕ) (first k : ℕ) (f : ℕ → Row) (i : ℕ) → (first ≤ i → i < first + k → ⊥) → pairs_by case group first k f i ≡ f i
outside case group first k f i out =
    ⊎_elim (λ (l : i < first). rw (lt-leb first i l))
    (λ (l : first ≤ i).
    ⊎_elim (λ (u : i < first + k). absurd (out l u)) (λ (u : first + k ≤ i). rw (le-leb first i l, lt-leb (suc i) (first + k) (omega arith)))
    (less? i (first + k)))
    (less? i first)

inside : (case : List ℕ) (group : ℕ → ℕ) (first k : ℕ) (f : ℕ → Row) (i : ℕ) → first ≤ i → i < first + k
    → pairs_by case group first k f i ≡ with_third (f i) (group (row_at case i).second)
inside case group first k f i l u = rw (le-leb first i l, le-leb (suc i) (first + k) u)

pairs_shown : (case : List ℕ) (group : ℕ → ℕ) (first k n : ℕ) (f : ℕ → Row) (old : List ℕ) → ((j : ℕ) → j < k → first + j < n)
    → with_pairs case group first k (shown_by f n old) ≡ shown_by (pairs_by case group first k f) n old
unfolding with_pairs
pairs_shown case group first zero n f old l = ap (λ rs. with_head (case_bytes rs) old) (same n)
  where
    same : (m : ℕ) → tabulate f m ≡ tabulate (pairs_by case group first 0 f) m
    same m =
        ext_get_or no_row (tabulate f m) (tabulate (pairs_by case group first 0 f) m)
        (tabulate_length f m ∙ sym (tabulate_length (pairs_by case group first 0 f) m))
        (λ j h.
        let q : j < m = omega (arith, tabulate_length f m) in
        tabulate_at f m j no_row q
        ∙ sym (tabulate_at (pairs_by case group first 0 f) m j no_row q ∙ outside case group first 0 f j (λ a b. omega arith)))
pairs_shown case group first (suc k) n f old l =
    ap (λ c. with_third_at c (first + k) (group (row_at case (first + k)).second)) (pairs_shown case group first k n f old (λ j q. l j (omega arith)))
    ∙ third_shown (pairs_by case group first k f) (pairs_by case group first (suc k) f) n (first + k) (group (row_at case (first + k)).second) old
    (l k (omega arith))
    (inside case group first (suc k) f (first + k) (omega arith) (omega arith)
    ∙ ap (λ r. with_third r (group (row_at case (first + k)).second)) (sym (outside case group first k f (first + k) (λ a b. omega arith))))
    (λ j h ne.
    ⊎_elim
    (λ (q : j < first). outside case group first (suc k) f j (λ a b. omega arith) ∙ sym (outside case group first k f j (λ a b. omega arith)))
    (λ (q : first ≤ j).
    ⊎_elim (λ (u : j < first + k). inside case group first (suc k) f j q (omega arith) ∙ sym (inside case group first k f j q u))
    (λ (u : first + k ≤ j).
    let v : first + k < j = after j (first + k) u ne in
    outside case group first (suc k) f j (λ a b. omega arith) ∙ sym (outside case group first k f j (λ a b. omega arith)))
    (less? j (first + k)))
    (less? j first))
  where
    after : (a b : ℕ) → b ≤ a → (a ≡ b → ⊥) → b < a
    after a b l ne = ⊎_elim (λ (q : b < a). q) (λ (q : a ≤ b). absurd (ne (omega arith))) (less? b a)

-- ---- the records of the first k students, from the lines
module _ (case : List ℕ) (nothing : NothingFound (case_causes case)) (ls : List Line) where
  abbrev done_to : ℕ → ℕ → Row
  done_to k i = cond (leb (row_at case i).first k) (with_wish ls (row_at case i)) (row_at case i)

  done : (k i : ℕ) → (row_at case i).first ≤ k → done_to k i ≡ with_wish ls (row_at case i)
  done k i l = rw (le-leb (row_at case i).first k l)

  undone : (k i : ℕ) → k < (row_at case i).first → done_to k i ≡ row_at case i
  undone k i l = rw (lt-leb (row_at case i).first k l)

  -- the copy after k lines
  abbrev pub Filled : ℕ → List ℕ → List ℕ → Type 0
  Filled k old copy = copy ≡ shown_by (done_to k) (row_count case) old

  -- another record is not the student's
  other : (k i : ℕ) → ((row_at case i).first ≡ suc k → (with_wish ls (row_at case i) ≡ row_at case i)) → done_to (suc k) i ≡ done_to k i
  other k i h =
      ⊎_elim (λ (l : (row_at case i).first < suc k). done (suc k) i (omega arith) ∙ sym (done k i (omega arith)))
      (λ (l : suc k ≤ (row_at case i).first).
      ⊎_elim (λ (q : (row_at case i).first ≡ suc k). done (suc k) i (omega arith) ∙ (h q ∙ sym (undone k i (omega arith))))
      (λ (q : (row_at case i).first ≡ suc k → ⊥).
      let v : suc k < (row_at case i).first = after (row_at case i).first (suc k) l q in
      undone (suc k) i v ∙ sym (undone k i (omega arith)))
      (eq? (row_at case i).first (suc k)))
      (less? (row_at case i).first (suc k))
    where
      after : (a b : ℕ) → b ≤ a → (a ≡ b → ⊥) → b < a
      after a b l ne = ⊎_elim (λ (q : b < a). q) (λ (q : a ≤ b). absurd (ne (omega arith))) (less? b a)

  module _ (k : ℕ) (u : suc k ≤ (market_in case).students) (groups : List ℕ)
      (hers : (x : ℕ) → Option? (market_in case) (suc k) x → get_or groups x 0 ≡ position (groups_in ls (suc k)) x) where
    n : ℕ
    n = row_count case

    own : (k < row_count case) × ((row_at case k).kind ≡ 1) × ((row_at case k).first ≡ suc k)
    own =
        let e : suc k - 1 ≡ k = omega arith in
        subst (λ i. (i < row_count case) × ((row_at case i).kind ≡ 1) × ((row_at case i).first ≡ suc k)) e (student_row case nothing (suc k) (omega arith) u)

    -- her own record
    abbrev own_by : ℕ → Row
    own_by i = cond (eqb i k) (with_third (row_at case k) (get_or groups 0 0)) (done_to k i)

    own_wish : with_wish ls (row_at case k) ≡ with_third (row_at case k) (get_or groups 0 0)
    unfolding with_wish
    own_wish = rw (own.1, own.2, hers 0 refl)

    module _ (first many : ℕ) (S : Stretch case (suc k) first many) where
      pair_wish : (j : ℕ) → j < many → with_wish ls (row_at case (first + j)) ≡ with_third (row_at case (first + j))
          (get_or groups (row_at case (first + j)).second 0)
      unfolding with_wish
      pair_wish j l =
          let s = S.each j l in
          rw (s.0, s.1, hers (row_at case (first + j)).second (option (row_at case (first + j)).second (S.paired j l)))
        where
          option : (w : ℕ) → (market_in case).paired (suc k) w ≡ true → Option? (market_in case) (suc k) w
          option zero e = refl
          option (suc w) e = e

      -- a record of hers is her own or one of the stretch
      not_hers : (i : ℕ) → i < row_count case → (i ≡ k → ⊥) → (first ≤ i → i < first + many → ⊥) → (row_at case i).first ≡ suc k
          → with_wish ls (row_at case i) ≡ row_at case i
      not_hers i l a b e =
          ⊎_elim
          (λ c.
          ⊎_elim
          (λ (q : (row_at case i).kind ≡ 1).
          let p = student_place case (row_count case) (case_clean case nothing) (suc k) i l (and_make (eq-eqb _ _ q) (eq-eqb _ _ e)) in
          absurd (a (omega (arith, p.1))))
          (λ (q : (row_at case i).kind ≡ 3).
          let w = (row_at case i).second in
          let p : is_pair (suc k) w (row_at case i) ≡ true = and_make (eq-eqb _ _ q) (and_make (eq-eqb _ _ e) (eq-eqb w _ refl)) in
          let m = in-market case (case_clean case nothing) (suc k) w i l p in
          let t = pair_there case (suc k) w m in
          let same : pair_place case (suc k) w ≡ i = pair_only case (case_clean case nothing) (suc k) w (pair_place case (suc k) w) i t.0 l t.1 p in
          let r = S.all w m in
          absurd (b (omega (arith, r.0, same)) (omega (arith, r.1, same))))
          c.1)
          (λ c. c)
          (wish_cases ls (row_at case i))

      -- all her records, and no others
      pointwise : (i : ℕ) → i < row_count case → pairs_by case (λ x. get_or groups x 0) first many own_by i ≡ done_to (suc k) i
      pointwise i l =
          ⊎_elim (λ (a : i < first). beside (λ b c. omega arith))
          (λ (a : first ≤ i).
          ⊎_elim (λ (b : i < first + many). within a b) (λ (b : first + many ≤ i). beside (λ c d. omega arith)) (less? i (first + many)))
          (less? i first)
        where
          beside : (first ≤ i → i < first + many → ⊥) → pairs_by case (λ x. get_or groups x 0) first many own_by i ≡ done_to (suc k) i
          beside out =
              outside case (λ x. get_or groups x 0) first many own_by i out
              ∙ ⊎_elim
              (λ (q : i ≡ k). rw (q, eq-eqb k k refl) (sym (done (suc k) k (omega (arith, own.2)) ∙ own_wish)))
              (λ (q : i ≡ k → ⊥). rw (ne_eqb i k q) (sym (other k i (not_hers i l q out))))
              (eq? i k)

          unheld : (i ≡ k → ⊥) → (row_at case i).first ≡ suc k → own_by i ≡ row_at case i
          unheld q e = rw (ne_eqb i k q) (undone k i (omega arith))

          within : first ≤ i → i < first + many → pairs_by case (λ x. get_or groups x 0) first many own_by i ≡ done_to (suc k) i
          within a b =
              let j = i - first in
              let e : first + j ≡ i = omega arith in
              let m : j < many = omega arith in
              let row : ((row_at case i).kind ≡ 3) × ((row_at case i).first ≡ suc k) =
              subst (λ r. ((row_at case r).kind ≡ 3) × ((row_at case r).first ≡ suc k)) e (S.each j m) in
              let wish = subst (λ r. with_wish ls (row_at case r) ≡ with_third (row_at case r) (get_or groups (row_at case r).second 0)) e (pair_wish j m) in
              let apart : i ≡ k → ⊥ = λ q. omega (arith, row.0, own.1, ap (λ r. (row_at case r).kind) q) in
              inside case (λ x. get_or groups x 0) first many own_by i a b
              ∙ (ap (λ r. with_third r (get_or groups (row_at case i).second 0)) (unheld apart row.1)
              ∙ sym (done (suc k) i (omega (arith, row.1)) ∙ wish))

    pub student_shown : (old copy copy' : List ℕ) → StudentPut case groups (suc k) copy copy' → Filled k old copy → Filled (suc k) old copy'
    student_shown old copy copy' P e =
        let g : ℕ → ℕ = λ x. get_or groups x 0 in
        let back : suc k - 1 ≡ k = omega arith in
        P.put
        ∙ (ap (λ j. with_pairs case g P.first P.many (with_third_at copy j (get_or groups 0 0))) back
        ∙ (ap (λ c. with_pairs case g P.first P.many (with_third_at c k (get_or groups 0 0))) e
        ∙ (ap (with_pairs case g P.first P.many) own_shown
        ∙ (pairs_shown case g P.first P.many (row_count case) own_by old P.pairs.inside
        ∙ ap (λ rs. with_head (case_bytes rs) old) (all_same (pointwise P.first P.many P.pairs))))))
      where
        own_shown : with_third_at (shown_by (done_to k) (row_count case) old) k (get_or groups 0 0) ≡ shown_by own_by (row_count case) old
        own_shown =
            third_shown (done_to k) own_by (row_count case) k (get_or groups 0 0) old own.0
            (rw (eq-eqb k k refl, undone k k (omega (arith, own.2)))) (λ j l ne. rw (ne_eqb j k ne))

        all_same : {f g : ℕ → Row} → ((i : ℕ) → i < row_count case → f i ≡ g i) → tabulate f (row_count case) ≡ tabulate g (row_count case)
        all_same {f} {g} h =
            ext_get_or no_row (tabulate f (row_count case)) (tabulate g (row_count case))
            (tabulate_length f (row_count case) ∙ sym (tabulate_length g (row_count case)))
            (λ j u.
            let q : j < row_count case = omega (arith, tabulate_length f (row_count case)) in
            tabulate_at f (row_count case) j no_row q ∙ (h j q ∙ sym (tabulate_at g (row_count case) j no_row q)))

  -- ---- before the first line, and after the last

  by_kind : (P : Row → Type 0) (i : ℕ) → i < row_count case → (1 ≤ (row_at case i).first → (row_at case i).first ≤ (market_in case).students → P
      (with_wish ls (row_at case i)))
      → (with_wish ls (row_at case i) ≡ row_at case i → P (row_at case i))
      → P (with_wish ls (row_at case i)) ⊎ ((with_wish ls (row_at case i) ≡ row_at case i) × P (row_at case i))
  by_kind P i l f g =
      ⊎_elim
      (λ c.
      ⊎_elim
      (λ (k : (row_at case i).kind ≡ 1).
      let u : i < (market_in case).students = student_from case (case_clean case nothing) i l k in
      let e : (row_at case i).first ≡ suc i = ((places case (case_clean case nothing)).student i u).1 in
      inl (f (omega arith) (omega arith)))
      (λ (k : (row_at case i).kind ≡ 3). let r = pair_names case (case_clean case nothing) i l k in inl (f r.0.0 r.0.1))
      c.1)
      (λ c. inr (c, g c))
      (wish_cases ls (row_at case i))

  rows_same : {f g : ℕ → Row} → ((i : ℕ) → i < row_count case → f i ≡ g i) → tabulate f (row_count case) ≡ tabulate g (row_count case)
  rows_same {f} {g} h =
      ext_get_or no_row (tabulate f (row_count case)) (tabulate g (row_count case))
      (tabulate_length f (row_count case) ∙ sym (tabulate_length g (row_count case)))
      (λ j u.
      let q : j < row_count case = omega (arith, tabulate_length f (row_count case)) in
      tabulate_at f (row_count case) j no_row q ∙ (h j q ∙ sym (tabulate_at g (row_count case) j no_row q)))

  pub wished_long : length (wished ls case) ≡ length case
  unfolding wished rows
  wished_long =
      omega (
        arith,
        case_length (map (with_wish ls) (rows case)),
        length-map (rows case) (with_wish ls),
        tabulate_length (row_at case) (row_count case),
        case_whole case nothing,
      )

  pub filled_none : Bytes case → (old copy : List ℕ) → copy ≡ with_head case old → Filled 0 old copy
  unfolding rows
  filled_none b old copy e =
      e
      ∙ (ap (λ t. with_head t old) (sym (rows_back case b (case_whole case nothing)))
      ∙ ap (λ rs. with_head (case_bytes rs) old) (rows_same start))
    where
      start : (i : ℕ) → i < row_count case → row_at case i ≡ done_to 0 i
      start i l =
          ⊎_elim (λ (a : 0 < (row_at case i).first). sym (undone 0 i a))
          (λ (a : (row_at case i).first ≤ 0).
          ⊎_elim (λ (c : row_at case i ≡ done_to 0 i). c) (λ c. c.1)
          (by_kind (λ r. row_at case i ≡ done_to 0 i) i l (λ x y. absurd (omega arith)) (λ c. sym (done 0 i a ∙ c))))
          (less? 0 (row_at case i).first)

  pub filled_all : (old copy : List ℕ) → Filled (market_in case).students old copy → copy ≡ with_head (wished ls case) old
  unfolding wished rows
  filled_all old copy e =
      e ∙ ap (λ rs. with_head (case_bytes rs) old) (rows_same last ∙ mapped)
    where
      last : (i : ℕ) → i < row_count case → done_to (market_in case).students i ≡ with_wish ls (row_at case i)
      last i l =
          ⊎_elim (λ (c : done_to (market_in case).students i ≡ with_wish ls (row_at case i)). c) (λ c. c.1)
          (by_kind (λ r. done_to (market_in case).students i ≡ with_wish ls (row_at case i)) i l (λ x y. done (market_in case).students i y) (λ c. either c))
        where
          either : with_wish ls (row_at case i) ≡ row_at case i → done_to (market_in case).students i ≡ with_wish ls (row_at case i)
          either c =
              ⊎_elim (λ (a : (market_in case).students < (row_at case i).first). undone (market_in case).students i a ∙ sym c)
              (λ (a : (row_at case i).first ≤ (market_in case).students). done (market_in case).students i a)
              (less? (market_in case).students (row_at case i).first)

      mapped : tabulate (λ i. with_wish ls (row_at case i)) (row_count case) ≡ map (with_wish ls) (tabulate (row_at case) (row_count case))
      mapped =
          ext_get_or no_row _ _ (tabulate_length (λ i. with_wish ls (row_at case i)) (row_count case)
          ∙ sym (length-map (tabulate (row_at case) (row_count case)) (with_wish ls) ∙ tabulate_length (row_at case) (row_count case)))
          (λ j u.
          let q : j < row_count case = omega (arith, tabulate_length (λ i. with_wish ls (row_at case i)) (row_count case)) in
          tabulate_at (λ i. with_wish ls (row_at case i)) (row_count case) j no_row q
          ∙ sym (new_at ls (tabulate (row_at case) (row_count case)) j ∙ ap (with_wish ls) (tabulate_at (row_at case) (row_count case) j no_row q)))
