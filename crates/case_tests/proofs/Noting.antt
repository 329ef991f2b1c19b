-- The pairs noted in the table: one student's, by `take_pile`, and all of them, by `note_pairs`.
use Prim.Native.Nat.{ℕ, suc, ◌+◌, ◌-◌, ◌*◌, ◌≤◌, ◌<◌}
use mathlib.Core.Path.{◌≡◌, refl, sym, ap, ◌∙◌}
use mathlib.Core.Logic.{⊎_elim}
use mathlib.Core.Bool.{true, false, ◌||◌}
use mathlib.Core.List.{List}
use native.Mathlib.Omega.{arith}
use lib.Dec.{eqb}
use lib.ListN.{length, set, length-set}
use lib.Seq.{get_or-set_same, get_or-set_other}
use borrow.Author.Tests.{eq-eqb, ne_eqb, eqb-true}
use Rattle.base.specs.Lists.{count}
use Rattle.base.specs.Bits.{member}
use Rattle.base.proofs.Tests.{is_false, never, or_true, or_left, or_right, eq?, less?}
use Rattle.base.proofs.Counting.{count_same, count_more, count_none, count_le}
use Rattle.tables.specs.Table.{set_of, entry_of, Blank, Noted}
use Rattle.tables.proofs.Laws.{member_zero, count_stop}
use Rattle.case_tests.specs.Pairs.{Piled}

-- a blank table describes no pairs
noted_none : (a b : ℕ → ℕ) (from : ℕ) (table : List ℕ) → Blank table → Noted a b from from table
noted_none a b from table z =
    record {
      sized = z.sized;
      sound = λ s x f g m. never (rw (z.zero (s - 1)) at m) (member_zero x);
      full = λ k f h. absurd (omega arith);
      place = λ k f h. absurd (omega arith);
      small = λ s f g. omega (arith, z.zero (511 + s));
    }

-- ---- the pairs of one student, from record `from` to i - 1, with workshops up to `last`
pub record Piling (a b : ℕ → ℕ) (from i s last set : ℕ) : Type 0 where
  pub low : (k : ℕ) → from ≤ k → k < i → b k ≤ last
  pub hers : (k : ℕ) → from ≤ k → k < i → a k ≡ s
  pub sound : (x : ℕ) → member set x ≡ true → (k : ℕ) × (from ≤ k) × (k < i) × (b k ≡ x)
  pub full : (k : ℕ) → from ≤ k → k < i → member set (b k) ≡ true
  pub place : (k : ℕ) → from ≤ k → k < i → from + count (member set) (b k - 1) ≡ k
  pub many : from + count (member set) 64 ≡ i

module _ (a b : ℕ → ℕ) (from s : ℕ) where
  pub piling_none : Piling a b from from s 0 0
  piling_none =
      record {
        low = λ k f h. absurd (omega arith);
        hers = λ k f h. absurd (omega arith);
        sound = λ x m. never m (member_zero x);
        full = λ k f h. absurd (omega arith);
        place = λ k f h. absurd (omega arith);
        many = omega (arith, count_none (member 0) 64 (λ t f h. member_zero t));
      }

  pub piled : (i last set : ℕ) → Piling a b from i s last set → from ≤ i → Piled a b from s set i
  piled i last set I f =
      let few : i ≤ from + 64 = omega (arith, I.many, count_le (member set) 64) in
      record { reach = f; few = few; hers = I.hers; sound = I.sound; full = I.full; place = I.place }

  -- one pair more
  module _ (i last old new : ℕ) (l : from ≤ i) (e : a i ≡ s) (later : last < b i) (u : b i ≤ 64) (I : Piling a b from i s last old)
      (adds : (x : ℕ) → member new x ≡ (eqb x (b i) || member old x)) where
    -- her earlier pairs have lower workshops
    earlier : (k : ℕ) → from ≤ k → k < i → b k < b i
    earlier k f h = omega (arith, I.low k f h)

    none_from : (x : ℕ) → b i ≤ x → member old x ≡ false
    none_from x g =
        is_false (member old x)
        (λ m.
        let r : (k : ℕ) × (from ≤ k) × (k < i) × (b k ≡ x) = I.sound x m in
        omega (arith, earlier r.0 r.1 r.2, r.3))

    before : (x : ℕ) → (x ≡ b i → ⊥) → member new x ≡ member old x
    before x ne = adds x ∙ rw (ne_eqb x (b i) ne)

    below : (w : ℕ) → w < b i → count (member new) w ≡ count (member old) w
    below w h = count_same (member new) (member old) w (λ t g. before t (λ q. omega arith))

    all_below : count (member old) (b i - 1) ≡ count (member old) 64
    all_below = sym (count_stop (member old) (b i - 1) 64 (omega arith) (λ x g h. none_from x (omega arith)))

    one_more : count (member new) 64 ≡ suc (count (member old) 64)
    one_more =
        count_more (member old) (member new) 64 (b i) (omega arith) u (none_from (b i) (omega arith))
        (adds (b i) ∙ rw (eq-eqb (b i) (b i) refl))
        (λ t ne. sym (before t ne))

    pub piling_more : Piling a b from (i + 1) s (b i) new
    piling_more =
        record {
          low = λ k f h. either k h (λ q. omega (arith, earlier k f q)) (λ q. rw q (omega arith));
          hers = λ k f h. either k h (λ q. I.hers k f q) (λ q. ap a q ∙ e);
          sound = λ x m.
              ⊎_elim (λ (q : eqb x (b i) ≡ true). (i, l, omega arith, sym (eqb-true x (b i) q)))
              (λ (q : member old x ≡ true).
              let r : (k : ℕ) × (from ≤ k) × (k < i) × (b k ≡ x) = I.sound x q in
              (r.0, r.1, omega (arith, r.2), r.3))
              (or_true (eqb x (b i)) _ (sym (adds x) ∙ m));
          full = λ k f h.
              adds (b k)
              ∙ either k h (λ q. or_right (eqb (b k) (b i)) _ (I.full k f q)) (λ q. or_left (eqb (b k) (b i)) _ (eq-eqb (b k) (b i) (ap b q)));
          place = λ k f h.
              either k h (λ q. omega (arith, I.place k f q, below (b k - 1) (omega (arith, earlier k f q))))
              (λ q. rw q (omega (arith, below (b i - 1) (omega arith), all_below, I.many)));
          many = omega (arith, I.many, one_more);
        }
      where
        either : {A : Type 0} (k : ℕ) → k < i + 1 → (k < i → A) → (k ≡ i → A) → A
        either k h f g = ⊎_elim (λ (q : k < i). f q) (λ (q : i ≤ k). g (omega arith)) (less? k i)

-- ---- one student more: the pairs of students 1 to s stand before record i, and the table has them
pub record Shelved (a b : ℕ → ℕ) (from s i : ℕ) (table : List ℕ) : Type 0 where
  pub reach : from ≤ i
  pub upto : i ≤ from + 64 * s
  pub done : (k : ℕ) → from ≤ k → k < i → (1 ≤ a k) × (a k ≤ s)
  pub noted : Noted a b from i table

pub shelved_none : (a b : ℕ → ℕ) (from : ℕ) (table : List ℕ) → Blank table → Shelved a b from 0 from table
shelved_none a b from table z =
    record { reach = omega arith; upto = omega arith; done = λ k f h. absurd (omega arith); noted = noted_none a b from table z }

module _ (a b : ℕ → ℕ) (from s i : ℕ) (old : List ℕ) (I : Shelved a b from s i old) (less : s < 512) (low : from ≤ 576)
    (set' end : ℕ) (P : Piled a b i (suc s) set' end) where
  abbrev middle : List ℕ
  middle = set old (512 + s) i

  abbrev new : List ℕ
  new = set middle s set'

  long : length middle ≡ 1089
  long = length-set old (512 + s) i ∙ I.noted.sized

  set_here : set_of new (suc s) ≡ set'
  set_here = let e : suc s - 1 ≡ s = omega arith in rw e (get_or-set_same middle s set' 0 (omega (arith, long)))

  first_here : entry_of new (suc s) ≡ i
  first_here =
      let e : 511 + suc s ≡ 512 + s = omega arith in
      rw e (get_or-set_other middle s (512 + s) set' 0 (λ q. omega arith) ∙ get_or-set_same old (512 + s) i 0 (omega (arith, I.noted.sized)))

  elsewhere : (t : ℕ) → 1 ≤ t → t ≤ 512 → (t ≡ suc s → ⊥) → (set_of new t ≡ set_of old t) × (entry_of new t ≡ entry_of old t)
  elsewhere t f g ne = (
    get_or-set_other middle s (t - 1) set' 0 (λ q. ne (omega arith)) ∙ get_or-set_other old (512 + s) (t - 1) i 0 (λ q. omega arith),
    get_or-set_other middle s (511 + t) set' 0 (λ q. omega arith) ∙ get_or-set_other old (512 + s) (511 + t) i 0 (λ q. ne (omega arith)),
  )

  -- a pair that was noted before is another student's
  other : (k : ℕ) → from ≤ k → k < i → (set_of new (a k) ≡ set_of old (a k)) × (entry_of new (a k) ≡ entry_of old (a k))
  other k f h =
      let r : (1 ≤ a k) × (a k ≤ s) = I.done k f h in
      elsewhere (a k) r.0 (omega arith) (λ q. omega arith)

  either : {A : Type 0} (k : ℕ) → k < end → (k < i → A) → (i ≤ k → A) → A
  either k h f g = ⊎_elim (λ (q : k < i). f q) (λ (q : i ≤ k). g q) (less? k i)

  noted_next : Noted a b from end new
  noted_next =
      record {
        sized = length-set middle s set' ∙ long;
        sound = λ t x f g m.
            ⊎_elim
            (λ (q : t ≡ suc s).
            let r : (k : ℕ) × (i ≤ k) × (k < end) × (b k ≡ x) = P.sound x (rw (q, set_here) at m) in
            (r.0, omega (arith, I.reach, r.1), r.2, P.hers r.0 r.1 r.2 ∙ sym q, r.3))
            (λ (ne : t ≡ suc s → ⊥).
            let r : (k : ℕ) × (from ≤ k) × (k < i) × (a k ≡ t) × (b k ≡ x) = I.noted.sound t x f g (rw (elsewhere t f g ne).0 at m) in
            (r.0, r.1, omega (arith, r.2, P.reach), r.3, r.4))
            (eq? t (suc s));
        full = λ k f h.
            either k h (λ q. rw (other k f q).0 (I.noted.full k f q))
            (λ q. rw (P.hers k q h, set_here) (P.full k q h));
        place = λ k f h.
            either k h (λ q. rw ((other k f q).0, (other k f q).1) (I.noted.place k f q))
            (λ q. rw (P.hers k q h, set_here, first_here) (P.place k q h));
        small = λ t f g.
            ⊎_elim (λ (q : t ≡ suc s). rw (q, first_here) (omega (arith, I.upto)))
            (λ (ne : t ≡ suc s → ⊥). rw (elsewhere t f g ne).1 (I.noted.small t f g))
            (eq? t (suc s));
      }

  pub shelved_more : Shelved a b from (s + 1) end new
  shelved_more =
      record {
        reach = omega (arith, I.reach, P.reach);
        upto = omega (arith, I.upto, P.few);
        done = λ k f h.
            either k h (λ q. ((I.done k f q).0, omega (arith, (I.done k f q).1))) (λ q. (omega (arith, P.hers k q h), omega (arith, P.hers k q h)));
        noted = noted_next;
      }
