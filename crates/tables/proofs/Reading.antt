-- What a finished table says of the case, and what is read off it.
use Prim.Native.Nat.{ℕ, zero, suc, ◌+◌, ◌-◌, ◌*◌, ◌%◌, ◌^◌, ◌≤◌, ◌<◌}
use mathlib.Core.Path.{◌≡◌, refl, sym, ap, ◌∙◌}
use mathlib.Core.Logic.{⊎_elim}
use mathlib.Core.Bool.{Bool, true, false, ◌&&◌, ◌||◌}
use mathlib.Core.List.{List}
use native.Mathlib.Omega.{arith}
use lib.Dec.{ltb}
use lib.Bits.{bit_and, mask_lt}
use lib.Count.{ones}
use lib.Pow.{pow_pos}
use borrow.Author.Tests.{eq-eqb, ltb-true, ltb-false, le-ltb}
use Rattle.base.specs.Lists.{count}
use Rattle.base.specs.Bits.{bit, member}
use Rattle.base.proofs.Tests.{bool_cases, is_false, never, and_make, or_false, less?}
use Rattle.base.proofs.Counting.{count_same, count_le}
use Rattle.base.proofs.Below.{any_at}
use Rattle.base.proofs.Search.{end_some, end_none, first_passes}
use Rattle.base.proofs.Digits.{bit_zero, bit_and_lem, bit_not, ones_count, one_shifted}
use Rattle.format.specs.Layout.{row_at, row_count, rows, is_pair, market_of}
use Rattle.format.specs.Engine.{market_in}
use Rattle.format.proofs.Positions.{pair_says}
use Rattle.records.specs.Records.{pair_place}
use Rattle.records.proofs.Laws.{pair_any}
use Rattle.tables.specs.Table.{set_of, entry_of, first_of, all_of, pairs_up_to, student_in, workshop_in, Tabled, Made, Stretch, Standing, Noted, Started, Kept}

-- ---- a pair and its record
pub pair_there : (case : List ℕ) (s w : ℕ) → (market_in case).paired s w ≡ true
    → (pair_place case s w < row_count case) × (is_pair s w (row_at case (pair_place case s w)) ≡ true)
unfolding market_of
pair_there case s w e =
    let l : pair_place case s w < row_count case = ltb-true _ _ (sym (pair_any case s w) ∙ e) in
    let p : ℕ → Bool = λ k. is_pair s w (row_at case k) in
    (l, first_passes p (row_count case) (pair_place case s w) (end_some p (row_count case) l))

pub no_pair_lem : (case : List ℕ) (s w : ℕ) → (market_in case).paired s w ≡ false → row_count case ≡ pair_place case s w
unfolding market_of
no_pair_lem case s w e =
    let l : row_count case ≤ pair_place case s w = ltb-false _ _ (sym (pair_any case s w) ∙ e) in
    rw (end_none (λ k. is_pair s w (row_at case k)) (row_count case) l)

pair_by : (case : List ℕ) (s w k : ℕ) → k < row_count case → is_pair s w (row_at case k) ≡ true → (market_in case).paired s w ≡ true
unfolding rows market_of
pair_by case s w k l e = any_at (row_at case) (is_pair s w) (row_count case) k l e

module _ (case : List ℕ) (n m : ℕ) (o : Standing case n m) (table : List ℕ)
    (I : Noted (student_in case) (workshop_in case) (n + m) (row_count case) table) where
  -- the pair's record is one of those noted
  noted_at : (s w : ℕ) → (market_in case).paired s w ≡ true
      → (k : ℕ) × (pair_place case s w ≡ k) × (n + m ≤ k) × (k < row_count case) × (student_in case k ≡ s) × (workshop_in case k ≡ w)
  noted_at s w e =
      let k : ℕ = pair_place case s w in
      let r : (k < row_count case) × (is_pair s w (row_at case k) ≡ true) = pair_there case s w e in
      let q : ((row_at case k).kind ≡ 3) × ((row_at case k).first ≡ s) × ((row_at case k).second ≡ w) = pair_says s w (row_at case k) r.1 in
      (k, refl, o.only k r.0 q.0, r.0, q.1, q.2)

  noted_names : (s w : ℕ) → (market_in case).paired s w ≡ true → ((1 ≤ s) × (s ≤ 512)) × ((1 ≤ w) × (w ≤ 64))
  noted_names s w e = go (noted_at s w e)
    where
      go : (k : ℕ) × (pair_place case s w ≡ k) × (n + m ≤ k) × (k < row_count case) × (student_in case k ≡ s) × (workshop_in case k ≡ w)
          → ((1 ≤ s) × (s ≤ 512)) × ((1 ≤ w) × (w ≤ 64))
      go (k, p, f, l, a, b) = rw (a, b) at (o.named k f l)

  noted_set : (s w : ℕ) → 1 ≤ s → s ≤ 512 → member (set_of table s) w ≡ (market_in case).paired s w
  noted_set s w f g =
      ⊎_elim
      (λ (e : member (set_of table s) w ≡ true).
      let r : (k : ℕ) × (n + m ≤ k) × (k < row_count case) × (student_in case k ≡ s) × (workshop_in case k ≡ w) = I.sound s w f g e in
      e ∙ sym (pair_by case s w r.0 r.2 (and_make (eq-eqb _ _ (o.pair r.0 r.1 r.2)) (and_make (eq-eqb _ _ r.3) (eq-eqb _ _ r.4)))))
      (λ (e : member (set_of table s) w ≡ false). e ∙ sym (is_false ((market_in case).paired s w) (λ p. never (there (noted_at s w p)) e)))
      (bool_cases (member (set_of table s) w))
    where
      there : (k : ℕ) × (pair_place case s w ≡ k) × (n + m ≤ k) × (k < row_count case) × (student_in case k ≡ s) × (workshop_in case k ≡ w)
          → member (set_of table s) w ≡ true
      there (k, p, f, l, a, b) = rw (a, b) at (I.full k f l)

  noted_place : (s w : ℕ) → (market_in case).paired s w ≡ true → pair_place case s w ≡ first_of table s + pairs_up_to table s (w - 1)
  noted_place s w e = go (noted_at s w e)
    where
      go : (k : ℕ) × (pair_place case s w ≡ k) × (n + m ≤ k) × (k < row_count case) × (student_in case k ≡ s) × (workshop_in case k ≡ w)
          → pair_place case s w ≡ first_of table s + pairs_up_to table s (w - 1)
      go (k, p, f, l, a, b) =
          let r : (1 ≤ s) × (s ≤ 512) = (noted_names s w e).0 in
          let h : entry_of table s + pairs_up_to table s (w - 1) ≡ k = rw (a, b) at (I.place k f l) in
          omega (arith, p, h, I.small s r.0 r.1)

  tabled : (new : List ℕ) → Started case table new (m + 1) → Tabled case new
  tabled new S =
      record {
        sized = S.sized;
        named = noted_names;
        set = λ s w f g. rw (S.others (s - 1) (omega arith)) (noted_set s w f g);
        place = λ s w e.
            let r : ((1 ≤ s) × (s ≤ 512)) × ((1 ≤ w) × (w ≤ 64)) = noted_names s w e in
            rw (S.others (s - 1) (omega arith), S.others (511 + s) (omega arith)) (noted_place s w e);
        all = S.all;
        few = omega (arith, o.workshops);
        start = λ w f g. S.start w f (omega (arith, o.workshops));
      }

  pub made : (new : List ℕ) → Started case table new (m + 1) → Made case new
  made new S = record { tabled = tabled new S; small = λ s f g. rw (S.others (511 + s) (omega arith)) (I.small s f g) }

-- where nothing but the links has changed, the table still describes the case
pub kept_tabled : (case old new : List ℕ) → Tabled case old → Kept old new → Tabled case new
kept_tabled case old new T K =
    record {
      sized = K.sized ∙ T.sized;
      named = T.named;
      set = λ s w f g. rw (K.low (s - 1) (omega arith)) (T.set s w f g);
      place = λ s w e.
          let r : ((1 ≤ s) × (s ≤ 512)) × ((1 ≤ w) × (w ≤ 64)) = T.named s w e in
          rw (K.first s r.0.0 r.0.1, K.low (s - 1) (omega arith)) (T.place s w e);
      all = λ w x m f g. rw (K.high 1088 (omega arith)) (T.all w x (rw (K.high 1088 (omega arith)) at m) f g);
      few = T.few;
      start = λ w f g. K.high (1023 + w) (omega arith) ∙ T.start w f g;
    }

-- ---- the count of the members below w
pub below_law : (n w : ℕ) → 1 ≤ w → w ≤ 64 → ones (bit_and n ((1 * 2 ^ (w - 1)) % 2 ^ 64 - 1)) ≡ count (member n) (w - 1)
unfolding member
below_law n w a b =
    rw (one_shifted w a b)
    (ones_count (w - 1) (bit_and n (2 ^ (w - 1) - 1)) (mask_lt n (w - 1)) ∙ count_same (member (bit_and n (2 ^ (w - 1) - 1))) (member n) (w - 1) same)
  where
    and_yes : (x : Bool) → (x && true) ≡ x
    and_yes true = refl
    and_yes false = refl

    digit_there : (k j : ℕ) → j < k → bit (2 ^ k - 1) j ≡ true
    digit_there k j l =
        let e : 2 ^ k - 1 - 0 ≡ 2 ^ k - 1 = omega arith in
        rw (bit_zero j) at (rw e at (bit_not k 0 j (pow_pos k) l))

    same : (t : ℕ) → t ≤ w - 1 → member (bit_and n (2 ^ (w - 1) - 1)) t ≡ member n t
    same zero l = refl
    same (suc j) l = bit_and_lem n (2 ^ (w - 1) - 1) j ∙ rw (digit_there (w - 1) j (omega arith)) (and_yes (bit n j))

-- ---- who is counted
module _ (p : ℕ → Bool) where
  -- of those that pass, the one that has k before it
  nth : (n k : ℕ) → k < count p n → (w : ℕ) × (1 ≤ w) × (w ≤ n) × (p w ≡ true) × (count p (w - 1) ≡ k)
  unfolding count
  nth zero k l = absurd (omega arith)
  nth (suc n) k l =
      ⊎_elim
      (λ (q : k < count p n).
      let r : (w : ℕ) × (1 ≤ w) × (w ≤ n) × (p w ≡ true) × (count p (w - 1) ≡ k) = nth n k q in
      (r.0, r.1, omega (arith, r.2), r.3, r.4))
      (λ (q : count p n ≤ k).
      ⊎_elim
      (λ (e : p (suc n) ≡ true).
      let h : k < 1 + count p n = rw e at l in
      let d : suc n - 1 ≡ n = omega arith in
      (suc n, omega arith, omega arith, e, rw d (omega arith)))
      (λ (e : p (suc n) ≡ false). let h : k < 0 + count p n = rw e at l in absurd (omega arith))
      (bool_cases (p (suc n))))
      (less? k (count p n))

  under : (n w : ℕ) → 1 ≤ w → w ≤ n → p w ≡ true → count p (w - 1) < count p n
  unfolding count
  under zero w a b e = absurd (omega arith)
  under (suc n) w a b e =
      ⊎_elim (λ (q : w < suc n). omega (arith, under n w a (omega arith) e))
      (λ (q : suc n ≤ w).
      let r : w ≡ suc n = omega arith in
      let d : suc n - 1 ≡ n = omega arith in
      rw (r, d, rw r at e) (omega arith))
      (less? w (suc n))

-- where all up to n pass, n are counted
count_all : (p : ℕ → Bool) (n : ℕ) → ((x : ℕ) → 1 ≤ x → x ≤ n → p x ≡ true) → count p n ≡ n
unfolding count
count_all p zero all = refl
count_all p (suc n) all = rw (all (suc n) (omega arith) (omega arith)) (omega (arith, count_all p n (λ x f g. all x f (omega arith))))

-- the same, told in another way
pub stretch_as : (case : List ℕ) (s first many begin told : ℕ) → begin ≡ first → told ≡ many → Stretch case s first many → Stretch case s begin told
stretch_as case s first many begin told d e S = rw (d, e) S

-- ---- what the readers give
module _ (case table : List ℕ) (T : Tabled case table) (s : ℕ) where
  pub stretch : 1 ≤ s → s ≤ 512 → Stretch case s (first_of table s) (pairs_up_to table s 64)
  stretch f g =
      record {
        small = omega arith;
        few = count_le (member (set_of table s)) 64;
        inside = λ k l. (at k l).0;
        each = λ k l. ((at k l).1, (at k l).2);
        paired = λ k l. (at k l).3;
        place = λ k l. (at k l).4;
        all = all;
      }
    where
      at : (k : ℕ) → k < pairs_up_to table s 64
          → (first_of table s + k < row_count case) × ((row_at case (first_of table s + k)).kind ≡ 3) × ((row_at case (first_of table s + k)).first ≡ s)
          × ((market_in case).paired s (workshop_in case (first_of table s + k)) ≡ true)
          × (pair_place case s (workshop_in case (first_of table s + k)) ≡ first_of table s + k)
      at k l =
          let r : (w : ℕ) × (1 ≤ w) × (w ≤ 64) × (member (set_of table s) w ≡ true) × (pairs_up_to table s (w - 1) ≡ k) =
          nth (member (set_of table s)) 64 k l in
          let e : (market_in case).paired s r.0 ≡ true = sym (T.set s r.0 f g) ∙ r.3 in
          let q : pair_place case s r.0 ≡ first_of table s + k = T.place s r.0 e ∙ ap (λ (x : ℕ). first_of table s + x) r.4 in
          let t : (first_of table s + k < row_count case) × (is_pair s r.0 (row_at case (first_of table s + k)) ≡ true) = rw q at (pair_there case s r.0 e) in
          let y : ((row_at case (first_of table s + k)).kind ≡ 3) × ((row_at case (first_of table s + k)).first ≡ s) ×
          ((row_at case (first_of table s + k)).second ≡ r.0) =
          pair_says s r.0 (row_at case (first_of table s + k)) t.1 in
          (t.0, y.0, y.1, rw y.2 e, rw y.2 q)

      all : (w : ℕ) → (market_in case).paired s w ≡ true
          → (first_of table s ≤ pair_place case s w) × (pair_place case s w < first_of table s + pairs_up_to table s 64)
      all w e =
          let q : pair_place case s w ≡ first_of table s + pairs_up_to table s (w - 1) = T.place s w e in
          let h : pairs_up_to table s (w - 1) < pairs_up_to table s 64 =
          under (member (set_of table s)) 64 w (T.named s w e).1.0 (T.named s w e).1.1 (T.set s w f g ∙ e) in
          (omega arith, omega arith)

  -- her pairs' records rise with the workshops
  pub places_rise : (v w : ℕ) → (market_in case).paired s v ≡ true → (market_in case).paired s w ≡ true → v < w → pair_place case s v < pair_place case s w
  places_rise v w d e l =
      let r : ((1 ≤ s) × (s ≤ 512)) × ((1 ≤ v) × (v ≤ 64)) = T.named s v d in
      let h : pairs_up_to table s (v - 1) < pairs_up_to table s (w - 1) =
      under (member (set_of table s)) (w - 1) v r.1.0 (omega arith) (T.set s v r.0.0 r.0.1 ∙ d) in
      omega (arith, T.place s v d, T.place s w e)

  module _ (w : ℕ) where
    -- a student who has a pair with every workshop has one with all below w
    pub all_below : (market_in case).paired s w ≡ true → set_of table s ≡ all_of table → pairs_up_to table s (w - 1) ≡ w - 1
    all_below e q =
        let r : ((1 ≤ s) × (s ≤ 512)) × ((1 ≤ w) × (w ≤ 64)) = T.named s w e in
        let m : member (set_of table s) w ≡ true = T.set s w r.0.0 r.0.1 ∙ e in
        count_all (member (set_of table s)) (w - 1) (λ x f g. rw q (T.all w x (rw q at m) f (omega arith)))

    -- the test of names that nobody has
    pub nobody : ((ltb s 1 || ltb 512 s) || (ltb w 1 || ltb 64 w)) ≡ true → false ≡ (market_in case).paired s w
    nobody t = sym (is_false ((market_in case).paired s w) (λ e. none (T.named s w e)))
      where
        none : ((1 ≤ s) × (s ≤ 512)) × ((1 ≤ w) × (w ≤ 64)) → ⊥
        none r = never t (rw (le-ltb s 1 r.0.0, le-ltb 512 s r.0.1, le-ltb w 1 r.1.0, le-ltb 64 w r.1.1))

    pub somebody : ((ltb s 1 || ltb 512 s) || (ltb w 1 || ltb 64 w)) ≡ false → ((1 ≤ s) × (s ≤ 512)) × ((1 ≤ w) × (w ≤ 64))
    somebody t =
        let r : ((ltb s 1 || ltb 512 s) ≡ false) × ((ltb w 1 || ltb 64 w) ≡ false) = or_false (ltb s 1 || ltb 512 s) _ t in
        let x : (ltb s 1 ≡ false) × (ltb 512 s ≡ false) = or_false (ltb s 1) _ r.0 in
        let y : (ltb w 1 ≡ false) × (ltb 64 w ≡ false) = or_false (ltb w 1) _ r.1 in
        ((ltb-false _ _ x.0, ltb-false _ _ x.1), (ltb-false _ _ y.0, ltb-false _ _ y.1))
