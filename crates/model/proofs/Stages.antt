-- The search for the next student gives the next of the list by stages: the student in hand and the last one taken stand for the students
-- to come.
use Prim.Native.Nat.{ℕ, zero, suc, ◌≤◌, ◌<◌}
use mathlib.Core.Path.{◌≡◌, refl, sym, subst, ap}
use mathlib.Core.Logic.{◌⊎◌, inl, inr, ⊎_elim}
use mathlib.Core.Bool.{true, false, ◌&&◌, ◌||◌}
use mathlib.Core.List.{List, [], ◌∷◌}
use mathlib.Core.List.Memᴰ.{cases_cons}
use mathlib.Core.List.Memᴰ.{head as here}
use mathlib.Core.List.Memᴰ.{not-nil}
use mathlib.Core.List.Memᴰ.{tail as later}
use mathlib.Core.List.{Memᴰ as Mem}
use native.Mathlib.Omega.{arith}
use native.Mathlib.Nat.{eq-or-lt_of_le, pos_of_ne-zero}
use lib.Dec.{ltb, eqb}
use borrow.Author.Tests.{ltb-true, ltb-false, eqb-true, lt-ltb, eq-eqb}
use Rattle.lgs.specs.Rule.{insert, by_stage}
use Rattle.model.specs.Store.{comes_after, next_in}
use Rattle.base.proofs.Tests.{never, bool_cases, and_left, and_right, and_make, and_false, or_true, or_left, or_right, or_false, eq?}
use Rattle.lgs.proofs.Start.{insert_in, staged_in, in_staged}

module _ (stage : ℕ → ℕ) where
  -- s comes before t
  abbrev pub Before : ℕ → ℕ → Type 0
  Before s t = (stage s < stage t) ⊎ ((stage s ≡ stage t) × (s < t))

  pub no_both : {A : Type 0} (s t : ℕ) → Before s t → Before t s → A
  no_both s t (inl a) (inl b) = absurd (omega arith)
  no_both s t (inl a) (inr b) = absurd (omega arith)
  no_both s t (inr a) (inl b) = absurd (omega arith)
  no_both s t (inr a) (inr b) = absurd (omega arith)

  chain : (s t u : ℕ) → Before s t → Before t u → Before s u
  chain s t u (inl a) (inl b) = inl (omega arith)
  chain s t u (inl a) (inr b) = inl (omega arith)
  chain s t u (inr a) (inl b) = inl (omega arith)
  chain s t u (inr a) (inr b) = inr (omega arith)

  pub before_after : (s t : ℕ) → Before s t → comes_after stage s t ≡ true
  unfolding comes_after
  before_after s t (inl a) = or_right (eqb s 0) _ (or_left (ltb (stage s) (stage t)) _ (lt-ltb _ _ a))
  before_after s t (inr a) = or_right (eqb s 0) _ (or_right (ltb (stage s) (stage t)) _ (and_make (eq-eqb _ _ a.0) (lt-ltb _ _ a.1)))

  pub after_before : (s t : ℕ) → comes_after stage s t ≡ true → (s ≡ 0) ⊎ Before s t
  unfolding comes_after
  after_before s t e =
      ⊎_elim (λ z. inl (eqb-true _ _ z))
      (λ r.
      inr (⊎_elim (λ l. inl (ltb-true _ _ l))
      (λ a. inr (eqb-true _ _ (and_left (eqb (stage s) (stage t)) _ a), ltb-true _ _ (and_right (eqb (stage s) (stage t)) _ a)))
      (or_true (ltb (stage s) (stage t)) _ r)))
      (or_true (eqb s 0) _ e)

  -- r is the first who comes after s
  pub record First (s n r : ℕ) : Type 0 where
    pub range : r ≤ n
    pub after : comes_after stage s r ≡ true
    pub first : (t : ℕ) → 1 ≤ t → t ≤ n → comes_after stage s t ≡ true → (t ≡ r) ⊎ Before r t

  -- what the search finds
  record Found (s n r : ℕ) : Type 0 where
    none : r ≡ 0 → (t : ℕ) → 1 ≤ t → t ≤ n → comes_after stage s t ≡ true → ⊥
    some : 0 < r → First s n r

  found_on : (s k : ℕ) → Found s k (next_in stage s k) → Found s (suc k) (next_in stage s (suc k))
  unfolding next_in
  found_on s k F =
      ⊎_elim (λ (e : (comes_after stage s (suc k) && (eqb r 0 || ltb (stage (suc k)) (stage r))) ≡ true).
      rw e (newer (and_left (comes_after stage s (suc k)) _ e) (and_right (comes_after stage s (suc k)) _ e)))
      (λ (e : (comes_after stage s (suc k) && (eqb r 0 || ltb (stage (suc k)) (stage r))) ≡ false). rw e (older e))
      (bool_cases (comes_after stage s (suc k) && (eqb r 0 || ltb (stage (suc k)) (stage r))))
    where
      r : ℕ
      r = next_in stage s k

      newer : comes_after stage s (suc k) ≡ true → (eqb r 0 || ltb (stage (suc k)) (stage r)) ≡ true → Found s (suc k) (suc k)
      newer a b =
          record {
            none = λ e. absurd (omega arith);
            some = λ l.
                record {
                  range = omega arith;
                  after = a;
                  first = λ t l u c. ⊎_elim (λ (q : t ≡ suc k). inl q)
                      (λ (less : t < suc k). inr (earlier t l (omega arith) c (or_true (eqb r 0) _ b))) (eq-or-lt_of_le u);
                };
          }
        where
          earlier : (t : ℕ) → 1 ≤ t → t ≤ k → comes_after stage s t ≡ true → (eqb r 0 ≡ true) ⊎ (ltb (stage (suc k)) (stage r) ≡ true) → Before (suc k) t
          earlier t l u c (inl z) = absurd (F.none (eqb-true _ _ z) t l u c)
          earlier t l u c (inr z) =
              let lt : stage (suc k) < stage r = ltb-true _ _ z in
              ⊎_elim (λ (z : r ≡ 0). absurd (F.none z t l u c))
              (λ nz.
              ⊎_elim (λ (q : t ≡ r). inl (omega (arith, ap stage q)))
              (λ b. ⊎_elim (λ (x : stage r < stage t). inl (omega arith)) (λ x. inl (omega (arith, x.0))) b)
              ((F.some (omega arith)).first t l u c))
              (eq? r 0)

      older : (comes_after stage s (suc k) && (eqb r 0 || ltb (stage (suc k)) (stage r))) ≡ false → Found s (suc k) r
      older e =
          record {
            none = λ z t l u c.
                ⊎_elim (λ (q : t ≡ suc k). never (and_make (rw q at c) (or_left (eqb r 0) _ (eq-eqb _ _ z))) e)
                (λ (less : t < suc k). F.none z t l (omega arith) c) (eq-or-lt_of_le u);
            some = λ l.
                let f : First s k r = F.some l in
                record {
                  range = omega arith;
                  after = f.after;
                  first = λ t l' u c. ⊎_elim (λ (q : t ≡ suc k). inr (last t q c f.range)) (λ (less : t < suc k). f.first t l' (omega arith) c)
                      (eq-or-lt_of_le u);
                };
          }
        where
          last : (t : ℕ) → t ≡ suc k → comes_after stage s t ≡ true → r ≤ k → Before r t
          last t q c le =
              ⊎_elim (λ f. never (rw q at c) f)
              (λ f.
              let ge : stage r ≤ stage (suc k) = ltb-false _ _ (or_false (eqb r 0) _ f).1 in
              ⊎_elim (λ (x : stage r ≡ stage (suc k)). inr (omega (arith, ap stage q)))
              (λ (x : stage r < stage (suc k)). inl (omega (arith, ap stage q))) (eq-or-lt_of_le ge))
              (and_false (comes_after stage s (suc k)) _ e)

  found : (s n : ℕ) → Found s n (next_in stage s n)
  unfolding next_in
  found s zero = record { none = λ e t l u. absurd (omega arith); some = λ l. absurd (omega arith) }
  found s (suc k) = found_on s k (found s k)

  -- so whoever is the first is found, and where nobody is there nobody
  pub next_first : (s n r : ℕ) → 1 ≤ r → First s n r → r ≡ next_in stage s n
  next_first s n r pos f =
      ⊎_elim (λ (z : next_in stage s n ≡ 0). absurd ((found s n).none z r pos f.range f.after))
      (λ (nz : next_in stage s n ≡ 0 → ⊥).
      let g : First s n (next_in stage s n) = (found s n).some (pos_of_ne-zero nz) in
      ⊎_elim (λ (q : r ≡ next_in stage s n). q)
      (λ b.
      ⊎_elim (λ (q : next_in stage s n ≡ r). sym q) (λ d. no_both (next_in stage s n) r b d)
      (f.first (next_in stage s n) (pos_of_ne-zero nz) g.range g.after))
      (g.first r pos f.range f.after))
      (eq? (next_in stage s n) 0)

  pub next_none : (s n : ℕ) → ((t : ℕ) → 1 ≤ t → t ≤ n → comes_after stage s t ≡ true → ⊥) → 0 ≡ next_in stage s n
  next_none s n empty =
      ⊎_elim (λ (z : next_in stage s n ≡ 0). sym z)
      (λ (nz : next_in stage s n ≡ 0 → ⊥).
      let g : First s n (next_in stage s n) = (found s n).some (pos_of_ne-zero nz) in
      absurd (empty (next_in stage s n) (pos_of_ne-zero nz) g.range g.after))
      (eq? (next_in stage s n) 0)

  abbrev pub Rising : List ℕ → Type 0
  Rising [] = Unit {0}
  Rising (x ∷ xs) = ((y : ℕ) → Mem y xs → Before x y) × Rising xs

  insert_rising : (s : ℕ) (ts : List ℕ) → ((t : ℕ) → Mem t ts → t < s) → Rising ts → Rising (insert stage s ts)
  unfolding insert
  insert_rising s [] lower r = (λ y m. absurd (not-nil m), tt)
  insert_rising s (t ∷ ts) lower r =
      ⊎_elim
      (λ (e : ltb (stage s) (stage t) ≡ true).
      let l : stage s < stage t = ltb-true _ _ e in
      rw e (λ y m. ⊎_elim (λ (q : y ≡ t). inl (omega (arith, ap stage q))) (λ k. chain s t y (inl l) (r.0 y k)) (cases_cons m), r))
      (λ (e : ltb (stage s) (stage t) ≡ false).
      let l : stage t ≤ stage s = ltb-false _ _ e in
      let b : Before t s = ⊎_elim (λ (x : stage t ≡ stage s). inr (x, lower t (here refl))) inl (eq-or-lt_of_le l) in
      rw e (
        λ y m. ⊎_elim (λ (q : y ≡ s). subst (Before t) (sym q) b) (r.0 y) (insert_in stage s ts y m),
        insert_rising s ts
            (λ u m. lower u (later m)) r.1,
      ))
      (bool_cases (ltb (stage s) (stage t)))

  staged_rising : (n : ℕ) → Rising (by_stage stage n)
  unfolding by_stage
  staged_rising zero = tt
  staged_rising (suc n) = insert_rising (suc n) (by_stage stage n) (λ t m. let r : (1 ≤ t) × (t ≤ n) = staged_in stage n t m in omega arith) (staged_rising n)

  -- the students to come after `last`
  pub record Coming (n last : ℕ) (ys : List ℕ) : Type 0 where
    pub rising : Rising ys
    pub member : (t : ℕ) → Mem t ys → ((1 ≤ t) × (t ≤ n)) × (comes_after stage last t ≡ true)
    pub all : (t : ℕ) → 1 ≤ t → t ≤ n → comes_after stage last t ≡ true → Mem t ys

  pub coming_first : (n : ℕ) → Coming n 0 (by_stage stage n)
  unfolding comes_after
  coming_first n = record { rising = staged_rising n; member = λ t m. (staged_in stage n t m, refl); all = λ t l u c. in_staged stage n t l u }

  pub coming_none : (n last : ℕ) → Coming n last [] → next_in stage last n ≡ 0
  coming_none n last K =
      ⊎_elim (λ e. e)
      (λ nz.
      let f : First last n (next_in stage last n) = (found last n).some (pos_of_ne-zero nz) in
      absurd (not-nil (K.all _ (pos_of_ne-zero nz) f.range f.after)))
      (eq? (next_in stage last n) 0)

  pub coming_next : (n last y : ℕ) (ys : List ℕ) → Coming n last (y ∷ ys) → (next_in stage last n ≡ y) × Coming n y ys
  unfolding comes_after
  coming_next n last y ys K = (is_next, rest)
    where
      mine : ((1 ≤ y) × (y ≤ n)) × (comes_after stage last y ≡ true)
      mine = K.member y (here refl)

      r : ℕ
      r = next_in stage last n

      is_next : next_in stage last n ≡ y
      is_next =
          ⊎_elim (λ z. absurd ((found last n).none z y mine.0.0 mine.0.1 mine.1))
          (λ nz.
          let f : First last n (next_in stage last n) = (found last n).some (pos_of_ne-zero nz) in
          ⊎_elim (λ e. e) (λ k. ⊎_elim (λ e. sym e) (λ b. no_both (next_in stage last n) y b (K.rising.0 _ k))
          (f.first y mine.0.0 mine.0.1 mine.1))
          (cases_cons (K.all (next_in stage last n) (pos_of_ne-zero nz) f.range f.after)))
          (eq? (next_in stage last n) 0)

      onward : (t : ℕ) → Before y t → comes_after stage last t ≡ true
      onward t b = ⊎_elim (λ z. or_left (eqb last 0) _ (eq-eqb last 0 z)) (λ a. before_after last t (chain last y t a b)) (after_before last y mine.1)

      rest : Coming n y ys
      rest =
          record {
            rising = K.rising.1;
            member = λ t m. ((K.member t (later m)).0, before_after y t (K.rising.0 t m));
            all = λ t l u c.
                ⊎_elim (λ (z : y ≡ 0). absurd (omega (arith, mine.0.0)))
                (λ b. ⊎_elim (λ (q : t ≡ y). no_both y t b (subst (Before t) q (subst (λ z. Before z t) (sym q) b))) (λ k. k)
                (cases_cons (K.all t l u (onward t b))))
                (after_before y t c);
          }

-- ---- the waiting students, kept as the student in hand (0 for nobody) and the last one taken
module _ (stage : ℕ → ℕ) (n : ℕ) where
  pub data Waits (hand last : ℕ) : List ℕ → Type 0 where
    over : hand ≡ 0 → Waits hand last []
    holds : {rest : List ℕ} → 1 ≤ hand → last ≤ n → Coming stage n last rest → Waits hand last (hand ∷ rest)

  -- the next student is taken
  pub taken : (last : ℕ) (ws : List ℕ) → Coming stage n last ws → Waits (next_in stage last n) (next_in stage last n) ws
  taken last [] K = over (coming_none stage n last K)
  taken last (y ∷ ys) K =
      let r : (next_in stage last n ≡ y) × Coming stage n y ys = coming_next stage n last y ys K in
      let y_in : (1 ≤ y) × (y ≤ n) = (K.member y (here refl)).0 in
      subst (λ h. Waits h h (y ∷ ys)) (sym r.0) (holds y_in.0 y_in.1 r.1)

  pub waits_first : Waits (next_in stage 0 n) (next_in stage 0 n) (by_stage stage n)
  waits_first = taken 0 (by_stage stage n) (coming_first stage n)
