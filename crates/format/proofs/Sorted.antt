-- The records of a clean case stand in order: students, then workshops, then pairs, the students and the workshops by their numbers.
-- By induction on the records passed: a record whose kind does not fall and whose number is in sequence stands where its number says.
use Prim.Native.Nat.{ℕ, zero, suc, ◌+◌, ◌-◌, ◌≤◌, ◌<◌}
use mathlib.Core.Path.{◌≡◌, refl, sym, ap, ◌∙◌}
use mathlib.Core.Logic.{◌⊎◌, inl, inr, ⊎_elim}
use mathlib.Core.Bool.{false, not, ◌&&◌, ◌||◌}
use mathlib.Core.List.{List}
use native.Mathlib.Omega.{arith}
use native.Mathlib.Nat.{add-zero}
use lib.Dec.{eqb, ltb}
use lib.ListN.{get_or, take}
use borrow.Author.Tests.{eqb-true, ne_eqb, ltb-true, ltb-false, le-ltb, not-false}
use Rattle.base.specs.Lists.{tally}
use Rattle.base.specs.Below.{count_below}
use Rattle.base.proofs.Tests.{and_left, and_right, or_true, or_false, less?}
use Rattle.base.proofs.Below.{tabulate_at, tally_before}
use Rattle.format.specs.Layout.{Row, row_at, row_count, rows, no_row, of_kind}
use Rattle.format.specs.Refusals.{not_within, bad_form, kind_falls, bad_number, not_rising, names_nobody, bad_order}

-- ---- a number in a range
pub within : (low high x : ℕ) → not_within low high x ≡ false → (low ≤ x) × (x ≤ high)
within low high x e =
    let r : (ltb x low ≡ false) × (ltb high x ≡ false) = or_false (ltb x low) _ e in
    (ltb-false _ _ r.0, ltb-false _ _ r.1)

pub is_within : (low high x : ℕ) → low ≤ x → x ≤ high → not_within low high x ≡ false
is_within low high x l u = rw (le-ltb x low l, le-ltb high x u)

-- ---- the records before record i

-- how many of the first i records are of the kind
abbrev pub kinds_before : List ℕ → ℕ → ℕ → ℕ
kinds_before case kind i = count_below (λ k. of_kind kind (row_at case k)) i

-- the pair r stands before the pair q, by student and then workshop
abbrev pub Before : Row → Row → Type 0
Before r q = (r.first < q.first) ⊎ ((r.first ≡ q.first) × (r.second < q.second))

-- the first i records pass causes 2 and 3
pub record Clean (case : List ℕ) (i : ℕ) : Type 0 where
  pub inside : i ≤ row_count case
  pub form : (k : ℕ) → k < i → bad_form (rows case) k ≡ false
  pub order : (k : ℕ) → k < i → bad_order (rows case) k ≡ false

-- of i records the first S are students, the next W workshops, and the other P pairs
pub record Sorted (case : List ℕ) (i S W P : ℕ) : Type 0 where
  pub whole : S + W + P ≡ i
  pub student : (k : ℕ) → k < S → ((row_at case k).kind ≡ 1) × ((row_at case k).first ≡ suc k)
  pub workshop : (k : ℕ) → k < W → ((row_at case (S + k)).kind ≡ 2) × ((row_at case (S + k)).first ≡ suc k)
  pub pair : (k : ℕ) → S + W ≤ k → k < i → (row_at case k).kind ≡ 3

module _ (case : List ℕ) where
  pub row_at_lem : (i : ℕ) → i < row_count case → get_or (rows case) i no_row ≡ row_at case i
  unfolding rows
  row_at_lem i l = tabulate_at (row_at case) (row_count case) i no_row l

  pub kinds_before_lem : (kind i : ℕ) → i ≤ row_count case → tally (of_kind kind) (take i (rows case)) ≡ kinds_before case kind i
  unfolding rows
  kinds_before_lem kind i l = tally_before (row_at case) (of_kind kind) (row_count case) i l

  -- ---- what the tests of one record say of it
  module _ (i : ℕ) (l : i < row_count case) where
    pub kind_within : bad_form (rows case) i ≡ false → (1 ≤ (row_at case i).kind) × ((row_at case i).kind ≤ 3)
    unfolding bad_form
    kind_within e = within 1 3 (row_at case i).kind (or_false (not_within 1 3 (row_at case i).kind) _ (rw (row_at_lem i l) at e)).0

    -- the tests of cause 3, by record numbers
    pub falls_at : kind_falls (rows case) i ≡ ltb (row_at case i).kind (row_at case (i - 1)).kind
    unfolding kind_falls
    falls_at = rw (row_at_lem i l, row_at_lem (i - 1) (omega arith))

    pub number_at : bad_number (rows case) i
        ≡ (not (eqb (row_at case i).kind 3) && not (eqb (row_at case i).first (suc (kinds_before case (row_at case i).kind i))))
    unfolding bad_number
    number_at = rw (row_at_lem i l, kinds_before_lem (row_at case i).kind i (omega arith))

    pub rising_at : not_rising (rows case) i
        ≡ ((eqb (row_at case i).kind 3 && eqb (row_at case (i - 1)).kind 3)
        && not
        (ltb (row_at case (i - 1)).first (row_at case i).first
        || (eqb (row_at case (i - 1)).first (row_at case i).first && ltb (row_at case (i - 1)).second (row_at case i).second)))
    unfolding not_rising
    rising_at = rw (row_at_lem i l, row_at_lem (i - 1) (omega arith))

    -- a record that passes cause 3
    module _ (e : bad_order (rows case) i ≡ false) where
      pub parts : ((kind_falls (rows case) i ≡ false) × (bad_number (rows case) i ≡ false))
          × ((not_rising (rows case) i ≡ false) × (names_nobody (rows case) i ≡ false))
      unfolding bad_order
      parts =
          let r : ((kind_falls (rows case) i || bad_number (rows case) i) ≡ false) × ((not_rising (rows case) i || names_nobody (rows case) i) ≡ false) =
          or_false (kind_falls (rows case) i || bad_number (rows case) i) _ e in
          (or_false (kind_falls (rows case) i) _ r.0, or_false (not_rising (rows case) i) _ r.1)

      pub kind_rises : (row_at case (i - 1)).kind ≤ (row_at case i).kind
      kind_rises = ltb-false _ _ (sym falls_at ∙ parts.0.0)

      -- a student's or a workshop's number
      pub numbered : (kind : ℕ) → (row_at case i).kind ≡ kind → (kind ≡ 3 → ⊥) → (row_at case i).first ≡ suc (kinds_before case kind i)
      numbered kind q ne = eqb-true _ _ (not-false _ (rw (q, ne_eqb kind 3 ne) at (sym number_at ∙ parts.0.1)))

      -- a pair is above the pair before it, by student and then workshop
      pub pair_rises : (row_at case i).kind ≡ 3 → (row_at case (i - 1)).kind ≡ 3 → Before (row_at case (i - 1)) (row_at case i)
      pair_rises q r =
          ⊎_elim (λ b. inl (ltb-true _ _ b))
          (λ b.
          inr (
            eqb-true _ _ (and_left (eqb (row_at case (i - 1)).first (row_at case i).first) _ b),
            ltb-true _ _ (and_right (eqb (row_at case (i - 1)).first (row_at case i).first) _ b),
          ))
          (or_true (ltb (row_at case (i - 1)).first (row_at case i).first) _ (not-false _ (rw (q, r) at (sym rising_at ∙ parts.1.0))))

  -- ---- one record more
  module _ (i S W P : ℕ) (I : Sorted case i S W P) (rises : (row_at case (i - 1)).kind ≤ (row_at case i).kind) where
    -- the kind of the last record
    last_pair : 0 < P → (row_at case (i - 1)).kind ≡ 3
    last_pair l = I.pair (i - 1) (omega arith) (omega arith)

    last_workshop : 0 < W → P ≡ 0 → (row_at case (i - 1)).kind ≡ 2
    last_workshop l e = let q : S + (W - 1) ≡ i - 1 = omega arith in rw (← q) (I.workshop (W - 1) (omega arith)).0

    no_pairs : (row_at case i).kind < 3 → P ≡ 0
    no_pairs l = ⊎_elim (λ (q : 0 < P). absurd (omega (arith, last_pair q))) (λ (q : P ≤ 0). omega arith) (less? 0 P)

    no_workshops : (row_at case i).kind ≡ 1 → W ≡ 0
    no_workshops e =
        ⊎_elim (λ (q : 0 < W). absurd (omega (arith, last_workshop q (no_pairs (omega arith))))) (λ (q : W ≤ 0). omega arith) (less? 0 W)

    more_student : (row_at case i).kind ≡ 1 → (row_at case i).first ≡ suc S → Sorted case (suc i) (S + 1) W P
    more_student e f =
        let w : W ≡ 0 = no_workshops e in
        let p : P ≡ 0 = no_pairs (omega arith) in
        record {
          whole = omega arith;
          student = λ k l.
              ⊎_elim (λ (q : k < S). I.student k q)
              (λ (q : S ≤ k). let r : k ≡ i = omega arith in let t : S ≡ i = omega arith in rw r (e, f ∙ ap suc t))
              (less? k S);
          workshop = λ k l. absurd (omega arith);
          pair = λ k a b. absurd (omega arith);
        }

    more_workshop : (row_at case i).kind ≡ 2 → (row_at case i).first ≡ suc W → Sorted case (suc i) S (W + 1) P
    more_workshop e f =
        let p : P ≡ 0 = no_pairs (omega arith) in
        record {
          whole = omega arith;
          student = I.student;
          workshop = λ k l.
              ⊎_elim (λ (q : k < W). I.workshop k q)
              (λ (q : W ≤ k). let r : S + k ≡ i = omega arith in let t : W ≡ k = omega arith in rw r (e, f ∙ ap suc t))
              (less? k W);
          pair = λ k a b. absurd (omega arith);
        }

    more_pair : (row_at case i).kind ≡ 3 → Sorted case (suc i) S W (P + 1)
    more_pair e =
        record {
          whole = omega arith;
          student = I.student;
          workshop = I.workshop;
          pair = λ k a b. ⊎_elim (λ (q : k < i). I.pair k a q) (λ (q : i ≤ k). let r : k ≡ i = omega arith in rw r e) (less? k i);
        }

  pub sorted : (i : ℕ) → Clean case i → Sorted case i (kinds_before case 1 i) (kinds_before case 2 i) (kinds_before case 3 i)
  unfolding count_below
  sorted zero c =
      record { whole = refl; student = λ k l. absurd (omega arith); workshop = λ k l. absurd (omega arith); pair = λ k a b. absurd (omega arith) }
  sorted (suc i) c =
      by_kind
      (sorted i (record { inside = omega (arith, c.inside); form = λ k l. c.form k (omega arith); order = λ k l. c.order k (omega arith) }))
      (kind_rises i l (c.order i (omega arith)))
      (kind_within i l (c.form i (omega arith)))
      (numbered i l (c.order i (omega arith)))
    where
      l : i < row_count case
      l = omega (arith, c.inside)

      by_kind : Sorted case i (kinds_before case 1 i) (kinds_before case 2 i) (kinds_before case 3 i)
          → (row_at case (i - 1)).kind ≤ (row_at case i).kind
          → (1 ≤ (row_at case i).kind) × ((row_at case i).kind ≤ 3)
          → ((kind : ℕ) → (row_at case i).kind ≡ kind → (kind ≡ 3 → ⊥) → (row_at case i).first ≡ suc (kinds_before case kind i))
          → Sorted case (suc i) (kinds_before case 1 (suc i)) (kinds_before case 2 (suc i)) (kinds_before case 3 (suc i))
      by_kind I rises kind number =
          ⊎_elim
          (λ (a : (row_at case i).kind < 2).
          let e : (row_at case i).kind ≡ 1 = omega arith in
          rw e (simp add-zero (more_student i _ _ _ I rises e (number 1 e (λ q. omega arith)))))
          (λ (a : 2 ≤ (row_at case i).kind).
          ⊎_elim
          (λ (b : (row_at case i).kind < 3).
          let e : (row_at case i).kind ≡ 2 = omega arith in
          rw e (simp add-zero (more_workshop i _ _ _ I rises e (number 2 e (λ q. omega arith)))))
          (λ (b : 3 ≤ (row_at case i).kind). let e : (row_at case i).kind ≡ 3 = omega arith in rw e (simp add-zero (more_pair i _ _ _ I rises e)))
          (less? (row_at case i).kind 3))
          (less? (row_at case i).kind 2)
