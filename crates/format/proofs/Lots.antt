-- The lots of a case that passes causes 2 and 3. Cause 13 is found at exactly the students with a wrong lot (`lot_bad`, `bad_lot_lem`); where it finds nothing
-- each student's lot is the one in her record, from 1 to 512, and no two are equal.
use Prim.Native.Nat.{ℕ, suc, ◌-◌, ◌≤◌, ◌<◌}
use mathlib.Core.Path.{◌≡◌, sym, ◌∙◌}
use mathlib.Core.Logic.{◌⊎◌, inl, inr, ⊎_elim}
use mathlib.Core.Bool.{Bool, true, false, ◌&&◌, ◌||◌}
use mathlib.Core.List.{List}
use native.Mathlib.Omega.{arith}
use lib.Dec.{eqb, ltb}
use borrow.Author.Tests.{eqb-true, ltb-true, eq-eqb, lt-ltb}
use Rattle.base.specs.Below.{any_below}
use Rattle.base.proofs.Tests.{never, and_left, and_right, and_make, or_true, or_left, or_right, less?}
use Rattle.base.proofs.Below.{any_before, any_found, any_first}
use Rattle.format.specs.Layout.{row_at, rows, row_count, has_lot}
use Rattle.format.specs.Refusals.{not_within, bad_lot}
use Rattle.format.specs.Engine.{market_in}
use Rattle.format.specs.Promises.{lot_in, WrongLot}
use Rattle.format.proofs.Sorted.{row_at_lem, Clean}
use Rattle.format.proofs.Positions.{places, lot_at, student_from}

-- a number out of range
outside : (low high x : ℕ) → not_within low high x ≡ true → (x < low) ⊎ (high < x)
outside low high x e = ⊎_elim (λ b. inl (ltb-true x low b)) (λ b. inr (ltb-true high x b)) (or_true (ltb x low) _ e)

is_outside : (low high x : ℕ) → (x < low) ⊎ (high < x) → not_within low high x ≡ true
is_outside low high x (inl l) = or_left (ltb x low) _ (lt-ltb x low l)
is_outside low high x (inr l) = or_right (ltb x low) _ (lt-ltb high x l)

module _ (case : List ℕ) (c : Clean case (row_count case)) where
  -- a student's record, and her lot in it
  student : (s : ℕ) → 1 ≤ s → s ≤ (market_in case).students → (s - 1 < row_count case) × ((row_at case (s - 1)).kind ≡ 1)
  student s l u = (omega (arith, (places case c).whole), ((places case c).student (s - 1) (omega arith)).0)

  lot_of : (i : ℕ) → lot_in case (suc i) ≡ (row_at case i).fourth
  unfolding row_at
  lot_of i = let e : suc i - 1 ≡ i = omega arith in rw e

  -- an earlier record is a student's with this lot
  abbrev used : ℕ → ℕ → Bool
  used lot i = any_below (λ k. has_lot lot (row_at case k)) i

  -- the cause's test, by record numbers
  lot_test : (i : ℕ) → i < row_count case
      → bad_lot (rows case) i ≡ (eqb (row_at case i).kind 1 && (not_within 1 512 (row_at case i).fourth || used (row_at case i).fourth i))
  unfolding bad_lot rows
  lot_test i l = rw (row_at_lem case i l, any_before (row_at case) (has_lot (row_at case i).fourth) (row_count case) i (omega arith))

  pub lot_bad : (s : ℕ) → 1 ≤ s → s ≤ (market_in case).students → WrongLot case s → bad_lot (rows case) (s - 1) ≡ true
  unfolding row_at
  lot_bad s l u w = rw (lot_test (s - 1) (student s l u).0, (student s l u).1) (bad w)
    where
      bad : WrongLot case s → (not_within 1 512 (lot_in case s) || used (lot_in case s) (s - 1)) ≡ true
      bad (inl r) = or_left (not_within 1 512 (lot_in case s)) _ (is_outside 1 512 (lot_in case s) r)
      bad (inr (t, from, to, e)) =
          or_right (not_within 1 512 (lot_in case s)) _
          (any_found (λ k. has_lot (lot_in case s) (row_at case k)) (t - 1) (s - 1) (omega arith)
          (and_make (eq-eqb _ _ (student t from (omega arith)).1) (eq-eqb _ _ e)))

  pub bad_lot_lem : (i : ℕ) → i < row_count case → bad_lot (rows case) i ≡ true → (i < (market_in case).students) × WrongLot case (suc i)
  bad_lot_lem i l e =
      let f : (eqb (row_at case i).kind 1 && (not_within 1 512 (row_at case i).fourth || used (row_at case i).fourth i)) ≡ true = sym (lot_test i l) ∙ e in (
        student_from case c i l (eqb-true _ _ (and_left (eqb (row_at case i).kind 1) _ f)),
        wrong (or_true (not_within 1 512 (row_at case i).fourth) _ (and_right (eqb (row_at case i).kind 1) _ f)),
      )
    where
      wrong : (not_within 1 512 (row_at case i).fourth ≡ true) ⊎ (used (row_at case i).fourth i ≡ true) → WrongLot case (suc i)
      wrong (inl r) = inl (rw (lot_of i) (outside 1 512 (row_at case i).fourth r))
      wrong (inr r) =
          let t : (k : ℕ) × (k < i) × (has_lot (row_at case i).fourth (row_at case k) ≡ true)
          × ((j : ℕ) → j < k → has_lot (row_at case i).fourth (row_at case j) ≡ false) =
          any_first (λ k. has_lot (row_at case i).fourth (row_at case k)) i r in
          inr (
            suc t.0,
            omega arith,
            omega (arith, t.1),
            rw (lot_of t.0, lot_of i) (eqb-true _ _ (and_right (eqb (row_at case t.0).kind 1) _ t.2)),
          )

  -- where cause 13 finds nothing
  module _ (lots : (i : ℕ) → i < row_count case → bad_lot (rows case) i ≡ false) where
    right : (s : ℕ) → 1 ≤ s → s ≤ (market_in case).students → WrongLot case s → ⊥
    right s l u w = never (lot_bad s l u w) (lots (s - 1) (student s l u).0)

    pub lot_range : (s : ℕ) → 1 ≤ s → s ≤ (market_in case).students → (1 ≤ (market_in case).lot s) × ((market_in case).lot s ≤ 512)
    unfolding row_at
    lot_range s l u =
        rw (lot_at case c s l u)
        (⊎_elim (λ a. absurd (right s l u (inl (inl a))))
        (λ a. ⊎_elim (λ b. absurd (right s l u (inl (inr b)))) (λ b. (a, b)) (less? 512 (lot_in case s)))
        (less? (lot_in case s) 1))

    pub lots_apart : (s t : ℕ) → 1 ≤ s → s ≤ (market_in case).students → 1 ≤ t → t ≤ (market_in case).students
        → (market_in case).lot s ≡ (market_in case).lot t → s ≡ t
    unfolding row_at
    lots_apart s t ls us lt ut e =
        let f : lot_in case s ≡ lot_in case t = sym (lot_at case c s ls us) ∙ (e ∙ lot_at case c t lt ut) in
        ⊎_elim (λ (a : s < t). absurd (right t lt ut (inr (s, ls, a, f))))
        (λ (a : t ≤ s). ⊎_elim (λ (b : t < s). absurd (right s ls us (inr (t, lt, b, sym f)))) (λ (b : s ≤ t). omega arith) (less? t s))
        (less? s t)
