-- Cause 3 by running counts: a turn of the scan, and the test of one record.
use Prim.Native.Nat.{ℕ, suc, ◌+◌, ◌-◌, ◌≤◌, ◌<◌}
use mathlib.Core.Path.{◌≡◌, refl, sym, ◌∙◌}
use mathlib.Core.Logic.{⊎_elim}
use mathlib.Core.Bool.{Bool, true, false, not, ◌&&◌, ◌||◌, or-false}
use mathlib.Core.List.{List}
use native.Mathlib.Omega.{arith}
use borrow.Author.Tests.{le-ltb}
use native.Mathlib.Numerals.{add-one}
use lib.ListN.{take}
use lib.Dec.{eqb, ltb}
use Rattle.base.specs.Lists.{one, tally}
use Rattle.base.specs.Search.{first_bad}
use Rattle.base.proofs.Tests.{less?}
use Rattle.base.proofs.Below.{count_on}
use Rattle.base.proofs.Search.{scan_on, none_fails}
use Rattle.format.specs.Layout.{Row, row_at, rows, row_count, of_kind}
use Rattle.format.specs.Refusals.{not_within, bad_form, bad_number, names_nobody, bad_order}
use Rattle.format.proofs.Positions.{Clean, kinds_before, row_at_lem, kinds_before_lem, falls_at, rising_at, kind_within, names_at}
use Rattle.case_tests.specs.Order.{Counted}

-- the test of record r after record p, n students and m workshops
abbrev pub order_test : ℕ → ℕ → Row → Row → Bool
order_test n m r p =
    (ltb r.kind p.kind
    || ((eqb r.kind 1 && not (eqb r.first (n + 1))) || (eqb r.kind 2 && not (eqb r.first (m + 1)))))
    || (((eqb r.kind 3 && eqb p.kind 3) && not (ltb p.first r.first || (eqb p.first r.first && ltb p.second r.second)))
    || (eqb r.kind 3 && (not_within 1 n r.first || not_within 1 m r.second)))

one_le : (b : Bool) → one b ≤ 1
one_le true = omega arith
one_le false = omega arith

module _ (case : List ℕ) where
  pub counted_start : Counted case 0 0 0
  unfolding first_bad tally
  counted_start =
      record { inside = omega arith; form = refl; order = refl; students = refl; workshops = refl; few_students = omega arith; few_workshops = omega arith }

  module _ (i n m : ℕ) (c : Counted case i n m) (l : i < row_count case) (f : bad_form (rows case) i ≡ false) where
    pub clean : Clean case i
    clean =
        record {
          inside = c.inside;
          form = none_fails (bad_form (rows case)) i c.form;
          order = none_fails (bad_order (rows case)) i c.order;
        }

    kinds : (kind : ℕ) → tally (of_kind kind) (take i (rows case)) ≡ kinds_before case kind i
    kinds kind = kinds_before_lem case kind i c.inside

    more : (kind a : ℕ) → a ≡ tally (of_kind kind) (take i (rows case))
        → a + one (of_kind kind (row_at case i)) ≡ tally (of_kind kind) (take (i + 1) (rows case))
    more kind a e = rw (kinds_before_lem case kind (i + 1) (omega arith), count_on (λ k. of_kind kind (row_at case k)) i, e, kinds kind)

    pub counted_on : bad_order (rows case) i ≡ false → Counted case (i + 1) (n + one (eqb (row_at case i).kind 1)) (m + one (eqb (row_at case i).kind 2))
    counted_on b =
        record {
          inside = omega arith;
          form = scan_on (bad_form (rows case)) i c.form f;
          order = scan_on (bad_order (rows case)) i c.order b;
          students = more 1 n c.students;
          workshops = more 2 m c.workshops;
          few_students = omega (arith, one_le (eqb (row_at case i).kind 1), c.few_students);
          few_workshops = omega (arith, one_le (eqb (row_at case i).kind 2), c.few_workshops);
        }

    number : bad_number (rows case) i
        ≡ ((eqb (row_at case i).kind 1 && not (eqb (row_at case i).first (n + 1))) || (eqb (row_at case i).kind 2 && not (eqb (row_at case i).first (m + 1))))
    unfolding bad_number
    number =
        let k : (1 ≤ (row_at case i).kind) × ((row_at case i).kind ≤ 3) = kind_within case i l f in
        ⊎_elim
        (λ (a : (row_at case i).kind < 2).
        let e : (row_at case i).kind ≡ 1 = omega arith in
        rw (row_at_lem case i l, e, add-one n, ← c.students) (sym (or-false (not (eqb (row_at case i).first (suc n))))))
        (λ (a : 2 ≤ (row_at case i).kind).
        ⊎_elim (λ (b : (row_at case i).kind < 3). let e : (row_at case i).kind ≡ 2 = omega arith in rw (row_at_lem case i l, e, add-one m, ← c.workshops))
        (λ (b : 3 ≤ (row_at case i).kind). let e : (row_at case i).kind ≡ 3 = omega arith in rw (row_at_lem case i l, e))
        (less? (row_at case i).kind 3))
        (less? (row_at case i).kind 2)

    pub nobody : names_nobody (rows case) i ≡ (eqb (row_at case i).kind 3 && (not_within 1 n (row_at case i).first || not_within 1 m (row_at case i).second))
    nobody = names_at case i clean l ∙ rw (← kinds 1, ← kinds 2, ← c.students, ← c.workshops)

    pub order_test_lem : bad_order (rows case) i ≡ order_test n m (row_at case i) (row_at case (i - 1))
    unfolding bad_order
    order_test_lem = rw (falls_at case i l, number, rising_at case i l, nobody)

    -- by its kind
    low : (row_at case (i - 1)).kind ≤ 3
    low =
        ⊎_elim (λ (a : 0 < i). (kind_within case (i - 1) (omega arith) (clean.form (i - 1) (omega arith))).1)
        (λ (a : i ≤ 0). let e : i - 1 ≡ i = omega arith in rw e (kind_within case i l f).1) (less? 0 i)

    -- r is record i, and p the one before it
    module _ (r p : Row) (er : r ≡ row_at case i) (ep : p ≡ row_at case (i - 1)) where
      test : bad_order (rows case) i ≡ order_test n m r p
      test = order_test_lem ∙ rw (er, ep)

      pub student_order : r.kind ≡ 1 → bad_order (rows case) i ≡ (ltb 1 p.kind || not (eqb r.first (n + 1)))
      student_order e = test ∙ rw (e, or-false (not (eqb r.first (n + 1)))) (or-false _)

      pub workshop_order : r.kind ≡ 2 → bad_order (rows case) i ≡ (ltb 2 p.kind || not (eqb r.first (m + 1)))
      workshop_order e = test ∙ rw e (or-false _)

      pub pair_order : (r.kind ≡ 1 → ⊥) → (r.kind ≡ 2 → ⊥)
          → bad_order (rows case) i
          ≡ ((eqb p.kind 3 && not (ltb p.first r.first || (eqb p.first r.first && ltb p.second r.second)))
          || (not_within 1 n r.first || not_within 1 m r.second))
      pair_order a b =
          let k : (1 ≤ r.kind) × (r.kind ≤ 3) = rw er (kind_within case i l f) in
          let e : r.kind ≡ 3 = omega arith in
          let u : p.kind ≤ 3 = rw ep low in
          test ∙ rw (e, le-ltb 3 p.kind u)
