-- Cause 13 in one pass over the students: the test of a lot by the set of those used, a student more, and the end.
use Prim.Native.Nat.{ℕ, suc, ◌+◌, ◌-◌, ◌/◌, ◌%◌, ◌≤◌, ◌<◌}
use mathlib.Core.Path.{◌≡◌, refl, sym, ap, ◌∙◌}
use mathlib.Core.Logic.{⊎_elim}
use mathlib.Core.Bool.{Bool, true, false, ◌||◌}
use Rattle.std.specs.Prelude.{None}
use mathlib.Core.List.{List}
use native.Mathlib.Omega.{arith}
use lib.Dec.{eqb}
use lib.ListN.{take, replicate}
use borrow.Author.Tests.{eq-eqb, ne_eqb}
use Rattle.base.specs.Lists.{any}
use Rattle.base.specs.Search.{first_bad}
use Rattle.base.specs.Below.{any_below}
use Rattle.base.specs.Bits.{member, met_in}
use Rattle.base.proofs.Tests.{bool_cases, never, less?, eq?, or_right, or_none}
use Rattle.base.proofs.Below.{any_on, any_before}
use Rattle.base.proofs.Search.{scan_on, scan_none, none_fails}
use Rattle.base.proofs.Members.{all_zero}
use Rattle.base.proofs.Digits.{bit_zero}
use Rattle.format.specs.Layout.{row_at, rows, row_count, has_lot}
use Rattle.format.specs.Refusals.{not_within, bad_lot}
use Rattle.format.proofs.Positions.{row_at_lem, within, places, student_from}
use Rattle.case_tests.specs.Lots.{StudentsFirst, Used}
use Rattle.case_tests.specs.Checked.{CleanCase}
use Rattle.case_tests.proofs.Cases.{clean}

-- in a clean case the students stand first
pub students_first : (case : List ℕ) (n m : ℕ) → CleanCase case n m → StudentsFirst case n
students_first case n m c =
    rw c.students
    (record {
      inside = omega (arith, (places case (clean case n m c)).whole);
      student = λ k l. ((places case (clean case n m c)).student k l).0;
      other = λ k l u e. omega (arith, student_from case (clean case n m c) k u e);
    })

-- one of the first i records is a student's with this lot
abbrev drawn : List ℕ → ℕ → ℕ → Bool
drawn case lot i = any_below (λ k. has_lot lot (row_at case k)) i

-- the lots of the first i students pass, and are those in the set
pub record Drawn (case used : List ℕ) (i : ℕ) : Type 0 where
  pub passed : first_bad (bad_lot (rows case)) i ≡ None
  pub slots : (x : ℕ) → met_in used x ≡ drawn case (suc x) i

pub drawn_none : (case : List ℕ) → Drawn case (replicate 8 0) 0
unfolding first_bad any_below met_in member
drawn_none case = record { passed = refl; slots = λ x. rw (all_zero 8 (x / 64)) (bit_zero (x % 64)) }

module _ (case : List ℕ) (n : ℕ) (f : StudentsFirst case n) where
  -- the cause's test, of a student and of any other record
  earlier : (lot i : ℕ) → i ≤ row_count case → any (has_lot lot) (take i (rows case)) ≡ drawn case lot i
  unfolding rows
  earlier lot i l = any_before (row_at case) (has_lot lot) (row_count case) i l

  test : (i : ℕ) → i < n → bad_lot (rows case) i ≡ (not_within 1 512 (row_at case i).fourth || drawn case (row_at case i).fourth i)
  unfolding bad_lot
  test i l =
      let u : i < row_count case = omega (arith, f.inside) in
      rw (row_at_lem case i u, f.student i l, earlier (row_at case i).fourth i (omega arith))

  passes : (i : ℕ) → n ≤ i → i < row_count case → bad_lot (rows case) i ≡ false
  unfolding bad_lot
  passes i l u = rw (row_at_lem case i u, ne_eqb (row_at case i).kind 1 (f.other i l u))

  pub lots_pass : (used : List ℕ) → Drawn case used n → first_bad (bad_lot (rows case)) (row_count case) ≡ None
  lots_pass used d =
      scan_none (bad_lot (rows case)) (row_count case)
      (λ k u. ⊎_elim (λ (l : k < n). none_fails (bad_lot (rows case)) n d.passed k l) (λ (l : n ≤ k). passes k l u) (less? k n))

  -- ---- student i
  module _ (i : ℕ) (l : i < n) (used after : List ℕ) (r : Bool) (d : Drawn case used i) (t : Used used after (row_at case i).fourth r) where
    abbrev lot : ℕ
    lot = (row_at case i).fourth

    pub lot_test : bad_lot (rows case) i ≡ r
    lot_test =
        test i l
        ∙ ⊎_elim (λ (e : not_within 1 512 lot ≡ true). rw e (sym (t.outside e)))
        (λ (e : not_within 1 512 lot ≡ false).
        let q : suc (lot - 1) ≡ lot = omega (arith, within 1 512 lot e) in
        rw e (sym ((t.inside e).was ∙ d.slots (lot - 1) ∙ ap (λ x. drawn case x i) q)))
        (bool_cases (not_within 1 512 lot))

    pub drawn_on : r ≡ false → Drawn case after (i + 1)
    drawn_on p = record { passed = scan_on (bad_lot (rows case)) i d.passed (lot_test ∙ p); slots = slots }
      where
        more : (x : ℕ) → drawn case (suc x) (i + 1) ≡ (drawn case (suc x) i || eqb lot (suc x))
        more x = any_on (λ k. has_lot (suc x) (row_at case k)) i ∙ rw (f.student i l)

        range : not_within 1 512 lot ≡ false
        range = ⊎_elim (λ (e : not_within 1 512 lot ≡ true). never (t.outside e) p) (λ e. e) (bool_cases (not_within 1 512 lot))

        slots : (x : ℕ) → met_in after x ≡ drawn case (suc x) (i + 1)
        slots x =
            let w : (1 ≤ lot) × (lot ≤ 512) = within 1 512 lot range in
            ⊎_elim
            (λ (e : x ≡ lot - 1).
            let q : lot ≡ suc x = omega arith in
            rw e (t.inside range).there ∙ sym (more x ∙ or_right (drawn case (suc x) i) _ (eq-eqb lot (suc x) q)))
            (λ (e : x ≡ lot - 1 → ⊥).
            (t.inside range).others x e
            ∙ d.slots x
            ∙ sym (more x ∙ rw (ne_eqb lot (suc x) (λ (q : lot ≡ suc x). e (omega arith))) (or_none (drawn case (suc x) i))))
            (eq? x (lot - 1))
