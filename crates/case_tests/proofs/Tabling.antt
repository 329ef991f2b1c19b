-- Where the one pass finds nothing the case is clean and has its table; where it stops, the case is not clean.
use Prim.Native.Nat.{ℕ, ◌+◌, ◌≤◌, ◌<◌}
use mathlib.Core.Path.{◌≡◌, refl, sym, ◌∙◌}
use Rattle.std.specs.Prelude.{Option, Some, None, true}
use Rattle.std.specs.Option.{is_some}
use mathlib.Core.Logic.{⊎_elim}
use mathlib.Core.Bool.{false, ◌||◌}
use mathlib.Core.List.{List}
use native.Mathlib.Omega.{arith}
use Rattle.base.proofs.Tests.{less?, never}
use Rattle.base.proofs.Below.{count_grows}
use Rattle.base.proofs.Search.{none_fails}
use Rattle.format.specs.Layout.{row_at, rows, row_count, of_kind}
use Rattle.format.specs.Refusals.{not_within, bad_form, bad_order, bad_range}
use Rattle.format.proofs.Positions.{is_within, kinds_before, kinds_before_lem, kind_within, students_count, workshops_count}
use Rattle.tables.specs.Table.{student_in, workshop_in, Standing, Noted, Started, Made}
use Rattle.tables.proofs.Standing.{standing}
use Rattle.tables.proofs.Reading.{made}
use Rattle.case_tests.specs.declared.order.Tally.{Tally}
use Rattle.case_tests.specs.Order.{Passes, Counted, Sound, Heads, heads_end}
use Rattle.case_tests.specs.Checked.{CleanCase}
use Rattle.case_tests.specs.Pairs.{Sifted}
use Rattle.case_tests.proofs.Cases.{clean, few, all_students, all_workshops, counts_same}
use Rattle.case_tests.proofs.Trails.{Named, names}

module _ (case : List ℕ) (n m : ℕ) where
  -- all records of a clean case pass
  pub clean_passes : CleanCase case n m → (k : ℕ) → k < row_count case → Passes case k
  clean_passes c k l = (
    none_fails (bad_form (rows case)) (row_count case) c.form k l,
    none_fails (bad_order (rows case)) (row_count case) c.order k l,
    none_fails (bad_range (rows case)) (row_count case) c.range k l,
  )

  -- where all pass, and the counts are in range, the case is clean
  pub sound_clean : Sound case (row_count case) n m → (not_within 1 512 n || not_within 1 64 m) ≡ false → CleanCase case n m
  sound_clean s e =
      record {
        form = s.counted.form;
        order = s.counted.order;
        counts = counts_same case n m s.counted ∙ e;
        range = s.range;
        students = all_students case n m s.counted;
        workshops = all_workshops case n m s.counted;
      }

  -- a clean case has its records where the table's maker needs them
  pub clean_stands : CleanCase case n m → Standing case n m
  clean_stands c =
      let f = few case n m c in
      rw (c.students, c.workshops) (standing case (clean case n m c) (omega (arith, c.students, f.0.1)) (omega (arith, c.workshops, f.1.1)))

-- ---- what the students and the workshops at the front say
module _ (case : List ℕ) (o : Tally) (h : Heads case o) where
  inside : (heads_end o) ≤ row_count case
  inside = h.sound.counted.inside

  students : o.students ≡ kinds_before case 1 (heads_end o)
  students = h.sound.counted.students ∙ kinds_before_lem case 1 (heads_end o) inside

  workshops : o.workshops ≡ kinds_before case 2 (heads_end o)
  workshops = h.sound.counted.workshops ∙ kinds_before_lem case 2 (heads_end o) inside

  -- of a clean case their counts are in range: no more than in all, and the first pair names one of each
  pub heads_few : (n m : ℕ) → CleanCase case n m → (not_within 1 512 o.students || not_within 1 64 o.workshops) ≡ false
  heads_few n m c =
      ⊎_elim
      (λ (l : (heads_end o) < row_count case).
      let p : Passes case (heads_end o) = clean_passes case n m c (heads_end o) l in
      let k : (row_at case (heads_end o)).kind ≡ 3 = omega (arith, h.stop l p, kind_within case (heads_end o) l p.0) in
      let r : Named case o.students o.workshops (heads_end o) = names case o.students o.workshops (heads_end o) h.sound l p k in
      rw (is_within 1 512 o.students (omega arith) (omega (arith, more.0)), is_within 1 64 o.workshops (omega arith) (omega (arith, more.1))))
      (λ (l : row_count case ≤ (heads_end o)).
      let e : (heads_end o) ≡ row_count case = omega (arith, inside) in
      let d : Counted case (row_count case) o.students o.workshops = rw e at h.sound.counted in
      sym (counts_same case o.students o.workshops d) ∙ c.counts)
      (less? (heads_end o) (row_count case))
    where
      grows : (kind : ℕ) → kinds_before case kind (heads_end o) ≤ kinds_before case kind (row_count case)
      grows kind = count_grows (λ k. of_kind kind (row_at case k)) (heads_end o) (row_count case) inside

      more : (o.students ≤ 512) × (o.workshops ≤ 64)
      more = (
        omega (arith, (few case n m c).0.1, c.students, students, students_count case, grows 1),
        omega (arith, (few case n m c).1.1, c.workshops, workshops, workshops_count case, grows 2),
      )

  -- the table of the pairs and of the seats' starts
  pub heads_tabled : CleanCase case o.students o.workshops → (pairs new : List ℕ)
      → Noted (student_in case) (workshop_in case) (heads_end o) (row_count case) pairs → Started case pairs new (o.workshops + 1)
      → Made case new
  heads_tabled c pairs new I S = made case o.students o.workshops (clean_stands case o.students o.workshops c) pairs I new S

-- what the pass over the pairs says where no record stops it, and where one does
pub record All (case : List ℕ) (t : Tally) (table : List ℕ) : Type 0 where
  pub sound : Sound case (row_count case) t.students t.workshops
  pub noted : Noted (student_in case) (workshop_in case) (heads_end t) (row_count case) table

pub all_of : (case : List ℕ) (t : Tally) (stopped : Option ℕ) (table : List ℕ) → Sifted case t stopped table → is_some stopped ≡ false → All case t table
all_of case t None table s e = record { sound = s.sound; noted = s.noted }
all_of case t (Some i) table s e = never refl e

pub not_all : (case : List ℕ) (t : Tally) (stopped : Option ℕ) (table : List ℕ) → Sifted case t stopped table → is_some stopped ≡ true
    → {n m : ℕ} → CleanCase case n m → ⊥
not_all case t None table s e c = never e refl
not_all case t (Some i) table s e c = s.stop.1 (clean_passes case _ _ c i s.stop.0)
