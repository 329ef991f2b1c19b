-- A case that passed causes 2 to 5 has its records where the table's maker needs them.
use Prim.Native.Nat.{ℕ, ◌-◌, ◌≤◌, ◌<◌}
use mathlib.Core.Path.{◌≡◌, refl}
use mathlib.Core.Bool.{false}
use mathlib.Core.List.{List}
use native.Mathlib.Omega.{arith}
use Rattle.format.specs.Layout.{rows, row_at, row_count}
use Rattle.format.specs.Refusals.{bad_range}
use Rattle.format.specs.Engine.{market_in}
use Rattle.format.proofs.Sorted.{Clean}
use Rattle.format.proofs.Positions.{people, places, stage_at, quota_at, pair_from, pair_names}
use Rattle.format.proofs.Reading.{student_range}
use Rattle.tables.specs.Table.{student_in, workshop_in, Standing, Staged}

module _ (case : List ℕ) (c : Clean case (row_count case)) (few : (market_in case).students ≤ 512) (few' : (market_in case).workshops ≤ 64) where
  names : (k : ℕ) → people case ≤ k → k < row_count case
      → ((1 ≤ student_in case k) × (student_in case k ≤ 512)) × ((1 ≤ workshop_in case k) × (workshop_in case k ≤ 64))
  names k f l = let r = pair_names case c k l ((places case c).pair k f l) in ((r.0.0, omega (arith, r.0.1)), (r.1.0, omega (arith, r.1.1)))

  pub standing : Standing case (market_in case).students (market_in case).workshops
  standing =
      record {
        workshops = refl;
        many_students = few;
        many_workshops = few';
        inside = omega (arith, (places case c).whole);
        quota = quota_at case c;
        only = pair_from case c;
        pair = (places case c).pair;
        named = names;
      }

  pub staged : ((k : ℕ) → k < row_count case → bad_range (rows case) k ≡ false) → Staged case (market_in case).students
  staged range =
      record {
        many = few;
        inside = inside;
        stage = stage_at case c;
        range = λ s f g. rw (stage_at case c s f g) (at s f g);
      }
    where
      inside : (market_in case).students ≤ row_count case
      inside = omega (arith, (places case c).whole)

      at : (s : ℕ) → 1 ≤ s → s ≤ (market_in case).students → (1 ≤ (row_at case (s - 1)).second) × ((row_at case (s - 1)).second ≤ 512)
      at s f g =
          let l : s - 1 < row_count case = omega (arith, inside) in
          (student_range case (s - 1) l (range (s - 1) l) ((places case c).student (s - 1) (omega arith)).0).0
