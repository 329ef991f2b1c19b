-- Where a clean case has its people and pairs (format: Positions), as the code looks them up.
use Prim.Native.Nat.{ℕ, ◌≤◌}
use mathlib.Core.Path.{◌≡◌}
use mathlib.Core.Bool.{true}
use mathlib.Core.List.{List}
use native.Mathlib.Omega.{arith}
use Rattle.format.specs.Layout.{row_at, row_count}
use Rattle.format.specs.Engine.{market_in}
use Rattle.format.proofs.Positions.{Clean, places, pair_says, pair_names, stage_at, lot_at, student_outside_at, quota_at, workshop_outside_at, student_tier_at}
use Rattle.format.proofs.Positions.{workshop_tier_at, fare_at_lem}
use Rattle.records.specs.Records.{pair_place}
use Rattle.tables.proofs.Reading.{pair_there}
use Rattle.lookup.specs.Clean.{StudentAt, WorkshopAt, PairAt}

module _ (case : List ℕ) (c : Clean case (row_count case)) where
  abbrev n : ℕ
  n = (market_in case).students

  abbrev m : ℕ
  m = (market_in case).workshops

  pub student_at : (s : ℕ) → 1 ≤ s → s ≤ n → StudentAt case s
  student_at s a b =
      record {
        from = a;
        to = omega (arith, (places case c).whole);
        stage = stage_at case c s a b;
        lot = lot_at case c s a b;
        outside = student_outside_at case c s a b;
      }

  pub workshop_at : (w : ℕ) → 1 ≤ w → w ≤ m → WorkshopAt case n w
  workshop_at w a b =
      record { from = a; to = omega (arith, (places case c).whole); quota = quota_at case c w a b; outside = workshop_outside_at case c w a b }

  module _ (s w : ℕ) (e : (market_in case).paired s w ≡ true) where
    pub pair_at : PairAt case s w
    pair_at =
        let p = pair_there case s w e in
        record {
          within = p.0;
          student_tier = student_tier_at case c s w (pair_place case s w) p.0 p.1;
          workshop_tier = workshop_tier_at case c s w (pair_place case s w) p.0 p.1;
          fare = fare_at_lem case c s w (pair_place case s w) p.0 p.1;
        }

    pub named_at : ((1 ≤ s) × (s ≤ n)) × ((1 ≤ w) × (w ≤ m))
    named_at =
        let p = pair_there case s w e in
        let says = pair_says s w (row_at case (pair_place case s w)) p.1 in
        let names = pair_names case c (pair_place case s w) p.0 says.0 in
        ((omega (arith, names, says.1), omega (arith, names, says.1)), (omega (arith, names, says.2), omega (arith, names, says.2)))
