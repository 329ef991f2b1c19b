-- 13 is given where causes 1 to 5 find nothing, at the first student with a wrong lot and for no other reason: in any table that begins with the causes of
-- the case and in which no later cause has this number. So in the engine's; each part has its own.
use Prim.Native.Nat.{ℕ, suc, ◌-◌, ◌<◌}
use mathlib.Core.Path.{◌≡◌, refl}
use mathlib.Core.Bool.{false}
use Rattle.std.specs.Prelude.{Some}
use mathlib.Core.List.{List, ◌++◌}
use native.Mathlib.Omega.{arith}
use lib.Dec.{eqb}
use lib.ListN.{take}
use Rattle.base.specs.Lists.{any}
use Rattle.base.proofs.Tests.{never, is_false}
use Rattle.format.specs.Layout.{rows, row_count}
use Rattle.format.specs.Causes.{Cause, Test, each, first_cause, First, NothingFound}
use Rattle.format.specs.Refusals.{bad_lot, case_causes, room_causes, book_causes, causes, refusal}
use Rattle.format.specs.Engine.{engine, market_in, outcome_unless}
use Rattle.format.specs.Promises.{WrongLot, FirstWrongLot, ThirteenExactly}
use Rattle.format.proofs.Sorted.{Clean}
use Rattle.format.proofs.Positions.{places}
use Rattle.format.proofs.Lots.{lot_bad, bad_lot_lem}
use Rattle.format.proofs.Causes.{some_table, numbers, only_number, number_only}
use Rattle.format.proofs.Promises.{promised}
use Rattle.format.proofs.Cases.{five_clean}

module _ (case : List ℕ) where
  -- the causes before 13, and its test
  abbrev five : List Cause
  five = take 5 (case_causes case)

  abbrev lots : Test
  lots = each (row_count case) (bad_lot (rows case))

  -- the first record that the cause finds is that of the first student with a wrong lot
  module _ (c : Clean case (row_count case)) where
    first_wrong : (i : ℕ) → First (bad_lot (rows case)) (row_count case) i → FirstWrongLot case (suc i)
    first_wrong i f =
        let r : (i < (market_in case).students) × WrongLot case (suc i) = bad_lot_lem case c i f.within f.found in
        record {
          from = omega arith;
          to = omega arith;
          wrong = r.1;
          earlier = λ t l u w. never (lot_bad case c t l (omega arith) w) (f.earlier (t - 1) (omega arith));
        }

    wrong_first : (s : ℕ) → FirstWrongLot case s → First (bad_lot (rows case)) (row_count case) (s - 1)
    wrong_first s f =
        record {
          within = omega (arith, (places case c).whole);
          found = lot_bad case c s f.from f.to f.wrong;
          earlier = λ k l.
              is_false (bad_lot (rows case) k)
              (λ b. f.earlier (suc k) (omega arith) (omega arith) (bad_lot_lem case c k (omega (arith, (places case c).whole)) b).1);
        }

  -- where the causes ds are tested after those of the case
  module _ (ds : List Cause) where
    pub thirteen_given : (i : ℕ) → any (eqb 13) (numbers ds) ≡ false → first_cause (case_causes case ++ ds) ≡ Some (13, i)
        → NothingFound five × FirstWrongLot case (suc i)
    unfolding case_causes any
    thirteen_given i other e =
        let r : NothingFound five × First (bad_lot (rows case)) (row_count case) i = only_number five ds 13 lots i refl other e in
        (r.0, first_wrong (five_clean case r.0) i r.1)

    pub thirteen_whenever : (s : ℕ) → NothingFound five → FirstWrongLot case s → first_cause (case_causes case ++ ds) ≡ Some (13, s - 1)
    unfolding case_causes
    thirteen_whenever s nothing f = number_only five ds 13 lots (s - 1) nothing (wrong_first (five_clean case nothing) s f)

pub thirteen_exactly : ThirteenExactly
unfolding engine outcome_unless refusal causes room_causes book_causes any
thirteen_exactly =
    record {
      given = λ case book room i e. thirteen_given case _ i refl (some_table (causes case book room) 13 i (rw e at (promised case book room)));
      whenever = λ case book room s nothing f. rw (thirteen_whenever case _ s nothing f);
    }
