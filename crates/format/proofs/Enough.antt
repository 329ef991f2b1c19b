-- The lengths that are always enough: there are at most 512 students, no more pair records than records, and 64 workshops of at most 512 seats.
use Prim.Native.Nat.{ℕ, ◌+◌, ◌-◌, ◌/◌, ◌≤◌, ◌<◌}
use mathlib.Core.Path.{◌≡◌, sym, ap, ◌∙◌}
use mathlib.Core.Bool.{false}
use mathlib.Core.List.{List, []}
use mathlib.Core.List.Memᴰ.{not-nil}
use native.Mathlib.Omega.{arith}
use lib.ListN.{length}
use borrow.Author.Tests.{le-ltb}
use Rattle.base.specs.Lists.{tally}
use Rattle.base.proofs.Tests.{never}
use Rattle.base.proofs.Below.{tabulate_length, tally_le}
use Rattle.base.proofs.Counting.{total_within}
use Rattle.lgs.specs.Market.{seats_of, all_seats}
use Rattle.format.specs.Layout.{row_at, rows, row_count, of_kind, market_of}
use Rattle.format.specs.Causes.{NothingFound}
use Rattle.format.specs.Refusals.{Room, needed, bad_room, case_causes, room_causes}
use Rattle.format.specs.Engine.{market_in}
use Rattle.format.specs.Printed.{program_room}
use Rattle.format.specs.Enough.{always_enough, AsLong, RoomEnough}
use Rattle.format.proofs.Positions.{workshop_found, places}
use Rattle.format.proofs.Reading.{workshop_range}
use Rattle.format.proofs.Causes.{nothing_more}
use Rattle.format.proofs.Cases.{case_clean, case_passed, case_counts}

module _ (case : List ℕ) (nothing : NothingFound (case_causes case)) where
  seats_most : (w : ℕ) → 1 ≤ w → w ≤ (market_in case).workshops → seats_of (market_in case) w ≤ 512
  unfolding seats_of market_of
  seats_most w l u =
      let c = case_clean case nothing in
      let i : ℕ = (market_in case).students + w - 1 in
      let inside : i < row_count case = omega (arith, (places case c).whole) in
      let same : (market_in case).students + (w - 1) ≡ i = omega arith in
      let kind : (row_at case i).kind ≡ 2 = ap (λ (k : ℕ). (row_at case k).kind) (sym same) ∙ ((places case c).workshop (w - 1) (omega arith)).0 in
      rw (seats_of, workshop_found case c w l u) (workshop_range case i inside ((case_passed case nothing).range i inside) kind).0.1

  few_seats : all_seats (market_in case) ≤ 32768
  unfolding all_seats
  few_seats =
      omega (
        arith,
        total_within (seats_of (market_in case)) (market_in case).workshops 512 seats_most,
        (case_counts case nothing).1.1,
      )

  few_pairs : tally (of_kind 3) (rows case) ≤ length case / 16
  unfolding rows
  few_pairs = omega (arith, tally_le (of_kind 3) (rows case), tabulate_length (row_at case) (row_count case))

  -- what is needed is no more than what is always enough
  needed_most : AsLong (needed (rows case)) (always_enough (length case))
  unfolding needed
  needed_most =
      record {
        places = (case_counts case nothing).0.1;
        visits = omega (arith, few_pairs);
        seats = few_seats;
        index = few_pairs;
        states = (case_counts case nothing).0.1;
      }

  room_passes : (room : Room) → AsLong (always_enough (length case)) room → bad_room (rows case) room ≡ false
  unfolding bad_room
  room_passes room enough =
      let most = needed_most in
      rw (
        le-ltb room.places (needed (rows case)).places (omega (arith, most.places, enough.places)),
        le-ltb room.visits (needed (rows case)).visits (omega (arith, most.visits, enough.visits)),
        le-ltb room.seats (needed (rows case)).seats (omega (arith, most.seats, enough.seats)),
        le-ltb room.index (needed (rows case)).index (omega (arith, most.index, enough.index)),
        le-ltb room.states (needed (rows case)).states (omega (arith, most.states, enough.states)),
      )

  enough_passes : (room : Room) → AsLong (always_enough (length case)) room → NothingFound (room_causes case room)
  unfolding room_causes
  enough_passes room enough = nothing_more _ [] (λ i f. never f.0 (room_passes room enough)) (λ c m i f. not-nil m)

  program_long : length case ≤ 65536 → AsLong (always_enough (length case)) program_room
  program_long l =
      record { places = omega arith; visits = omega arith; seats = omega arith; index = omega arith; states = omega arith }

pub room_enough : RoomEnough
room_enough =
    record {
      always = λ case room nothing long. enough_passes case nothing room long;
      program = λ case nothing l. enough_passes case nothing program_room (program_long case nothing l);
    }
