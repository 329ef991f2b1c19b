-- Which lengths of the lent buffers are enough for every case, so that cause 6 finds nothing (docs/BUFFERS.md, "always enough").
use Rattle.std.specs.Prelude.{ℕ, ◌*◌, ◌/◌, ◌≤◌, List, length}
use Rattle.format.specs.Causes.{NothingFound}
use Rattle.format.specs.Refusals.{Room, case_causes, room_causes}
use Rattle.format.specs.Printed.{program_room}

-- for a case of so many bytes
abbrev pub always_enough : ℕ → Room
always_enough bytes = record { places = 512; visits = 2 * (bytes / 16); seats = 32768; index = bytes / 16; states = 512 }

-- each buffer of the room has at least so many entries
pub record AsLong (least room : Room) : Type 0 where
  pub places : least.places ≤ room.places
  pub visits : least.visits ≤ room.visits
  pub seats : least.seats ≤ room.seats
  pub index : least.index ≤ room.index
  pub states : least.states ≤ room.states

-- cause 6 finds nothing, in a case that the causes before it pass: where the buffers are so long, or longer; and in the program's own, which it lends for a
-- case of "up to 65,536 bytes"
pub record RoomEnough : Type 0 where
  pub always : (case : List ℕ) (room : Room)
      → NothingFound (case_causes case)
      → AsLong (always_enough (length case)) room
      → NothingFound (room_causes case room)
  pub program : (case : List ℕ) → NothingFound (case_causes case) → length case ≤ 65536 → NothingFound (room_causes case program_room)
