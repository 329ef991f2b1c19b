-- A round of interviews, as the code answers it, and what it needs of the seats.
use Rattle.std.specs.Prelude.{ℕ, suc, ◌+◌, ◌≤◌, ◌<◌, ◌≡◌, Bool, true, ◌&&◌, List, length, get_or, eqb}
use Rattle.base.specs.Lists.{count}
use Rattle.lgs.specs.Market.{Market, Results, seats_of, seats_before, all_seats}
use Rattle.lgs.specs.Fares.{fares_of}
use Rattle.format.specs.Engine.{market_in, results_in}
use Rattle.base.specs.Words.{biased}
use Rattle.format.specs.Layout.{ends_in_never}
use Rattle.records.specs.Records.{pair_place, entry_of}
use Rattle.records.specs.declared.Entry.{Entry}
use Rattle.model.specs.Store.{part, last_of}
use Rattle.model.specs.Turn.{RoundSoFar}
use Rattle.model.specs.Ready.{Booked, InOrder}
use Rattle.lookup.specs.Clean.{WorkshopAt, PairAt}
use Rattle.turning.specs.declared.Round.{Round}
use Rattle.seating.specs.Seats.{named}

-- with n students: the part of workshop w is there, and whoever has its last seat has a pair with it
pub record SeatsAt (case seats : List ℕ) (n w : ℕ) : Type 0 where
  pub workshop : (1 ≤ w) × (w ≤ 64)
  pub each : (v : ℕ) → 1 ≤ v → v ≤ w → WorkshopAt case n v
  pub long : seats_before (market_in case) w + seats_of (market_in case) w ≤ length seats
  pub last : 0 < last_of (market_in case) seats w
      → ((market_in case).paired (last_of (market_in case) seats w) w ≡ true) × PairAt case (last_of (market_in case) seats w) w

-- all seats are there, whoever has one has been interviewed, and each workshop's are in order
pub record SeatedAll (M : Market) (B : Results) (seats : List ℕ) : Type 0 where
  pub long : all_seats M ≤ length seats
  pub seated : (w : ℕ) → 1 ≤ w → w ≤ M.workshops → (i : ℕ) → i < seats_of M w → 0 < get_or (part M seats w) i 0 → Booked M B (get_or (part M seats w) i 0) w
  pub ordered : (w : ℕ) → 1 ≤ w → w ≤ M.workshops → InOrder M B w (part M seats w)

-- the code's answer, where `count` interviews were held before
abbrev pub round_of : Market → ℕ → RoundSoFar → Round
round_of M count o =
    record { count = count + length o.interviews; openings = o.openings; missing = named o.missing; fares = fares_of M o.interviews }

-- workshop w is of tier t for the student
unfoldable pub in_tier : Market → ℕ → ℕ → ℕ → Bool
in_tier M s t w = M.paired s w && eqb (M.student_tier s w) t

-- of workshops 1 to m, the n that are of tier t for the student, in rising number: where each one's pair has its record;
-- the place of each is how many come before it
pub record TierListed (case : List ℕ) (s t m n : ℕ) (pairs : List ℕ) : Type 0 where
  pub many : n ≡ count (in_tier (market_in case) s t) m
  pub pair : (v : ℕ) → v < m → in_tier (market_in case) s t (suc v) ≡ true → get_or pairs (count (in_tier (market_in case) s t) v) 0 ≡ pair_place case s (suc v)

-- `entry` is what the book says of the interview of student s and workshop w
pub record Says (book : List ℕ) (s w : ℕ) (entry : Entry) : Type 0 where
  pub never : (results_in book).never s w ≡ ends_in_never (entry_of entry)
  pub mark : (results_in book).workshop_score w s ≡ biased entry.workshop_score
