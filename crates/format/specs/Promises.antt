-- The three demands, for every case and book in bytes and every room lent, and what shows that they are not empty. The proofs are in
-- proofs/Promises.antt.
use Rattle.std.specs.Prelude.{ℕ, suc, ◌+◌, ◌-◌, ◌*◌, ◌/◌, ◌%◌, ◌≤◌, ◌<◌, Bool, true, false, cond, ◌&&◌, ◌||◌, ◌≡◌, ◌⊎◌, List, [], ◌∷◌, ◌++◌, map, length, get_or, take, eqb}
use mathlib.Core.List.{Memᴰ as Mem}
use Rattle.base.specs.Lists.{upto, any, sum_of}
use Rattle.base.specs.Words.{word}
use Rattle.base.specs.Bits.{bit, shifted}
use Rattle.lgs.specs.Market.{ConsistentStages}
use Rattle.lgs.specs.Profiles.{Profile, StrictProfile, RespectsTiers, Fits, StudentOptimal}
use Rattle.lgs.specs.Rule.{Interview, interviewed, State, below, going, stopped, finished, lazy_gale_shapley}
use Rattle.lgs.specs.Promises.{Listed, OptimalWhateverUnseen, MinimalInterviews, NextInterview, Begins, matching_of}
use Rattle.lgs.specs.Fares.{fares_of}
use Rattle.format.specs.Layout.{Row, Entry, row_at, row_count, rows, of_kind, entries, is_interview}
use Rattle.format.specs.Encoding.{Bytes}
use Rattle.format.specs.Causes.{Cause, NothingFound, FoundFirst}
use Rattle.format.specs.Refusals.{Room, needed, case_causes, causes}
use Rattle.format.specs.Engine.{placed, next, refused, engine, market_in, results_in, Outcome}
use Rattle.format.specs.Buffers.{places_after, visits_after}

-- ---- Demand 1 (with crate format's Buffers for what stays and what is zero): "every case and book in the layouts of document 01, with buffers
-- of at least the stated lengths, gets the next visit or a finished placement, and the run ends. All other input gets one of eleven refusals with
-- its record"; 13 "makes demand 1's refusals twelve" (document 02, Paper 3).

module _ (case book : List ℕ) (room : Room) where
  -- no cause finds anything
  abbrev pub Valid : Type 0
  Valid = NothingFound (causes case book room)

  -- the cause k finds the place i, and no cause before it in the table finds anything
  abbrev pub Refused : ℕ → ℕ → Type 0
  Refused = FoundFirst (causes case book room)

-- "one of" twelve refusals: the numbers of the causes, in the order in which they are tested
abbrev pub Twelve : Type 0
Twelve =
    (case book : List ℕ) (room : Room)
    → map (λ (c : Cause). c.0) (causes case book room) ≡ 1 ∷ 2 ∷ 3 ∷ 4 ∷ 5 ∷ 13 ∷ 6 ∷ 7 ∷ 8 ∷ 9 ∷ 10 ∷ 11 ∷ []

-- the answer is the placement with which the rule finishes, or the next interview at which it stops
pub data ByRule (case book : List ℕ) : Outcome → Type 0 where
  with_places : (p : ℕ → ℕ) (vs : List Interview)
      → lazy_gale_shapley (market_in case) (results_in book) ≡ finished p vs
      → ByRule case book (placed (map p (upto (market_in case).students)) vs (fares_of (market_in case) vs))
  with_next : (s w : ℕ) (vs : List Interview)
      → lazy_gale_shapley (market_in case) (results_in book) ≡ stopped s w vs
      → ByRule case book (next s w vs (fares_of (market_in case) vs))

-- the rule's steps do not run out
abbrev pub RunEnds : Type 0
RunEnds =
    (case book : List ℕ) (room : Room)
    → Valid case book room
    → (σ : State)
    → lazy_gale_shapley (market_in case) (results_in book) ≡ going σ
    → ⊥

abbrev pub Demand1 : Type 0
Demand1 =
    (case book : List ℕ) (room : Room)
    → (Valid case book room × ByRule case book (engine case book room))
    ⊎ ((k : ℕ) × (i : ℕ) × Refused case book room k i × (engine case book room ≡ refused k i))

-- ---- Demand 2.

-- "every strict order that fits the groups and the book"
abbrev pub FitsBook : List ℕ → List ℕ → Profile → Type 0
FitsBook case book O = Fits (market_in case) (results_in book) (results_in book).met O

-- every record of the book is among those of the other
abbrev pub ExtendsBook : List ℕ → List ℕ → Type 0
ExtendsBook book book' = (e : Entry) → Mem e (entries book) → Mem e (entries book')

-- the interviews that an answer lists
abbrev pub interviews_of : Outcome → List Interview
interviews_of (placed places vs fares) = vs
interviews_of (next s w vs fares) = vs
interviews_of (refused k i) = []

-- a finished placement
pub record Demand2Placed (case book : List ℕ) (places : List ℕ) (vs : List Interview) : Type 0 where
  pub whole : length places ≡ (market_in case).students
  -- "stable, and no student does better in any other stable placement, under every strict order that fits the groups and the book"
  pub optimal : (O : Profile) → FitsBook case book O → StudentOptimal (market_in case) O (matching_of places)
  -- and under every one that fits the groups and the marks of the listed interviews
  pub unseen : OptimalWhateverUnseen (market_in case) (results_in book) places vs
  -- "the visits listed .. are those of the staged rule"
  pub rule : (p : ℕ → ℕ) × (lazy_gale_shapley (market_in case) (results_in book) ≡ finished p vs) × (places ≡ map p (upto (market_in case).students))
  pub listed : Listed (market_in case) (results_in book) vs

-- a next interview
pub record Demand2Next (case book : List ℕ) (room : Room) (s w : ℕ) (vs : List Interview) : Type 0 where
  -- "the next visit named" is that of the staged rule
  pub rule : lazy_gale_shapley (market_in case) (results_in book) ≡ stopped s w vs
  pub stops : NextInterview (market_in case) (results_in book) s w vs
  -- it is the rule's first unanswered interview: with any valid book that extends this one and answers it, the interviews are the listed ones,
  -- then this one
  pub first : (book' : List ℕ)
      → Valid case book' room
      → ExtendsBook book book'
      → any (is_interview s w) (entries book') ≡ true
      → Begins (vs ++ ((s, w) ∷ [])) (interviews_of (engine case book' room))

pub record Demand2 : Type 0 where
  pub when_placed : (case book : List ℕ) (room : Room) (places : List ℕ) (vs : List Interview) (fares : ℕ)
      → engine case book room ≡ placed places vs fares
      → Demand2Placed case book places vs
  pub when_next : (case book : List ℕ) (room : Room) (s w : ℕ) (vs : List Interview) (fares : ℕ)
      → engine case book room ≡ next s w vs fares
      → Demand2Next case book room s w vs

-- ---- Demand 3: of "every finished run"; where the stages agree the smallest list, and nobody who is sure, and has visited all placed pairs, pays less.
abbrev pub Demand3 : Type 0
Demand3 =
    (case book : List ℕ) (room : Room) (places : List ℕ) (vs : List Interview) (fares : ℕ)
    → engine case book room ≡ placed places vs fares
    → MinimalInterviews (market_in case) (results_in book) places vs fares

-- ---- Lots (document 02, Paper 3).

-- a student's lot as the case has it: "in bytes 8 and 9" of her record
abbrev pub lot_in : List ℕ → ℕ → ℕ
lot_in case s = word case (16 * (s - 1) + 8)

-- each student has one, "from 1 to 512, all different"
pub record LotsDiffer : Type 0 where
  pub bytes : (case book : List ℕ) (room : Room)
      → Valid case book room
      → (s : ℕ)
      → 1 ≤ s
      → s ≤ (market_in case).students
      → (market_in case).lot s ≡ lot_in case s
  pub range : (case book : List ℕ) (room : Room)
      → Valid case book room
      → (s : ℕ)
      → 1 ≤ s
      → s ≤ (market_in case).students
      → (1 ≤ (market_in case).lot s) × ((market_in case).lot s ≤ 512)
  pub apart : (case book : List ℕ) (room : Room)
      → Valid case book room
      → (s t : ℕ)
      → 1 ≤ s
      → s ≤ (market_in case).students
      → 1 ≤ t
      → t ≤ (market_in case).students
      → (market_in case).lot s ≡ (market_in case).lot t
      → s ≡ t

-- "a lot is out of range or already used by an earlier student"
abbrev pub WrongLot : List ℕ → ℕ → Type 0
WrongLot case s =
    ((lot_in case s < 1) ⊎ (512 < lot_in case s)) ⊎ ((t : ℕ) × (1 ≤ t) × (t < s) × (lot_in case t ≡ lot_in case s))

-- student s is the first with such a lot
pub record FirstWrongLot (case : List ℕ) (s : ℕ) : Type 0 where
  pub from : 1 ≤ s
  pub to : s ≤ (market_in case).students
  pub wrong : WrongLot case s
  pub earlier : (t : ℕ) → 1 ≤ t → t < s → WrongLot case t → ⊥

-- "13 .. with that record's place, tested after 5 and before 6": where 1 to 5 find nothing, exactly then, whatever the book and the room. Record s - 1 is
-- that of student s.
pub record ThirteenExactly : Type 0 where
  pub given : (case book : List ℕ) (room : Room) (i : ℕ)
      → engine case book room ≡ refused 13 i
      → NothingFound (take 5 (case_causes case)) × FirstWrongLot case (suc i)
  pub whenever : (case book : List ℕ) (room : Room) (s : ℕ)
      → NothingFound (take 5 (case_causes case))
      → FirstWrongLot case s
      → engine case book room ≡ refused 13 (s - 1)

-- of two students of one group whom the workshop has met, s has the higher mark, or they have "equal marks" and she "the lower lot"
pub record Preferred (case book : List ℕ) (w s t : ℕ) : Type 0 where
  pub pair : (market_in case).paired s w ≡ true
  pub pair' : (market_in case).paired t w ≡ true
  pub met : (results_in book).met s w ≡ true
  pub met' : (results_in book).met t w ≡ true
  pub tier : (market_in case).workshop_tier w s ≡ (market_in case).workshop_tier w t
  pub above : ((results_in book).workshop_score w t < (results_in book).workshop_score w s)
      ⊎ (((results_in book).workshop_score w s ≡ (results_in book).workshop_score w t) × ((market_in case).lot s < (market_in case).lot t))

-- "parted by the lower lot, in the rule and in the orders that fit": t stands below s, and s not below t
pub record LotsPart : Type 0 where
  pub rule : (case book : List ℕ) (σ : State) (w s t : ℕ)
      → Preferred case book w s t
      → interviewed σ.interviews s w ≡ true
      → interviewed σ.interviews t w ≡ true
      → (below (market_in case) (results_in book) σ w t s ≡ true) × (below (market_in case) (results_in book) σ w s t ≡ false)
  pub fits : (case book : List ℕ) (O : Profile)
      → FitsBook case book O
      → (w s t : ℕ)
      → Preferred case book w s t
      → O.workshop_rank w s < O.workshop_rank w t

-- ---- Fares (document 02, Paper 4).

-- "the sum of the fares of exactly the listed pairs, read from the case": the fares in the pair records whose pair is listed
unfoldable pub fares_read : List Row → List Interview → ℕ
fares_read rs vs = sum_of (λ (r : Row). cond (of_kind 3 r && interviewed vs r.first r.second) r.fifth 0) rs

-- the fare in record i, if it is a pair's: "bytes 10 and 11 of a pair record"
abbrev pub fare_at : List ℕ → ℕ → ℕ
fare_at case i = word case (16 * i + 10)

-- the total that an answer tells; a refusal tells none
abbrev pub fares_told : Outcome → ℕ
fares_told (placed places vs fares) = fares
fares_told (next s w vs fares) = fares
fares_told (refused k i) = 0

-- byte k is one of "bytes 10 and 11 of a pair record"
abbrev pub of_fare : List ℕ → ℕ → Bool
of_fare case k = eqb (get_or case (16 * (k / 16)) 0) 3 && (eqb (k % 16) 10 || eqb (k % 16) 11)

-- the second case has other fares, and else, byte for byte, what the first has
pub record OtherFares (case case' : List ℕ) : Type 0 where
  pub long : length case' ≡ length case
  pub bytes : (k : ℕ) → of_fare case k ≡ false → get_or case' k 0 ≡ get_or case k 0

-- an answer but for the total
abbrev pub untold : Outcome → Outcome
untold (placed places vs fares) = placed places vs 0
untold (next s w vs fares) = next s w vs 0
untold (refused k i) = refused k i

pub record FaresExactly : Type 0 where
  -- record i of a valid case, if it is a pair's, has this pair's fare
  pub bytes : (case book : List ℕ) (room : Room)
      → Valid case book room
      → (i : ℕ)
      → i < row_count case
      → of_kind 3 (row_at case i) ≡ true
      → (market_in case).fare (row_at case i).first (row_at case i).second ≡ fare_at case i
  -- "The total equals the sum", in every answer
  pub total : (case book : List ℕ) (room : Room)
      → fares_told (engine case book room) ≡ fares_read (rows case) (interviews_of (engine case book room))
  -- "any 16-bit number, and number 2 no longer tests them": with other fares only the total changes
  pub free : (case case' book : List ℕ) (room : Room)
      → OtherFares case case'
      → untold (engine case' book room) ≡ untold (engine case book room)
  -- it fits 32 bits
  pub fits : (case book : List ℕ) (room : Room) → Bytes case → fares_told (engine case book room) ≤ 32768 * 65535

-- ---- The number of the book's records (document 02, Paper 5).

-- "the shift is proved to give the length divided by 8, rounded down, for every length": of any number, so of every length that a slice can have
pub record ShiftCounts : Type 0 where
  -- the shift: digit i of what it gives is digit i + 3 of the length, and the lowest three are gone
  pub digits : (len i : ℕ) → bit (shifted len 3) i ≡ bit len (i + 3)
  pub quotient : (len : ℕ) → shifted len 3 ≡ len / 8
  -- "rounded down"
  pub down : (len : ℕ) → (8 * shifted len 3 ≤ len) × (len < 8 * shifted len 3 + 8)

-- ---- Settled for good, while visits still go on: where the stages agree and the next visit is one of student s, each student of an earlier stage has the
-- same place after any two books that have every record of this one and bring a placement. What the visits to come tell does not move her.
abbrev pub SettledForGood : Type 0
SettledForGood =
    (case book book' book'' : List ℕ) (room : Room) (s w : ℕ) (vs : List Interview) (fares : ℕ)
    → ConsistentStages (market_in case) (market_in case).stage
    → engine case book room ≡ next s w vs fares
    → ExtendsBook book book'
    → ExtendsBook book book''
    → (places' places'' : List ℕ) (vs' vs'' : List Interview) (fares' fares'' : ℕ)
    → engine case book' room ≡ placed places' vs' fares'
    → engine case book'' room ≡ placed places'' vs'' fares''
    → (t : ℕ)
    → (market_in case).stage t < (market_in case).stage s
    → matching_of places' t ≡ matching_of places'' t

-- ---- That these say something.

-- a valid book has a full order that fits the groups and the book
abbrev pub FitExists : Type 0
FitExists = (case book : List ℕ) (room : Room) → Valid case book room → (O : Profile) × FitsBook case book O

-- every full order that keeps the groups has a student-best placement, and only one
abbrev pub OptimalExists : Type 0
OptimalExists =
    (case book : List ℕ) (room : Room)
    → Valid case book room
    → (O : Profile)
    → StrictProfile (market_in case) O
    → RespectsTiers (market_in case) O
    → (μ : ℕ → ℕ)
    × StudentOptimal (market_in case) O μ
    × ((ν : ℕ → ℕ) → StudentOptimal (market_in case) O ν → (s : ℕ) → ν s ≡ μ s)

-- "records for pairs that the run never visits are checked and otherwise unused": two valid books with the same records of the listed pairs,
-- and both without the next one, have the same answer
abbrev pub SameListed : List Interview → List ℕ → List ℕ → Type 0
SameListed vs book book' =
    (e : Entry)
    → interviewed vs e.student e.workshop ≡ true
    → Mem e (entries book)
    → Mem e (entries book')

pub record UnlistedUnused : Type 0 where
  pub when_placed : (case book book' : List ℕ) (room : Room) (places : List ℕ) (vs : List Interview) (fares : ℕ)
      → engine case book room ≡ placed places vs fares
      → Valid case book' room
      → SameListed vs book book'
      → engine case book' room ≡ placed places vs fares
  pub when_next : (case book book' : List ℕ) (room : Room) (s w : ℕ) (vs : List Interview) (fares : ℕ)
      → engine case book room ≡ next s w vs fares
      → Valid case book' room
      → SameListed vs book book'
      → any (is_interview s w) (entries book') ≡ false
      → engine case book' room ≡ next s w vs fares

-- what an answer puts into the buffers fits the needed lengths
pub record HeadsFit : Type 0 where
  pub when_placed : (case book : List ℕ) (room : Room) (places : List ℕ) (vs : List Interview) (fares : ℕ)
      → engine case book room ≡ placed places vs fares
      → length places ≤ (needed (rows case)).places
  pub anyway : (case book : List ℕ) (room : Room)
      → 2 * length (interviews_of (engine case book room)) ≤ (needed (rows case)).visits

-- with an answer, buffers of the lent lengths keep these; "entries past the needed ones stay", and so do those past the listed interviews
pub record Kept (a : Outcome) (n : ℕ) (places visits : List ℕ) : Type 0 where
  pub places_length : length (places_after a places) ≡ length places
  pub places_past : (i : ℕ) → n ≤ i → get_or (places_after a places) i 0 ≡ get_or places i 0
  pub visits_length : length (visits_after a visits) ≡ length visits
  pub visits_past : (i : ℕ) → 2 * length (interviews_of a) ≤ i → get_or (visits_after a visits) i 0 ≡ get_or visits i 0

abbrev pub BuffersKept : Type 0
BuffersKept =
    (case book : List ℕ) (room : Room) (places visits : List ℕ)
    → length places ≡ room.places
    → length visits ≡ room.visits
    → Kept (engine case book room) (needed (rows case)).places places visits

-- ---- The demands of one answer, for a contract: what holds of it, whichever it is.
abbrev pub Promised : List ℕ → List ℕ → Room → Outcome → Type 0
Promised case book room (placed places vs fares) =
    Valid case book room
    × Demand2Placed case book places vs
    × MinimalInterviews (market_in case) (results_in book) places vs fares
    × (fares ≡ fares_read (rows case) vs)
Promised case book room (next s w vs fares) = Valid case book room × Demand2Next case book room s w vs × (fares ≡ fares_read (rows case) vs)
Promised case book room (refused k i) = Refused case book room k i

-- a case and a book with agreeing stages and a finished run that lists more than the placed pairs
pub record Example (case book : List ℕ) (room : Room) : Type 0 where
  pub places : List ℕ
  pub interviews : List Interview
  pub fares : ℕ
  pub answer : engine case book room ≡ placed places interviews fares
  pub consistent : ConsistentStages (market_in case) (market_in case).stage
  pub listed_unplaced : (s : ℕ) × (w : ℕ) × (interviewed interviews s w ≡ true) × (matching_of places s ≡ w → ⊥)

-- a case with agreeing stages, a book after which the next interview is one of student s, and two books with its records that bring placements: student t is of
-- an earlier stage, and student u gets different places
pub record SettledExample (case book book' book'' : List ℕ) (room : Room) (s t u : ℕ) : Type 0 where
  pub consistent : ConsistentStages (market_in case) (market_in case).stage
  pub stops : (w : ℕ) × (vs : List Interview) × (fares : ℕ) × (engine case book room ≡ next s w vs fares)
  pub more' : ExtendsBook book book'
  pub more'' : ExtendsBook book book''
  pub places' : List ℕ
  pub places'' : List ℕ
  pub answer' : (vs : List Interview) × (fares : ℕ) × (engine case book' room ≡ placed places' vs fares)
  pub answer'' : (vs : List Interview) × (fares : ℕ) × (engine case book'' room ≡ placed places'' vs fares)
  pub student : (1 ≤ t) × (t ≤ (market_in case).students)
  pub earlier : (market_in case).stage t < (market_in case).stage s
  pub unsettled : matching_of places' u ≡ matching_of places'' u → ⊥
