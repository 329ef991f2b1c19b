-- What is promised of the two parts for wish lines (document 02, Paper 6).
use Rattle.std.specs.Prelude.{ℕ, ◌+◌, ◌*◌, ◌/◌, ◌%◌, ◌≤◌, ◌<◌, ◌≡◌, ◌⊎◌, ◌↔◌, false, List, [], ◌∷◌, ◌++◌, map, eqb, length, get_or, take}
use mathlib.Core.List.{Memᴰ as Mem}
use Rattle.base.specs.Lists.{one, tally}
use Rattle.lgs.specs.Market.{Market}
use Rattle.format.specs.Layout.{rows}
use Rattle.format.specs.Encoding.{Bytes}
use Rattle.format.specs.Causes.{Cause, NothingFound, FoundFirst}
use Rattle.format.specs.Refusals.{Room, case_causes, causes}
use Rattle.format.specs.Engine.{market_in}
use Rattle.format.specs.Promises.{Valid}
use Rattle.wish_lines.specs.Lines.{Line, lines_text, times, Formed, position}
use Rattle.wish_lines.specs.Reading.{misnamed, FitLines, FirstFault}
use Rattle.wish_lines.specs.Wishes.{lines_of, wish_text, Option?, Rising, SameWishes}
use Rattle.wishes.specs.Copy.{groups_in, with_wish, wished}
use Rattle.wishes.specs.Outcome.{WishesOutcome, given, ungiven, text_room, write_causes, read_causes, write_wishes, read_wishes, wishes_after}

-- ---- A text that is read.

-- the text is these lines: each of the form, "from student 1 up", one for each student, and with every pair of hers named once and no other
pub record IsLines (M : Market) (text : List ℕ) (ls : List Line) : Type 0 where
  pub whole : text ≡ lines_text ls
  pub many : length ls ≡ M.students
  pub fit : FitLines M 0 ls

-- what does not stand in lines
pub record SameRest (M M' : Market) : Type 0 where
  pub students : M.students ≡ M'.students
  pub workshops : M.workshops ≡ M'.workshops
  pub stage : (s : ℕ) → M.stage s ≡ M'.stage s
  pub lot : (s : ℕ) → M.lot s ≡ M'.lot s
  pub quota : (w : ℕ) → M.quota w ≡ M'.quota w
  pub paired : (s w : ℕ) → M.paired s w ≡ M'.paired s w
  pub fare : (s w : ℕ) → M.fare s w ≡ M'.fare s w
  pub workshop_tier : (w x : ℕ) → M.workshop_tier w x ≡ M'.workshop_tier w x

-- the copy of the case with the groups of the lines
pub record CopyOf (case copy : List ℕ) (ls : List Line) : Type 0 where
  pub copied : copy ≡ wished ls case
  pub long : length copy ≡ length case
  pub bytes : Bytes case → Bytes copy
  -- the records are the case's, but for the groups of the lines
  pub records : rows copy ≡ map (with_wish ls) (rows case)
  -- every byte is the case's, but for bytes 6 and 7 of students' and pairs' records
  pub others : Bytes case → (i : ℕ) → ((i % 16 ≡ 6) ⊎ (i % 16 ≡ 7) → get_or case (16 * (i / 16)) 0 ≡ 2) → get_or copy i 0 ≡ get_or case i 0
  pub rest : SameRest (market_in copy) (market_in case)
  -- the groups are the positions in the line, within cause 5's range
  pub groups : (s x : ℕ) → 1 ≤ s → s ≤ (market_in case).students → Option? (market_in case) s x
      → ((market_in copy).student_tier s x ≡ position (groups_in ls s) x) × (1 ≤ (market_in copy).student_tier s x) × ((market_in copy).student_tier s x ≤ 65)
  -- "groups counted from 1": no number below that of a group is left out
  pub counted : (s x k : ℕ) → 1 ≤ s → s ≤ (market_in case).students → Option? (market_in case) s x → 1 ≤ k → k ≤ (market_in copy).student_tier s x
      → (y : ℕ) × Option? (market_in case) s y × ((market_in copy).student_tier s y ≡ k)
  -- valid where the case was; with a book of visits only 11 may come: a student's equal marks, once in two groups, may now be in one
  pub valid : NothingFound (case_causes copy)
  pub unvisited : (lent : Room) → Valid case [] lent → Valid copy [] lent
  pub engine : (book : List ℕ) (lent : Room) → Valid case book lent → (k i : ℕ) → FoundFirst (causes copy book lent) k i → k ≡ 11

-- ---- What holds of an answer, whichever it is.

abbrev pub WritePromised : List ℕ → ℕ → WishesOutcome → Type 0
WritePromised case room (given text) =
    NothingFound (write_causes case room) × (text ≡ wish_text (market_in case)) × (length text ≤ text_room case)
WritePromised case room (ungiven k i) = FoundFirst (write_causes case room) k i

-- a refusal is that of the first cause of the case and the room, or, where they find nothing, that of the first faulty line
abbrev pub ReadPromised : List ℕ → List ℕ → ℕ → WishesOutcome → Type 0
ReadPromised case text room (given copy) =
    NothingFound (read_causes case room) × ((ls : List Line) × IsLines (market_in case) text ls × CopyOf case copy ls)
ReadPromised case text room (ungiven k i) =
    FoundFirst (read_causes case room) k i
    ⊎ (NothingFound (read_causes case room) × FirstFault (market_in case) (market_in case).students 0 text k i)

-- ---- Promises of their own.

-- "What was written is read as that order": no refusal, the copy has the case's own lines with "groups counted from 1", and "all students' groups, none
-- included, have the same order, gaps aside"; a second write gives the same bytes
abbrev pub WriteThenRead : Type 0
WriteThenRead =
    (case text : List ℕ) (room copy_room : ℕ)
    → write_wishes case room ≡ given text
    → length case ≤ copy_room
    → (copy : List ℕ)
    × (read_wishes case text copy_room ≡ given copy)
    × CopyOf case copy (lines_of (market_in case))
    × SameWishes (market_in case) (market_in copy)
    × (write_wishes copy room ≡ given text)

-- the same where another case is read into that has the same students and pairs
abbrev pub ReadIntoAnother : Type 0
ReadIntoAnother =
    (case case' text : List ℕ) (room copy_room again : ℕ)
    → write_wishes case room ≡ given text
    → NothingFound (read_causes case' copy_room)
    → (market_in case).students ≡ (market_in case').students
    → ((s w : ℕ) → (market_in case).paired s w ≡ (market_in case').paired s w)
    → text_room case' ≤ again
    → (copy : List ℕ)
    × (read_wishes case' text copy_room ≡ given copy)
    × CopyOf case' copy (lines_of (market_in case))
    × SameWishes (market_in case) (market_in copy)
    × (write_wishes copy again ≡ given text)

-- what is written: lines that fit the case, "groups best first" by the case's own order, and "items in braces are written rising, with `-` first", as none
-- is 0
abbrev pub WrittenRising : Type 0
WrittenRising =
    (case text : List ℕ) (room : ℕ)
    → write_wishes case room ≡ given text
    → (ls : List Line)
    × IsLines (market_in case) text ls
    × ((l : Line) → Mem l ls → (g : List ℕ) → Mem g l.groups → Rising g)
    × ((s x y : ℕ) → 1 ≤ s → s ≤ (market_in case).students → Option? (market_in case) s x → Option? (market_in case) s y
    → ((market_in case).student_tier s x < (market_in case).student_tier s y) ↔ (position (groups_in ls s) x < position (groups_in ls s) y))

-- "Two cases write equal lines exactly when they have, by number, the same students and pairs, and all students' groups, none included, have the same
-- order, gaps aside"
abbrev pub EqualLines : Type 0
EqualLines =
    (case case' text text' : List ℕ) (room room' : ℕ)
    → write_wishes case room ≡ given text
    → write_wishes case' room' ≡ given text'
    → (text ≡ text') ↔ SameWishes (market_in case) (market_in case')

-- a text is accepted exactly when it is lines that fit, and then the copy has their groups
abbrev pub ReadExactly : Type 0
ReadExactly =
    (case text copy : List ℕ) (room : ℕ)
    → NothingFound (read_causes case room)
    → (read_wishes case text room ≡ given copy) ↔ ((ls : List Line) × IsLines (market_in case) text ls × (copy ≡ wished ls case))

-- 14 and 15, "tested after 6, in each line 14 and then 15 before the next line, with the line's place from 0": exactly at the first line that departs or
-- misnames
abbrev pub LinesRefused : Type 0
LinesRefused =
    (case text : List ℕ) (room k i : ℕ)
    → NothingFound (read_causes case room)
    → (read_wishes case text room ≡ ungiven k i) ↔ FirstFault (market_in case) (market_in case).students 0 text k i

-- "Every pair in the case must be named, and no other": 15 passes a line exactly when it names each workshop once with which its student has a pair, and no
-- other number
abbrev pub NamedOnce : Type 0
NamedOnce =
    (case : List ℕ) (l : Line)
    → NothingFound (case_causes case)
    → (misnamed (market_in case) l ≡ false) ↔ ((w : ℕ) → 1 ≤ w → times w l ≡ one ((market_in case).paired l.student w))

-- ---- "read in any order"

-- the same items, each as often
abbrev pub SameItems : List ℕ → List ℕ → Type 0
SameItems g g' = (x : ℕ) → tally (eqb x) g ≡ tally (eqb x) g'

pub data SameGroups : List (List ℕ) → List (List ℕ) → Type 0 where
  no_groups : SameGroups [] []
  more_groups : {g g' : List ℕ} {gs gs' : List (List ℕ)} → SameItems g g' → SameGroups gs gs' → SameGroups (g ∷ gs) (g' ∷ gs')

-- the same lines, but for the order of the items in a group
pub data Reordered : List Line → List Line → Type 0 where
  no_lines : Reordered [] []
  more_lines : {l l' : Line} {ls ls' : List Line} → l.student ≡ l'.student → SameGroups l.groups l'.groups → Reordered ls ls'
      → Reordered (l ∷ ls) (l' ∷ ls')

-- the answer is the same, copy or refusal, whatever stands behind these lines
abbrev pub AnyOrder : Type 0
AnyOrder =
    (case rest : List ℕ) (room : ℕ) (ls ls' : List Line)
    → ((l : Line) → Mem l ls → Formed l)
    → Reordered ls ls'
    → read_wishes case (lines_text ls ++ rest) room ≡ read_wishes case (lines_text ls' ++ rest) room

-- ---- Room and buffers.

-- 6, in a case that 1 to 5 and 13 pass, exactly when fewer bytes are lent than the text's room, or than the case has; and how many are enough for any case
pub record WishesSix : Type 0 where
  pub write : (case : List ℕ) (room i : ℕ)
      → (write_wishes case room ≡ ungiven 6 i) ↔ ((i ≡ 0) × NothingFound (case_causes case) × (room < text_room case))
  pub read : (case text : List ℕ) (room i : ℕ)
      → (read_wishes case text room ≡ ungiven 6 i) ↔ ((i ≡ 0) × NothingFound (case_causes case) × (room < length case))
  pub enough : (case : List ℕ) → NothingFound (case_causes case) → text_room case ≤ 8 * 512 + 4 * (length case / 16)

-- the numbers of the causes before the lines: those of the case, and 6, in the order in which they are tested
abbrev pub SevenCauses : Type 0
SevenCauses =
    (case : List ℕ) (room : ℕ)
    → (map (λ (c : Cause). c.0) (write_causes case room) ≡ 1 ∷ 2 ∷ 3 ∷ 4 ∷ 5 ∷ 13 ∷ 6 ∷ [])
    × (map (λ (c : Cause). c.0) (read_causes case room) ≡ 1 ∷ 2 ∷ 3 ∷ 4 ∷ 5 ∷ 13 ∷ 6 ∷ [])

-- the lent buffer keeps its length and the bytes past those given; "a refusal leaves their outputs as found"
pub record BufferKept (o : WishesOutcome) (out : List ℕ) : Type 0 where
  pub long : length (wishes_after o out) ≡ length out
  pub head : (bytes : List ℕ) → o ≡ given bytes → take (length bytes) (wishes_after o out) ≡ bytes
  pub past : (bytes : List ℕ) → o ≡ given bytes → (i : ℕ) → length bytes ≤ i → get_or (wishes_after o out) i 0 ≡ get_or out i 0
  pub as_found : (k i : ℕ) → o ≡ ungiven k i → wishes_after o out ≡ out

pub record WishesKept : Type 0 where
  pub write : (case text : List ℕ) → BufferKept (write_wishes case (length text)) text
  pub read : (case text copy : List ℕ) → BufferKept (read_wishes case text (length copy)) copy
