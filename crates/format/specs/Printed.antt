-- What the program prints, as bytes of ASCII (document 01, "What the program prints").
use Rattle.std.specs.Prelude.{ℕ, zero, suc, ◌+◌, ◌/◌, ◌%◌, ◌≡◌, cond, List, [], ◌∷◌, ◌++◌, length, take, ltb, Option, Some, None}
use Prim.Native.Char.{code}
use Prim.Native.String.{String, [] as []ˢ, ◌∷◌ as ◌∷ˢ◌}
use Rattle.lgs.specs.Rule.{Interview}
use Rattle.format.specs.Refusals.{Room}
use Rattle.format.specs.Engine.{placed, next, refused, engine, Outcome}

-- the bytes of a text of ASCII characters
abbrev pub ascii : String → List ℕ
ascii []ˢ = []
ascii (c ∷ˢ s) = code c ∷ ascii s

-- the decimal digits of n, in at most k places
unfoldable pub digits_within : ℕ → ℕ → List ℕ
digits_within zero n = []
digits_within (suc k) n = cond (ltb n 10) ((code "0" + n) ∷ []) (digits_within k (n / 10) ++ ((code "0" + n % 10) ∷ []))

-- the number n; n + 1 places hold it
unfoldable pub decimal : ℕ → List ℕ
decimal n = digits_within (suc n) n

abbrev pub place_word : List ℕ
place_word = ascii "place"

abbrev pub visits_word : List ℕ
visits_word = ascii "visits"

abbrev pub visit_word : List ℕ
visit_word = ascii "visit"

abbrev pub fares_word : List ℕ
fares_word = ascii "fares"

abbrev pub next_word : List ℕ
next_word = ascii "next"

abbrev pub refused_word : List ℕ
refused_word = ascii "refused"

abbrev pub unread_word : List ℕ
unread_word = ascii "unread"

-- "one item a line": a word, then each number after a space, then a line feed
unfoldable pub numbers : List ℕ → List ℕ
numbers [] = ascii "\n"
numbers (n ∷ ns) = ascii " " ++ decimal n ++ numbers ns

abbrev pub line_of : List ℕ → List ℕ → List ℕ
line_of word ns = word ++ numbers ns

-- "a place line is student and workshop": the places of the students from s on
unfoldable pub place_lines : ℕ → List ℕ → List ℕ
place_lines s [] = []
place_lines s (p ∷ ps) = line_of place_word (s ∷ p ∷ []) ++ place_lines (suc s) ps

-- "a visit line likewise"
unfoldable pub visit_lines : List Interview → List ℕ
visit_lines [] = []
visit_lines (v ∷ vs) = line_of visit_word (v.0 ∷ v.1 ∷ []) ++ visit_lines vs

-- The line with the count, then a line for each visit, and "a last line `fares` with a total after the visits lines" (document 02, Paper 4).
unfoldable pub visits_text : List Interview → ℕ → List ℕ
visits_text vs fares = line_of visits_word (length vs ∷ []) ++ visit_lines vs ++ line_of fares_word (fares ∷ [])

-- "A stopped run prints `next` with the pair, then the visits lines. A refusal prints `refused` with number and place."
unfoldable pub printed : Outcome → List ℕ
printed (placed places vs fares) = place_lines 1 places ++ visits_text vs fares
printed (next s w vs fares) = line_of next_word (s ∷ w ∷ []) ++ visits_text vs fares
printed (refused k i) = line_of refused_word (k ∷ i ∷ [])

-- "if one is missing or longer it prints only `unread`"
unfoldable pub unread : List ℕ
unread = line_of unread_word []

-- the buffers that the program lends: enough for every case of at most 65,536 bytes (`RoomEnough`), so that it prints no refusal 6
abbrev pub program_room : Room
program_room = record { places = 512; visits = 8192; seats = 32768; index = 4096; states = 512 }

-- "It reads case.dat and book.dat, each up to 65,536 bytes": a file's bytes, unless it is missing, longer or cannot be read
abbrev pub readable : Option (List ℕ) → Option (List ℕ)
readable None = None
readable (Some bytes) = cond (ltb 65536 (length bytes)) None (Some bytes)

-- what the program prints for the two files
abbrev pub program_text : Option (List ℕ) → Option (List ℕ) → List ℕ
program_text None book = unread
program_text (Some case) None = unread
program_text (Some case) (Some book) = printed (engine case book program_room)

unfoldable pub program_prints : Option (List ℕ) → Option (List ℕ) → List ℕ
program_prints case book = program_text (readable case) (readable book)

-- the whole text stands at the head of the buffer, and ends at `end`
pub record Whole (text out : List ℕ) (end : ℕ) : Type 0 where
  pub long : end ≡ length text
  pub bytes : take end out ≡ text
