-- The bytes of a case and of a book, from their records: what the layout reads back (`RoundTrip`).
use Rattle.std.specs.Prelude.{ℕ, ◌+◌, ◌/◌, ◌%◌, ◌<◌, ◌≡◌, get_or}
use mathlib.Core.List.{List, [], ◌∷◌, flat_map}
use mathlib.Core.List.{Memᴰ as Mem}
use Rattle.format.specs.Layout.{Row, Entry, rows, entries}

-- 16-bit fields, "low byte first"
unfoldable pub words : List ℕ → List ℕ
words [] = []
words (x ∷ xs) = x % 256 ∷ x / 256 ∷ words xs

-- a record of the case
unfoldable pub row_bytes : Row → List ℕ
row_bytes r =
    r.kind ∷ r.pad ∷ words (r.first ∷ r.second ∷ r.third ∷ r.fourth ∷ r.fifth ∷ r.sixth ∷ r.seventh ∷ [])

unfoldable pub case_bytes : List Row → List ℕ
case_bytes rs = flat_map row_bytes rs

-- the field of a score, which is kept 32768 above its value
unfoldable pub score_field : ℕ → ℕ
score_field x = (x + 32768) % 65536

-- a record of the book
unfoldable pub entry_bytes : Entry → List ℕ
entry_bytes e = words (e.student ∷ e.workshop ∷ score_field e.student_score ∷ score_field e.workshop_score ∷ [])

unfoldable pub book_bytes : List Entry → List ℕ
book_bytes es = flat_map entry_bytes es

-- every number of the list is a byte
pub record Bytes (bs : List ℕ) : Type 0 where
  pub below : (i : ℕ) → get_or bs i 0 < 256

-- the fields fit their bytes
pub record RowFits (r : Row) : Type 0 where
  pub kind : r.kind < 256
  pub pad : r.pad < 256
  pub first : r.first < 65536
  pub second : r.second < 65536
  pub third : r.third < 65536
  pub fourth : r.fourth < 65536
  pub fifth : r.fifth < 65536
  pub sixth : r.sixth < 65536
  pub seventh : r.seventh < 65536

pub record EntryFits (e : Entry) : Type 0 where
  pub student : e.student < 65536
  pub workshop : e.workshop < 65536
  pub student_score : e.student_score < 65536
  pub workshop_score : e.workshop_score < 65536

-- records that fit are written as bytes, and what was written is read
pub record RoundTrip : Type 0 where
  pub case_is_bytes : (rs : List Row) → ((r : Row) → Mem r rs → RowFits r) → Bytes (case_bytes rs)
  pub book_is_bytes : (es : List Entry) → ((e : Entry) → Mem e es → EntryFits e) → Bytes (book_bytes es)
  pub case : (rs : List Row) → rows (case_bytes rs) ≡ rs
  pub book : (es : List Entry) → ((e : Entry) → Mem e es → EntryFits e) → entries (book_bytes es) ≡ es
