-- What is written as bytes is read back. A record's fields are the words of its bytes, and the next record's stand 16 or 8 bytes on.
use Prim.Native.Nat.{ℕ, zero, suc, ◌+◌, ◌*◌, ◌/◌, ◌%◌, ◌<◌}
use mathlib.Core.Path.{◌≡◌, refl, ap, ◌∙◌}
use mathlib.Core.List.{List, [], ◌∷◌, ◌++◌}
use mathlib.Core.List.{Memᴰ as Mem}
use native.Mathlib.Omega.{arith}
use lib.ListN.{length, get_or}
use Rattle.base.specs.Lists.{tabulate}
use Rattle.base.specs.Words.{word, signed}
use Rattle.base.proofs.Coding.{byte_behind, word_behind, all_have, coded_length, coded}
use Rattle.format.specs.Layout.{Row, Entry, row_at, rows, row_count, no_row, entry_at, entries, entry_count, no_entry}
use Rattle.format.specs.Encoding.{words, row_bytes, case_bytes, score_field, entry_bytes, book_bytes, Bytes, RowFits, EntryFits, RoundTrip}

-- ---- one field
back : (x : ℕ) → x % 256 + 256 * (x / 256) ≡ x
back x = omega arith

score_back : (x : ℕ) → x < 65536 → (score_field x + 32768) % 65536 ≡ x
unfolding score_field
score_back x l = omega arith

-- ---- one record
first_row : (r : Row) (bs : List ℕ) → row_at (row_bytes r ++ bs) 0 ≡ r
unfolding row_at row_bytes words word
first_row r bs = rw (back r.first, back r.second, back r.third, back r.fourth, back r.fifth, back r.sixth, back r.seventh)

row_length : (r : Row) → length (row_bytes r) ≡ 16
unfolding row_bytes words
row_length r = refl

next_row : (r : Row) (bs : List ℕ) (i : ℕ) → row_at (row_bytes r ++ bs) (suc i) ≡ row_at bs i
unfolding row_at
next_row r bs i =
    rw (
      byte_behind (row_bytes r) bs (16 * suc i) (16 * i) (omega (arith, row_length r)),
      byte_behind (row_bytes r) bs (16 * suc i + 1) (16 * i + 1) (by 1),
      field 2,
      field 4,
      field 6,
      field 8,
      field 10,
      field 12,
      field 14,
    )
  where
    by : (k : ℕ) → 16 * suc i + k ≡ length (row_bytes r) + (16 * i + k)
    by k = omega (arith, row_length r)

    field : (k : ℕ) → word (row_bytes r ++ bs) (16 * suc i + k) ≡ word bs (16 * i + k)
    field k = word_behind (row_bytes r) bs (16 * suc i + k) (16 * i + k) (by k)

first_entry : (e : Entry) → EntryFits e → (bs : List ℕ) → entry_at (entry_bytes e ++ bs) 0 ≡ e
unfolding entry_at entry_bytes words word signed
first_entry e f bs =
    rw (
      back e.student,
      back e.workshop,
      back (score_field e.student_score),
      back (score_field e.workshop_score),
      score_back e.student_score f.student_score,
      score_back e.workshop_score f.workshop_score,
    )

entry_length : (e : Entry) → length (entry_bytes e) ≡ 8
unfolding entry_bytes words
entry_length e = refl

next_entry : (e : Entry) (bs : List ℕ) (i : ℕ) → entry_at (entry_bytes e ++ bs) (suc i) ≡ entry_at bs i
unfolding entry_at signed
next_entry e bs i = rw (word_behind (entry_bytes e) bs (8 * suc i) (8 * i) (omega (arith, entry_length e)), field 2, field 4, field 6)
  where
    field : (k : ℕ) → word (entry_bytes e ++ bs) (8 * suc i + k) ≡ word bs (8 * i + k)
    field k = word_behind (entry_bytes e) bs (8 * suc i + k) (8 * i + k) (omega (arith, entry_length e))

-- ---- all records
pub case_length : (rs : List Row) → length (case_bytes rs) ≡ 16 * length rs
unfolding case_bytes
case_length = coded_length 16 row_bytes row_at no_row row_length next_row

read_case : (rs : List Row) → rows (case_bytes rs) ≡ rs
unfolding rows case_bytes
read_case rs =
    let n : row_count (case_bytes rs) ≡ length rs = omega (arith, case_length rs) in
    ap (tabulate (row_at (case_bytes rs))) n ∙ coded 16 row_bytes row_at no_row row_length next_row rs (λ r m. first_row r)

read_book : (es : List Entry) → ((e : Entry) → Mem e es → EntryFits e) → entries (book_bytes es) ≡ es
unfolding entries book_bytes
read_book es fits =
    let n : entry_count (book_bytes es) ≡ length es = omega (arith, coded_length 8 entry_bytes entry_at no_entry entry_length next_entry es) in
    ap (tabulate (entry_at (book_bytes es))) n ∙ coded 8 entry_bytes entry_at no_entry entry_length next_entry es (λ e m. first_entry e (fits e m))

-- ---- bytes
more_bytes : (x : ℕ) (xs : List ℕ) → x < 256 → Bytes xs → Bytes (x ∷ xs)
more_bytes x xs l rest = record { below = below }
  where
    below : (i : ℕ) → get_or (x ∷ xs) i 0 < 256
    below zero = l
    below (suc i) = rest.below i

words_bytes : (x : ℕ) (xs : List ℕ) → x < 65536 → Bytes (words xs) → Bytes (words (x ∷ xs))
unfolding words
words_bytes x xs l rest = more_bytes (x % 256) _ (omega arith) (more_bytes (x / 256) _ (omega arith) rest)

no_bytes : Bytes (words [])
unfolding words
no_bytes = record { below = λ i. omega arith }

row_bytes_lem : (r : Row) → RowFits r → Bytes (row_bytes r)
unfolding row_bytes
row_bytes_lem r f =
    more_bytes r.kind _ f.kind
    (more_bytes r.pad _ f.pad
    (words_bytes r.first _ f.first
    (words_bytes r.second _ f.second
    (words_bytes r.third _ f.third
    (words_bytes r.fourth _ f.fourth
    (words_bytes r.fifth _ f.fifth (words_bytes r.sixth _ f.sixth (words_bytes r.seventh _ f.seventh no_bytes))))))))

entry_bytes_lem : (e : Entry) → EntryFits e → Bytes (entry_bytes e)
unfolding entry_bytes score_field
entry_bytes_lem e f =
    words_bytes e.student _ f.student
    (words_bytes e.workshop _ f.workshop
    (words_bytes ((e.student_score + 32768) % 65536) _ (omega arith) (words_bytes ((e.workshop_score + 32768) % 65536) _ (omega arith) no_bytes)))

pub round_trip : RoundTrip
unfolding case_bytes book_bytes
round_trip =
    record {
      case_is_bytes = λ rs fits. record { below = all_have (λ b. b < 256) row_bytes (omega arith) rs (λ r m. (row_bytes_lem r (fits r m)).below) };
      book_is_bytes = λ es fits. record { below = all_have (λ b. b < 256) entry_bytes (omega arith) es (λ e m. (entry_bytes_lem e (fits e m)).below) };
      case = read_case;
      book = read_book;
    }

-- ---- a record that is read from bytes fits them
pub row_fits : (case : List ℕ) (i : ℕ) → Bytes case → RowFits (row_at case i)
unfolding row_at word
row_fits case i b =
    let at : ℕ = 16 * i in
    record {
      kind = b.below at;
      pad = b.below (at + 1);
      first = omega (arith, b.below (at + 2), b.below (suc (at + 2)));
      second = omega (arith, b.below (at + 4), b.below (suc (at + 4)));
      third = omega (arith, b.below (at + 6), b.below (suc (at + 6)));
      fourth = omega (arith, b.below (at + 8), b.below (suc (at + 8)));
      fifth = omega (arith, b.below (at + 10), b.below (suc (at + 10)));
      sixth = omega (arith, b.below (at + 12), b.below (suc (at + 12)));
      seventh = omega (arith, b.below (at + 14), b.below (suc (at + 14)));
    }
