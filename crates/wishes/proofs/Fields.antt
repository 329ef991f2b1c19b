-- The bytes of records: byte by byte, and with a record's third field replaced.
use Prim.Native.Nat.{ℕ, zero, suc, ◌+◌, ◌*◌, ◌/◌, ◌%◌, ◌<◌}
use mathlib.Core.Path.{◌≡◌, refl, sym, ap, ◌∙◌}
use mathlib.Core.List.{List, [], ◌∷◌, ◌++◌, flat_map}
use native.Mathlib.Omega.{arith}
use native.Mathlib.Nat.{suc-add}
use lib.ListN.{length, get_or, set, drop, length-set, get_or-append}
use lib.Seq.{get_or-append-add, set-append_left, ext_get_or}
use Rattle.base.specs.Words.{word}
use Rattle.format.specs.Layout.{Row, row_at, rows, row_count, no_row}
use Rattle.format.specs.Encoding.{words, row_bytes, case_bytes, Bytes}
use Rattle.format.specs.Buffers.{with_head}
use Rattle.format.proofs.Encoding.{case_length}
use Rattle.format.proofs.Sorted.{row_at_lem}
use Rattle.base.proofs.Below.{tabulate_length}
use Rattle.wishes.specs.Copy.{with_third}

row_long : (r : Row) → length (row_bytes r) ≡ 16
unfolding row_bytes words
row_long r = refl

-- ---- byte by byte

pub byte_at : (rs : List Row) (i k : ℕ) → i < length rs → k < 16 → get_or (case_bytes rs) (16 * i + k) 0 ≡ get_or (row_bytes (get_or rs i no_row)) k 0
unfolding case_bytes flat_map
byte_at [] i k l u = absurd (omega arith)
byte_at (r ∷ rs) zero k l u = let e : 16 * 0 + k ≡ k = omega arith in rw e (get_or-append (row_bytes r) (case_bytes rs) 0 k (omega (arith, row_long r)))
byte_at (r ∷ rs) (suc i) k l u =
    let e : 16 * suc i + k ≡ length (row_bytes r) + (16 * i + k) = omega (arith, row_long r) in
    rw e (get_or-append-add (row_bytes r) (case_bytes rs) (16 * i + k) 0 ∙ byte_at rs i k (omega arith) u)

-- a record with another third field has the same bytes but for two
pub byte_other : (r : Row) (x k : ℕ) → (k ≡ 6 → ⊥) → (k ≡ 7 → ⊥) → get_or (row_bytes (with_third r x)) k 0 ≡ get_or (row_bytes r) k 0
unfolding row_bytes words
byte_other r x zero a b = refl
byte_other r x (suc zero) a b = refl
byte_other r x (suc (suc zero)) a b = refl
byte_other r x (suc (suc (suc zero))) a b = refl
byte_other r x (suc (suc (suc (suc zero)))) a b = refl
byte_other r x (suc (suc (suc (suc (suc zero))))) a b = refl
byte_other r x (suc (suc (suc (suc (suc (suc zero)))))) a b = absurd (a refl)
byte_other r x (suc (suc (suc (suc (suc (suc (suc zero))))))) a b = absurd (b refl)
byte_other r x (suc (suc (suc (suc (suc (suc (suc (suc k)))))))) a b = refl

low : (a b : ℕ) → a < 256 → (a + 256 * b) % 256 ≡ a
low a b l = omega arith

high : (a b : ℕ) → a < 256 → (a + 256 * b) / 256 ≡ b
high a b l = omega arith

high_at : (case : List ℕ) (i j : ℕ) → suc i ≡ j → Bytes case → (get_or case i 0 + 256 * get_or case (suc i) 0) / 256 ≡ get_or case j 0
high_at case i j e b = high _ _ (b.below i) ∙ ap (λ k. get_or case k 0) e

-- the bytes of the record read are those of the case
pub read_byte : (case : List ℕ) → Bytes case → (i k : ℕ) → k < 16 → get_or (row_bytes (row_at case i)) k 0 ≡ get_or case (16 * i + k) 0
unfolding row_bytes words row_at word
read_byte case b i zero u = ap (λ j. get_or case j 0) (omega arith)
read_byte case b i (suc zero) u = ap (λ j. get_or case j 0) (omega arith)
read_byte case b i (suc (suc zero)) u = low _ _ (b.below (16 * i + 2))
read_byte case b i (suc (suc (suc zero))) u = high_at case (16 * i + 2) (16 * i + 3) (omega arith) b
read_byte case b i (suc (suc (suc (suc zero)))) u = low _ _ (b.below (16 * i + 4))
read_byte case b i (suc (suc (suc (suc (suc zero))))) u = high_at case (16 * i + 4) (16 * i + 5) (omega arith) b
read_byte case b i (suc (suc (suc (suc (suc (suc zero)))))) u = low _ _ (b.below (16 * i + 6))
read_byte case b i (suc (suc (suc (suc (suc (suc (suc zero))))))) u = high_at case (16 * i + 6) (16 * i + 7) (omega arith) b
read_byte case b i (suc (suc (suc (suc (suc (suc (suc (suc zero)))))))) u = low _ _ (b.below (16 * i + 8))
read_byte case b i (suc (suc (suc (suc (suc (suc (suc (suc (suc zero))))))))) u = high_at case (16 * i + 8) (16 * i + 9) (omega arith) b
read_byte case b i (suc (suc (suc (suc (suc (suc (suc (suc (suc (suc zero)))))))))) u = low _ _ (b.below (16 * i + 10))
read_byte case b i (suc (suc (suc (suc (suc (suc (suc (suc (suc (suc (suc zero))))))))))) u = high_at case (16 * i + 10) (16 * i + 11) (omega arith) b
read_byte case b i (suc (suc (suc (suc (suc (suc (suc (suc (suc (suc (suc (suc zero)))))))))))) u = low _ _ (b.below (16 * i + 12))
read_byte case b i (suc (suc (suc (suc (suc (suc (suc (suc (suc (suc (suc (suc (suc zero))))))))))))) u = high_at case (16 * i + 12) (16 * i + 13)
    (omega arith) b
read_byte case b i (suc (suc (suc (suc (suc (suc (suc (suc (suc (suc (suc (suc (suc (suc zero)))))))))))))) u = low _ _ (b.below (16 * i + 14))
read_byte case b i (suc (suc (suc (suc (suc (suc (suc (suc (suc (suc (suc (suc (suc (suc (suc zero))))))))))))))) u = high_at case (16 * i + 14) (16 * i + 15)
    (omega arith) b
read_byte case b i (suc (suc (suc (suc (suc (suc (suc (suc (suc (suc (suc (suc (suc (suc (suc (suc k)))))))))))))))) u = absurd (omega arith)

-- a case of whole records is the bytes of these
pub rows_back : (case : List ℕ) → Bytes case → length case % 16 ≡ 0 → case_bytes (rows case) ≡ case
unfolding rows
rows_back case b whole =
    let many : length (rows case) ≡ row_count case = tabulate_length (row_at case) (row_count case) in
    let long : length (case_bytes (rows case)) ≡ length case = omega (arith, case_length (rows case), many, whole) in
    ext_get_or 0 (case_bytes (rows case)) case long
    (λ j l.
    let e : j ≡ 16 * (j / 16) + j % 16 = omega arith in
    let q : j / 16 < row_count case = omega (arith, long, whole) in
    ap (λ i. get_or (case_bytes (rows case)) i 0) e
    ∙ (byte_at (rows case) (j / 16) (j % 16) (omega (arith, many)) (omega arith)
    ∙ (ap (λ r. get_or (row_bytes r) (j % 16) 0) (row_at_lem case (j / 16) q)
    ∙ (read_byte case b (j / 16) (j % 16) (omega arith) ∙ ap (λ i. get_or case i 0) (sym e)))))

-- ---- a third field is set

set_past : {A : Type 0} (xs ys : List A) (k : ℕ) (a : A) → set (xs ++ ys) (length xs + k) a ≡ xs ++ set ys k a
set_past [] ys k a = let e : 0 + k ≡ k = omega arith in ap (λ i. set ys i a) e
set_past (x ∷ xs) ys k a = ap (λ i. set (x ∷ (xs ++ ys)) i a) (suc-add (length xs) k) ∙ ap (λ r. x ∷ r) (set_past xs ys k a)

set_third : (rs : List Row) (i x : ℕ) → i < length rs
    → set (set (case_bytes rs) (16 * i + 6) (x % 256)) (16 * i + 7) (x / 256) ≡ case_bytes (set rs i (with_third (get_or rs i no_row) x))
unfolding case_bytes flat_map row_bytes words
set_third [] i x l = absurd (omega arith)
set_third (r ∷ rs) zero x l = refl
set_third (r ∷ rs) (suc i) x l =
    let e : 16 * suc i + 6 ≡ length (row_bytes r) + (16 * i + 6) = omega (arith, row_long r) in
    let f : 16 * suc i + 7 ≡ length (row_bytes r) + (16 * i + 7) = omega (arith, row_long r) in
    rw (
      e,
      f,
      set_past (row_bytes r) (case_bytes rs) (16 * i + 6) (x % 256),
      set_past (row_bytes r) (set (case_bytes rs) (16 * i + 6) (x % 256)) (16 * i + 7)
          (x / 256),
    )
    (ap (λ t. row_bytes r ++ t) (set_third rs i x (omega arith)))

-- the same at the head of a buffer
pub field_set : (rs : List Row) (old : List ℕ) (i x : ℕ) → i < length rs
    → set (set (with_head (case_bytes rs) old) (16 * i + 6) (x % 256)) (16 * i + 7) (x / 256) ≡ with_head
    (case_bytes (set rs i (with_third (get_or rs i no_row) x))) old
field_set rs old i x l =
    let rest = drop (length (case_bytes rs)) old in
    let new = set rs i (with_third (get_or rs i no_row) x) in
    let long : length (case_bytes rs) ≡ length (case_bytes new) = omega (
      arith,
      case_length rs,
      case_length new,
      length-set rs i
          (with_third (get_or rs i no_row) x),
    ) in
    rw (
      set-append_left (case_bytes rs) rest (16 * i + 6) (x % 256) (omega (arith, case_length rs)),
      set-append_left (set (case_bytes rs) (16 * i + 6) (x % 256)) rest (16 * i + 7) (x / 256)
          (omega (arith, case_length rs, length-set (case_bytes rs) (16 * i + 6) (x % 256))),
      set_third rs i x l,
      long,
    )
