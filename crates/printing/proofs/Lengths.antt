-- How long a text can be, from the digits of its numbers.
use Prim.Native.Nat.{ℕ, zero, suc, ◌+◌, ◌*◌, ◌^◌, ◌/◌, ◌%◌, ◌≤◌, ◌<◌}
use mathlib.Core.Path.{◌≡◌, sym, subst}
use mathlib.Core.List.{List, [], ◌∷◌, ◌++◌}
use mathlib.Core.Logic.{⊎_elim}
use native.Mathlib.Omega.{arith}
use native.Mathlib.Nat.{div-lt_iff_lt-mul, zero-lt-suc, pow-suc}
use borrow.Author.Tests.{lt-ltb, le-ltb}
use lib.ListN.{length, get_or, take, length-append}
use Rattle.std.specs.Prelude.{Result, Ok, Err}
use Rattle.base.proofs.Tests.{less?}
use Rattle.format.specs.Printed.{Whole, digits_within, decimal, numbers, line_of, place_lines, visit_lines, visits_text}
use Rattle.format.specs.Printed.{place_word, visit_word, visits_word, fares_word, next_word, refused_word}
use Rattle.api.specs.Text.{interviews_at, text_of}
use Rattle.api.specs.declared.Answer.{Answer}
use Rattle.api.specs.declared.Answer.TheVariants.{Placed, Next}
use Rattle.api.specs.declared.Refusal.{Refusal}
use Rattle.api.specs.Causes.{number_of}
use Rattle.putting.specs.Put.{Put}
use Rattle.putting.proofs.Laws.{put_whole}
use Rattle.printing.specs.Text.{TextFits}
use Rattle.printing.proofs.Lines.{places_on, places_none, visits_on, visits_none, visits_text_lem}

-- a number below ten to the k has at most k digits
digits_length : (j k n : ℕ) → n < 10 ^ suc k → length (digits_within j n) ≤ suc k
unfolding digits_within
digits_length zero k n h = omega arith
digits_length (suc j) zero n h = rw (lt-ltb n 10 h) (omega arith)
digits_length (suc j) (suc k) n h =
    ⊎_elim (λ (l : n < 10). rw (lt-ltb n 10 l) (omega arith))
    (λ (l : 10 ≤ n).
    rw (le-ltb n 10 l)
    (omega (
      arith,
      length-append (digits_within j (n / 10)) ((48 + n % 10) ∷ []),
      digits_length j k (n / 10) ((div-lt_iff_lt-mul (zero-lt-suc 9)).1 (subst (λ (x : ℕ). n < x) (pow-suc 10 (suc k)) h)),
    )))
    (less? n 10)

decimal_length : (k n : ℕ) → 1 ≤ k → n < 10 ^ k → length (decimal n) ≤ k
unfolding decimal
decimal_length zero n l h = absurd (omega arith)
decimal_length (suc k) n l h = digits_length (suc n) k n h

-- an entry of a buffer, two bytes, and any other number
entry_length : (n : ℕ) → n < 65536 → length (decimal n) ≤ 5
entry_length n h = decimal_length 5 n (omega arith) (omega arith)

number_length : (n : ℕ) → n < 10 ^ 20 → length (decimal n) ≤ 20
number_length n h = decimal_length 20 n (omega arith) h

-- lines of a word and one number, or two
line_one_length : (w : List ℕ) (a : ℕ) → length (line_of w (a ∷ [])) ≡ length w + length (decimal a) + 2
unfolding numbers
line_one_length w a = omega (arith, length-append w (32 ∷ (decimal a ++ (10 ∷ []))), length-append (decimal a) (10 ∷ []))

line_two_length : (w : List ℕ) (a b : ℕ) → length (line_of w (a ∷ b ∷ [])) ≡ length w + length (decimal a) + length (decimal b) + 3
unfolding numbers
line_two_length w a b =
    omega (
      arith,
      length-append w (32 ∷ (decimal a ++ (32 ∷ (decimal b ++ (10 ∷ []))))),
      length-append (decimal a) (32 ∷ (decimal b ++ (10 ∷ []))),
      length-append (decimal b) (10 ∷ []),
    )

numbers_length : (ns : List ℕ) → ((j : ℕ) → get_or ns j 0 < 2 ^ 64) → length (numbers ns) ≤ 21 * length ns + 1
unfolding numbers
numbers_length [] h = omega arith
numbers_length (n ∷ ns) h =
    omega (arith, length-append (decimal n) (numbers ns), number_length n (omega (arith, h 0)), numbers_length ns (λ j. h (suc j)))

pub long_line : (w ns : List ℕ) → ((j : ℕ) → get_or ns j 0 < 2 ^ 64) → length (line_of w ns) ≤ length w + 21 * length ns + 1
long_line w ns h = omega (arith, length-append w (numbers ns), numbers_length ns h)

-- the lines of places: "place" and two spaces, at most 20 digits for the student and 5 for the workshop, and a line feed
places_length_lem : (l : List ℕ) (i : ℕ) → ((j : ℕ) → get_or l j 0 < 65536) → length l < 2 ^ 64 → i ≤ length l → length (place_lines 1 (take i l)) ≤ 33 * i
places_length_lem l zero h m le = rw (places_none 1 l) (omega arith)
places_length_lem l (suc i) h m le =
    rw (places_on l 1 i le)
    (omega (
      arith,
      length-append (place_lines 1 (take i l)) (line_of place_word ((i + 1) ∷ get_or l i 0 ∷ [])),
      line_two_length place_word (i + 1) (get_or l i 0),
      number_length (i + 1) (omega arith),
      entry_length (get_or l i 0) (h i),
      places_length_lem l i h m (omega arith),
    ))

-- the lines of visits, with both numbers from the buffer
lines_length : (l : List ℕ) (i : ℕ) → ((j : ℕ) → get_or l j 0 < 65536) → length (visit_lines (interviews_at i l)) ≤ 18 * i
lines_length l zero h = rw (visits_none l) (omega arith)
lines_length l (suc i) h =
    rw (visits_on l i)
    (omega (
      arith,
      length-append (visit_lines (interviews_at i l)) (line_of visit_word (get_or l (2 * i) 0 ∷ get_or l (2 * i + 1) 0 ∷ [])),
      line_two_length visit_word (get_or l (2 * i) 0) (get_or l (2 * i + 1) 0),
      entry_length (get_or l (2 * i) 0) (h (2 * i)),
      entry_length (get_or l (2 * i + 1) 0) (h (2 * i + 1)),
      lines_length l i h,
    ))

-- the line with the fares: "fares" and a space, at most 10 digits, and a line feed
fares_length : (fares : ℕ) → fares < 2 ^ 32 → length (line_of fares_word (fares ∷ [])) ≤ 17
fares_length fares h = omega (arith, line_one_length fares_word fares, decimal_length 10 fares (omega arith) (omega arith))

-- the line with the count, at most 28 bytes, the lines of visits, and the line with the fares
pub visits_length_lem : (l : List ℕ) (count fares : ℕ)
    → ((j : ℕ) → get_or l j 0 < 65536)
    → length l < 2 ^ 64
    → 2 * count ≤ length l
    → fares < 2 ^ 32
    → length (visits_text (interviews_at count l) fares) ≤ 9 * length l + 45
visits_length_lem l count fares h m le small =
    rw (sym (visits_text_lem l count fares))
    (omega (
      arith,
      length-append (line_of visits_word (count ∷ []) ++ visit_lines (interviews_at count l)) (line_of fares_word (fares ∷ [])),
      length-append (line_of visits_word (count ∷ [])) (visit_lines (interviews_at count l)),
      line_one_length visits_word count,
      number_length count (omega arith),
      lines_length l count h,
      fares_length fares small,
    ))

-- the lengths of the parts that the answer's own numbers decide
abbrev pub Bounded : Result Answer Refusal → List ℕ → Type 0
Bounded (Ok (Placed count fares)) visits = length (visits_text (interviews_at count visits) fares) ≤ 9 * length visits + 45
Bounded (Ok (Next s w count fares)) visits =
    (length (line_of next_word (s ∷ w ∷ [])) ≤ 47) × (length (visits_text (interviews_at count visits) fares) ≤ 9 * length visits + 45)
Bounded (Err r) visits = length (line_of refused_word (number_of r.cause ∷ r.place ∷ [])) ≤ 50

-- the text of an answer whose parts are so long, with places of two bytes
text_bounded : (a : Result Answer Refusal) (n : ℕ) (places visits : List ℕ)
    → TextFits a n places visits
    → Bounded a visits
    → ((j : ℕ) → get_or places j 0 < 65536)
    → length places < 2 ^ 64
    → length (text_of a n places visits) ≤ 33 * length places + 9 * length visits + 100
unfolding text_of
text_bounded (Ok (Placed count fares)) n places visits f b h l =
    omega (
      arith,
      length-append (place_lines 1 (take n places)) (visits_text (interviews_at count visits) fares),
      places_length_lem places n h l f.0,
    )
text_bounded (Ok (Next s w count fares)) n places visits f b h l =
    omega (arith, length-append (line_of next_word (s ∷ w ∷ [])) (visits_text (interviews_at count visits) fares))
text_bounded (Err r) n places visits f b h l = omega arith

-- a buffer with room for the longest gets the whole text
pub text_whole : (a : Result Answer Refusal) (n : ℕ) (places visits : List ℕ)
    → TextFits a n places visits
    → Bounded a visits
    → ((j : ℕ) → get_or places j 0 < 65536)
    → length places < 2 ^ 64
    → {out after : List ℕ} {end : ℕ}
    → Put (text_of a n places visits) 0 out after end
    → 33 * length places + 9 * length visits + 100 ≤ length out
    → Whole (text_of a n places visits) after end
text_whole a n places visits f b h l p room = put_whole p (omega (arith, text_bounded a n places visits f b h l))

-- what bounds an answer's own numbers: the length of a first line that has two of them, and 32 bits for the fares
abbrev pub Numbers : Result Answer Refusal → Type 0
Numbers (Ok (Placed count fares)) = fares < 2 ^ 32
Numbers (Ok (Next s w count fares)) = (length (line_of next_word (s ∷ w ∷ [])) ≤ 47) × (fares < 2 ^ 32)
Numbers (Err r) = length (line_of refused_word (number_of r.cause ∷ r.place ∷ [])) ≤ 50

bounded : (a : Result Answer Refusal) (n : ℕ) (places visits : List ℕ)
    → TextFits a n places visits
    → Numbers a
    → ((j : ℕ) → get_or visits j 0 < 65536)
    → length visits < 2 ^ 64
    → Bounded a visits
bounded (Ok (Placed count fares)) n places visits f s k m = visits_length_lem visits count fares k m f.1 s
bounded (Ok (Next a b count fares)) n places visits f s k m = (s.0, visits_length_lem visits count fares k m f s.1)
bounded (Err r) n places visits f s k m = s

-- the text of an answer from buffers of entries of two bytes
pub text_length : (a : Result Answer Refusal) (n : ℕ) (places visits : List ℕ)
    → TextFits a n places visits
    → Numbers a
    → ((j : ℕ) → get_or places j 0 < 65536)
    → ((j : ℕ) → get_or visits j 0 < 65536)
    → length places < 2 ^ 64
    → length visits < 2 ^ 64
    → length (text_of a n places visits) ≤ 33 * length places + 9 * length visits + 100
text_length a n places visits f s h k l m = text_bounded a n places visits f (bounded a n places visits f s k m) h l
