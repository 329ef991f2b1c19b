-- The digits that the kit's `decimal` puts are those of the definition. Lines of a word and numbers, as they are put one after the other.
use Prim.Native.Nat.{ℕ, zero, suc, ◌+◌, ◌-◌, ◌^◌, ◌/◌, ◌%◌, ◌≤◌, ◌<◌}
use mathlib.Core.Path.{◌≡◌, refl, sym, ap, subst, ◌∙◌}
use mathlib.Core.List.{List, [], ◌∷◌, ◌++◌, append_assoc, append-nil}
use native.Mathlib.Omega.{arith}
use native.Mathlib.Nat.{div-add-mod', mod-lt, zero-lt-suc}
use native.Mathlib.Nat.{one-le-pow, pow-suc, le-div_iff_mul-le, div-lt_iff_lt-mul}
use lib.ListN.{length, get_or, take}
use borrow.Author.Tests.{lt-ltb}
use Rattle.io.specs.Digits.{last_digits as digits, IsDigitCount}
use Rattle.format.specs.Printed.{decimal, numbers, line_of}
use Rattle.putting.proofs.Decimal.{decimal_small, decimal_more}
use Rattle.printing.specs.Text.{spaced}

-- the last digits of a number, where it has no more than these
last_digits : (k n : ℕ) → n < 10 ^ suc k → (0 < k → 10 ^ k ≤ n) → digits 10 (suc k) n ≡ decimal n
last_digits zero n h l = rw (lt-ltb (n % 10) 10 (mod-lt n (zero-lt-suc 9))) (sym (decimal_small n h))
last_digits (suc k) n h l =
    let high : 10 ^ k ≤ n / 10 = (le-div_iff_mul-le (zero-lt-suc 9)).1 (subst (λ (x : ℕ). x ≤ n) (pow-suc 10 k) (l (omega arith))) in
    let low : n / 10 < 10 ^ suc k = (div-lt_iff_lt-mul (zero-lt-suc 9)).1 (subst (λ (x : ℕ). n < x) (pow-suc 10 (suc k)) h) in
    let ten : 10 ≤ n = omega (arith, one-le-pow k 10 (zero-lt-suc 9), div-add-mod' n 10) in
    rw (lt-ltb (n % 10) 10 (mod-lt n (zero-lt-suc 9)))
    (ap (λ (d : List ℕ). d ++ ((48 + n % 10) ∷ [])) (last_digits k (n / 10) low (λ m. high)) ∙ sym (decimal_more n ten))

-- the digits that the kit's `decimal` puts, the fewest that hold the number
pub kit_digits : (k n : ℕ) → IsDigitCount 10 1 n k → digits 10 k n ≡ decimal n
kit_digits zero n f = absurd (omega arith)
kit_digits (suc k) n f =
    let e : suc k - 1 ≡ k = omega arith in
    last_digits k n f.1 (λ l. subst (λ (j : ℕ). 10 ^ j ≤ n) e (f.2 (omega arith)))

pub spaced_none : (l : List ℕ) → spaced (take 0 l) ≡ []
unfolding spaced
spaced_none l = refl

pub spaced_on : (l : List ℕ) (i : ℕ) → i < length l → spaced (take (suc i) l) ≡ spaced (take i l) ++ (32 ∷ decimal (get_or l i 0))
unfolding spaced
spaced_on [] i h = absurd (omega arith)
spaced_on (n ∷ ns) zero h = append-nil _
spaced_on (n ∷ ns) (suc i) h =
    ap (λ t. (32 ∷ decimal n) ++ t) (spaced_on ns i (omega arith))
    ∙ sym (append_assoc (32 ∷ decimal n) (spaced (take i ns)) (32 ∷ decimal (get_or ns i 0)))

spaced_ended : (ns : List ℕ) → spaced ns ++ (10 ∷ []) ≡ numbers ns
unfolding spaced numbers
spaced_ended [] = refl
spaced_ended (n ∷ ns) = append_assoc (32 ∷ decimal n) (spaced ns) (10 ∷ []) ∙ ap (λ t. (32 ∷ decimal n) ++ t) (spaced_ended ns)

-- with the end of the line
pub line_spaced : (w ns : List ℕ) → (w ++ spaced ns) ++ (10 ∷ []) ≡ line_of w ns
line_spaced w ns = append_assoc w (spaced ns) (10 ∷ []) ∙ ap (λ t. w ++ t) (spaced_ended ns)
