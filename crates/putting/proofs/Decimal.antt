-- The digits of a number: those of its tenth, and then the last one.
use Prim.Native.Nat.{ℕ, zero, suc, ◌+◌, ◌/◌, ◌%◌, ◌≤◌, ◌<◌}
use mathlib.Core.Path.{◌≡◌, refl, sym, ap, ◌∙◌}
use mathlib.Core.List.{List, [], ◌∷◌, ◌++◌}
use mathlib.Core.Logic.{⊎_elim}
use native.Mathlib.Omega.{arith}
use native.Mathlib.Nat.{div-add-mod', mod-eq_of_lt}
use borrow.Author.Tests.{lt-ltb, le-ltb}
use Rattle.base.proofs.Tests.{less?}
use Rattle.format.specs.Printed.{digits_within, decimal}

tenth_less : (n : ℕ) → 10 ≤ n → n / 10 < n
tenth_less n l = omega (arith, div-add-mod' n 10)

-- places enough are enough
digits_same : (k j n : ℕ) → n < k → n < j → digits_within k n ≡ digits_within j n
unfolding digits_within
digits_same zero j n a b = absurd (omega arith)
digits_same (suc k) zero n a b = absurd (omega arith)
digits_same (suc k) (suc j) n a b =
    ⊎_elim (λ (l : n < 10). rw (lt-ltb n 10 l))
    (λ (l : 10 ≤ n).
    let less = tenth_less n l in
    rw (le-ltb n 10 l) (ap (λ (d : List ℕ). d ++ ((48 + n % 10) ∷ [])) (digits_same k j (n / 10) (omega arith) (omega arith))))
    (less? n 10)

pub decimal_digit : (n : ℕ) → n < 10 → decimal n ≡ (48 + n) ∷ []
unfolding decimal digits_within
decimal_digit n l = rw (lt-ltb n 10 l) refl

pub decimal_small : (n : ℕ) → n < 10 → decimal n ≡ (48 + n % 10) ∷ []
decimal_small n l = decimal_digit n l ∙ ap (λ (d : ℕ). (48 + d) ∷ []) (sym (mod-eq_of_lt l))

pub decimal_more : (n : ℕ) → 10 ≤ n → decimal n ≡ decimal (n / 10) ++ ((48 + n % 10) ∷ [])
unfolding decimal digits_within
decimal_more n l =
    rw (le-ltb n 10 l)
    (ap (λ (d : List ℕ). d ++ ((48 + n % 10) ∷ [])) (digits_same n (suc (n / 10)) (n / 10) (tenth_less n l) (omega arith)))
