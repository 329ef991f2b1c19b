-- What the digits of a number make.
use Prim.Native.Nat.{ℕ, suc, ◌+◌, ◌-◌, ◌*◌, ◌≤◌, ◌<◌}
use mathlib.Core.Path.{◌≡◌, sym, ap, ◌∙◌}
use mathlib.Core.Logic.{⊎_elim}
use mathlib.Core.Bool.{true, false}
use mathlib.Core.List.{List, [], ◌∷◌}
use native.Mathlib.Omega.{arith}
use lib.ListN.{length, drop, get_or, drop_of_length-le}
use Rattle.base.proofs.Tests.{bool_cases}
use Rattle.wish_lines.specs.Reading.{is_digit, with_digit}
use Rattle.line_reader.specs.Items.{cap, digits_in, extended}
use Rattle.line_reader.proofs.Scanning.{first_at}

-- ---- digits

extended_cap : (x y : ℕ) (t : List ℕ) → cap x ≡ cap y → cap (extended x t) ≡ cap (extended y t)
unfolding extended
extended_cap x y [] e = e
extended_cap x y (b ∷ t) e =
    ⊎_elim (λ (d : is_digit b ≡ true). rw d (extended_cap (with_digit x b) (with_digit y b) t (omega arith))) (λ (d : is_digit b ≡ false). rw d e)
    (bool_cases (is_digit b))

-- the first k bytes are digits, and made x the number v
pub record Counting (rest : List ℕ) (x k v : ℕ) : Type 0 where
  pub small : v ≤ 1000
  pub value : cap (extended v (drop k rest)) ≡ cap (extended x rest)
  pub digits : k + digits_in (drop k rest) ≡ digits_in rest

module _ {rest : List ℕ} {x k v : ℕ} (C : Counting rest x k v) where
  -- a digit
  pub counting_on : (v' : ℕ) → k < length rest → is_digit (get_or rest k 0) ≡ true → v' ≡ cap (10 * v + (get_or rest k 0 - 48)) → Counting rest x (k + 1) v'
  unfolding extended digits_in
  counting_on v' l d e =
      record {
        small = omega arith;
        value = extended_cap v' (with_digit v b) (drop (k + 1) rest) (omega arith) ∙ (sym (ap (λ t. cap (extended v t)) (first_at rest k l) ∙ rw d) ∙ C.value);
        digits = omega (arith, C.digits, one_more);
      }
    where
      b : ℕ
      b = get_or rest k 0

      one_more : digits_in (drop k rest) ≡ suc (digits_in (drop (k + 1) rest))
      one_more = ap digits_in (first_at rest k l) ∙ rw d

  -- no digit
  pub counting_stops : k < length rest → is_digit (get_or rest k 0) ≡ false → (v ≡ cap (extended x rest)) × (k ≡ digits_in rest)
  unfolding extended digits_in
  counting_stops l d =
      let value : extended v (drop k rest) ≡ v = ap (extended v) (first_at rest k l) ∙ rw d in
      let none : digits_in (drop k rest) ≡ 0 = ap digits_in (first_at rest k l) ∙ rw d in
      (omega (arith, C.value, C.small), omega (arith, C.digits))

  -- the text has ended
  pub counting_ends : length rest ≤ k → (v ≡ cap (extended x rest)) × (k ≡ digits_in rest)
  unfolding extended digits_in
  counting_ends l =
      let value : extended v (drop k rest) ≡ v = ap (extended v) (drop_of_length-le rest l) in
      let none : digits_in (drop k rest) ≡ 0 = ap digits_in (drop_of_length-le rest l) in
      (omega (arith, C.value, C.small), omega (arith, C.digits))
