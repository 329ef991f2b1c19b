-- A number and the number before it: they differ from the lowest set digit down, so `&` of the two takes that digit out.
use Prim.Native.Nat.{ℕ, zero, suc, ◌-◌, ◌/◌, ◌%◌, ◌<◌}
use mathlib.Core.Path.{◌≡◌, refl, ◌∙◌}
use mathlib.Core.Logic.{⊎_elim}
use mathlib.Core.Bool.{Bool, true, false, not, ◌&&◌}
use native.Mathlib.Omega.{arith}
use lib.Dec.{eqb, eqb-suc-suc}
use lib.Bits.{bit_and}
use borrow.Author.Tests.{ne_eqb, eqb-true, eqb-false}
use Rattle.base.specs.Bits.{bit, member, Low}
use Rattle.base.proofs.Digits.{digit, bit_and_lem}

same_twice : (a : Bool) → (a && a) ≡ (a && true)
same_twice true = refl
same_twice false = refl

-- j is the lowest set digit of n
below_both : (n j i : ℕ) → 0 < n → bit n j ≡ true → ((x : ℕ) → x < j → bit n x ≡ false) → (bit n i && bit (n - 1) i) ≡ (bit n i && not (eqb i j))
unfolding bit
below_both n zero zero p set clear =
    let o : n % 2 ≡ 1 = eqb-true (n % 2) 1 set in
    let e : (n - 1) % 2 ≡ 0 = omega arith in
    rw (o, e)
below_both n zero (suc i) p set clear =
    let o : n % 2 ≡ 1 = eqb-true (n % 2) 1 set in
    let e : (n - 1) / 2 ≡ n / 2 = omega arith in
    rw (e, ne_eqb (suc i) 0 (λ q. omega arith)) (same_twice (bit (n / 2) i))
below_both n (suc j) zero p set clear = rw (clear 0 (omega arith))
below_both n (suc j) (suc i) p set clear =
    let o : n % 2 ≡ 0 = even (eqb-false (n % 2) 1 (clear 0 (omega arith))) in
    let e : (n - 1) / 2 ≡ n / 2 - 1 = omega arith in
    rw (e, eqb-suc-suc i j) (below_both (n / 2) j i (omega arith) set (λ x l. clear (suc x) (omega arith)))
  where
    even : (n % 2 ≡ 1 → ⊥) → n % 2 ≡ 0
    even f = ⊎_elim (λ (e : n % 2 ≡ 0). e) (λ (e : n % 2 ≡ 1). absurd (f e)) (digit n)

pub lowest_law : (n w x : ℕ) → 0 < n → Low n w → member (bit_and n (n - 1)) x ≡ (member n x && not (eqb x w))
unfolding member
lowest_law n zero x p low = absurd (omega (arith, low.from))
lowest_law n (suc j) zero p low = refl
lowest_law n (suc j) (suc i) p low = bit_and_lem n (n - 1) i ∙ rw (eqb-suc-suc i j) (below_both n j i p low.set (λ y l. low.clear (suc y) (omega arith)))
