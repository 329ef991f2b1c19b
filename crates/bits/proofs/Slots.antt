-- A slot more is met.
use Prim.Native.Nat.{ℕ, suc, ◌-◌, ◌*◌, ◌/◌, ◌%◌, ◌^◌, ◌<◌}
use mathlib.Core.Path.{◌≡◌, refl, ◌∙◌}
use mathlib.Core.Logic.{⊎_elim}
use mathlib.Core.Bool.{Bool, true, ◌||◌}
use mathlib.Core.List.{List}
use native.Mathlib.Omega.{arith}
use lib.ListN.{length, get_or, set}
use lib.Seq.{get_or-set_same, get_or-set_other}
use lib.Bits.{bit_or}
use lib.Dec.{eqb}
use borrow.Author.Tests.{eq-eqb, ne_eqb}
use Rattle.base.specs.Bits.{member, met_in, Met}
use Rattle.base.proofs.Tests.{eq?}
use Rattle.base.proofs.Digits.{has_law, with_law}

-- a digit added to the number that has the slot
module _ (seen : List ℕ) (slot : ℕ) (l : slot / 64 < length seen) where
  abbrev number : ℕ
  number = get_or seen (slot / 64) 0

  abbrev more : ℕ
  more = bit_or number ((1 * 2 ^ (slot % 64)) % 2 ^ 64)

  more_has : (x : ℕ) → member more x ≡ (eqb x (suc (slot % 64)) || member number x)
  more_has x =
      let e : suc (slot % 64) - 1 ≡ slot % 64 = omega arith in
      rw e at (with_law number (suc (slot % 64)) x (omega arith) (omega arith))

  has : eqb (number / 2 ^ (slot % 64) % 2) 1 ≡ met_in seen slot
  unfolding met_in
  has = let e : suc (slot % 64) - 1 ≡ slot % 64 = omega arith in rw e at (has_law number (suc (slot % 64)) (omega arith))

  there : met_in (set seen (slot / 64) more) slot ≡ true
  unfolding met_in
  there = rw (get_or-set_same seen (slot / 64) more 0 l, more_has (suc (slot % 64)), eq-eqb (suc (slot % 64)) (suc (slot % 64)) refl)

  others : (k : ℕ) → (k ≡ slot → ⊥) → met_in (set seen (slot / 64) more) k ≡ met_in seen k
  unfolding met_in
  others k f =
      ⊎_elim
      (λ (e : k / 64 ≡ slot / 64).
      rw (e, get_or-set_same seen (slot / 64) more 0 l, more_has (suc (k % 64)), ne_eqb (suc (k % 64)) (suc (slot % 64)) (λ q. f (omega arith))))
      (λ (g : k / 64 ≡ slot / 64 → ⊥). rw (get_or-set_other seen (slot / 64) (k / 64) more 0 g))
      (eq? (k / 64) (slot / 64))

  pub met_now : Met seen (set seen (slot / 64) more) slot (eqb (number / 2 ^ (slot % 64) % 2) 1)
  met_now = record { was = has; there = there; others = others }

-- none is lost
pub met_kept : {before after : List ℕ} {slot : ℕ} {r : Bool} → Met before after slot r → (k : ℕ) → met_in before k ≡ true → met_in after k ≡ true
met_kept {before} {after} {slot} m k t = ⊎_elim (λ (e : k ≡ slot). rw e m.there) (λ (f : k ≡ slot → ⊥). m.others k f ∙ t) (eq? k slot)
