-- A student's state as a card: her open set is a number. What one workshop more or less does to the set, by the laws of its digits, and what
-- she may choose from.
use Prim.Native.Nat.{ℕ, zero, suc, ◌+◌, ◌-◌, ◌^◌, ◌≤◌, ◌<◌}
use mathlib.Core.Path.{◌≡◌, refl, sym, ap, ◌∙◌, fun_ext}
use mathlib.Core.Logic.{⊎_elim}
use mathlib.Core.Bool.{Bool, true, false, not, ◌&&◌}
use mathlib.Core.List.{[], ◌++◌, append-nil}
use mathlib.Core.List.Memᴰ.{not-nil}
use native.Mathlib.Omega.{arith}
use native.Mathlib.Nat.{eq-or-lt_of_le, pos_of_ne-zero}
use lib.Dec.{eqb}
use lib.Bits.{or_lt, and_le_l}
use lib.Count.{count_trailing_zeros}
use lib.Pow.{pow-lt}
use borrow.Author.Tests.{ne_eqb}
use Rattle.base.specs.Lists.{upto, keep, cons_if}
use Rattle.base.specs.Bits.{member, members, Low}
use Rattle.api.specs.declared.StudentState.{StudentState}
use Rattle.model.specs.Model.{Card, set_bit, clear_bit, told}
use Rattle.model.specs.Turn.{with_member, without_member, told_state}
use Rattle.base.proofs.Tests.{is_false}
use Rattle.base.proofs.Members.{in_upto, in_keep}
use Rattle.base.proofs.Digits.{member_with, member_without, keep_suc, members_empty, low_law}

-- the card that a state stands for
abbrev pub card_of : StudentState → Card
card_of k = record { reached = k.reached; held = k.held; bits = member k.openings }

less_one : (w : ℕ) → suc w - 1 ≡ w
less_one w = omega arith

-- ---- one workshop more, or less
pub with_set : (n w : ℕ) → 1 ≤ w → member (with_member n w) ≡ set_bit w (member n)
unfolding with_member
with_set n zero l = absurd (omega arith)
with_set n (suc w) l = rw (less_one w) (fun_ext (λ x. member_with n w x))

pub with_small : (n w : ℕ) → 1 ≤ w → w ≤ 64 → n < 2 ^ 64 → with_member n w < 2 ^ 64
unfolding with_member
with_small n w l u h = or_lt 64 n (2 ^ (w - 1)) h (pow-lt {i = w - 1} {j = 64} (omega arith))

and_swap : (a b : Bool) → (a && b) ≡ (b && a)
and_swap true true = refl
and_swap true false = refl
and_swap false true = refl
and_swap false false = refl

without_set : (n w : ℕ) → 1 ≤ w → w ≤ 64 → n < 2 ^ 64 → member (without_member n w) ≡ clear_bit w (member n)
unfolding without_member
without_set n zero l u h = absurd (omega arith)
without_set n (suc w) l u h = rw (less_one w) (fun_ext (λ x. member_without 64 n w x h u ∙ and_swap (member n x) (not (eqb x (suc w)))))

-- a student who has been dropped
pub told_card : (lost : ℕ) (k : StudentState) → lost ≤ 64 → k.openings < 2 ^ 64 → told lost (card_of k) ≡ card_of (told_state lost k)
unfolding told_state
told_card zero k l h = refl
told_card (suc w) k l h =
    rw (ne_eqb (suc w) 0 (λ q. omega arith))
    (ap (λ b. record { reached = k.reached; held = 0; bits = b }) (sym (without_set k.openings (suc w) (omega arith) l h)))

pub told_small : (lost : ℕ) (k : StudentState) → k.openings < 2 ^ 64 → (told_state lost k).openings < 2 ^ 64
unfolding told_state without_member
told_small zero k h = h
told_small (suc w) k h =
    rw (ne_eqb (suc w) 0 (λ q. omega arith)) (omega (arith, and_le_l k.openings (2 ^ 64 - 1 - 2 ^ (suc w - 1))))

pub told_reached : (lost : ℕ) (k : StudentState) → (told_state lost k).reached ≡ k.reached
unfolding told_state
told_reached zero k = refl
told_reached (suc w) k = rw (ne_eqb (suc w) 0 (λ q. omega arith))

-- ---- what she may choose from
keep_more : (p : ℕ → Bool) (m n : ℕ) → m ≤ n → ((x : ℕ) → m < x → p x ≡ false) → keep p (upto n) ≡ keep p (upto m)
keep_more p zero zero l f = refl
keep_more p (suc m) zero l f = absurd (omega arith)
keep_more p m (suc n) l f =
    ⊎_elim (λ (e : m ≡ suc n). ap (λ k. keep p (upto k)) (sym e))
    (λ (less : m < suc n).
    keep_suc p n ∙ ap (λ b. keep p (upto n) ++ cons_if b (suc n) []) (f (suc n) less) ∙ append-nil (keep p (upto n)) ∙ keep_more p m n (omega arith) f)
    (eq-or-lt_of_le l)

module _ (n m : ℕ) (fits : m ≤ 64) (inside : (x : ℕ) → member n x ≡ true → x ≤ m) where
  -- the open set as a list
  pub members_inside : members n ≡ keep (member n) (upto m)
  unfolding members
  members_inside = keep_more (member n) m 64 fits (λ x l. is_false (member n x) (λ e. omega (arith, inside x e)))

  pub members_none : n ≡ 0 → keep (member n) (upto m) ≡ []
  members_none e = sym members_inside ∙ ap members e ∙ members_empty

  pub members_some : n < 2 ^ 64 → (n ≡ 0 → ⊥) → keep (member n) (upto m) ≡ [] → ⊥
  members_some h ne e =
      let low : Low n (count_trailing_zeros 64 n + 1) = low_law n (pos_of_ne-zero ne) h in
      not-nil (rw e at (in_keep (member n) (upto m) (count_trailing_zeros 64 n + 1) low.set (in_upto m (count_trailing_zeros 64 n + 1) low.from (inside _ low.set))))
