-- The groups of some options by their tiers: what they name, and that positions have the order of the tiers, gaps aside.
use Prim.Native.Nat.{ℕ, zero, suc, ◌+◌, ◌≤◌, ◌<◌, min}
use mathlib.Core.Path.{◌≡◌, refl, sym, ◌∙◌}
use mathlib.Core.Logic.{◌⊎◌, inl, inr, ⊎_elim, ◌↔◌}
use mathlib.Core.Bool.{true, false}
use mathlib.Core.List.{List, [], ◌∷◌}
use mathlib.Core.List.Memᴰ.{cases_cons}
use mathlib.Core.List.Memᴰ.{head as here}
use mathlib.Core.List.Memᴰ.{not-nil}
use mathlib.Core.List.Memᴰ.{tail as later}
use mathlib.Core.List.{Memᴰ as Mem}
use native.Mathlib.Omega.{arith}
use borrow.Author.Tests.{eq-eqb, eqb-true}
use lib.Dec.{eqb}
use lib.ListN.{length}
use Rattle.base.specs.Lists.{any}
use Rattle.base.proofs.Tests.{bool_cases, never, is_false, or_true, or_left, or_right, eq?, less?}
use Rattle.base.proofs.Members.{in_keep, keep_in}
use Rattle.wish_lines.specs.Lines.{position}
use Rattle.wish_lines.specs.Wishes.{at_tier, cons_group, groups_from}

-- ---- the test for a member

pub has_in : (x : ℕ) (xs : List ℕ) → any (eqb x) xs ≡ true → Mem x xs
unfolding any
has_in x [] e = never e refl
has_in x (y ∷ xs) e = ⊎_elim (λ q. here (eqb-true x y q)) (λ q. later (has_in x xs q)) (or_true (eqb x y) (any (eqb x) xs) e)

pub in_has : (x : ℕ) (xs : List ℕ) → Mem x xs → any (eqb x) xs ≡ true
unfolding any
in_has x [] m = absurd (not-nil m)
in_has x (y ∷ xs) m =
    ⊎_elim (λ e. or_left (eqb x y) _ (eq-eqb x y e)) (λ k. or_right (eqb x y) _ (in_has x xs k)) (cases_cons m)

-- ---- positions

pub from_one_lem : (gs : List (List ℕ)) (x : ℕ) → 1 ≤ position gs x
unfolding position
from_one_lem [] x = omega arith
from_one_lem (g ∷ gs) x =
    ⊎_elim (λ (e : any (eqb x) g ≡ true). rw e (omega arith)) (λ (e : any (eqb x) g ≡ false). rw e (omega arith)) (bool_cases (any (eqb x) g))

position_here : (g : List ℕ) (gs : List (List ℕ)) (x : ℕ) → Mem x g → position (cons_group g gs) x ≡ 1
unfolding position
position_here [] gs x m = absurd (not-nil m)
position_here (y ∷ g) gs x m = rw (in_has x (y ∷ g) m)

-- a group with items counts one
position_later : (g : List ℕ) (gs : List (List ℕ)) (x : ℕ) → (Mem x g → ⊥) → position (cons_group g gs) x ≡ min 1 (length g) + position gs x
unfolding position
position_later [] gs x out = omega arith
position_later (y ∷ g) gs x out = rw (is_false (any (eqb x) (y ∷ g)) (λ e. out (has_in x (y ∷ g) e))) (omega arith)

pub some_length : {x : ℕ} (g : List ℕ) → Mem x g → 1 ≤ length g
some_length [] m = absurd (not-nil m)
some_length (y ∷ g) m = omega arith

module _ (tier : ℕ → ℕ) (xs : List ℕ) where
  pub at_in : (x t : ℕ) → Mem x xs → tier x ≡ t → Mem x (at_tier tier xs t)
  unfolding at_tier
  at_in x t m e = in_keep (λ y. eqb (tier y) t) xs x (eq-eqb (tier x) t e) m

  pub in_at : (x t : ℕ) → Mem x (at_tier tier xs t) → Mem x xs × (tier x ≡ t)
  unfolding at_tier
  in_at x t m =
      let r : (eqb (tier x) t ≡ true) × Mem x xs = keep_in (λ y. eqb (tier y) t) xs x m in
      (r.1, eqb-true (tier x) t r.0)

  -- options of the k tiers from t on
  pub record Within (k t x : ℕ) : Type 0 where
    pub member : Mem x xs
    pub low : t ≤ tier x
    pub high : tier x < t + k

  -- positions have the order of the tiers
  pub record Ordered (gs : List (List ℕ)) (x y : ℕ) : Type 0 where
    pub less : tier x < tier y → position gs x < position gs y
    pub same : tier x ≡ tier y → position gs x ≡ position gs y

  ordered : (k t x y : ℕ) → Within k t x → Within k t y → Ordered (groups_from tier xs k t) x y
  unfolding groups_from
  ordered zero t x y a b = absurd (omega arith)
  ordered (suc k) t x y a b =
      by_first (λ p q. ordered k (suc t) x y (next a p) (next b q)) (eq? (tier x) t) (eq? (tier y) t)
    where
      g : List ℕ
      g = at_tier tier xs t

      gs : List (List ℕ)
      gs = groups_from tier xs k (suc t)

      next : {z : ℕ} → Within (suc k) t z → (tier z ≡ t → ⊥) → Within k (suc t) z
      next {z} c ne =
          record {
            member = c.member;
            low = ⊎_elim (λ (l : t < tier z). l) (λ (l : tier z ≤ t). absurd (ne (omega (arith, c.low)))) (less? t (tier z));
            high = omega (arith, c.high);
          }

      first : (z : ℕ) → Within (suc k) t z → tier z ≡ t → (position (cons_group g gs) z ≡ 1) × (1 ≤ length g)
      first z c e = (position_here g gs z (at_in z t c.member e), some_length g (at_in z t c.member e))

      past : (z : ℕ) → (tier z ≡ t → ⊥) → position (cons_group g gs) z ≡ min 1 (length g) + position gs z
      past z ne = position_later g gs z (λ m. ne (in_at z t m).1)

      by_first : ((tier x ≡ t → ⊥) → (tier y ≡ t → ⊥) → Ordered gs x y)
          → (tier x ≡ t) ⊎ (tier x ≡ t → ⊥)
          → (tier y ≡ t) ⊎ (tier y ≡ t → ⊥)
          → Ordered (cons_group g gs) x y
      by_first ih (inl p) (inl q) = record { less = λ l. absurd (omega arith); same = λ e. (first x a p).0 ∙ sym (first y b q).0 }
      by_first ih (inl p) (inr q) =
          record { less = λ l. omega (arith, first x a p, past y q, from_one_lem gs y); same = λ e. absurd (q (omega arith)) }
      by_first ih (inr p) (inl q) = record { less = λ l. absurd (omega (arith, a.low)); same = λ e. absurd (p (omega arith)) }
      by_first ih (inr p) (inr q) =
          record {
            less = λ l. omega (arith, past x p, past y q, (ih p q).less l);
            same = λ e. omega (arith, past x p, past y q, (ih p q).same e);
          }

  -- both ways
  pub same_order : (k t x y : ℕ) → Within k t x → Within k t y
      → ((tier x < tier y) ↔ (position (groups_from tier xs k t) x < position (groups_from tier xs k t) y))
      × ((tier x ≡ tier y) ↔ (position (groups_from tier xs k t) x ≡ position (groups_from tier xs k t) y))
  same_order k t x y a b = (
    ((ordered k t x y a b).less, λ l. ⊎_elim (λ (p : tier x < tier y). p) (λ (p : tier y ≤ tier x). absurd (not_less p l)) (less? (tier x) (tier y))),
    ((ordered k t x y a b).same, λ e. ⊎_elim (λ (p : tier x ≡ tier y). p) (λ p. absurd (apart p e)) (eq? (tier x) (tier y))),
  )
    where
      gs : List (List ℕ)
      gs = groups_from tier xs k t

      not_less : tier y ≤ tier x → position gs x < position gs y → ⊥
      not_less p l =
          ⊎_elim (λ (q : tier y < tier x). omega (arith, (ordered k t y x b a).less q))
          (λ (q : tier x ≤ tier y). omega (arith, (ordered k t x y a b).same (omega arith)))
          (less? (tier y) (tier x))

      apart : (tier x ≡ tier y → ⊥) → position gs x ≡ position gs y → ⊥
      apart p e =
          ⊎_elim (λ (q : tier x < tier y). omega (arith, (ordered k t x y a b).less q))
          (λ (q : tier y ≤ tier x).
          ⊎_elim (λ (r : tier y < tier x). omega (arith, (ordered k t y x b a).less r)) (λ (r : tier x ≤ tier y). p (omega arith)) (less? (tier y) (tier x)))
          (less? (tier x) (tier y))

-- ---- "read in any order"

-- the same items in each group
abbrev pub SameItems : List (List ℕ) → List (List ℕ) → Type 0
SameItems [] [] = Unit {0}
SameItems [] (h ∷ hs) = ⊥
SameItems (g ∷ gs) [] = ⊥
SameItems (g ∷ gs) (h ∷ hs) = ((x : ℕ) → any (eqb x) g ≡ any (eqb x) h) × SameItems gs hs

pub any_order : (gs hs : List (List ℕ)) → SameItems gs hs → (x : ℕ) → position gs x ≡ position hs x
unfolding position
any_order [] [] s x = refl
any_order [] (h ∷ hs) s x = absurd s
any_order (g ∷ gs) [] s x = absurd s
any_order (g ∷ gs) (h ∷ hs) s x = rw (s.0 x, any_order gs hs s.1 x)
