-- Sums over a list.
use Prim.Native.Nat.{ℕ, zero, suc, ◌+◌, ◌*◌, ◌≤◌, ◌<◌}
use mathlib.Core.Path.{◌≡◌, refl, ◌∙◌}
use mathlib.Core.Logic.{⊎_elim}
use mathlib.Core.Bool.{Bool, true, cond}
use mathlib.Core.List.{List, [], ◌∷◌, ◌++◌}
use native.Mathlib.Omega.{arith}
use lib.ListN.{length}
use Rattle.base.specs.Lists.{tabulate, sum_of}
use Rattle.base.proofs.Tests.{less?, is_false}

module _ {A : Type 0} (f : A → ℕ) where
  pub sum_append : (xs ys : List A) → sum_of f (xs ++ ys) ≡ sum_of f xs + sum_of f ys
  unfolding sum_of
  sum_append [] ys = omega arith
  sum_append (x ∷ xs) ys = omega (arith, sum_append xs ys)

  pub sum_zero : ((x : A) → f x ≡ 0) → (xs : List A) → sum_of f xs ≡ 0
  unfolding sum_of
  sum_zero none [] = refl
  sum_zero none (x ∷ xs) = omega (arith, none x, sum_zero none xs)

  -- parts of at most m each
  pub sum_within : (m : ℕ) → ((x : A) → f x ≤ m) → (xs : List A) → sum_of f xs ≤ length xs * m
  unfolding sum_of
  sum_within m le [] = omega arith
  sum_within m le (x ∷ xs) = omega (arith, le x, sum_within m le xs)

-- each part is the sum of two
pub sum_both : {A : Type 0} (f g h : A → ℕ) → ((x : A) → f x ≡ g x + h x) → (xs : List A) → sum_of f xs ≡ sum_of g xs + sum_of h xs
unfolding sum_of
sum_both f g h both [] = refl
sum_both f g h both (x ∷ xs) = omega (arith, both x, sum_both f g h both xs)

module _ {A : Type 0} (f : ℕ → A) (p : A → Bool) (g : A → ℕ) where
  abbrev passing : A → ℕ
  passing x = cond (p x) (g x) 0

  sum_last : (n : ℕ) → sum_of passing (tabulate f (suc n)) ≡ sum_of passing (tabulate f n) + passing (f n)
  unfolding tabulate sum_of
  sum_last n = sum_append passing (tabulate f n) (f n ∷ []) ∙ omega arith

  no_sum : (n : ℕ) → ((j : ℕ) → j < n → p (f j) ≡ true → ⊥) → sum_of passing (tabulate f n) ≡ 0
  unfolding tabulate sum_of
  no_sum zero none = refl
  no_sum (suc n) none =
      sum_last n ∙ rw (is_false (p (f n)) (none n (omega arith))) (omega (arith, no_sum n (λ j l. none j (omega arith))))

  -- of f 0 to f (n - 1) only f i passes
  pub sum_only : (n i : ℕ) → i < n → p (f i) ≡ true → ((j : ℕ) → j < n → p (f j) ≡ true → j ≡ i) → sum_of passing (tabulate f n) ≡ g (f i)
  sum_only zero i l e only = absurd (omega arith)
  sum_only (suc n) i l e only =
      sum_last n
      ∙ ⊎_elim
      (λ (q : i < n).
      rw (is_false (p (f n)) (λ b. omega (arith, only n (omega arith) b)))
      (omega (arith, sum_only n i q e (λ j m b. only j (omega arith) b))))
      (λ (q : n ≤ i).
      let at : n ≡ i = omega arith in
      rw (at, e) (omega (arith, rw at at (no_sum n (λ j m b. omega (arith, only j (omega arith) b))))))
      (less? i n)
