-- The places read off the states are the run's matching.
use Prim.Native.Nat.{ℕ, zero, suc, ◌<◌}
use mathlib.Core.Path.{◌≡◌, refl, sym, ap, ◌∙◌}
use mathlib.Core.List.{List, [], ◌∷◌, ◌++◌, map}
use native.Mathlib.Omega.{arith}
use Rattle.base.specs.Lists.{tabulate, upto}
use Rattle.base.proofs.Members.{map_append}

-- the head by another name
pub head_same : (f p : ℕ → ℕ) (n : ℕ) → ((i : ℕ) → i < n → f i ≡ p (suc i)) → tabulate f n ≡ map p (upto n)
unfolding tabulate upto
head_same f p zero e = refl
head_same f p (suc n) e =
    ap (λ (l : List ℕ). l ++ (f n ∷ [])) (head_same f p n (λ i l. e i (omega arith)))
    ∙ (ap (λ (x : ℕ). map p (upto n) ++ (x ∷ [])) (e n (omega arith)) ∙ sym (map_append p (upto n) (suc n ∷ [])))
