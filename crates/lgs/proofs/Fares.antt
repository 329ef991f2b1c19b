-- Laws of what a list of interviews costs.
use Prim.Native.Nat.{ℕ, ◌+◌, ◌*◌, ◌≤◌}
use mathlib.Core.Path.{◌≡◌, refl}
use mathlib.Core.List.{List, [], ◌∷◌, ◌++◌}
use native.Mathlib.Omega.{arith}
use lib.ListN.{length}
use Rattle.base.specs.Lists.{sum_of}
use Rattle.base.proofs.Sums.{sum_append, sum_within}
use Rattle.lgs.specs.Market.{Market}
use Rattle.lgs.specs.Rule.{Interview}
use Rattle.lgs.specs.Fares.{fares_of}

module _ (M : Market) where
  pub fares_none : fares_of M [] ≡ 0
  unfolding fares_of sum_of
  fares_none = refl

  pub fares_append : (vs us : List Interview) → fares_of M (vs ++ us) ≡ fares_of M vs + fares_of M us
  unfolding fares_of
  fares_append vs us = sum_append (λ (v : Interview). M.fare v.0 v.1) vs us

  -- one more interview
  pub fares_more : (vs : List Interview) (s w : ℕ) → fares_of M (vs ++ ((s, w) ∷ [])) ≡ fares_of M vs + M.fare s w
  unfolding fares_of sum_of
  fares_more vs s w = omega (arith, sum_append (λ (v : Interview). M.fare v.0 v.1) vs ((s, w) ∷ []))

  -- fares of 16 bits
  pub fares_within : ((s w : ℕ) → M.fare s w ≤ 65535) → (vs : List Interview) → fares_of M vs ≤ length vs * 65535
  unfolding fares_of
  fares_within small vs = sum_within (λ (v : Interview). M.fare v.0 v.1) 65535 (λ v. small v.0 v.1) vs
