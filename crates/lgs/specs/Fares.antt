-- What visits cost (document 02, Paper 4): a list of interviews, and a set of them.
use Rattle.std.specs.Prelude.{ℕ, Bool, cond, ◌&&◌, List}
use Rattle.base.specs.Lists.{total, sum_of}
use Rattle.lgs.specs.Market.{Market}
use Rattle.lgs.specs.Rule.{Interview}

-- "the sum of the fares of exactly the listed pairs"
unfoldable pub fares_of : Market → List Interview → ℕ
fares_of M vs = sum_of (λ (v : Interview). M.fare v.0 v.1) vs

-- the fares of the pairs with a pair record that the set has
unfoldable pub fares_in : Market → (ℕ → ℕ → Bool) → ℕ
fares_in M Vs = total (λ s. total (λ w. cond (M.paired s w && Vs s w) (M.fare s w) 0) M.workshops) M.students
