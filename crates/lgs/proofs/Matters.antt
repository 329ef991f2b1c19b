-- Who matters to a workshop: the test, taken apart and put together.
use Prim.Native.Nat.{ℕ, ◌≤◌, ◌<◌}
use mathlib.Core.Path.{◌≡◌}
use mathlib.Core.Bool.{true, not, ◌&&◌}
use lib.Dec.{ltb}
use borrow.Author.Tests.{ltb-true, ltb-false, lt-ltb, le-ltb, not-true}
use Rattle.base.proofs.Tests.{and_left, and_right}
use Rattle.lgs.specs.Market.{Market, matters, workshop_outside}

module _ (M : Market) (w s : ℕ) where
  pub matters_true : matters M w s ≡ true → (0 < M.quota w) × (M.paired s w ≡ true) × (M.workshop_tier w s ≤ workshop_outside M w)
  unfolding matters
  matters_true e =
      let f : (M.paired s w && not (ltb (workshop_outside M w) (M.workshop_tier w s))) ≡ true = and_right (ltb 0 (M.quota w)) _ e in (
        ltb-true 0 (M.quota w) (and_left (ltb 0 (M.quota w)) _ e),
        and_left (M.paired s w) _ f,
        ltb-false (workshop_outside M w) (M.workshop_tier w s) (not-true _ (and_right (M.paired s w) _ f)),
      )

  pub matters_is : 0 < M.quota w → M.paired s w ≡ true → M.workshop_tier w s ≤ workshop_outside M w → matters M w s ≡ true
  unfolding matters
  matters_is seats pair within = rw (lt-ltb 0 (M.quota w) seats, pair, le-ltb (workshop_outside M w) (M.workshop_tier w s) within)
