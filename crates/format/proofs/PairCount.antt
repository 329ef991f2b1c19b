-- The market has no more pairs than the case has pair records: one record adds at most one pair.
use Prim.Native.Nat.{◌≤◌}
use mathlib.Core.Bool.{◌&&◌}
use mathlib.Core.List.{List}
use native.Mathlib.Omega.{arith}
use Rattle.base.specs.Lists.{count, any, tally}
use Rattle.base.proofs.Tests.{and_left}
use Rattle.base.proofs.Counting.{count_mono, total_le}
use Rattle.base.proofs.Grid.{named_within}
use Rattle.lgs.specs.Promises.{pairs_in}
use Rattle.format.specs.Layout.{Row, is_pair, of_kind, market_of}

pub pairs_within : (rs : List Row) → pairs_in (market_of rs) (market_of rs).paired ≤ tally (of_kind 3) rs
unfolding pairs_in market_of
pairs_within rs =
    let n = tally (of_kind 1) rs in
    let m = tally (of_kind 2) rs in
    omega (
      arith,
      total_le (λ s. count (λ w. any (is_pair s w) rs && any (is_pair s w) rs) m) (λ s. count (λ w. any (is_pair s w) rs) m) n
          (λ s. count_mono (λ w. any (is_pair s w) rs && any (is_pair s w) rs) (λ w. any (is_pair s w) rs) m (λ w l u e. and_left (any (is_pair s w) rs) _ e)),
      named_within n m (of_kind 3) (λ r. r.first) (λ r. r.second) rs,
    )
