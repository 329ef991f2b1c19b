-- What `find` over the numbers below n gives is what `first_bad` finds.
use Prim.Native.Nat.{ℕ, ◌≤◌, ◌<◌}
use mathlib.Core.Path.{◌≡◌, sym}
use mathlib.Core.Bool.{Bool, true, false}
use native.Mathlib.Omega.{arith}
use Rattle.std.specs.Prelude.{Option, Some, None}
use Rattle.std.specs.Option.{MatchOption}
use Rattle.base.specs.Search.{first_bad}
use Rattle.base.proofs.Search.{scan_none, scan_found}

pub first_by : (bad : ℕ → Bool) (n : ℕ) (r : Option ℕ)
    → MatchOption r ((k : ℕ) → 0 ≤ k → k < n → bad k ≡ false)
    (λ i. (0 ≤ i) × (i < n) × (bad i ≡ true) × ((k : ℕ) → 0 ≤ k → k < i → bad k ≡ false))
    → r ≡ first_bad bad n
first_by bad n None h = sym (scan_none bad n (λ k l. h k (omega arith) l))
first_by bad n (Some i) h = sym (scan_found bad i n (scan_none bad i (λ k l. h.3 k (omega arith) l)) h.2 h.1)
