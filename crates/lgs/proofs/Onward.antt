-- What holds of a run from where it stopped, as far as the places of students of earlier stages go.
use Prim.Native.Nat.{ℕ, ◌≤◌, ◌<◌}
use mathlib.Core.Path.{◌≡◌}
use mathlib.Core.List.{Memᴰ as Mem}
use Rattle.lgs.specs.Market.{Market}
use Rattle.lgs.specs.Rule.{State}

module _ (M : Market) where
  -- from stage k on: who waits is of no earlier stage, and who is of an earlier one has what `places` says
  pub record From (k : ℕ) (places : ℕ → ℕ) (σ : State) : Type 0 where
    pub waits : (t : ℕ) → Mem t σ.waiting → k ≤ M.stage t
    pub stays : (t : ℕ) → M.stage t < k → σ.held t ≡ places t
