-- What the proofs about a run take of a profile and of the results of interviews.
use Prim.Native.Nat.{ℕ}
use mathlib.Core.Path.{◌≡◌}
use mathlib.Core.Bool.{Bool, true}
use Rattle.lgs.specs.Market.{Market, Results}
use Rattle.lgs.specs.Profiles.{Profile, Fits, RespectsScores, SameNever}
use Rattle.lgs.proofs.Valid.{WellFormed, Refining, Distinct, refining}

-- the profile fits the tiers, and the results of the interviews Vs, which are all in the book
pub record Setting (M : Market) (B : Results) (O : Profile) (Vs : ℕ → ℕ → Bool) : Type 0 where
  pub wf : WellFormed M
  pub distinct : Distinct M B
  pub full : Refining M O
  pub results : RespectsScores M B Vs O
  pub never : SameNever M.paired Vs B.never O.never
  pub known : (s w : ℕ) → Vs s w ≡ true → B.met s w ≡ true

pub fits_setting : (M : Market) (B : Results) (O : Profile) (Vs : ℕ → ℕ → Bool) → WellFormed M → Distinct M B
    → ((s w : ℕ) → Vs s w ≡ true → B.met s w ≡ true) → Fits M B Vs O → Setting M B O Vs
fits_setting M B O Vs wf distinct known F =
    record { wf = wf; distinct = distinct; full = refining M O F.strict F.tiers; results = F.scores; never = F.never; known = known }
