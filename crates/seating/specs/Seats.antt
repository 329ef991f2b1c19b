-- How a student stands at a workshop, and whom a number names.
use Rattle.std.specs.Prelude.{ℕ, zero, suc, ℤ, ◌≡◌, Option, Some, None}
use Rattle.base.specs.Words.{biased}
use Rattle.lgs.specs.Market.{Market, Results}

-- student x stands in tier t at workshop w, with the score a
pub record Stands (M : Market) (B : Results) (w x t : ℕ) (a : ℤ) : Type 0 where
  pub tier : t ≡ M.workshop_tier w x
  pub score : biased a ≡ B.workshop_score w x

-- whom, or which workshop, a number names: 0 names none
abbrev pub named : ℕ → Option ℕ
named zero = None
named (suc n) = Some (suc n)
