-- The engine's answer to a case, a book and buffers of these lengths.
use Rattle.std.specs.Prelude.{ℕ, List, map, Option, Some, None}
use Rattle.base.specs.Lists.{upto}
use Rattle.lgs.specs.Market.{Market, Results}
use Rattle.lgs.specs.Rule.{Interview, Step, going, stopped, finished, lazy_gale_shapley}
use Rattle.lgs.specs.Fares.{fares_of}
use Rattle.format.specs.Layout.{rows, entries, market_of, results_of}
use Rattle.format.specs.Refusals.{Room, refusal}

pub data Outcome : Type 0 where
  placed : List ℕ → List Interview → ℕ → Outcome  -- the places of students 1 to n, the interviews, and what they cost
  next : ℕ → ℕ → List Interview → ℕ → Outcome  -- the next interview, the interviews done, and what these cost
  refused : ℕ → ℕ → Outcome  -- number and place

-- What a run of the rule on the market answers. The rule is never still going after its last step (`RunEnds`), so that line is never used.
unfoldable pub outcome_of : Market → Step → Outcome
outcome_of M (finished p vs) = placed (map p (upto M.students)) vs (fares_of M vs)
outcome_of M (stopped s w vs) = next s w vs (fares_of M vs)
outcome_of M (going σ) = placed (map σ.held (upto M.students)) σ.interviews (fares_of M σ.interviews)

abbrev pub market_in : List ℕ → Market
market_in case = market_of (rows case)

abbrev pub results_in : List ℕ → Results
results_in book = results_of (entries book)

-- what the staged rule answers on a market and results
unfoldable pub rule_outcome : Market → Results → Outcome
rule_outcome M B = outcome_of M (lazy_gale_shapley M B)

unfoldable pub outcome_unless : Option (ℕ × ℕ) → Market → Results → Outcome
outcome_unless (Some r) M B = refused r.0 r.1
outcome_unless None M B = rule_outcome M B

-- a refusal, or else what the staged rule gives
unfoldable pub engine : List ℕ → List ℕ → Room → Outcome
engine case book room = outcome_unless (refusal case book room) (market_in case) (results_in book)
