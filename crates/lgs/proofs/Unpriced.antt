-- The rule and the least stages read no fare, and the least stages read no stage.
use Prim.Native.Nat.{ℕ, zero, suc, ◌*◌}
use mathlib.Core.Path.{◌≡◌, refl, ap}
use mathlib.Core.Bool.{Bool, true, false, cond}
use mathlib.Core.List.{List, [], ◌∷◌, map}
use Rattle.std.specs.Prelude.{Some}
use lib.ListN.{replicate}
use Rattle.base.specs.Lists.{upto}
use Rattle.lgs.specs.Market.{Market, Results, outscored, matters}
use Rattle.lgs.specs.Rule.{State, Step, going, stopped, finished, start, declined, unopened, best, open?, choices, due, holders, below, lowest_of}
use Rattle.lgs.specs.Rule.{advance, add_interview, interview_all, close, settle, apply, turn, step, run, fuel, lazy_gale_shapley}
use Rattle.lgs.specs.Stages.{asked, raised, moves, settled, least_stages}

-- the market with these stages and fares
abbrev pub altered : Market → (ℕ → ℕ) → (ℕ → ℕ → ℕ) → Market
altered M stage fare =
    record {
      students = M.students;
      workshops = M.workshops;
      stage = stage;
      lot = M.lot;
      quota = M.quota;
      paired = M.paired;
      fare = fare;
      student_tier = M.student_tier;
      workshop_tier = M.workshop_tier;
    }

-- with these fares
abbrev pub priced : Market → (ℕ → ℕ → ℕ) → Market
priced M fare = altered M M.stage fare

-- ---- the least stages
module _ (M : Market) (stage : ℕ → ℕ) (fare : ℕ → ℕ → ℕ) where
  settled_same : (k : ℕ) (xs : List ℕ) → settled (altered M stage fare) k xs ≡ settled M k xs
  unfolding settled moves raised asked matters
  settled_same zero xs = refl
  settled_same (suc k) xs = ap (λ o. cond (moves M xs) o (Some xs)) (settled_same k (map (raised M xs) (upto M.students)))

  pub least_same : least_stages (altered M stage fare) ≡ least_stages M
  unfolding least_stages
  least_same = settled_same (suc (M.students * M.students)) (replicate M.students 1)

-- ---- the rule
module _ (M : Market) (fare : ℕ → ℕ → ℕ) (B : Results) where
  abbrev P : Market
  P = priced M fare

  lowest_same : (σ : State) (w : ℕ) (xs : List ℕ) → lowest_of P B σ w xs ≡ lowest_of M B σ w xs
  unfolding lowest_of below outscored
  lowest_same σ w [] = refl
  lowest_same σ w (x ∷ xs) = refl

  close_same : (σ : State) (c : ℕ) → close P B σ c ≡ close M B σ c
  unfolding close holders below outscored
  close_same σ c = rw (lowest_same σ c (holders M B σ c))

  settle_same : (σ : State) (c : ℕ) (rest : List ℕ) (over : Bool) → settle P B σ c rest over ≡ settle M B σ c rest over
  unfolding settle holders
  settle_same σ c rest true = rw (lowest_same σ c (holders M B σ c))
  settle_same σ c rest false = refl

  apply_same : (σ : State) (s : ℕ) (rest : List ℕ) (c : ℕ) → apply P B σ s rest c ≡ apply M B σ s rest c
  unfolding apply
  apply_same σ s rest zero = refl
  apply_same σ s rest (suc c) = rw (settle_same _ (suc c) rest _, close_same _ (suc c))

  interview_same : (s : ℕ) (ws : List ℕ) (σ : State) → interview_all P B s ws σ ≡ interview_all M B s ws σ
  unfolding interview_all
  interview_same s [] σ = refl
  interview_same s (w ∷ ws) σ = rw (interview_same s ws (add_interview M B σ s w))

  turn_same : (σ : State) (s : ℕ) (rest cs : List ℕ) → turn P B σ s rest cs ≡ turn M B σ s rest cs
  unfolding turn due best
  turn_same σ s rest [] = interview_same s (due M B σ s) (advance M B σ s)
  turn_same σ s rest (x ∷ xs) = apply_same σ s rest (best M B s x xs)

  step_same : (σ : State) (ss : List ℕ) → step P B σ ss ≡ step M B σ ss
  unfolding step choices open? unopened declined
  step_same σ [] = refl
  step_same σ (s ∷ rest) = turn_same σ s rest (choices M B σ s)

  run_same : (k : ℕ) (x : Step) → run P B k x ≡ run M B k x
  unfolding run
  run_same zero x = refl
  run_same (suc k) (going σ) = rw (step_same σ σ.waiting) (run_same k (step M B σ σ.waiting))
  run_same (suc k) (stopped s w vs) = refl
  run_same (suc k) (finished p vs) = refl

  pub rule_same : lazy_gale_shapley P B ≡ lazy_gale_shapley M B
  unfolding lazy_gale_shapley fuel start
  rule_same = run_same (fuel M B) (going (start M B))
