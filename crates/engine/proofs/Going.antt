-- A run that is asked for can be taken from its beginning (`can_run`), and what it leaves is what the rule leaves (`as_begun`). Where it can be taken it
-- can be taken on after a turn (`turned`), to the same end (`same_end`).
use Prim.Native.Nat.{ℕ, suc, ◌-◌, ◌<◌, ◌≤◌}
use mathlib.Core.Path.{◌≡◌, sym, ◌∙◌, ap, subst}
use mathlib.Core.List.{List}
use lib.ListN.{length, replicate, get_or}
use Rattle.lgs.specs.Market.{Market, Results}
use Rattle.lgs.specs.Rule.{fuel}
use Rattle.format.specs.Engine.{market_in, results_in}
use Rattle.api.specs.declared.StudentState.{StudentState}
use Rattle.api.specs.Answered.{zero_state}
use Rattle.model.specs.declared.Run.{Run}
use Rattle.model.specs.Turn.{begin_run}
use Rattle.model.specs.Ready.{Ready}
use Rattle.lookup.specs.Clean.{Clean}
use Rattle.answering.specs.Call.{Runnable}
use Rattle.answering.proofs.Composing.{after, turn_ready, hand_within, run_ends}
use Rattle.engine.specs.Runs.{RunState, hand_of, turn_on, whole_run, CanRun}
use Rattle.engine.proofs.Runs.{run_turn, run_same}

module _ (case book index table places visits seats : List ℕ) (ys : List StudentState) (n m : ℕ) (clean : Clean case book index table n m)
    (go : Runnable case book index places visits seats (length ys)) (zero : ys ≡ replicate (length ys) zero_state) (start : Run)
    (begun : start ≡ begin_run (market_in case) (results_in book)) where
  abbrev M : Market
  M = market_in case

  abbrev B : Results
  B = results_in book

  pub can_run : CanRun M B visits seats ys start
  can_run =
      subst (λ (zs : List StudentState). CanRun M B visits seats zs start) (sym zero)
      (subst (λ (r : Run). CanRun M B visits seats (replicate (length ys) zero_state) r) (sym begun)
      (record {
        ready = turn_ready case book index table places visits seats (length ys) n m clean go;
        within = hand_within case book index table places visits seats (length ys) n m clean go;
        ends = run_ends case book index table places visits seats (length ys) n m clean go;
      }))

  pub as_begun : whole_run M B visits seats ys start ≡ after case book index table places visits seats (length ys) n m clean go (fuel M B)
  as_begun =
      ap (λ (zs : List StudentState). whole_run M B visits seats zs start) zero
      ∙ ap (λ (r : Run). whole_run M B visits seats (replicate (length ys) zero_state) r) begun

module _ (M : Market) (B : Results) (σ : RunState) (can : CanRun M B σ.0 σ.1.0 σ.1.1.0 σ.1.1.1) (more : 0 < hand_of σ)
    (τ : RunState) (e : τ ≡ turn_on M B σ) where
  -- after the turn the run goes to the same end
  pub same_end : whole_run M B τ.0 τ.1.0 τ.1.1.0 τ.1.1.1 ≡ whole_run M B σ.0 σ.1.0 σ.1.1.0 σ.1.1.1
  same_end =
      ap (λ (ρ : RunState). whole_run M B ρ.0 ρ.1.0 ρ.1.1.0 ρ.1.1.1) e
      ∙ run_same M B (fuel M B) σ can.ends more

  pub turned : CanRun M B τ.0 τ.1.0 τ.1.1.0 τ.1.1.1
  turned =
      subst (λ (ρ : RunState). CanRun M B ρ.0 ρ.1.0 ρ.1.1.0 ρ.1.1.1) (sym e)
      (record {
        ready = λ k. subst (λ (ρ : RunState). 0 < hand_of ρ → Ready M B ρ.0 ρ.1.0 (get_or ρ.1.1.0 (hand_of ρ - 1) zero_state) ρ.1.1.1)
            (sym (run_turn M B k σ more)) (can.ready (suc k));
        within = λ k. subst (λ (ρ : RunState). 0 < hand_of ρ → hand_of ρ ≤ length ρ.1.1.0) (sym (run_turn M B k σ more)) (can.within (suc k));
        ends = ap hand_of (run_same M B (fuel M B) σ can.ends more) ∙ can.ends;
      })
