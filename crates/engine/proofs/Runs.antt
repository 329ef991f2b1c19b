-- Laws of `run_of`, the run of at most k turns: what the loop of `run_all` needs.
--     run_here     where no student is in hand, the run has ended
--     run_same     a run that ends goes to the same end after a turn
--     turns_left   how many turns a run takes until it ends, of at most k
--     left_less    they get fewer with each turn
--     runs_on      where a student is in hand after k turns, one turn more is `turn_on` of that
--     runs_out     where none is, more turns change nothing
--     runs_less    where the hand is empty after n turns, and not after k, k is less
use Prim.Native.Nat.{ℕ, zero, suc, ◌≤◌, ◌<◌}
use mathlib.Core.Path.{◌≡◌, refl, sym, ap, ◌∙◌, subst}
use mathlib.Core.Logic.{◌⊎◌, inl, inr, ⊎_elim}
use mathlib.Core.Bool.{Bool, true, false, cond}
use mathlib.Core.List.{List}
use native.Mathlib.Omega.{arith}
use lib.Dec.{eqb, ltb}
use borrow.Author.Tests.{eqb-true, eq-eqb, ne_eqb, ltb-true, ltb-false}
use Rattle.lgs.specs.Market.{Market, Results}
use Rattle.api.specs.declared.StudentState.{StudentState}
use Rattle.model.specs.declared.Run.{Run}
use Rattle.model.specs.Turn.{run_of}
use Rattle.engine.specs.Runs.{hand_of, RunState, turn_on}

module _ (M : Market) (B : Results) where
  -- the run from σ
  abbrev from : ℕ → RunState → RunState
  from k σ = run_of M B k σ.0 σ.1.0 σ.1.1.0 σ.1.1.1

  goes : (k : ℕ) (σ : RunState) → eqb (hand_of σ) 0 ≡ false → from (suc k) σ ≡ from k (turn_on M B σ)
  unfolding run_of
  goes k σ e = ap (λ (b : Bool). cond b σ (from k (turn_on M B σ))) e

  stops : (k : ℕ) (σ : RunState) → eqb (hand_of σ) 0 ≡ true → from k σ ≡ σ
  unfolding run_of
  stops zero σ e = refl
  stops (suc k) σ e = ap (λ (b : Bool). cond b σ (from k (turn_on M B σ))) e

  none : {A : Type 0} (n : ℕ) → n ≡ 0 → 0 < n → A
  none n e l = absurd (omega (arith, e, l))

  -- by whether a student is in hand
  which : (σ : RunState) → (eqb (hand_of σ) 0 ≡ true) ⊎ (eqb (hand_of σ) 0 ≡ false)
  which σ = either (eqb (hand_of σ) 0)
    where
      either : (b : Bool) → (b ≡ true) ⊎ (b ≡ false)
      either true = inl refl
      either false = inr refl

  on : (k : ℕ) (σ : RunState) → 0 < hand_of (from k σ) → from (suc k) σ ≡ turn_on M B (from k σ)
  unfolding run_of
  on zero σ l = goes zero σ (ne_eqb (hand_of σ) 0 (λ e. none (hand_of σ) e l))
  on (suc k) σ l =
      ⊎_elim (λ e. none _ (eqb-true _ _ e) (subst (λ (τ : RunState). 0 < hand_of τ) (stops (suc k) σ e) l))
      (λ e. goes (suc k) σ e ∙ on k (turn_on M B σ) (subst (λ (τ : RunState). 0 < hand_of τ) (goes k σ e) l) ∙ ap (turn_on M B) (sym (goes k σ e))) (which σ)

  out : (k n : ℕ) (σ : RunState) → hand_of (from k σ) ≡ 0 → k ≤ n → from k σ ≡ from n σ
  unfolding run_of
  out zero n σ h l = sym (stops n σ (eq-eqb (hand_of σ) 0 h))
  out (suc k) zero σ h l = absurd (omega (arith, l))
  out (suc k) (suc n) σ h l =
      ⊎_elim (λ e. stops (suc k) σ e ∙ sym (stops (suc n) σ e))
      (λ e. goes k σ e ∙ out k n (turn_on M B σ) (ap hand_of (sym (goes k σ e)) ∙ h) (omega (arith, l)) ∙ sym (goes n σ e)) (which σ)

  pub run_here : (k : ℕ) (σ : RunState) → hand_of σ ≡ 0 → from k σ ≡ σ
  run_here k σ e = stops k σ (eq-eqb (hand_of σ) 0 e)

  in_hand : (σ : RunState) → 0 < hand_of σ → eqb (hand_of σ) 0 ≡ false
  in_hand σ l = ne_eqb (hand_of σ) 0 (λ e. none (hand_of σ) e l)

  -- after a turn, k turns are k + 1 turns before it
  pub run_turn : (k : ℕ) (σ : RunState) → 0 < hand_of σ → from k (turn_on M B σ) ≡ from (suc k) σ
  run_turn k σ l = sym (goes k σ (in_hand σ l))

  pub run_same : (k : ℕ) (σ : RunState) → hand_of (from k σ) ≡ 0 → 0 < hand_of σ → from k (turn_on M B σ) ≡ from k σ
  run_same k σ e l = run_turn k σ l ∙ sym (out k (suc k) σ e (omega arith))

  pub turns_left : ℕ → RunState → ℕ
  turns_left zero σ = 0
  turns_left (suc k) σ = cond (eqb (hand_of σ) 0) 0 (suc (turns_left k (turn_on M B σ)))

  left_none : (k : ℕ) (σ : RunState) → eqb (hand_of σ) 0 ≡ true → turns_left k σ ≡ 0
  unfolding turns_left
  left_none zero σ e = refl
  left_none (suc k) σ e = ap (λ (b : Bool). cond b 0 (suc (turns_left k (turn_on M B σ)))) e

  left_one : (k : ℕ) (σ : RunState) → eqb (hand_of σ) 0 ≡ false → turns_left (suc k) σ ≡ suc (turns_left k (turn_on M B σ))
  unfolding turns_left
  left_one k σ e = ap (λ (b : Bool). cond b 0 (suc (turns_left k (turn_on M B σ)))) e

  -- no turn is left that a run of at most k, which ends, has not counted
  left_same : (k : ℕ) (σ : RunState) → hand_of (from k σ) ≡ 0 → turns_left (suc k) σ ≡ turns_left k σ
  unfolding run_of
  left_same zero σ e = left_none 1 σ (eq-eqb (hand_of σ) 0 e) ∙ sym (left_none 0 σ (eq-eqb (hand_of σ) 0 e))
  left_same (suc k) σ e =
      ⊎_elim (λ h. left_none (suc (suc k)) σ h ∙ sym (left_none (suc k) σ h))
      (λ h. left_one (suc k) σ h ∙ ap suc (left_same k (turn_on M B σ) (ap hand_of (sym (goes k σ h)) ∙ e)) ∙ sym (left_one k σ h)) (which σ)

  pub left_less : (k : ℕ) (σ : RunState) → hand_of (from k σ) ≡ 0 → 0 < hand_of σ → turns_left k (turn_on M B σ) < turns_left k σ
  left_less k σ e l =
      let same = left_same k σ e in
      let one = left_one k σ (in_hand σ l) in
      omega (arith, same, one)

  module _ (visits seats : List ℕ) (states : List StudentState) (r : Run) where
    pub runs_none : (visits, (seats, (states, r))) ≡ run_of M B 0 visits seats states r
    unfolding run_of
    runs_none = refl

    pub runs_on : (k : ℕ) → 0 < hand_of (run_of M B k visits seats states r) → run_of M B (suc k) visits seats states r ≡ turn_on M B
        (run_of M B k visits seats states r)
    runs_on k l = on k (visits, (seats, (states, r))) l

    pub runs_out : (k n : ℕ) → hand_of (run_of M B k visits seats states r) ≡ 0 → k ≤ n
        → run_of M B k visits seats states r ≡ run_of M B n visits seats states r
    runs_out k n h l = out k n (visits, (seats, (states, r))) h l

    less_at : (k n : ℕ) (b : Bool) → ltb k n ≡ b → k ≤ n → hand_of (run_of M B n visits seats states r) ≡ 0 → 0 < hand_of
        (run_of M B k visits seats states r) → k < n
    less_at k n true e l h p = ltb-true k n e
    less_at k n false e l h p = none _ h (subst (λ (j : ℕ). 0 < hand_of (run_of M B j visits seats states r)) (omega (arith, l, ltb-false k n e)) p)

    pub runs_less : (k n : ℕ) → k ≤ n → hand_of (run_of M B n visits seats states r) ≡ 0 → 0 < hand_of (run_of M B k visits seats states r) → k < n
    runs_less k n l h p = less_at k n (ltb k n) refl l h p
