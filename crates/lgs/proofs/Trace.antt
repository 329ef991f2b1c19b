-- The states that a run passes. An answered run has a last state, whose step is the answer, and an induction along the states between
-- shows what holds of the last one.
use Prim.Native.Nat.{ℕ, zero, suc}
use mathlib.Core.Path.{◌≡◌, refl, sym, subst, ap, ◌∙◌}
use mathlib.Core.Logic.{⊎_elim}
use mathlib.Core.Bool.{true, false}
use mathlib.Core.List.Memᴰ.{not-nil}
use mathlib.Core.List.{List, [], ◌∷◌, ◌++◌, append-nil, append_assoc, Memᴰ as Mem}
use mathlib.Core.List.Memᴰ.{cases_cons}
use Rattle.base.proofs.Tests.{bool_cases, never}
use Rattle.lgs.specs.Market.{Market, Results}
use Rattle.lgs.specs.Rule.{State, Step, going, stopped, finished, Interview, interviewed, choices, due, best, advance, add_interview}
use Rattle.lgs.specs.Rule.{interview_all, apply, turn, step, run, fuel, start, lazy_gale_shapley}
use Rattle.lgs.proofs.Interviews.{interviews_with, none_interviewed}
use Rattle.lgs.proofs.Moves.{IsGoing, finished_not_going, stopped_not_going, finished_not_stopped, Move, moves, interviews_stay, move_met}

module _ (M : Market) (B : Results) (τ : State) where
  -- steps lead from the state to τ
  pub data Reaches : State → Type 0 where
    there : {σ : State} → τ ≡ σ → Reaches σ
    goes : {σ σ' : State} (s : ℕ) (rest : List ℕ) → σ.waiting ≡ s ∷ rest → step M B σ (s ∷ rest) ≡ going σ' → Reaches σ' → Reaches σ

  -- what each step keeps holds of τ
  pub along : (P : State → Type 0)
      → ((σ σ' : State) (s : ℕ) (rest : List ℕ) → σ.waiting ≡ s ∷ rest → Move M B σ s rest σ' → Reaches σ' → P σ → P σ')
      → (σ : State) → Reaches σ → P σ → P τ
  along P keeps σ (there e) p = rw e p
  along P keeps σ (goes {σ' = σ'} s rest w e r) p = along P keeps σ' r (keeps σ σ' s rest w (moves M B σ s rest σ' e) r p)

  pub reaches_interviews : (σ : State) → Reaches σ → (t w : ℕ) → interviewed σ.interviews t w ≡ true → interviewed τ.interviews t w ≡ true
  reaches_interviews σ (there e) t d v = rw e v
  reaches_interviews σ (goes {σ' = σ'} s rest w e r) t d v =
      reaches_interviews σ' r t d (interviews_stay M B σ s rest σ' (moves M B σ s rest σ' e) t d v)

module _ (M : Market) (B : Results) where
  -- an answer stays
  pub run_answer : (k : ℕ) (x : Step) → (IsGoing x → ⊥) → run M B k x ≡ x
  unfolding run
  run_answer zero x n = refl
  run_answer (suc k) (going σ) n = absurd (n (σ, refl))
  run_answer (suc k) (stopped s w vs) n = refl
  run_answer (suc k) (finished p vs) n = refl

  -- the last state before the answer x of a run from σ
  pub record Last (σ : State) (x : Step) : Type 0 where
    pub state : State
    pub reached : Reaches M B state σ
    pub answer : step M B state state.waiting ≡ x

  pub run_last : (k : ℕ) (σ : State) (x : Step) → (IsGoing x → ⊥) → run M B k (going σ) ≡ x → Last σ x
  unfolding run step
  run_last zero σ x n e = absurd (n (σ, sym e))
  run_last (suc k) σ x n e = by_step (step M B σ σ.waiting) refl (λ σ' f. run_last k σ' x n f) e
    where
      first : (l : List ℕ) (σ' : State) → σ.waiting ≡ l → step M B σ l ≡ going σ' → Last σ' x → Last σ x
      first [] σ' w g L = absurd (finished_not_going σ.held σ.interviews (σ', g))
      first (s ∷ rest) σ' w g L = record { state = L.state; reached = goes s rest w g L.reached; answer = L.answer }

      here : (y : Step) → step M B σ σ.waiting ≡ y → (IsGoing y → ⊥) → run M B k y ≡ x → Last σ x
      here y g m f = record { state = σ; reached = there refl; answer = g ∙ (sym (run_answer k y m) ∙ f) }

      by_step : (y : Step) → step M B σ σ.waiting ≡ y → ((σ' : State) → run M B k (going σ') ≡ x → Last σ' x) → run M B k y ≡ x → Last σ x
      by_step (going σ') g more f = first σ.waiting σ' refl g (more σ' f)
      by_step (stopped s w vs) g more f = here (stopped s w vs) g (stopped_not_going s w vs) f
      by_step (finished p vs) g more f = here (finished p vs) g (finished_not_going p vs) f

  pub lgs_last : (x : Step) → (IsGoing x → ⊥) → lazy_gale_shapley M B ≡ x → Last (start M B) x
  unfolding lazy_gale_shapley
  lgs_last x n e = run_last (fuel M B) (start M B) x n e

  -- every interview of the run is in the book
  pub last_met : (τ : State) → Reaches M B τ (start M B) → (t w : ℕ) → interviewed τ.interviews t w ≡ true → B.met t w ≡ true
  unfolding start
  last_met τ r =
      along M B τ (λ σ. (t w : ℕ) → interviewed σ.interviews t w ≡ true → B.met t w ≡ true)
      (λ σ σ' s rest w m r' k. move_met M B σ s rest σ' m k)
      (start M B) r (λ t w v. never v (none_interviewed t w))

  -- ---- what the last step was

  apply_goes : (σ : State) (s : ℕ) (rest : List ℕ) (b : ℕ) → IsGoing (apply M B σ s rest b)
  unfolding apply
  apply_goes σ s rest zero = (_, refl)
  apply_goes σ s rest (suc b) = (_, refl)

  interview_all_unfinished : (s : ℕ) (ws : List ℕ) (σ : State) (p : ℕ → ℕ) (vs : List Interview) → interview_all M B s ws σ ≡ finished p vs → ⊥
  unfolding interview_all
  interview_all_unfinished s [] σ p vs e = finished_not_going p vs (σ, sym e)
  interview_all_unfinished s (w ∷ ws) σ p vs e =
      ⊎_elim (λ (b : B.met s w ≡ true). interview_all_unfinished s ws (add_interview M B σ s w) p vs (rw b at e))
      (λ (b : B.met s w ≡ false). finished_not_stopped (sym (rw b at e)))
      (bool_cases (B.met s w))

  turn_unfinished : (σ : State) (s : ℕ) (rest l : List ℕ) (p : ℕ → ℕ) (vs : List Interview) → turn M B σ s rest l ≡ finished p vs → ⊥
  unfolding turn
  turn_unfinished σ s rest [] p vs e = interview_all_unfinished s (due M B σ s) (advance M B σ s) p vs e
  turn_unfinished σ s rest (x ∷ xs) p vs e =
      let g : IsGoing (apply M B σ s rest (best M B s x xs)) = apply_goes σ s rest (best M B s x xs) in
      finished_not_going p vs (g.0, sym e ∙ g.1)

  -- a run finishes when nobody waits
  pub record Finishes (σ : State) (p : ℕ → ℕ) (vs : List Interview) : Type 0 where
    pub waiting : σ.waiting ≡ []
    pub matching : p ≡ σ.held
    pub interviews : vs ≡ σ.interviews

  pub step_finished : (σ : State) (p : ℕ → ℕ) (vs : List Interview) → step M B σ σ.waiting ≡ finished p vs → Finishes σ p vs
  unfolding step
  step_finished σ p vs e = by_waiting σ.waiting refl e
    where
      by_waiting : (l : List ℕ) → σ.waiting ≡ l → step M B σ l ≡ finished p vs → Finishes σ p vs
      by_waiting [] w f = record { waiting = w; matching = (cc); interviews = (cc) }
      by_waiting (s ∷ rest) w f = absurd (turn_unfinished σ s rest (choices M B σ s) p vs f)

  -- a run stops at the workshop w of the next tier of the student s, after the interviews with those before it
  pub record Stops (σ : State) (s w : ℕ) (vs : List Interview) : Type 0 where
    pub rest : List ℕ
    pub before : List ℕ
    pub after : List ℕ
    pub waiting : σ.waiting ≡ s ∷ rest
    pub empty : choices M B σ s ≡ []
    pub due : due M B σ s ≡ before ++ (w ∷ after)
    pub met : (d : ℕ) → Mem d before → B.met s d ≡ true
    pub unmet : B.met s w ≡ false
    pub interviews : vs ≡ σ.interviews ++ interviews_with s before

  -- the part of the list that was interviewed
  record Halts (s : ℕ) (ws : List ℕ) (us : List Interview) (t d : ℕ) (vs : List Interview) : Type 0 where
    before : List ℕ
    after : List ℕ
    student : s ≡ t
    list : ws ≡ before ++ (d ∷ after)
    met : (w : ℕ) → Mem w before → B.met s w ≡ true
    unmet : B.met s d ≡ false
    interviews : vs ≡ us ++ interviews_with s before

  interview_all_stopped : (s : ℕ) (ws : List ℕ) (σ : State) (t d : ℕ) (vs : List Interview) → interview_all M B s ws σ ≡ stopped t d vs
      → Halts s ws σ.interviews t d vs
  unfolding interview_all
  interview_all_stopped s [] σ t d vs e = absurd (stopped_not_going t d vs (σ, sym e))
  interview_all_stopped s (w ∷ ws) σ t d vs e =
      ⊎_elim (λ (b : B.met s w ≡ true). later b (interview_all_stopped s ws (add_interview M B σ s w) t d vs (rw b at e)))
      (λ (b : B.met s w ≡ false). now b (rw b at e))
      (bool_cases (B.met s w))
    where
      later : B.met s w ≡ true → Halts s ws (σ.interviews ++ ((s, w) ∷ [])) t d vs → Halts s (w ∷ ws) σ.interviews t d vs
      later b h =
          record {
            before = w ∷ h.before;
            after = h.after;
            student = h.student;
            list = ap (λ l. w ∷ l) h.list;
            met = λ v m. ⊎_elim (λ (q : v ≡ w). rw q b) (h.met v) (cases_cons m);
            unmet = h.unmet;
            interviews = h.interviews ∙ append_assoc σ.interviews ((s, w) ∷ []) (interviews_with s h.before);
          }

      now : B.met s w ≡ false → stopped s w σ.interviews ≡ stopped t d vs → Halts s (w ∷ ws) σ.interviews t d vs
      now b f =
          let ew : w ≡ d = cc in
          let ev : σ.interviews ≡ vs = cc in
          record {
            before = [];
            after = ws;
            student = (cc);
            list = ap (λ v. v ∷ ws) ew;
            met = λ v m. absurd (not-nil m);
            unmet = rw ew at b;
            interviews = sym ev ∙ sym (append-nil σ.interviews);
          }

  turn_stopped : (σ : State) (s : ℕ) (rest l : List ℕ) (t d : ℕ) (vs : List Interview) → turn M B σ s rest l ≡ stopped t d vs
      → (l ≡ []) × Halts s (due M B σ s) σ.interviews t d vs
  unfolding turn
  turn_stopped σ s rest [] t d vs e = (refl, interview_all_stopped s (due M B σ s) (advance M B σ s) t d vs e)
  turn_stopped σ s rest (x ∷ xs) t d vs e =
      let g : IsGoing (apply M B σ s rest (best M B s x xs)) = apply_goes σ s rest (best M B s x xs) in
      absurd (stopped_not_going t d vs (g.0, sym e ∙ g.1))

  pub step_stopped : (σ : State) (t d : ℕ) (vs : List Interview) → step M B σ σ.waiting ≡ stopped t d vs → Stops σ t d vs
  unfolding step
  step_stopped σ t d vs e = by_waiting σ.waiting refl e
    where
      by_waiting : (l : List ℕ) → σ.waiting ≡ l → step M B σ l ≡ stopped t d vs → Stops σ t d vs
      by_waiting [] w f = absurd (finished_not_stopped f)
      by_waiting (s ∷ rest) w f =
          let r : (choices M B σ s ≡ []) × Halts s (due M B σ s) σ.interviews t d vs = turn_stopped σ s rest (choices M B σ s) t d vs f in
          let h : Halts s (due M B σ s) σ.interviews t d vs = r.1 in
          subst (λ (u : ℕ). Stops σ u d vs) h.student
          (record {
            rest = rest;
            before = h.before;
            after = h.after;
            waiting = w;
            empty = r.0;
            due = h.list;
            met = h.met;
            unmet = h.unmet;
            interviews = h.interviews;
          })
