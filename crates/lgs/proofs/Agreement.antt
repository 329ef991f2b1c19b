-- Only the results of the listed interviews matter: with others that agree on them, the run takes the same steps to its last state. So it gives
-- the same answer, or, where it stopped and the interview is answered, goes on from there.
use Prim.Native.Nat.{ℕ, zero, suc}
use mathlib.Core.Path.{◌≡◌, refl, sym, subst, ap, fun_ext, ◌∙◌}
use mathlib.Core.Logic.{⊎_elim}
use mathlib.Core.Bool.{Bool, true, false}
use mathlib.Core.List.Memᴰ.{head as here}
use mathlib.Core.List.Memᴰ.{tail as later}
use mathlib.Core.List.{List, [], ◌∷◌, ◌++◌, append-nil, append_assoc, Memᴰ as Mem}
use lib.Dec.{eqb, ltb}
use Rattle.base.specs.Lists.{upto, keep, update, cons_if, count}
use Rattle.base.proofs.Tests.{bool_cases}
use Rattle.base.proofs.Members.{keep_in, cons_if_in, pick_same}
use Rattle.lgs.specs.Market.{Market, Results, student_outside, outscored}
use Rattle.lgs.specs.Rule.{State, Step, going, stopped, finished, Interview, interviewed, unopened, declined, open?, choices, due, holders, below}
use Rattle.lgs.specs.Rule.{lowest_of, best, advance, add_interview, interview_all, close, hand_on, settle, apply, turn, step, run, fuel, start}
use Rattle.lgs.specs.Rule.{lazy_gale_shapley}
use Rattle.lgs.specs.Promises.{Begins, interviews_in}
use Rattle.lgs.proofs.Interviews.{interviews_with, with_interviews, interviewed_before, interviewed_after, interviewed_in}
use Rattle.lgs.proofs.Invariant.{open_parts}
use Rattle.lgs.proofs.Moves.{IsGoing, stopped_not_going, finished_not_going, interview_all_going}
use Rattle.lgs.proofs.Trace.{Reaches, there, goes, reaches_interviews, run_answer, Last, lgs_last, Finishes, step_finished, Stops}
use Rattle.lgs.proofs.Trace.{step_stopped}

-- ---- a run only adds interviews

begins_self : (us : List Interview) → Begins us us
begins_self us = ([], sym (append-nil us))

begins_then : (us vs ws : List Interview) → Begins us vs → Begins vs ws → Begins us ws
begins_then us vs ws (a, p) (b, q) = (a ++ b, q ∙ (ap (λ l. l ++ b) p ∙ append_assoc us a b))

module _ (M : Market) (B : Results) where
  interviews_grow : (s : ℕ) (ws : List ℕ) (σ : State) → Begins σ.interviews (interviews_in (interview_all M B s ws σ))
  unfolding interview_all
  interviews_grow s [] σ = begins_self σ.interviews
  interviews_grow s (w ∷ ws) σ =
      ⊎_elim
      (λ (b : B.met s w ≡ true).
      rw b (begins_then σ.interviews (add_interview M B σ s w).interviews _ ((s, w) ∷ [], refl) (interviews_grow s ws (add_interview M B σ s w))))
      (λ (b : B.met s w ≡ false). rw b (begins_self σ.interviews))
      (bool_cases (B.met s w))

  settle_interviews : (σ : State) (c : ℕ) (rest : List ℕ) (b : Bool) → (settle M B σ c rest b).interviews ≡ σ.interviews
  unfolding settle
  settle_interviews σ c rest true = refl
  settle_interviews σ c rest false = refl

  apply_interviews : (σ : State) (s : ℕ) (rest : List ℕ) (b : ℕ) → interviews_in (apply M B σ s rest b) ≡ σ.interviews
  unfolding apply close
  apply_interviews σ s rest zero = refl
  apply_interviews σ s rest (suc c) = settle_interviews (hand_on M B σ rest (update σ.held s (suc c))) (suc c) rest _

  turn_grows : (σ : State) (s : ℕ) (rest l : List ℕ) → Begins σ.interviews (interviews_in (turn M B σ s rest l))
  unfolding turn
  turn_grows σ s rest [] = interviews_grow s (due M B σ s) (advance M B σ s)
  turn_grows σ s rest (x ∷ xs) =
      subst (λ us. Begins σ.interviews us) (sym (apply_interviews σ s rest (best M B s x xs))) (begins_self σ.interviews)

  step_grows : (σ : State) (l : List ℕ) → Begins σ.interviews (interviews_in (step M B σ l))
  unfolding step
  step_grows σ [] = begins_self σ.interviews
  step_grows σ (s ∷ rest) = turn_grows σ s rest (choices M B σ s)

  run_grows : (k : ℕ) (x : Step) → Begins (interviews_in x) (interviews_in (run M B k x))
  unfolding run
  run_grows zero x = begins_self (interviews_in x)
  run_grows (suc k) (going σ) = begins_then σ.interviews _ _ (step_grows σ σ.waiting) (run_grows k (step M B σ σ.waiting))
  run_grows (suc k) (stopped s w vs) = begins_self vs
  run_grows (suc k) (finished p vs) = begins_self vs

  -- interviews that all have a record are held
  interviews_held : (s : ℕ) (us ws : List ℕ) (σ : State) → ((w : ℕ) → Mem w us → B.met s w ≡ true)
      → interview_all M B s (us ++ ws) σ ≡ interview_all M B s ws (with_interviews σ (σ.interviews ++ interviews_with s us))
  unfolding interview_all
  interviews_held s [] ws σ met = ap (λ vs. interview_all M B s ws (with_interviews σ vs)) (sym (append-nil σ.interviews))
  interviews_held s (u ∷ us) ws σ met =
      rw (met u (here refl))
      (interviews_held s us ws (add_interview M B σ s u) (λ w m. met w (later m))
      ∙ ap (λ vs. interview_all M B s ws (with_interviews σ vs)) (append_assoc σ.interviews ((s, u) ∷ []) (interviews_with s us)))

-- ---- the same steps

-- B' has the interviews Vs, with the results that B has of them
pub record AgreeOn (Vs : ℕ → ℕ → Bool) (B B' : Results) : Type 0 where
  pub met : (s w : ℕ) → Vs s w ≡ true → B'.met s w ≡ true
  pub never : (s w : ℕ) → Vs s w ≡ true → B'.never s w ≡ B.never s w
  pub student : (s w : ℕ) → Vs s w ≡ true → B'.student_score s w ≡ B.student_score s w
  pub workshop : (s w : ℕ) → Vs s w ≡ true → B'.workshop_score w s ≡ B.workshop_score w s
  pub student_outside : (s : ℕ) → B'.student_score s 0 ≡ B.student_score s 0
  pub workshop_outside : (w : ℕ) → B'.workshop_score w 0 ≡ B.workshop_score w 0

-- the state with other deleted pairs
abbrev with_deleted : State → (ℕ → ℕ → Bool) → State
with_deleted σ d = record { waiting = σ.waiting; reached = σ.reached; held = σ.held; deleted = d; interviews = σ.interviews }

module _ (M : Market) (B B' : Results) (Vs : ℕ → ℕ → Bool) (A : AgreeOn Vs B B') where
  -- the interviews held lie in Vs
  abbrev Inside : State → Type 0
  Inside σ = (s w : ℕ) → interviewed σ.interviews s w ≡ true → Vs s w ≡ true

  below_same : (σ : State) → Inside σ → (w x y : ℕ) → below M B' σ w x y ≡ below M B σ w x y
  unfolding below outscored
  below_same σ i w x y =
      ⊎_elim
      (λ (vx : interviewed σ.interviews x w ≡ true).
      ⊎_elim (λ (vy : interviewed σ.interviews y w ≡ true). rw (A.workshop x w (i x w vx), A.workshop y w (i y w vy)))
      (λ (vy : interviewed σ.interviews y w ≡ false). rw (vx, vy))
      (bool_cases (interviewed σ.interviews y w)))
      (λ (vx : interviewed σ.interviews x w ≡ false). rw vx)
      (bool_cases (interviewed σ.interviews x w))

  lowest_same : (σ : State) → Inside σ → (w : ℕ) (l : List ℕ) → lowest_of M B' σ w l ≡ lowest_of M B σ w l
  unfolding lowest_of
  lowest_same σ i w [] = refl
  lowest_same σ i w (x ∷ xs) = pick_same (below M B' σ w) (below M B σ w) x xs (λ y z my mz. below_same σ i w y z)

  deleted_same : (σ : State) → Inside σ → (c s w : ℕ) → (close M B' σ c).deleted s w ≡ (close M B σ c).deleted s w
  unfolding close holders
  deleted_same σ i c s w =
      ⊎_elim
      (λ (q : eqb (count (λ t. eqb (σ.held t) c) M.students) (M.quota c) ≡ true).
      rw (q, lowest_same σ i c (holders M B σ c), below_same σ i c s (lowest_of M B σ c (holders M B σ c))))
      (λ (q : eqb (count (λ t. eqb (σ.held t) c) M.students) (M.quota c) ≡ false). rw q)
      (bool_cases (eqb (count (λ t. eqb (σ.held t) c) M.students) (M.quota c)))

  close_same : (σ : State) → Inside σ → (c : ℕ) → close M B' σ c ≡ close M B σ c
  unfolding close holders
  close_same σ i c = ap (with_deleted σ) (fun_ext (λ s. fun_ext (λ w. deleted_same σ i c s w)))

  settle_same : (σ : State) → Inside σ → (c : ℕ) (rest : List ℕ) (b : Bool) → settle M B' σ c rest b ≡ settle M B σ c rest b
  unfolding settle holders
  settle_same σ i c rest true = ap (λ x. hand_on M B σ (x ∷ rest) (update σ.held x 0)) (lowest_same σ i c (holders M B σ c))
  settle_same σ i c rest false = refl

  apply_same : (σ : State) → Inside σ → (s : ℕ) (rest : List ℕ) (b : ℕ) → apply M B' σ s rest b ≡ apply M B σ s rest b
  unfolding apply
  apply_same σ i s rest zero = refl
  apply_same σ i s rest (suc c) =
      let τ : State = hand_on M B σ rest (update σ.held s (suc c)) in
      let over : Bool = ltb (M.quota (suc c)) (count (λ t. eqb (τ.held t) (suc c)) M.students) in
      ap going
      (ap (λ υ. close M B' υ (suc c)) (settle_same τ i (suc c) rest over)
      ∙ close_same (settle M B τ (suc c) rest over)
      (λ t w v. i t w (subst (λ us. interviewed us t w ≡ true) (settle_interviews M B τ (suc c) rest over) v)) (suc c))

  open_same : (σ : State) → Inside σ → (s w : ℕ) → open? M B' σ s w ≡ open? M B σ s w
  unfolding open? unopened declined
  open_same σ i s w =
      ⊎_elim (λ (v : interviewed σ.interviews s w ≡ true). rw (A.never s w (i s w v), A.workshop s w (i s w v), A.workshop_outside w))
      (λ (v : interviewed σ.interviews s w ≡ false). rw v)
      (bool_cases (interviewed σ.interviews s w))

  choices_same : (σ : State) → Inside σ → (s : ℕ) → choices M B' σ s ≡ choices M B σ s
  unfolding choices
  choices_same σ i s =
      ap (λ (f : ℕ → Bool). cons_if (eqb (student_outside M s) (σ.reached s)) 0 (keep f (upto M.workshops))) (fun_ext (λ w. open_same σ i s w))

  choice_score : (σ : State) → Inside σ → (s y : ℕ) → Mem y (choices M B σ s) → B'.student_score s y ≡ B.student_score s y
  unfolding choices
  choice_score σ i s y m =
      ⊎_elim
      (λ (r : (eqb (student_outside M s) (σ.reached s) ≡ true) × (y ≡ 0)). rw r.1 (A.student_outside s))
      (λ k. A.student s y (i s y (open_parts M B σ s y (keep_in (open? M B σ s) (upto M.workshops) y k).0).interview))
      (cons_if_in (eqb (student_outside M s) (σ.reached s)) 0 y (keep (open? M B σ s) (upto M.workshops)) m)

  best_same : (σ : State) → Inside σ → (s x : ℕ) (xs : List ℕ) → choices M B σ s ≡ x ∷ xs → best M B' s x xs ≡ best M B s x xs
  unfolding best
  best_same σ i s x xs c =
      pick_same (λ y z. ltb (B'.student_score s z) (B'.student_score s y)) (λ y z. ltb (B.student_score s z) (B.student_score s y)) x xs
      (λ y z my mz. rw (choice_score σ i s y (rw c my), choice_score σ i s z (rw c mz)))

  interviews_same : (s : ℕ) (ws : List ℕ) (σ σ' : State) → Inside σ' → interview_all M B s ws σ ≡ going σ' → interview_all M B' s ws σ ≡ going σ'
  unfolding interview_all
  interviews_same s ws σ σ' i' e =
      let r : (σ' ≡ with_interviews σ (σ.interviews ++ interviews_with s ws)) × ((w : ℕ) → Mem w ws → B.met s w ≡ true) = interview_all_going M B s ws σ σ' e in
      let met : (w : ℕ) → Mem w ws → B'.met s w ≡ true =
      λ w m. A.met s w (i' s w (rw r.0 (interviewed_after σ.interviews _ s w (interviewed_in s ws w m)))) in
      ap (λ l. interview_all M B' s l σ) (sym (append-nil ws)) ∙ (interviews_held M B' s ws [] σ met ∙ ap going (sym r.0))

  turn_same : (σ σ' : State) → Inside σ → Inside σ' → (s : ℕ) (rest l : List ℕ) → choices M B σ s ≡ l → turn M B σ s rest l ≡ going σ'
      → turn M B' σ s rest l ≡ going σ'
  unfolding turn due
  turn_same σ σ' i i' s rest [] c e = interviews_same s (due M B σ s) (advance M B σ s) σ' i' e
  turn_same σ σ' i i' s rest (x ∷ xs) c e = ap (apply M B' σ s rest) (best_same σ i s x xs c) ∙ (apply_same σ i s rest _ ∙ e)

  -- a step that adds interviews in Vs alone is a step with B' too
  pub step_same : (σ σ' : State) → Inside σ → Inside σ' → (s : ℕ) (rest : List ℕ) → step M B σ (s ∷ rest) ≡ going σ'
      → step M B' σ (s ∷ rest) ≡ going σ'
  unfolding step
  step_same σ σ' i i' s rest e = ap (turn M B' σ s rest) (choices_same σ i s) ∙ turn_same σ σ' i i' s rest (choices M B σ s) refl e

  -- the run with B' comes to the last state too
  run_same : (τ : State) → Inside τ → (k : ℕ) (σ : State) → Reaches M B τ σ → (IsGoing (run M B k (going σ)) → ⊥)
      → (j : ℕ) × (run M B' k (going σ) ≡ run M B' j (step M B' τ τ.waiting))
  unfolding run
  run_same τ i zero σ r n = absurd (n (σ, refl))
  run_same τ i (suc k) σ (there e) n = (k, rw e)
  run_same τ i (suc k) σ (goes {σ' = σ'} s rest w e r) n =
      let inside : Inside σ' = λ t d v. i t d (reaches_interviews M B τ σ' r t d v) in
      let before : Inside σ = λ t d v. i t d (reaches_interviews M B τ σ (goes s rest w e r) t d v) in
      let first : step M B σ σ.waiting ≡ going σ' = ap (step M B σ) w ∙ e in
      let first' : step M B' σ σ.waiting ≡ going σ' = ap (step M B' σ) w ∙ step_same σ σ' before inside s rest e in
      let more : (j : ℕ) × (run M B' k (going σ') ≡ run M B' j (step M B' τ τ.waiting)) =
      run_same τ i k σ' r (λ g. n (g.0, ap (run M B k) first ∙ g.1)) in
      (more.0, ap (run M B' k) first' ∙ more.1)

  pub lgs_same : (x : Step) → (IsGoing x → ⊥) → lazy_gale_shapley M B ≡ x → (L : Last M B (start M B) x) → Inside L.state
      → (j : ℕ) × (lazy_gale_shapley M B' ≡ run M B' j (step M B' L.state L.state.waiting))
  unfolding lazy_gale_shapley start fuel
  lgs_same x n e L i = run_same L.state i (fuel M B) (start M B) L.reached (λ g. n (g.0, sym e ∙ g.1))

-- ---- the answers

module _ (M : Market) (B B' : Results) where
  -- results of unlisted pairs do not matter to a matching
  pub unlisted_finished : (p : ℕ → ℕ) (vs : List Interview) → lazy_gale_shapley M B ≡ finished p vs → AgreeOn (interviewed vs) B B'
      → lazy_gale_shapley M B' ≡ finished p vs
  unfolding step
  unlisted_finished p vs e A = by_last (lgs_last M B (finished p vs) (finished_not_going p vs) e)
    where
      by_last : Last M B (start M B) (finished p vs) → lazy_gale_shapley M B' ≡ finished p vs
      by_last L =
          let f : Finishes M B L.state p vs = step_finished M B L.state p vs L.answer in
          let r : (j : ℕ) × (lazy_gale_shapley M B' ≡ run M B' j (step M B' L.state L.state.waiting)) =
          lgs_same M B B' (interviewed vs) A (finished p vs) (finished_not_going p vs) e L (λ s w v. rw f.interviews v) in
          let g : step M B' L.state L.state.waiting ≡ finished p vs =
          ap (step M B' L.state) f.waiting ∙ (ap (λ q. finished q L.state.interviews) (sym f.matching) ∙ ap (finished p) (sym f.interviews)) in
          r.1 ∙ (ap (run M B' r.0) g ∙ run_answer M B' r.0 (finished p vs) (finished_not_going p vs))

  module _ (s w : ℕ) (vs : List Interview) (e : lazy_gale_shapley M B ≡ stopped s w vs) (A : AgreeOn (interviewed vs) B B') where
    -- the run with B' comes to where the other stopped
    record Arrives : Type 0 where
      steps : ℕ
      after : List ℕ
      state : State
      interviews : state.interviews ≡ vs
      run : lazy_gale_shapley M B' ≡ run M B' steps (interview_all M B' s (w ∷ after) state)

    arrives : Arrives
    unfolding step turn due
    arrives = by_last (lgs_last M B (stopped s w vs) (stopped_not_going s w vs) e)
      where
        by_last : Last M B (start M B) (stopped s w vs) → Arrives
        by_last L =
            let h : Stops M B L.state s w vs = step_stopped M B L.state s w vs L.answer in
            let τ : State = L.state in
            let inside : (t d : ℕ) → interviewed τ.interviews t d ≡ true → interviewed vs t d ≡ true =
            λ t d v. rw h.interviews (interviewed_before τ.interviews _ t d v) in
            let met : (d : ℕ) → Mem d h.before → B'.met s d ≡ true =
            λ d m. A.met s d (rw h.interviews (interviewed_after τ.interviews _ s d (interviewed_in s h.before d m))) in
            let r : (j : ℕ) × (lazy_gale_shapley M B' ≡ run M B' j (step M B' τ τ.waiting)) =
            lgs_same M B B' (interviewed vs) A (stopped s w vs) (stopped_not_going s w vs) e L inside in
            let turns : step M B' τ τ.waiting ≡ interview_all M B' s (due M B τ s) (advance M B τ s) =
            ap (step M B' τ) h.waiting ∙ ap (turn M B' τ s h.rest) (choices_same M B B' (interviewed vs) A τ inside s ∙ h.empty) in
            let through : interview_all M B' s (due M B τ s) (advance M B τ s)
            ≡ interview_all M B' s (w ∷ h.after) (with_interviews (advance M B τ s) (τ.interviews ++ interviews_with s h.before)) =
            ap (λ l. interview_all M B' s l (advance M B τ s)) h.due ∙ interviews_held M B' s h.before (w ∷ h.after) (advance M B τ s) met in
            record {
              steps = r.0;
              after = h.after;
              state = with_interviews (advance M B τ s) (τ.interviews ++ interviews_with s h.before);
              interviews = sym h.interviews;
              run = r.1 ∙ ap (run M B' r.0) (turns ∙ through);
            }

    -- nor do they to a next interview, while it has no result
    pub unlisted_stopped : B'.met s w ≡ false → lazy_gale_shapley M B' ≡ stopped s w vs
    unfolding interview_all
    unlisted_stopped unmet = by_arrival arrives
      where
        by_arrival : Arrives → lazy_gale_shapley M B' ≡ stopped s w vs
        by_arrival a =
            let g : interview_all M B' s (w ∷ a.after) a.state ≡ stopped s w vs = rw unmet (ap (stopped s w) a.interviews) in
            a.run ∙ (ap (run M B' a.steps) g ∙ run_answer M B' a.steps (stopped s w vs) (stopped_not_going s w vs))

    -- and once it has one, it is held next
    pub next_held : B'.met s w ≡ true → Begins (vs ++ ((s, w) ∷ [])) (interviews_in (lazy_gale_shapley M B'))
    unfolding interview_all
    next_held met = by_arrival arrives
      where
        by_arrival : Arrives → Begins (vs ++ ((s, w) ∷ [])) (interviews_in (lazy_gale_shapley M B'))
        by_arrival a =
            let τ : State = add_interview M B' a.state s w in
            let g : interview_all M B' s (w ∷ a.after) a.state ≡ interview_all M B' s a.after τ = rw met in
            let b : Begins τ.interviews (interviews_in (run M B' a.steps (interview_all M B' s a.after τ))) =
            begins_then τ.interviews _ _ (interviews_grow M B' s a.after τ) (run_grows M B' a.steps (interview_all M B' s a.after τ)) in
            subst (λ us. Begins (us ++ ((s, w) ∷ [])) (interviews_in (lazy_gale_shapley M B'))) a.interviews
            (subst (λ x. Begins τ.interviews (interviews_in x)) (sym (a.run ∙ ap (run M B' a.steps) g)) b)
