-- What a step of the rule does with the student in hand, by cases (`Move`): each gives the state that it leads to. So an invariant of the run
-- has four cases to show.
use Prim.Native.Nat.{ℕ, zero, suc, ◌≤◌, ◌<◌}
use mathlib.Core.Path.{◌≡◌, refl, ap, ◌∙◌}
use mathlib.Core.Logic.{⊎_elim}
use mathlib.Core.Bool.{true, false}
use mathlib.Core.List.Memᴰ.{not-nil}
use mathlib.Core.List.{List, [], ◌∷◌, ◌++◌, append-nil, append_assoc, Memᴰ as Mem}
use mathlib.Core.List.Memᴰ.{cases_cons}
use native.Mathlib.Omega.{arith}
use lib.Dec.{ltb}
use borrow.Author.Tests.{ltb-true, ltb-false}
use Rattle.base.specs.Lists.{update}
use Rattle.base.proofs.Tests.{bool_cases}
use Rattle.lgs.specs.Market.{Market, Results}
use Rattle.lgs.specs.Profiles.{seated}
use Rattle.lgs.specs.Rule.{State, Step, going, stopped, finished, interviewed, choices, due, best, holders, lowest_of, advance, hand_on, close}
use Rattle.lgs.specs.Rule.{settle, apply, turn, step, Interview, interview_all, add_interview}
use Rattle.lgs.proofs.Interviews.{interviews_with, with_interviews, interviewed_before, interviewed_or, interviewed_of}

-- ---- the answers of a step are told apart

-- more steps are to come
abbrev pub IsGoing : Step → Type 0
IsGoing x = (σ : State) × (x ≡ going σ)

pub finished_not_going : (p : ℕ → ℕ) (vs : List Interview) → IsGoing (finished p vs) → ⊥
finished_not_going p vs (σ, e) = let z : ◌≡◌ {A = ℕ} 0 1 = cc in omega arith

pub stopped_not_going : (s w : ℕ) (vs : List Interview) → IsGoing (stopped s w vs) → ⊥
stopped_not_going s w vs (σ, e) = let z : ◌≡◌ {A = ℕ} 0 1 = cc in omega arith

pub finished_not_stopped : {p : ℕ → ℕ} {vs us : List Interview} {s w : ℕ} → finished p vs ≡ stopped s w us → ⊥
finished_not_stopped e = let z : ◌≡◌ {A = ℕ} 0 1 = cc in omega arith

pub same_state : {σ τ : State} → going σ ≡ going τ → τ ≡ σ
same_state e = cc

-- ---- the moves

module _ (M : Market) (B : Results) where
  -- interviews that all have a record lead to the state with them added
  pub interview_all_going : (s : ℕ) (ws : List ℕ) (σ σ' : State) → interview_all M B s ws σ ≡ going σ'
      → (σ' ≡ with_interviews σ (σ.interviews ++ interviews_with s ws)) × ((w : ℕ) → Mem w ws → B.met s w ≡ true)
  unfolding interview_all
  interview_all_going s [] σ σ' e = (cc (ap (with_interviews σ) (append-nil σ.interviews)), λ w m. absurd (not-nil m))
  interview_all_going s (w ∷ ws) σ σ' e =
      ⊎_elim
      (λ (b : B.met s w ≡ true).
      let r : (σ' ≡ with_interviews σ ((σ.interviews ++ ((s, w) ∷ [])) ++ interviews_with s ws)) × ((v : ℕ) → Mem v ws → B.met s v ≡ true) =
      interview_all_going s ws (add_interview M B σ s w) σ' (rw b at e) in (
        r.0 ∙ ap (with_interviews σ) (append_assoc σ.interviews ((s, w) ∷ []) (interviews_with s ws)),
        λ v m. ⊎_elim (λ (q : v ≡ w). rw q b) (r.1 v) (cases_cons m),
      ))
      (λ (b : B.met s w ≡ false). absurd (stopped_not_going s w σ.interviews (σ', rw b at e)))
      (bool_cases (B.met s w))

module _ (M : Market) (B : Results) (σ : State) (s : ℕ) (rest : List ℕ) where
  -- the student has joined the workshop
  abbrev pub joined_state : ℕ → State
  joined_state c = hand_on M B σ rest (update σ.held s c)

  abbrev pub dropped : ℕ → ℕ
  dropped c = lowest_of M B (joined_state c) c (holders M B (joined_state c) c)

  pub data Move (σ' : State) : Type 0 where
    -- step 1: she goes to her next tier and interviews what is left of it
    interviews : choices M B σ s ≡ [] → ((w : ℕ) → Mem w (due M B σ s) → B.met s w ≡ true)
        → σ' ≡ with_interviews (advance M B σ s) (σ.interviews ++ interviews_with s (due M B σ s)) → Move σ'
    -- step 2: the outside option is best
    leaves : (x : ℕ) (xs : List ℕ) → choices M B σ s ≡ x ∷ xs → best M B s x xs ≡ 0 → σ' ≡ hand_on M B σ rest σ.held → Move σ'
    -- steps 2 and 4: the workshop has room
    sits : (x : ℕ) (xs : List ℕ) (c : ℕ) → choices M B σ s ≡ x ∷ xs → best M B s x xs ≡ suc c
        → seated M (joined_state (suc c)).held (suc c) ≤ M.quota (suc c)
        → σ' ≡ close M B (joined_state (suc c)) (suc c) → Move σ'
    -- steps 2 to 5: the workshop drops its lowest
    drops : (x : ℕ) (xs : List ℕ) (c : ℕ) → choices M B σ s ≡ x ∷ xs → best M B s x xs ≡ suc c
        → M.quota (suc c) < seated M (joined_state (suc c)).held (suc c)
        → σ' ≡ close M B (hand_on M B σ (dropped (suc c) ∷ rest) (update (joined_state (suc c)).held (dropped (suc c)) 0)) (suc c) → Move σ'

  by_best : (σ' : State) (x : ℕ) (xs : List ℕ) → choices M B σ s ≡ x ∷ xs → (b : ℕ) → best M B s x xs ≡ b
      → apply M B σ s rest b ≡ going σ' → Move σ'
  unfolding apply settle
  by_best σ' x xs some zero z e = leaves x xs some z (same_state e)
  by_best σ' x xs some (suc c) z e =
      ⊎_elim (λ (o : ltb (M.quota (suc c)) (seated M (joined_state (suc c)).held (suc c)) ≡ true). drops x xs c some z (ltb-true _ _ o)
      (same_state (rw o at e)))
      (λ (o : ltb (M.quota (suc c)) (seated M (joined_state (suc c)).held (suc c)) ≡ false). sits x xs c some z (ltb-false _ _ o) (same_state (rw o at e)))
      (bool_cases (ltb (M.quota (suc c)) (seated M (joined_state (suc c)).held (suc c))))

  by_choices : (σ' : State) (l : List ℕ) → choices M B σ s ≡ l → turn M B σ s rest l ≡ going σ' → Move σ'
  unfolding turn
  by_choices σ' [] c e =
      let r : (σ' ≡ with_interviews (advance M B σ s) (σ.interviews ++ interviews_with s (due M B σ s))) × ((w : ℕ) → Mem w (due M B σ s) → B.met s w ≡ true) =
      interview_all_going M B s (due M B σ s) (advance M B σ s) σ' e in
      interviews c r.1 r.0
  by_choices σ' (x ∷ xs) c e = by_best σ' x xs c (best M B s x xs) refl e

  pub moves : (σ' : State) → step M B σ (s ∷ rest) ≡ going σ' → Move σ'
  unfolding step
  moves σ' e = by_choices σ' (choices M B σ s) refl e

  -- interviews stay
  pub interviews_stay : (σ' : State) → Move σ' → (t w : ℕ) → interviewed σ.interviews t w ≡ true → interviewed σ'.interviews t w ≡ true
  unfolding close
  interviews_stay σ' (interviews _ _ e) t w v = rw e (interviewed_before σ.interviews _ t w v)
  interviews_stay σ' (leaves _ _ _ _ e) t w v = rw e v
  interviews_stay σ' (sits _ _ _ _ _ _ e) t w v = rw e v
  interviews_stay σ' (drops _ _ _ _ _ _ e) t w v = rw e v

  -- and what is added is in the book
  pub move_met : (σ' : State) → Move σ'
      → ((t w : ℕ) → interviewed σ.interviews t w ≡ true → B.met t w ≡ true)
      → (t w : ℕ) → interviewed σ'.interviews t w ≡ true → B.met t w ≡ true
  unfolding close
  move_met σ' (interviews _ met e) known t w v =
      ⊎_elim (known t w) (λ n. let r : (t ≡ s) × Mem w (due M B σ s) = interviewed_of s (due M B σ s) t w n in rw r.0 (met w r.1))
      (interviewed_or σ.interviews (interviews_with s (due M B σ s)) t w (rw e at v))
  move_met σ' (leaves _ _ _ _ e) known t w v = known t w (rw e at v)
  move_met σ' (sits _ _ _ _ _ _ e) known t w v = known t w (rw e at v)
  move_met σ' (drops _ _ _ _ _ _ e) known t w v = known t w (rw e at v)
