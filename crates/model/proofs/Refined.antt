-- The machine's answer is the rule's: each turn is a step of the rule or a stale bit less, so both end, and at the same answer.
-- `machine_rule` says it of every well-formed market with distinct scores.
use Prim.Native.Nat.{ℕ, zero, suc, ◌+◌, ◌≤◌, ◌<◌}
use mathlib.Core.Path.{◌≡◌, refl, sym, subst, ◌∙◌, fun_ext}
use mathlib.Core.Bool.{false, ◌||◌}
use mathlib.Core.List.{List, [], ◌∷◌}
use mathlib.Core.List.Memᴰ.{not-nil}
use native.Mathlib.Omega.{arith}
use lib.Dec.{eqb, ltb}
use borrow.Author.Tests.{ne_eqb}
use Rattle.base.specs.Lists.{any}
use Rattle.lgs.specs.Market.{Market, Results, student_outside}
use Rattle.lgs.specs.Profiles.{Profile}
use Rattle.lgs.specs.Rule.{State, Step, going, stopped, finished, Interview, interviewed, open?, by_stage, step, run, fuel, start, lazy_gale_shapley}
use Rattle.model.specs.Model.{Card, Machine, Turn, on, lacks, done, begin, take_turn, turns, machine, step_of}
use Rattle.base.proofs.Tests.{never}
use Rattle.base.proofs.Counting.{count_le, count_none, total_apart}
use Rattle.lgs.proofs.Valid.{WellFormed, Distinct}
use Rattle.lgs.proofs.Setting.{Setting, fits_setting}
use Rattle.lgs.proofs.Invariant.{Inv}
use Rattle.lgs.proofs.Moves.{Move, moves, move_met}
use Rattle.lgs.proofs.Start.{start_inv}
use Rattle.lgs.proofs.Keeps.{move_keeps}
use Rattle.lgs.proofs.Exists.{score_profile, score_fits}
use Rattle.lgs.proofs.Ends.{run_answers, staged_length}
use Rattle.model.proofs.Evident.{Evident, move_evident, start_evident}
use Rattle.model.proofs.Tied.{Tied}
use Rattle.model.proofs.Match.{now_at, now_calm}
use Rattle.model.proofs.Turns.{load, weight, weight_of, Linked, Matches, waits, moved, halts, ends, turn_matches}

-- a card before the first turn
abbrev empty : Card
empty = record { reached = 0; held = 0; bits = λ w. false }

-- no step is to come
abbrev pub Over : Step → Type 0
Over (going σ) = ⊥
Over (stopped s w vs) = Unit {0}
Over (finished p vs) = Unit {0}

module _ (M : Market) (B : Results) where
  -- two runs from one place that are both over have one end
  same_end : (j k : ℕ) (x : Step) → Over (run M B j x) → Over (run M B k x) → run M B j x ≡ run M B k x
  unfolding run
  same_end zero zero x a b = refl
  same_end zero (suc k) (going σ) a b = absurd a
  same_end zero (suc k) (stopped s w vs) a b = refl
  same_end zero (suc k) (finished p vs) a b = refl
  same_end (suc j) zero (going σ) a b = absurd b
  same_end (suc j) zero (stopped s w vs) a b = refl
  same_end (suc j) zero (finished p vs) a b = refl
  same_end (suc j) (suc k) (going σ) a b = same_end j k (step M B σ σ.waiting) a b
  same_end (suc j) (suc k) (stopped s w vs) a b = refl
  same_end (suc j) (suc k) (finished p vs) a b = refl

  pub lacks_stay : (k s w : ℕ) (vs : List Interview) → turns M B k (lacks s w vs) ≡ lacks s w vs
  unfolding turns
  lacks_stay zero s w vs = refl
  lacks_stay (suc k) s w vs = refl

  pub done_stays : (k : ℕ) (p : ℕ → ℕ) (vs : List Interview) → turns M B k (done p vs) ≡ done p vs
  unfolding turns
  done_stays zero p vs = refl
  done_stays (suc k) p vs = refl

  -- the rule ends where the machine does
  record Agree (σ : State) (x : Turn) : Type 0 where
    steps : ℕ
    over : Over (run M B steps (going σ))
    same : step_of M B x ≡ run M B steps (going σ)

  module _ (O : Profile) (E : Setting M B O B.met) where
    pub next : (σ σ' : State) → Inv M B O B.met σ → Evident M B σ → step M B σ σ.waiting ≡ going σ' → Inv M B O B.met σ' × Evident M B σ'
    unfolding step
    next σ σ' I N e = by_waiting σ.waiting refl e
      where
        by_waiting : (l : List ℕ) → σ.waiting ≡ l → step M B σ l ≡ going σ' → Inv M B O B.met σ' × Evident M B σ'
        by_waiting [] w f = let z : ◌≡◌ {A = ℕ} 0 1 = cc in absurd (omega arith)
        by_waiting (s ∷ rest) w f =
            let v : Move M B σ s rest σ' = moves M B σ s rest σ' f in (
              move_keeps M B O B.met E σ σ' I s rest w (move_met M B σ s rest σ' v (λ t d z. (I.seen t d z).seen)) v,
              move_evident M B O
                  B.met E σ I N s rest w σ' v,
            )

    by_match : (k : ℕ) (σ : State) → Inv M B O B.met σ → Evident M B σ → (W : ℕ) → W ≤ k
        → ((τ : State) → Inv M B O B.met τ → Evident M B τ → (m : Machine) → Linked M B O τ m → weight_of M B O m < k → Agree τ (turns M B k (on m)))
        → (x : Turn) → Matches M B O σ W x → Agree σ (turns M B k x)
    unfolding run step_of
    by_match k σ I N W l more (on m) (waits L less) = more σ I N m L (omega arith)
    by_match k σ I N W l more (on m) (moved σ' e L less) =
        let n : Inv M B O B.met σ' × Evident M B σ' = next σ σ' I N e in
        let a : Agree σ' (turns M B k (on m)) = more σ' n.0 n.1 m L (omega arith) in
        record { steps = suc a.steps; over = rw e a.over; same = rw e a.same }
    by_match k σ I N W l more (lacks s w vs) (halts e) = rw (lacks_stay k s w vs) (record { steps = 1; over = rw e tt; same = sym e })
    by_match k σ I N W l more (done p vs) (ends e) = rw (done_stays k p vs) (record { steps = 1; over = rw e tt; same = sym e })

    -- with as many turns as the machine weighs, it has ended, and where the rule ends
    turns_agree : (k : ℕ) (σ : State) → Inv M B O B.met σ → Evident M B σ → (m : Machine) → Linked M B O σ m → weight_of M B O m < k → Agree σ
        (turns M B k (on m))
    unfolding turns
    turns_agree zero σ I N m L l = absurd (omega arith)
    turns_agree (suc k) σ I N m L l =
        by_match k σ I N (weight_of M B O m) (omega arith) (λ τ J P m' L' l'. turns_agree k τ J P m' L' l') (take_turn M B m m.waiting)
        (turn_matches M B O E σ I N m L)

    pub begin_linked : Linked M B O (start M B) (begin M B)
    unfolding begin start open? interviewed any
    begin_linked =
        record {
          tied = subst (λ C. Tied M B O (start M B) C (λ w. [])) (fun_ext (λ t. sym (now_calm (by_stage M.stage M.students) (λ s. empty) t))) tied₀;
          interviews = refl;
          waiting = refl;
        }
      where
        tied₀ : Tied M B O (start M B) (λ s. empty) (λ w. [])
        tied₀ =
            record {
              reached = λ t. refl;
              held = λ t. refl;
              has = λ t w o. o;
              from = λ t w b. never b refl;
              ranked = λ c l. tt;
              sits = λ c h l m. absurd (not-nil m);
              seat = λ c h l e. absurd (omega arith);
              size = λ c l. sym (count_none (λ s. eqb 0 c) M.students (λ t a b. ne_eqb 0 c (λ q. omega arith)));
            }

    abbrev first : ℕ → Card
    first = now_at (by_stage M.stage M.students) 0 (λ s. empty)

    pub begin_weight : weight_of M B O (begin M B) < fuel M B
    unfolding begin fuel weight load
    begin_weight =
        omega (
          arith,
          staged_length M B O E M.students,
          total_apart (λ t. load M (first t) t) (λ s. 2 + student_outside M s + M.workshops) M.students
              (λ s. omega (arith, count_le (λ w. (first s).bits w || ltb (first s).reached (M.student_tier s w)) M.workshops)),
        )

    lgs_over : Over (lazy_gale_shapley M B)
    lgs_over = by_lgs (lazy_gale_shapley M B) refl
      where
        by_lgs : (x : Step) → lazy_gale_shapley M B ≡ x → Over x
        by_lgs (going τ) e = run_answers M B O E τ e
        by_lgs (stopped s w vs) e = tt
        by_lgs (finished p vs) e = tt

    pub refined : step_of M B (machine M B) ≡ lazy_gale_shapley M B
    unfolding machine lazy_gale_shapley
    refined =
        let a : Agree (start M B) (machine M B) = turns_agree (fuel M B) (start M B) (start_inv M B O B.met E) (start_evident M B O B.met E)
        (begin M B) begin_linked begin_weight in
        a.same ∙ same_end a.steps (fuel M B) (going (start M B)) a.over lgs_over

-- for every well-formed market and distinct scores
module _ (M : Market) (wf : WellFormed M) (B : Results) (distinct : Distinct M B) where
  -- an order by which both are compared: some profile that fits
  pub setting : Setting M B (score_profile M wf B) B.met
  setting = fits_setting M B (score_profile M wf B) B.met wf distinct (λ s w v. v) (score_fits M wf B B.met)

  pub machine_rule : step_of M B (machine M B) ≡ lazy_gale_shapley M B
  machine_rule = refined M B (score_profile M wf B) setting
