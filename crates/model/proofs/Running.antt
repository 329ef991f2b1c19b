-- The run on the buffers ends, and where it ends they show the answer of the staged rule (`run_is_rule`); each turn finds them ready
-- (`run_ready`). `OnWay` holds at each turn: a sound machine that they show, or the interview that is missing.
use Prim.Native.Nat.{ℕ, zero, suc, ◌*◌, ◌≤◌, ◌<◌}
use mathlib.Core.Path.{◌≡◌, refl, sym, subst, ap}
use mathlib.Core.Logic.{⊎_elim}
use mathlib.Core.List.{List, [], ◌∷◌}
use native.Mathlib.Omega.{arith}
use native.Mathlib.Nat.{pos_of_ne-zero}
use lib.ListN.{length}
use borrow.Author.Tests.{eq-eqb, ne_eqb}
use Rattle.lgs.specs.Market.{Market, Results, all_seats}
use Rattle.lgs.specs.Profiles.{Profile}
use Rattle.lgs.specs.Rule.{Interview, stopped, finished, fuel, lazy_gale_shapley}
use Rattle.lgs.specs.Fares.{fares_of}
use Rattle.lgs.specs.Promises.{pairs_in}
use Rattle.format.specs.Buffers.{flat, with_head}
use Rattle.model.specs.Model.{Machine, Turn, on, lacks, done, begin, take_turn}
use Rattle.model.specs.Turn.{run_of}
use Rattle.model.specs.Ready.{Ready}
use Rattle.base.proofs.Tests.{eq?, less?}
use Rattle.lgs.proofs.Valid.{WellFormed, Distinct}
use Rattle.lgs.proofs.Setting.{Setting}
use Rattle.lgs.proofs.Exists.{score_profile}
use Rattle.model.proofs.Tied.{Tied}
use Rattle.model.proofs.Match.{now_at}
use Rattle.model.proofs.Turns.{weight_of}
use Rattle.model.proofs.Refined.{setting, begin_weight}
use Rattle.model.proofs.Loop.{Sound, Safe, sound_begin, sound_on, sound_lacks, sound_done, sound_safe}
use Rattle.model.proofs.Stages.{Waits, over, holds}
use Rattle.model.proofs.Shows.{Stand, Shows, Lacking, Payable, state_at, beginning, shows_begin, shows_ready}
use Rattle.model.proofs.ShowsTurn.{one_turn, Follows, shows_turn}

-- ---- the run, and its two laws
module _ (M : Market) (B : Results) where
  -- where the run stands after k turns at most
  abbrev pub after : ℕ → Stand → Stand
  after k x =
      let σ = run_of M B k x.visits x.seats x.states x.run in
      record { visits = σ.0; seats = σ.1.0; states = σ.1.1.0; run = σ.1.1.1 }

  pub run_over : (k : ℕ) (x : Stand) → x.run.hand ≡ 0 → after k x ≡ x
  unfolding run_of
  run_over zero x e = refl
  run_over (suc k) x e = rw (eq-eqb x.run.hand 0 e)

  pub run_on : (k : ℕ) (x : Stand) → 0 < x.run.hand → after (suc k) x ≡ after k (one_turn M B x)
  unfolding run_of
  run_on k x l = rw (ne_eqb x.run.hand 0 (λ e. omega arith))

-- ---- what a finished run leaves: p is the matching, and each student's state holds her place
module _ (M : Market) (B : Results) (old : List ℕ) where
  pub record Finished (p : ℕ → ℕ) (vs : List Interview) (x : Stand) : Type 0 where
    pub hand : x.run.hand ≡ 0
    pub workshop : x.run.workshop ≡ 0
    pub count : x.run.count ≡ length vs
    pub fares : x.run.fares ≡ fares_of M vs
    pub visits : x.visits ≡ with_head (flat vs) old
    pub states : M.students ≤ length x.states
    pub held : (s : ℕ) → 1 ≤ s → s ≤ M.students → (state_at x.states s).held ≡ p s
    pub within : (s : ℕ) → p s ≤ M.workshops

  -- the run has ended with the rule's answer
  pub data Ends (x : Stand) : Type 0 where
    stops : (s w : ℕ) (vs : List Interview) → lazy_gale_shapley M B ≡ stopped s w vs → Lacking M old s w vs x → Ends x
    finishes : (p : ℕ → ℕ) (vs : List Interview) → lazy_gale_shapley M B ≡ finished p vs → Finished p vs x → Ends x

  pub ends_hand : (x : Stand) → Ends x → x.run.hand ≡ 0
  ends_hand x (stops s w vs e l) = l.hand
  ends_hand x (finishes p vs e f) = f.hand

module _ (M : Market) (wf : WellFormed M) (B : Results) (distinct : Distinct M B) where
  abbrev O : Profile
  O = score_profile M wf B

  abbrev E : Setting M B O B.met
  E = setting M wf B distinct

  -- nobody is in hand: the machine is done
  module _ (old : List ℕ) (m : Machine) (D : Sound M B O E m) (x : Stand) (W : Shows M old m x) (over_now : x.run.hand ≡ 0) where
    nobody : m.waiting ≡ []
    nobody = by_waits m.waiting W.waits
      where
        by_waits : (l : List ℕ) → Waits M.stage M.students x.run.hand x.run.last l → l ≡ []
        by_waits [] (over e) = refl
        by_waits (h ∷ ws) (holds l u c) = absurd (omega arith)

    tied : Tied M B O D.state m.cards m.seats
    tied = subst (λ l. Tied M B O D.state (now_at l m.lost m.cards) m.seats) nobody D.linked.tied

    safe : Safe M B m
    safe = sound_safe M B O E m D

    -- the workshop that holds a student has her in a seat
    within : (s : ℕ) → (m.cards s).held ≤ M.workshops
    within s =
        ⊎_elim
        (λ (l : 0 < (m.cards s).held). (safe.seated (m.cards s).held s l (tied.seat (m.cards s).held s l (sym (tied.held s)))).workshop.1)
        (λ (l : (m.cards s).held ≤ 0). omega arith)
        (less? 0 (m.cards s).held)

    finished_shown : Finished M B old (λ s. (m.cards s).held) m.interviews x
    finished_shown =
        record {
          hand = over_now;
          workshop = W.workshop;
          count = W.count;
          fares = W.fares;
          visits = W.visits;
          states = W.states;
          held = λ s l u. ap (λ c. c.held) (sym (W.card s l u));
          within = within;
        }

    ends_now : Ends M B old x
    unfolding take_turn
    ends_now = finishes (λ s. (m.cards s).held) m.interviews (sound_done M B O E m D _ _ (ap (take_turn M B m) nobody)) finished_shown

  -- ---- the run on its way, with less than W turns to go, or past a missing interview
  data OnWay (old : List ℕ) (x : Stand) (W : ℕ) : Type 0 where
    runs : (m : Machine) → Sound M B O E m → Shows M old m x → weight_of M B O m < W → OnWay old x W
    past : (s w : ℕ) (vs : List Interview) → lazy_gale_shapley M B ≡ stopped s w vs → Lacking M old s w vs x → OnWay old x W

  module _ (fits : M.workshops ≤ 64) (old : List ℕ) where
    in_hand : (m : Machine) (x : Stand) → Shows M old m x → 0 < x.run.hand → (rest : List ℕ) × (m.waiting ≡ x.run.hand ∷ rest)
    in_hand m x W l = by_waits m.waiting W.waits
      where
        by_waits : (ws : List ℕ) → Waits M.stage M.students x.run.hand x.run.last ws → (rest : List ℕ) × (ws ≡ x.run.hand ∷ rest)
        by_waits [] (over e) = absurd (omega arith)
        by_waits (h ∷ ws) (holds {rest = rest} p q c) = (rest, refl)

    way_turn : (x : Stand) (W : ℕ) → OnWay old x (suc W) → 0 < x.run.hand → OnWay old (one_turn M B x) W
    way_turn x W (past s w vs e l) pos = absurd (omega (arith, l.hand))
    way_turn x W (runs m D K less) pos =
        let r : (rest : List ℕ) × (m.waiting ≡ x.run.hand ∷ rest) = in_hand m x K pos in
        by_turn (take_turn M B m m.waiting) refl (shows_turn M B old fits m x (sound_safe M B O E m D) K r.0 r.1)
      where
        by_turn : (t : Turn) → take_turn M B m m.waiting ≡ t → Follows M old (one_turn M B x) t → OnWay old (one_turn M B x) W
        by_turn (on m') e f =
            let n : Sound M B O E m' × (weight_of M B O m' < weight_of M B O m) = sound_on M B O E m D m' e in
            runs m' n.0 f (omega (arith, n.1))
        by_turn (lacks s w vs) e f = past s w vs (sound_lacks M B O E m D s w vs e) f
        by_turn (done p vs) e f = absurd f

    way_last : (x : Stand) → OnWay old x 0 → x.run.hand ≡ 0
    way_last x (runs m D K less) = absurd (omega arith)
    way_last x (past s w vs e l) = l.hand

    -- where nobody is in hand the run has the rule's answer
    way_ends : (x : Stand) (W : ℕ) → OnWay old x W → x.run.hand ≡ 0 → Ends M B old x
    way_ends x W (runs m D K less) e = ends_now old m D x K e
    way_ends x W (past s w vs e l) z = stops s w vs e l

    -- each turn finds the buffers ready
    way_ready : 2 * pairs_in M M.paired ≤ length old → Payable M → (x : Stand) (W : ℕ) → OnWay old x W → 0 < x.run.hand
        → Ready M B x.visits x.seats (state_at x.states x.run.hand) x.run × (x.run.hand ≤ length x.states)
    way_ready room P x W (past s w vs e l) pos = absurd (omega (arith, l.hand))
    way_ready room P x W (runs m D K less) pos =
        let r : (rest : List ℕ) × (m.waiting ≡ x.run.hand ∷ rest) = in_hand m x K pos in
        let k : Ready M B x.visits x.seats (state_at x.states x.run.hand) x.run =
        shows_ready M B old fits m x (sound_safe M B O E m D) K r.0 r.1 room P in
        (k, omega (arith, k.hand, K.states))

    way_on : (x : Stand) (W : ℕ) → OnWay old x W → 0 < x.run.hand → OnWay old (one_turn M B x) W
    way_on x zero w pos = absurd (omega (arith, way_last x w))
    way_on x (suc W) w pos = more (way_turn x W w pos)
      where
        more : OnWay old (one_turn M B x) W → OnWay old (one_turn M B x) (suc W)
        more (runs m D K less) = runs m D K (omega arith)
        more (past s w vs e l) = past s w vs e l

    -- so many turns are enough
    run_ends : (k : ℕ) (x : Stand) → OnWay old x k → Ends M B old (after M B k x)
    unfolding run_of
    run_ends zero x w = way_ends x 0 w (way_last x w)
    run_ends (suc k) x w =
        ⊎_elim (λ (e : x.run.hand ≡ 0). rw (run_over M B (suc k) x e) (way_ends x (suc k) w e))
        (λ ne. rw (run_on M B k x (pos_of_ne-zero ne)) (run_ends k (one_turn M B x) (way_turn x k w (pos_of_ne-zero ne))))
        (eq? x.run.hand 0)

    -- the run stays on its way
    way_after : (k : ℕ) (x : Stand) (W : ℕ) → OnWay old x W → OnWay old (after M B k x) W
    unfolding run_of
    way_after zero x W w = w
    way_after (suc k) x W w =
        ⊎_elim (λ (e : x.run.hand ≡ 0). rw (run_over M B (suc k) x e) w)
        (λ ne. rw (run_on M B k x (pos_of_ne-zero ne)) (way_after k (one_turn M B x) W (way_on x W w (pos_of_ne-zero ne))))
        (eq? x.run.hand 0)

    -- ---- from zeroed buffers
    module _ (room : 2 * pairs_in M M.paired ≤ length old) (P : Payable M) (n k : ℕ) (seats : all_seats M ≤ n) (states : M.students ≤ k) where
      abbrev pub stands : ℕ → Stand
      stands j = after M B j (beginning M B old n k)

      way_begin : OnWay old (beginning M B old n k) (fuel M B)
      way_begin = runs (begin M B) (sound_begin M B O E) (shows_begin M B old n k seats states) (begin_weight M B O E)

      -- each turn finds the buffers ready, and the student's state
      pub run_ready : (j : ℕ) → 0 < (stands j).run.hand
          → Ready M B (stands j).visits (stands j).seats (state_at (stands j).states (stands j).run.hand) (stands j).run
          × ((stands j).run.hand ≤ length (stands j).states)
      run_ready j pos = way_ready room P (stands j) (fuel M B) (way_after j (beginning M B old n k) (fuel M B) way_begin) pos

      -- the run on the buffers is the staged rule
      pub run_is_rule : Ends M B old (stands (fuel M B))
      run_is_rule = run_ends (fuel M B) (beginning M B old n k) way_begin
