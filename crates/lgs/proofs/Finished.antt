-- When nobody waits, what is held is student-optimal: nothing that a student would rather have is open, and what is closed neither blocks
-- nor can be had. So is the matching of a finished run, and every placed pair is among its interviews.
use Prim.Native.Nat.{ℕ, zero, suc, ◌≤◌, ◌<◌}
use mathlib.Core.Path.{◌≡◌, refl, ap}
use mathlib.Core.Logic.{◌⊎◌, inl, inr, ⊎_elim}
use mathlib.Core.Bool.{Bool, true, false}
use mathlib.Core.List.Memᴰ.{not-nil}
use mathlib.Core.List.{List}
use native.Mathlib.Omega.{arith}
use lib.Dec.{eqb}
use borrow.Author.Tests.{eq-eqb}
use Rattle.base.proofs.Tests.{bool_cases, less?}
use Rattle.base.proofs.Counting.{count_some}
use Rattle.lgs.specs.Market.{Market, Results}
use Rattle.lgs.specs.Profiles.{Profile, Acceptable, Blocks, Stable, StudentOptimal, flip, seated}
use Rattle.lgs.specs.Rule.{State, start, finished, Interview, interviewed, open?, lazy_gale_shapley}
use Rattle.lgs.proofs.Sides.{real}
use Rattle.lgs.proofs.Setting.{Setting}
use Rattle.lgs.proofs.Invariant.{Chosen, Gone, seatless, beyond, taken, Inv, unopened_out, chosen_acceptable, closed_why}
use Rattle.lgs.proofs.Invariant.{better_lost, student_no_worse}
use Rattle.lgs.proofs.Moves.{finished_not_going}
use Rattle.lgs.proofs.Trace.{Reaches, Last, lgs_last, last_met, Finishes, step_finished}
use Rattle.lgs.proofs.Keeps.{last_inv}

module _ (M : Market) (B : Results) (O : Profile) (Vs : ℕ → ℕ → Bool) (E : Setting M B O Vs) (σ : State) (I : Inv M B O Vs σ) where
  -- a deleted pair does not block
  gone_unblocked : (s c : ℕ) → 0 < c → Gone M O σ s c → Acceptable M O s c
      → (seated M σ.held c < M.quota c) ⊎ ((h : ℕ) × (σ.held h ≡ c) × (O.workshop_rank c s < O.workshop_rank c h)) → ⊥
  gone_unblocked s c pos (seatless z) acc (inl r) = omega arith
  gone_unblocked s c pos (seatless z) acc (inr (h, e, l)) = omega (arith, I.within c pos, seat)
    where
      hr : (1 ≤ h) × (h ≤ M.students)
      hr = E.wf.student h (σ.held h) (chosen_acceptable M B O Vs E σ I h (σ.held h) (rw e pos) (I.chosen h (rw e pos))).pair

      seat : 1 ≤ seated M σ.held c
      seat = count_some (λ t. eqb (σ.held t) c) M.students h hr.0 hr.1 (eq-eqb _ _ e)
  gone_unblocked s c pos (beyond l) acc r = omega (arith, acc.workshop, E.full.workshops.keeps c 0 s refl (real (flip M.paired c) s acc.pair) l)
  gone_unblocked s c pos (taken f a) acc (inl r) = omega arith
  gone_unblocked s c pos (taken f a) acc (inr (h, e, l)) = omega (arith, a h e)

  -- nor does one that is not open
  closed_unblocked : (s c : ℕ) → 0 < c → interviewed σ.interviews s c ≡ true → open? M B σ s c ≡ false → Blocks M O σ.held s c → ⊥
  closed_unblocked s c pos v o b =
      ⊎_elim (λ f. gone_unblocked s c pos (I.gone s c b.acceptable.pair f) b.acceptable b.room)
      (λ f. unopened_out M B O Vs E σ s c (I.seen s c v) f b.acceptable)
      (closed_why M B O Vs E σ I s c v o)

  module _ (all : (s : ℕ) → 1 ≤ s → s ≤ M.students → Chosen M B O Vs σ s (σ.held s)) where
    unblocked : (s c : ℕ) → Blocks M O σ.held s c → ⊥
    unblocked s c b =
        let pair : M.paired s c ≡ true = b.acceptable.pair in
        let sr : (1 ≤ s) × (s ≤ M.students) = E.wf.student s c pair in
        let pos : 1 ≤ c = (E.wf.workshop s c pair).0 in
        let k : Chosen M B O Vs σ s (σ.held s) = all s sr.0 sr.1 in
        let g : M.student_tier s c ≤ M.student_tier s (σ.held s) =
        student_no_worse M B O Vs E s c (σ.held s) (real (M.paired s) c pair) k.known.option (omega (arith, b.prefers)) in
        ⊎_elim
        (λ v.
        ⊎_elim (λ o. omega (arith, k.top c o, b.prefers)) (λ o. closed_unblocked s c pos v o b) (bool_cases (open? M B σ s c)))
        (λ r. gone_unblocked s c pos (I.gone s c pair r) b.acceptable b.room)
        (I.swept s c pair (omega (arith, k.tier)))

    pub held_stable : Stable M O σ.held
    held_stable =
        record {
          matching = record { acceptable = λ s l. chosen_acceptable M B O Vs E σ I s (σ.held s) l (I.chosen s l); within = I.within };
          unblocked = unblocked;
        }

    -- a student who is not of the market has no place in any matching
    pub held_best : StudentOptimal M O σ.held
    held_best =
        record {
          stable = held_stable;
          best = λ ν st s. ⊎_elim (λ l. absurd (worse ν st s l)) (λ le. le) (less? (O.student_rank s (ν s)) (O.student_rank s (σ.held s)));
        }
      where
        better : (ν : ℕ → ℕ) → Stable M O ν → (s d : ℕ) → ν s ≡ d → Chosen M B O Vs σ s (σ.held s)
            → O.student_rank s d < O.student_rank s (σ.held s) → ⊥
        better ν st s zero e k l = omega (arith, k.none)
        better ν st s (suc d) e k l = better_lost M B O Vs E σ I s (σ.held s) (suc d) k (omega arith) l ν st e

        inside : (ν : ℕ → ℕ) → Stable M O ν → (s a b : ℕ) → ν s ≡ a → σ.held s ≡ b → O.student_rank s a < O.student_rank s b
            → (1 ≤ s) × (s ≤ M.students)
        inside ν st s zero zero e f l = absurd (omega arith)
        inside ν st s zero (suc b) e f l =
            E.wf.student s (σ.held s) (chosen_acceptable M B O Vs E σ I s (σ.held s) (omega arith) (I.chosen s (omega arith))).pair
        inside ν st s (suc a) b e f l = E.wf.student s (ν s) (st.matching.acceptable s (omega arith)).pair

        worse : (ν : ℕ → ℕ) → Stable M O ν → (s : ℕ) → O.student_rank s (ν s) < O.student_rank s (σ.held s) → ⊥
        worse ν st s l = let r : (1 ≤ s) × (s ≤ M.students) = inside ν st s (ν s) (σ.held s) refl refl l in better ν st s (ν s) refl (all s r.0 r.1) l

-- ---- a finished run

module _ (M : Market) (B : Results) (p : ℕ → ℕ) (vs : List Interview) (run : lazy_gale_shapley M B ≡ finished p vs) where
  last : Last M B (start M B) (finished p vs)
  last = lgs_last M B (finished p vs) (finished_not_going p vs) run

  -- every interview of the run is in the book
  pub lgs_met : (t w : ℕ) → interviewed vs t w ≡ true → B.met t w ≡ true
  lgs_met t w v =
      let f : Finishes M B last.state p vs = step_finished M B last.state p vs last.answer in
      last_met M B last.state last.reached t w (rw f.interviews at v)

  -- its last state, where everybody has what she chose
  pub record End (O : Profile) (Vs : ℕ → ℕ → Bool) : Type 0 where
    pub state : State
    pub reached : Reaches M B state (start M B)
    pub inv : Inv M B O Vs state
    pub matching : p ≡ state.held
    pub interviews : vs ≡ state.interviews
    pub chosen : (s : ℕ) → 1 ≤ s → s ≤ M.students → Chosen M B O Vs state s (state.held s)

  pub lgs_end : (O : Profile) (Vs : ℕ → ℕ → Bool) → Setting M B O Vs → ((t w : ℕ) → interviewed vs t w ≡ true → Vs t w ≡ true) → End O Vs
  lgs_end O Vs E known = by_finish (step_finished M B last.state p vs last.answer)
    where
      by_finish : Finishes M B last.state p vs → End O Vs
      by_finish f =
          let I : Inv M B O Vs last.state = last_inv M B O Vs E last.state last.reached (λ t w v. known t w (rw f.interviews v)) in
          record {
            state = last.state;
            reached = last.reached;
            inv = I;
            matching = f.matching;
            interviews = f.interviews;
            chosen = λ s l u. ⊎_elim (λ m. absurd (not-nil (rw f.waiting at m))) (λ k. k) (I.settled s l u);
          }

  -- the matching is student-optimal under every profile that fits the scores of a set that has the interviews
  pub lgs_optimal : (O : Profile) (Vs : ℕ → ℕ → Bool) → Setting M B O Vs → ((t w : ℕ) → interviewed vs t w ≡ true → Vs t w ≡ true)
      → StudentOptimal M O p
  lgs_optimal O Vs E known =
      let z : End O Vs = lgs_end O Vs E known in
      rw z.matching (held_best M B O Vs E z.state z.inv z.chosen)

  -- every placed pair is listed
  pub lgs_placed_listed : (O : Profile) (Vs : ℕ → ℕ → Bool) → Setting M B O Vs → ((t w : ℕ) → interviewed vs t w ≡ true → Vs t w ≡ true)
      → (s : ℕ) → 0 < p s → interviewed vs s (p s) ≡ true
  lgs_placed_listed O Vs E known s l = at_end (lgs_end O Vs E known)
    where
      at_end : End O Vs → interviewed vs s (p s) ≡ true
      at_end z =
          let e : p s ≡ z.state.held s = ap (λ (q : ℕ → ℕ). q s) z.matching in
          let l' : 0 < z.state.held s = omega arith in
          rw (e, z.interviews) ((z.inv.chosen s l').real l').0
