-- Settled for good: with agreeing stages the student in hand has the latest stage so far, and whoever is dropped for her has no earlier one. So from
-- where a run stopped, nobody of an earlier stage than the student in hand moves, whatever the interviews to come tell.
use Prim.Native.Nat.{ℕ, suc, ◌≤◌, ◌<◌}
use mathlib.Core.Path.{◌≡◌, refl, sym, ap, ◌∙◌}
use mathlib.Core.Logic.{⊎_elim}
use mathlib.Core.Bool.{Bool, true, false, not, ◌&&◌}
use mathlib.Core.List.Memᴰ.{cases_cons}
use mathlib.Core.List.Memᴰ.{head as here}
use mathlib.Core.List.Memᴰ.{tail as later}
use mathlib.Core.List.{List, [], ◌∷◌, ◌++◌, Memᴰ as Mem}
use mathlib.Core.List.Memᴰ.{not-nil}
use native.Mathlib.Omega.{arith}
use lib.Dec.{eqb, ltb}
use borrow.Author.Tests.{eqb-true, eqb-false, eq-eqb, ltb-true, ltb-false, not-true}
use Rattle.base.specs.Lists.{upto, keep, pick, update}
use Rattle.base.proofs.Tests.{never, bool_cases, and_left, and_right, or_true, or_false, eq?}
use Rattle.base.proofs.Members.{in_first, in_upto, upto_in, in_keep, keep_in, cons_if_in, Picked, picked, update_at, update_off}
use Rattle.lgs.specs.Market.{Market, Results, ConsistentStages, matters, student_outside, workshop_outside}
use Rattle.lgs.specs.Rule.{State, stopped, finished, Interview, interviewed, open?, choices, due, best, holders, below, lowest_of, close, hand_on}
use Rattle.lgs.specs.Rule.{step, run, start, lazy_gale_shapley}
use Rattle.lgs.specs.Promises.{Extends, EarlierSettled}
use Rattle.lgs.proofs.Invariant.{open_parts}
use Rattle.lgs.proofs.Interviews.{interviews_with, none_interviewed, interviewed_before, interviewed_or, interviewed_of}
use Rattle.lgs.proofs.Matters.{matters_is}
use Rattle.lgs.proofs.Start.{staged_in}
use Rattle.lgs.proofs.Close.{close_keeps}
use Rattle.lgs.proofs.Moves.{stopped_not_going, finished_not_going, Move, interviews, leaves, sits, drops, joined_state, dropped}
use Rattle.lgs.proofs.Trace.{along, Last, run_last, lgs_last, last_met, Finishes, step_finished, Stops, step_stopped}
use Rattle.lgs.proofs.Needed.{Sorted, staged_sorted, worse_later}
use Rattle.lgs.proofs.Agreement.{AgreeOn, lgs_same}
use Rattle.lgs.proofs.Onward.{From}

-- ---- who applies, and who is dropped

module _ (M : Market) (B : Results) where
  -- the student has interviewed the workshop that she applies to
  best_came : (σ : State) (s x : ℕ) (xs : List ℕ) (c : ℕ) → choices M B σ s ≡ x ∷ xs → best M B s x xs ≡ suc c
      → interviewed σ.interviews s (suc c) ≡ true
  unfolding best choices
  best_came σ s x xs c some z = rw z at all.chosen (omega (arith, z))
    where
      Came : ℕ → Type 0
      Came y = 0 < y → interviewed σ.interviews s y ≡ true

      came : (y : ℕ) → Mem y (choices M B σ s) → Came y
      came y m l =
          ⊎_elim (λ r. absurd (omega (arith, r.1)))
          (λ k. (open_parts M B σ s y (keep_in (open? M B σ s) (upto M.workshops) y k).0).interview)
          (cons_if_in (eqb (student_outside M s) (σ.reached s)) 0 y (keep (open? M B σ s) (upto M.workshops)) m)

      all : Picked (λ y z. Unit {0}) Came x xs (best M B s x xs)
      all =
          picked (λ y z. ltb (B.student_score s z) (B.student_score s y)) (λ y z. Unit {0}) Came
          (λ y. tt) (λ a b d l r. tt) (λ a b p q e. tt) (λ a b p q e. tt)
          x xs (came x (rw some (here refl))) (λ y m. came y (rw some (later m)))

  -- x is a student whom the workshop c holds, in no better tier than h
  record Low (τ : State) (c h x : ℕ) : Type 0 where
    holder : τ.held x ≡ c
    range : (1 ≤ x) × (x ≤ M.students)
    tier : M.workshop_tier c h ≤ M.workshop_tier c x

  -- the lowest holder is in no better tier than any other
  lowest_tier : (τ : State) (c h : ℕ) → 1 ≤ h → h ≤ M.students → τ.held h ≡ c → Low τ c h (lowest_of M B τ c (holders M B τ c))
  unfolding holders lowest_of below
  lowest_tier τ c h l u e = of (holders M B τ c) holds (in_keep holds? (upto M.students) h (eq-eqb _ _ e) (in_upto M.students h l u))
    where
      holds? : ℕ → Bool
      holds? y = eqb (τ.held y) c

      Holder : ℕ → Type 0
      Holder y = (τ.held y ≡ c) × ((1 ≤ y) × (y ≤ M.students))

      holds : (y : ℕ) → Mem y (holders M B τ c) → Holder y
      holds y m =
          let r : (holds? y ≡ true) × Mem y (upto M.students) = keep_in holds? (upto M.students) y m in
          (eqb-true _ _ r.0, upto_in M.students y r.1)

      of : (hs : List ℕ) → ((y : ℕ) → Mem y hs → Holder y) → Mem h hs → Low τ c h (lowest_of M B τ c hs)
      of [] all m = absurd (not-nil m)
      of (x ∷ xs) all m =
          let p : Picked (λ a b. M.workshop_tier c b ≤ M.workshop_tier c a) Holder x xs (pick (below M B τ c) x xs) =
          picked (below M B τ c) (λ a b. M.workshop_tier c b ≤ M.workshop_tier c a) Holder
          (λ a. omega arith) (λ a b d p q. omega arith)
          (λ a b ha hb t.
          ⊎_elim (λ f. let l : M.workshop_tier c a < M.workshop_tier c b = ltb-true _ _ f in omega arith)
          (λ f.
          let q : M.workshop_tier c b ≡ M.workshop_tier c a = eqb-true _ _ (and_left (eqb (M.workshop_tier c b) (M.workshop_tier c a)) _ f) in omega arith)
          (or_true (ltb (M.workshop_tier c a) (M.workshop_tier c b)) _ t))
          (λ a b ha hb t. ltb-false _ _ (or_false (ltb (M.workshop_tier c a) (M.workshop_tier c b)) _ t).0)
          x xs (all x (here refl)) (λ y k. all y (later k)) in
          record {
            holder = p.chosen.0;
            range = p.chosen.1;
            tier = ⊎_elim (λ (q : h ≡ x). rw q p.first) (p.others h) (cases_cons m);
          }

-- ---- what every state has, whatever the results: no book need be valid

-- who is held has interviewed the workshop
abbrev Held : List Interview → (ℕ → ℕ) → Type 0
Held vs held = (t : ℕ) → 0 < held t → interviewed vs t (held t) ≡ true

held_update : (vs : List Interview) (held : ℕ → ℕ) (s c : ℕ) → Held vs held → (0 < c → interviewed vs s c ≡ true) → Held vs (update held s c)
held_update vs held s c h came t l =
    ⊎_elim (λ (e : t ≡ s). let q : update held s c t ≡ c = update_at held s c t e in rw (q, e) (came (rw q at l)))
    (λ off. let q : update held s c t ≡ held t = update_off held s c t off in rw q (h t (rw q at l)))
    (eq? t s)

module _ (M : Market) where
  record Orderly (σ : State) : Type 0 where
    -- who is not deleted for a workshop, and whom it has interviewed, matters to it
    kept : (s w : ℕ) → M.paired s w ≡ true → σ.deleted s w ≡ false → matters M w s ≡ true
    came : (s w : ℕ) → interviewed σ.interviews s w ≡ true → matters M w s ≡ true
    held : Held σ.interviews σ.held
    -- who waits is a student, and of no earlier stage than who was interviewed; they wait in order of stage
    range : (s : ℕ) → Mem s σ.waiting → (1 ≤ s) × (s ≤ M.students)
    early : (s w t : ℕ) → interviewed σ.interviews s w ≡ true → Mem t σ.waiting → M.stage s ≤ M.stage t
    sorted : Sorted M σ.waiting

  start_orderly : (B : Results) → Orderly (start M B)
  unfolding start
  start_orderly B =
      record {
        kept = λ s w p d.
            let r : (eqb (M.quota w) 0 ≡ false) × (ltb (workshop_outside M w) (M.workshop_tier w s) ≡ false) = or_false (eqb (M.quota w) 0) _ d in
            let some : M.quota w ≡ 0 → ⊥ = eqb-false _ _ r.0 in
            matters_is M w s (omega arith) p (ltb-false _ _ r.1);
        came = λ s w v. never v (none_interviewed s w);
        held = λ s l. absurd (omega arith);
        range = λ s m. staged_in M.stage M.students s m;
        early = λ s w t v m. never v (none_interviewed s w);
        sorted = staged_sorted M M.students;
      }

  -- the lemmas of one move
  module _ (agree : ConsistentStages M M.stage) (B : Results) (σ : State) (I : Orderly σ) (s : ℕ) (rest : List ℕ) (wait : σ.waiting ≡ s ∷ rest) where
    in_order : Sorted M (s ∷ rest)
    in_order = rw wait at I.sorted

    hand_first : (t : ℕ) → Mem t σ.waiting → M.stage s ≤ M.stage t
    hand_first t m = ⊎_elim (λ (q : t ≡ s). omega (arith, ap M.stage q)) (in_order.0 t) (cases_cons (rw wait at m))

    in_wait : (t : ℕ) → Mem t rest → Mem t σ.waiting
    in_wait t m = rw wait (later m)

    -- what is not deleted now was not before
    kept_before : (τ : State) (c t w : ℕ) → (close M B τ c).deleted t w ≡ false → τ.deleted t w ≡ false
    kept_before τ c t w d = ⊎_elim (λ e. never (close_keeps M B τ c t w e) d) (λ e. e) (bool_cases (τ.deleted t w))

    -- the student applies to the workshop c, and `lowest` is dropped
    module _ (c : ℕ) (came : interviewed σ.interviews s c ≡ true) (pos : 0 < c) where
      abbrev lowest : ℕ
      lowest = dropped M B σ s rest c

      low : Low M B (joined_state M B σ s rest c) c s lowest
      low =
          let r : (1 ≤ s) × (s ≤ M.students) = I.range s (in_first wait) in
          lowest_tier M B (joined_state M B σ s rest c) c s r.0 r.1 (update_at σ.held s c s refl)

      joined_held : Held σ.interviews (update σ.held s c)
      joined_held = held_update σ.interviews σ.held s c I.held (λ l. came)

      lowest_came : interviewed σ.interviews lowest c ≡ true
      lowest_came = rw low.holder at (joined_held lowest (rw low.holder pos))

      -- who is dropped has no earlier stage
      no_earlier : M.stage s ≤ M.stage lowest
      no_earlier = worse_later M agree c s lowest (record { first = I.came s c came; second = I.came lowest c lowest_came }) low.tier

    move_orderly : (σ' : State) → Move M B σ s rest σ' → Orderly σ'
    unfolding close due
    move_orderly σ' (interviews empty met e) =
        rw e (record {
          kept = I.kept;
          came = λ t w v. cases t w v (I.came t w) (λ q m. rw q (due_matters w m));
          held = λ t l. interviewed_before σ.interviews _ t (σ.held t) (I.held t l);
          range = I.range;
          early = λ t w u v m. cases t w v (λ o. I.early t w u o m) (λ q n. rw q (hand_first u m));
          sorted = I.sorted;
        })
      where
        cases : {A : Type 0} (t w : ℕ) → interviewed (σ.interviews ++ interviews_with s (due M B σ s)) t w ≡ true
            → (interviewed σ.interviews t w ≡ true → A) → (t ≡ s → Mem w (due M B σ s) → A) → A
        cases t w v old new =
            ⊎_elim old (λ n. let r : (t ≡ s) × Mem w (due M B σ s) = interviewed_of s (due M B σ s) t w n in new r.0 r.1)
            (interviewed_or σ.interviews (interviews_with s (due M B σ s)) t w v)

        due_matters : (w : ℕ) → Mem w (due M B σ s) → matters M w s ≡ true
        due_matters w m =
            let e : (M.paired s w && (eqb (M.student_tier s w) (suc (σ.reached s)) && not (σ.deleted s w))) ≡ true =
            (keep_in _ (upto M.workshops) w m).0 in
            I.kept s w (and_left _ _ e) (not-true _ (and_right (eqb (M.student_tier s w) (suc (σ.reached s))) _ (and_right (M.paired s w) _ e)))
    move_orderly σ' (leaves x xs some z e) =
        rw e (record {
          kept = I.kept;
          came = I.came;
          held = I.held;
          range = λ t m. I.range t (in_wait t m);
          early = λ t w u v m. I.early t w u v (in_wait u m);
          sorted = in_order.1;
        })
    move_orderly σ' (sits x xs c some z fits e) =
        rw e (record {
          kept = λ t w p d. I.kept t w p (kept_before (joined_state M B σ s rest (suc c)) (suc c) t w d);
          came = I.came;
          held = joined_held (suc c) (best_came M B σ s x xs c some z) (omega arith);
          range = λ t m. I.range t (in_wait t m);
          early = λ t w u v m. I.early t w u v (in_wait u m);
          sorted = in_order.1;
        })
    move_orderly σ' (drops x xs c some z over e) =
        rw e (record {
          kept = λ t w p d. I.kept t w p (kept_before (hand_on M B σ (out ∷ rest) (update (update σ.held s (suc c)) out 0)) (suc c) t w d);
          came = I.came;
          held = held_update σ.interviews _ out 0 (joined_held (suc c) here_came (omega arith)) (λ l. absurd (omega arith));
          range = λ t m.
              ⊎_elim (λ (q : t ≡ out). rw q (low (suc c) here_came (omega arith)).range) (λ n. I.range t (in_wait t n)) (cases_cons m);
          early = λ t w u v m.
              ⊎_elim (λ (q : u ≡ out). omega (arith, I.early t w s v (in_first wait), no_earlier (suc c) here_came (omega arith), ap M.stage q))
              (λ n. I.early t w u v (in_wait u n))
              (cases_cons m);
          sorted = (λ t m. I.early out (suc c) t (lowest_came (suc c) here_came (omega arith)) (in_wait t m), in_order.1);
        })
      where
        here_came : interviewed σ.interviews s (suc c) ≡ true
        here_came = best_came M B σ s x xs c some z

        out : ℕ
        out = dropped M B σ s rest (suc c)

    move_from : (k : ℕ) (places : ℕ → ℕ) (σ' : State) → Move M B σ s rest σ' → From M k places σ → From M k places σ'
    unfolding close
    move_from k places σ' (interviews empty met e) F = rw e (record { waits = F.waits; stays = F.stays })
    move_from k places σ' (leaves x xs some z e) F = rw e (record { waits = λ t m. F.waits t (in_wait t m); stays = F.stays })
    move_from k places σ' (sits x xs c some z fits e) F =
        rw e (record {
          waits = λ t m. F.waits t (in_wait t m);
          stays = λ t l. update_off σ.held s (suc c) t (λ q. omega (arith, ap M.stage q, F.waits s (in_first wait))) ∙ F.stays t l;
        })
    move_from k places σ' (drops x xs c some z over e) F =
        rw e (record {
          waits = λ t m.
              ⊎_elim (λ (q : t ≡ out). omega (arith, F.waits s (in_first wait), later_out, ap M.stage q)) (λ n. F.waits t (in_wait t n)) (cases_cons m);
          stays = λ t l.
              update_off _ out 0 t (λ q. omega (arith, ap M.stage q, F.waits s (in_first wait), later_out))
              ∙ (update_off σ.held s (suc c) t (λ q. omega (arith, ap M.stage q, F.waits s (in_first wait)))
              ∙ F.stays t l);
        })
      where
        out : ℕ
        out = dropped M B σ s rest (suc c)

        later_out : M.stage s ≤ M.stage out
        later_out = no_earlier (suc c) (best_came M B σ s x xs c some z) (omega arith)

  -- ---- from the start to where the run with B stopped, and from there to the end of a run with B'
  module _ (agree : ConsistentStages M M.stage) (B : Results) (s w : ℕ) (vs : List Interview) (e : lazy_gale_shapley M B ≡ stopped s w vs) where
    stop : Last M B (start M B) (stopped s w vs)
    stop = lgs_last M B (stopped s w vs) (stopped_not_going s w vs) e

    stop_orderly : Orderly stop.state
    stop_orderly =
        along M B stop.state Orderly (λ σ σ' t rest q m r I. move_orderly agree B σ I t rest q σ' m) (start M B) stop.reached (start_orderly B)

    stop_from : From M (M.stage s) stop.state.held stop.state
    stop_from = from (step_stopped M B stop.state s w vs stop.answer)
      where
        from : Stops M B stop.state s w vs → From M (M.stage s) stop.state.held stop.state
        from h = record { waits = hand_first agree B stop.state stop_orderly s h.rest h.waiting; stays = λ t l. refl }

    -- whoever is of an earlier stage has what she had there
    settled_there : (B' : Results) → Extends B B' → (p' : ℕ → ℕ) (vs' : List Interview) → lazy_gale_shapley M B' ≡ finished p' vs'
        → (t : ℕ) → M.stage t < M.stage s → p' t ≡ stop.state.held t
    unfolding run
    settled_there B' X p' vs' e' t l = by_end (run_last M B' (suc on.0) stop.state (finished p' vs') (finished_not_going p' vs') (sym on.1 ∙ e'))
      where
        same : AgreeOn B.met B B'
        same =
            record {
              met = X.met;
              never = X.never;
              student = X.student;
              workshop = X.workshop;
              student_outside = X.student_outside;
              workshop_outside = X.workshop_outside;
            }

        on : (j : ℕ) × (lazy_gale_shapley M B' ≡ run M B' j (step M B' stop.state stop.state.waiting))
        on =
            lgs_same M B B' B.met same (stopped s w vs) (stopped_not_going s w vs) e stop
            (last_met M B stop.state stop.reached)

        by_end : Last M B' stop.state (finished p' vs') → p' t ≡ stop.state.held t
        by_end L =
            let f : Finishes M B' L.state p' vs' = step_finished M B' L.state p' vs' L.answer in
            let r : Orderly L.state × From M (M.stage s) stop.state.held L.state =
            along M B' L.state (λ σ. Orderly σ × From M (M.stage s) stop.state.held σ)
            (λ σ σ' u rest q m r k. (
              move_orderly agree B' σ k.0 u rest q σ' m,
              move_from agree B' σ k.0 u rest q (M.stage s) stop.state.held σ' m k.1,
            ))
            stop.state L.reached (stop_orderly, stop_from) in
            ap (λ p. p t) f.matching ∙ r.1.stays t l

  pub earlier_settled : EarlierSettled M
  earlier_settled agree B s w vs e B' B'' X' X'' p' p'' vs' vs'' e' e'' t l =
      settled_there agree B s w vs e B' X' p' vs' e' t l ∙ sym (settled_there agree B s w vs e B'' X'' p'' vs'' e'' t l)
