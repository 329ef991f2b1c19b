-- The rule ends: each step raises a student's tier, deletes a pair, or is the last for its student. The sum of what is left falls with every step,
-- and is below the fuel at the start.
use Prim.Native.Nat.{ℕ, zero, suc, ◌+◌, ◌-◌, ◌≤◌, ◌<◌}
use mathlib.Core.Path.{◌≡◌, refl, sym, ap, ◌∙◌}
use mathlib.Core.Logic.{⊎_elim}
use mathlib.Core.Bool.{Bool, true, false, not}
use mathlib.Core.List.{List, [], ◌∷◌, ◌++◌}
use native.Mathlib.Omega.{arith}
use native.Mathlib.Nat.{le_antisymm, le_refl}
use lib.Dec.{ltb}
use lib.ListN.{length}
use borrow.Author.Tests.{not-true}
use Rattle.base.specs.Lists.{count, total, update}
use Rattle.base.proofs.Tests.{never, bool_cases, eq?}
use Rattle.base.proofs.Members.{in_first, update_at, update_off}
use Rattle.base.proofs.Counting.{count_mono, count_less, count_le, total_le, total_less, total_apart}
use Rattle.lgs.specs.Market.{Market, Results, student_outside}
use Rattle.lgs.specs.Profiles.{Profile, seated, flip}
use Rattle.lgs.specs.Rule.{State, Step, going, stopped, finished, Interview, interviewed, open?, choices, due, advance, below, holders}
use Rattle.lgs.specs.Rule.{lowest_of, insert, by_stage, start, close, hand_on, step, run, fuel, lazy_gale_shapley}
use Rattle.lgs.proofs.Interviews.{interviews_with, with_interviews}
use Rattle.lgs.proofs.Sides.{real}
use Rattle.lgs.proofs.Setting.{Setting}
use Rattle.lgs.proofs.Invariant.{open_parts, unopened_possible, Seen, Chosen, Gone, seatless, beyond, taken, Inv}
use Rattle.lgs.proofs.Advance.{before_outside}
use Rattle.lgs.proofs.Choose.{best_chosen, best_open}
use Rattle.lgs.proofs.Lowest.{Lowest, not_below_rank}
use Rattle.lgs.proofs.Apply.{drop, drop_full, choosers₁, lowest_joined}
use Rattle.lgs.proofs.Close.{close_keeps, close_deletes, lowest_holder, Seating}
use Rattle.lgs.proofs.Moves.{IsGoing, stopped_not_going, finished_not_going, Move, interviews, leaves, sits, drops, moves, move_met}
use Rattle.lgs.proofs.Moves.{joined_state, dropped}
use Rattle.lgs.proofs.Trace.{run_answer}
use Rattle.lgs.proofs.Start.{start_inv}
use Rattle.lgs.proofs.Keeps.{move_keeps}

module _ (M : Market) (B : Results) where
  -- the tiers before a student, and the pairs left to her
  work : State → ℕ → ℕ
  work σ s = (student_outside M s - σ.reached s) + count (λ w. not (σ.deleted s w)) M.workshops

  size : State → ℕ
  size σ = total (work σ) M.students + length σ.waiting

  left_le : (d e : ℕ → Bool) → ((w : ℕ) → e w ≡ true → d w ≡ true) → count (λ w. not (d w)) M.workshops ≤ count (λ w. not (e w)) M.workshops
  left_le d e sub =
      count_mono (λ w. not (d w)) (λ w. not (e w)) M.workshops
      (λ w l u q. ⊎_elim (λ t. never (sub w t) (not-true _ q)) (λ f. rw f refl) (bool_cases (e w)))

  module _ (O : Profile) (E : Setting M B O B.met) (σ : State) (I : Inv M B O B.met σ) (s : ℕ) (rest : List ℕ) (wait : σ.waiting ≡ s ∷ rest) where
    work_le : (τ : State) (c : ℕ) → τ.deleted ≡ σ.deleted → τ.reached ≡ σ.reached → (t : ℕ) → work (close M B τ c) t ≤ work σ t
    unfolding work close
    work_le τ c ed er t =
        let l : count (λ w. not ((close M B τ c).deleted t w)) M.workshops ≤ count (λ w. not (σ.deleted t w)) M.workshops =
        left_le (λ w. (close M B τ c).deleted t w) (λ w. σ.deleted t w) (λ w d. close_keeps M B τ c t w (rw ed d)) in
        omega (arith, ap (λ f. student_outside M t - f t) er)

    -- who holds a seat, or has chosen one, is not deleted there
    holder_kept : (x c : ℕ) → 0 < c → σ.held x ≡ c → σ.deleted x c ≡ false
    holder_kept x c pos e = ⊎_elim (λ d. absurd (why (I.gone x c v.pair d))) (λ f. f) (bool_cases (σ.deleted x c))
      where
        k : Chosen M B O B.met σ x c
        k = rw e at (I.chosen x (rw e pos))

        v : Seen M B.met σ x c
        v = I.seen x c (k.real pos).0

        why : Gone M O σ x c → ⊥
        why (seatless z) = omega (arith, v.seats)
        why (beyond l) = omega (arith, v.outside)
        why (taken f a) = omega (arith, a x e)

    -- a dropped student loses the workshop
    module _ (c : ℕ) (pos : 0 < c) (k : Chosen M B O B.met σ s c) (open_c : open? M B σ s c ≡ true) (x : ℕ)
        (low : Lowest M B O B.met E σ (joined_state M B σ s rest c) c (λ y v. I.seen y c v) x)
        (over : M.quota c < seated M (update σ.held s c) c) where
      abbrev after : State
      after = hand_on M B σ (x ∷ rest) (update (update σ.held s c) x 0)

      pub x_came : interviewed σ.interviews x c ≡ true
      x_came = ((choosers₁ M B O B.met E σ I s rest wait c pos k x low.holder).real pos).0

      x_possible : B.never x c ≡ false
      x_possible = unopened_possible M B x c ((choosers₁ M B O B.met E σ I s rest wait c pos k x low.holder).real pos).1

      pub before_kept : σ.deleted x c ≡ false
      before_kept =
          ⊎_elim (λ (e : x ≡ s). rw e (open_parts M B σ s c open_c).kept)
          (λ off. holder_kept x c pos (sym (update_off σ.held s c x off) ∙ low.holder))
          (eq? x s)

      pub x_below : below M B after c x (lowest_of M B after c (holders M B after c)) ≡ true
      x_below =
          let S : Seating M B O B.met σ c (update (update σ.held s c) x 0) (x ∷ rest) = drop M B O B.met E σ I s rest wait c pos k x low in
          let f : seated M (update (update σ.held s c) x 0) c ≡ M.quota c = drop_full M B O B.met E σ I s rest wait c pos k x low over in
          other (lowest_of M B after c (holders M B after c)) (lowest_holder M B O B.met E σ I c pos _ _ S (omega (arith, S.seats)))
        where
          other : (l : ℕ) → Lowest M B O B.met E σ after c (λ y v. I.seen y c v) l → below M B after c x l ≡ true
          other l L =
              let lx : l ≡ x → ⊥ = λ q. omega (arith, L.holder, ap (update (update σ.held s c) x 0) q, update_at (update σ.held s c) x 0 x refl) in
              let lj : update σ.held s c l ≡ c = sym (update_off (update σ.held s c) x 0 l lx) ∙ L.holder in
              let lv : interviewed σ.interviews l c ≡ true = ((choosers₁ M B O B.met E σ I s rest wait c pos k l lj).real pos).0 in
              ⊎_elim (λ t. t)
              (λ t.
              absurd (lx (E.full.workshops.strict c l x (real (flip M.paired c) l (I.seen l c lv).pair)
              (real (flip M.paired c) x (I.seen x c x_came).pair)
              (le_antisymm (low.low l lj) (not_below_rank M B O B.met E σ after c (λ y v. I.seen y c v) x l x_came lv x_possible t)))))
              (bool_cases (below M B after c x l))

      drop_work : work (close M B after c) x < work σ x
      unfolding work close
      drop_work =
          let f : seated M (update (update σ.held s c) x 0) c ≡ M.quota c = drop_full M B O B.met E σ I s rest wait c pos k x low over in
          let r : (1 ≤ c) × (c ≤ M.workshops) = E.wf.workshop x c (I.seen x c x_came).pair in
          let d : (close M B after c).deleted x c ≡ true = close_deletes M B after c x f x_below in
          let l : count (λ w. not ((close M B after c).deleted x w)) M.workshops < count (λ w. not (σ.deleted x w)) M.workshops =
          count_less (λ w. not ((close M B after c).deleted x w)) (λ w. not (σ.deleted x w)) M.workshops c
          (λ w a b q. ⊎_elim (λ t. never (close_keeps M B after c x w t) (not-true _ q)) (λ z. rw z refl) (bool_cases (σ.deleted x w)))
          r.0 r.1 (ap not before_kept) (ap not d) in
          omega arith

    -- the next tier is one tier less to go
    module _ (empty : choices M B σ s ≡ []) (vs : List Interview) where
      abbrev ahead : State
      ahead = with_interviews (advance M B σ s) vs

      ahead_le : (t : ℕ) → work ahead t ≤ work σ t
      unfolding work
      ahead_le t =
          ⊎_elim (λ (e : t ≡ s). omega (arith, update_at σ.reached s (suc (σ.reached s)) t e, ap σ.reached e))
          (λ off. omega (arith, update_off σ.reached s (suc (σ.reached s)) t off))
          (eq? t s)

      ahead_less : work ahead s < work σ s
      unfolding work
      ahead_less = omega (arith, update_at σ.reached s (suc (σ.reached s)) s refl, before_outside M B O B.met E σ I s rest wait empty)

    move_size : (σ' : State) → Move M B σ s rest σ' → size σ' < size σ
    unfolding size work close
    move_size σ' (interviews empty met e) =
        rw e (omega (
          arith,
          total_less (work (ahead empty (σ.interviews ++ interviews_with s (due M B σ s)))) (work σ) M.students s
              (I.range s (in_first wait)).0 (I.range s (in_first wait)).1
              (ahead_le empty (σ.interviews ++ interviews_with s (due M B σ s))) (ahead_less empty (σ.interviews ++ interviews_with s (due M B σ s))),
        ))
    move_size σ' (leaves x xs some z e) =
        rw e (omega (arith, ap length wait, total_le (work (hand_on M B σ rest σ.held)) (work σ) M.students (λ t. le_refl (work σ t))))
    move_size σ' (sits x xs c some z fits e) =
        rw e (omega (
          arith,
          ap length wait,
          total_le (work (close M B (joined_state M B σ s rest (suc c)) (suc c))) (work σ) M.students
              (work_le (joined_state M B σ s rest (suc c)) (suc c) refl refl),
        ))
    move_size σ' (drops x xs c some z over e) =
        rw e (omega (
          arith,
          ap length wait,
          total_less (work (close M B (after (suc c) (omega arith) k o y low over) (suc c))) (work σ) M.students y
              r.0 r.1 (work_le (after (suc c) (omega arith) k o y low over) (suc c) refl refl)
              (drop_work (suc c) (omega arith) k o y low over),
        ))
      where
        k : Chosen M B O B.met σ s (suc c)
        k = rw z at (best_chosen M B O B.met E σ I s x xs some)

        o : open? M B σ s (suc c) ≡ true
        o = rw z at (best_open M B O B.met E σ I s x xs some (rw z (omega arith)))

        y : ℕ
        y = dropped M B σ s rest (suc c)

        low : Lowest M B O B.met E σ (joined_state M B σ s rest (suc c)) (suc c) (λ y v. I.seen y (suc c) v) y
        low = lowest_joined M B O B.met E σ I s rest wait (suc c) (omega arith) k

        r : (1 ≤ y) × (y ≤ M.students)
        r =
            E.wf.student y (suc c)
            (I.seen y (suc c) ((choosers₁ M B O B.met E σ I s rest wait (suc c) (omega arith) k y low.holder).real (omega arith)).0).pair

  module _ (O : Profile) (E : Setting M B O B.met) where
    -- an answer is not a step to come
    still : (k : ℕ) (x : Step) (τ : State) → (IsGoing x → ⊥) → run M B k x ≡ going τ → ⊥
    still k x τ n e = n (τ, sym (run_answer M B k x n) ∙ e)

    -- enough fuel leaves no step to come
    run_ends : (k : ℕ) (σ : State) → Inv M B O B.met σ → size σ < k → (τ : State) → run M B k (going σ) ≡ going τ → ⊥
    unfolding run step
    run_ends zero σ I l τ e = omega arith
    run_ends (suc k) σ I l τ e = by_waiting σ.waiting refl (λ σ' J l' f. run_ends k σ' J l' τ f) e
      where
        by_step : (s : ℕ) (rest : List ℕ) → σ.waiting ≡ s ∷ rest → (x : Step) → step M B σ (s ∷ rest) ≡ x
            → ((σ' : State) → Inv M B O B.met σ' → size σ' < k → run M B k (going σ') ≡ going τ → ⊥) → run M B k x ≡ going τ → ⊥
        by_step s rest w (going σ') g more f =
            let m : Move M B σ s rest σ' = moves M B σ s rest σ' g in
            more σ' (move_keeps M B O B.met E σ σ' I s rest w (move_met M B σ s rest σ' m (λ t d v. (I.seen t d v).seen)) m)
            (omega (arith, move_size O E σ I s rest w σ' m)) f
        by_step s rest w (stopped t d us) g more f = still k (stopped t d us) τ (stopped_not_going t d us) f
        by_step s rest w (finished q us) g more f = still k (finished q us) τ (finished_not_going q us) f

        by_waiting : (l : List ℕ) → σ.waiting ≡ l → ((σ' : State) → Inv M B O B.met σ' → size σ' < k → run M B k (going σ') ≡ going τ → ⊥)
            → run M B k (step M B σ l) ≡ going τ → ⊥
        by_waiting [] w more f = still k (finished σ.held σ.interviews) τ (finished_not_going σ.held σ.interviews) f
        by_waiting (s ∷ rest) w more f = by_step s rest w (step M B σ (s ∷ rest)) refl more f

    insert_length : (s : ℕ) (ts : List ℕ) → length (insert M.stage s ts) ≡ suc (length ts)
    unfolding insert
    insert_length s [] = refl
    insert_length s (t ∷ ts) =
        ⊎_elim (λ (e : ltb (M.stage s) (M.stage t) ≡ true). rw e) (λ (e : ltb (M.stage s) (M.stage t) ≡ false). rw e (ap suc (insert_length s ts)))
        (bool_cases (ltb (M.stage s) (M.stage t)))

    pub staged_length : (n : ℕ) → length (by_stage M.stage n) ≡ n
    unfolding by_stage
    staged_length zero = refl
    staged_length (suc n) = insert_length (suc n) (by_stage M.stage n) ∙ ap suc (staged_length n)

    start_size : size (start M B) < fuel M B
    unfolding size work start fuel
    start_size =
        omega (
          arith,
          staged_length M.students,
          total_apart (work (start M B)) (λ s. 2 + student_outside M s + M.workshops) M.students
              (λ s. omega (arith, count_le (λ w. not ((start M B).deleted s w)) M.workshops)),
        )

    -- the run answers
    pub run_answers : (τ : State) → lazy_gale_shapley M B ≡ going τ → ⊥
    unfolding lazy_gale_shapley
    run_answers τ e = run_ends (fuel M B) (start M B) (start_inv M B O B.met E) start_size τ e
