-- From what a run asks, through its turns, to what it leaves: the run can be taken (`turn_ready`, `hand_within`, `run_ends`), what it leaves can be read
-- (`can_read_lem`), and the answer and the buffers are those of the staged rule (`ran`). A call that passes the test can run
-- (`runnable`), and its answer is the run's, or the refusal (`answered_ran`, `answered_refused`).
use Prim.Native.Nat.{ℕ, suc, ◌*◌, ◌-◌, ◌≤◌, ◌<◌}
use mathlib.Core.Path.{◌≡◌, refl, sym, ap, ◌∙◌, subst}
use mathlib.Core.Bool.{true, false}
use mathlib.Core.List.{List, map}
use Rattle.std.specs.Prelude.{Some, None, Result, Ok, Err}
use native.Mathlib.Omega.{arith}
use lib.Dec.{eqb}
use lib.ListN.{length, get_or, replicate}
use borrow.Author.Tests.{eq-eqb, ne_eqb}
use Rattle.base.specs.Lists.{upto}
use Rattle.lgs.specs.Market.{Market, Results}
use Rattle.lgs.specs.Rule.{Interview, fuel, lazy_gale_shapley}
use Rattle.lgs.specs.Fares.{fares_of}
use Rattle.lgs.specs.Promises.{pairs_in}
use Rattle.format.specs.Layout.{rows, market_of}
use Rattle.format.specs.Refusals.{Room, refusal}
use Rattle.format.specs.Engine.{placed, next, engine, market_in, results_in, rule_outcome, Outcome, outcome_of, outcome_unless}
use Rattle.format.specs.Buffers.{with_head, places_after, visits_after}
use Rattle.format.proofs.Causes.{refusal_none}
use Rattle.format.proofs.Runs.{wf, distinct}
use Rattle.format.proofs.PairCount.{pairs_within}
use Rattle.format.proofs.Fares.{pairs_few}
use Rattle.format.proofs.Heads.{head_none, head_long}
use Rattle.format.proofs.Promises.{promised}
use Rattle.api.specs.declared.StudentState.{StudentState}
use Rattle.api.specs.Answered.{zero_state, room_of, lent, Answered}
use Rattle.api.specs.declared.Answer.{Answer}
use Rattle.api.specs.declared.Refusal.{Refusal}
use Rattle.api.proofs.Causes.{engine_tabled}
use Rattle.api.specs.Answers.{answer_for, values_of}
use Rattle.api.specs.Causes.{refusal_for}
use Rattle.api.proofs.Text.{values_same}
use Rattle.model.specs.declared.Run.{Run}
use Rattle.model.specs.Turn.{begin_run, run_of}
use Rattle.model.specs.Ready.{Ready}
use Rattle.model.proofs.Shows.{Lacking, Stand, Payable}
use Rattle.model.proofs.Running.{stands, Ends, stops, finishes, Finished, ends_hand, run_ready, run_is_rule}
use Rattle.case_tests.specs.declared.Counts.{Counts}
use Rattle.lookup.specs.Clean.{Clean}
use Rattle.case_tests.proofs.Cases.{as_refused, as_clean}
use Rattle.book_tests.specs.Index.{index_after}
use Rattle.answering.specs.Finish.{to_place, held_at, places_held, CanRead, answer_end}
use Rattle.answering.specs.Call.{TestedInput, Runnable, Ran}
use Rattle.answering.proofs.Places.{head_same}
use Rattle.answering.proofs.Cleaning.{Enough, enough}

abbrev pub Kept : Type 0
Kept = List ℕ × (List ℕ × (List StudentState × Run))

-- ---- the run
module _ (case book index table places visits seats : List ℕ) (states n m : ℕ) (clean : Clean case book index table n m)
    (go : Runnable case book index places visits seats states) where
  abbrev M : Market
  M = market_in case

  abbrev B : Results
  B = results_in book

  abbrev room : Room
  room = room_of (length places) (length visits) (length seats) (length index) states

  abbrev zeros : List StudentState
  zeros = replicate states zero_state

  -- the visits, the seats, the states and the run after k turns
  abbrev pub after : ℕ → Kept
  after k = run_of M B k visits seats zeros (begin_run M B)

  abbrev hand : Kept → ℕ
  hand σ = σ.1.1.1.hand

  long : Enough case room
  long = enough case book room go.valid

  few : M.workshops ≤ 64
  few = omega (arith, clean.many_workshops, clean.workshops)

  fits : 2 * pairs_in M M.paired ≤ length visits
  unfolding market_of
  fits = omega (arith, pairs_within (rows case), long.visits)

  payable : Payable M
  payable =
      record {
        few = pairs_few M (omega (arith, clean.many_students, clean.students)) few;
        small = clean.fare;
      }

  begins : (j : ℕ) → after j ≡ run_of M B j visits (replicate (length seats) 0) zeros (begin_run M B)
  begins j = ap (λ (l : List ℕ). run_of M B j visits l zeros (begin_run M B)) go.free

  abbrev stand : ℕ → Stand
  stand j =
      stands M (wf case book room go.valid) B (distinct case book room go.valid) few visits fits payable (length seats) states long.seats
      long.states j

  ready_here : (j : ℕ) → 0 < (stand j).run.hand
      → Ready M B (stand j).visits (stand j).seats (get_or (stand j).states ((stand j).run.hand - 1) zero_state) (stand j).run
      × ((stand j).run.hand ≤ length (stand j).states)
  ready_here j = run_ready M (wf case book room go.valid) B (distinct case book room go.valid) few visits fits payable (length seats) states
      long.seats long.states j

  ends_here : Ends M B visits (stand (fuel M B))
  ends_here = run_is_rule M (wf case book room go.valid) B (distinct case book room go.valid) few visits fits payable (length seats) states
      long.seats long.states

  -- ---- it can be taken
  pub turn_ready : (j : ℕ) → 0 < hand (after j) → Ready M B (after j).0 (after j).1.0 (get_or (after j).1.1.0 (hand (after j) - 1) zero_state) (after j).1.1.1
  turn_ready j pos =
      subst (λ (σ : Kept). Ready M B σ.0 σ.1.0 (get_or σ.1.1.0 (hand σ - 1) zero_state) σ.1.1.1) (sym (begins j))
      (ready_here j (subst (λ (σ : Kept). 0 < hand σ) (begins j) pos)).0

  pub hand_within : (j : ℕ) → 0 < hand (after j) → hand (after j) ≤ length (after j).1.1.0
  hand_within j pos =
      subst (λ (σ : Kept). hand σ ≤ length σ.1.1.0) (sym (begins j)) (ready_here j (subst (λ (σ : Kept). 0 < hand σ) (begins j) pos)).1

  pub run_ends : hand (after (fuel M B)) ≡ 0
  run_ends = ap hand (begins (fuel M B)) ∙ ends_hand M B visits (stand (fuel M B)) ends_here

  -- ---- and finished
  module _ (visits₂ seats₂ : List ℕ) (states₂ : List StudentState) (r : Run) (taken : (visits₂, (seats₂, (states₂, r))) ≡ after (fuel M B)) where
    -- what the run has left
    left : Ends M B visits (record { visits = visits₂; seats = seats₂; states = states₂; run = r })
    left =
        subst (λ (σ : Kept). Ends M B visits (record { visits = σ.0; seats = σ.1.0; states = σ.1.1.0; run = σ.1.1.1 }))
        (sym (taken ∙ begins (fuel M B))) ends_here

    -- the answer, the places and the visits are those of a
    record Left (a : Outcome) : Type 0 where
      answer : Ok (answer_end r) ≡ answer_for a
      can_read : CanRead states₂ places (to_place r n)
      in_places : places_held (to_place r n) states₂ places ≡ places_after a places
      in_visits : visits₂ ≡ visits_after a visits

    when_stopped : (s w : ℕ) (vs : List Interview) → Lacking M visits s w vs
        (record { visits = visits₂; seats = seats₂; states = states₂; run = r }) → Left (next s w vs (fares_of M vs))
    unfolding answer_end to_place answer_for places_after visits_after
    when_stopped s w vs l =
        let y : eqb r.workshop 0 ≡ false = ne_eqb r.workshop 0 (λ q. omega (arith, l.workshop, l.real)) in
        record {
          answer = rw (y, l.student, l.workshop, l.count, l.fares);
          can_read = rw y (record { many_states = omega arith; many_places = omega arith; small = λ i l. absurd (omega arith) });
          in_places = rw y (sym (head_none (held_at states₂) places));
          in_visits = l.visits;
        }

    when_finished : (q : ℕ → ℕ) (vs : List Interview) → Finished M B visits q vs (record { visits = visits₂; seats = seats₂; states = states₂; run = r })
        → Left (placed (map q (upto M.students)) vs (fares_of M vs))
    unfolding answer_end to_place answer_for places_after visits_after
    when_finished q vs f =
        let y : eqb r.workshop 0 ≡ true = eq-eqb r.workshop 0 f.workshop in
        record {
          answer = rw (y, f.count, f.fares);
          can_read = rw y (record {
            many_states = omega (arith, f.states, clean.students);
            many_places = omega (arith, long.places, clean.students);
            small = λ i l. omega (arith, place i (omega (arith, l, clean.students)), f.within (suc i), few);
          });
          in_places = rw (y, ← clean.students) (ap (λ (l : List ℕ). with_head l places) (head_same (held_at states₂) q M.students place));
          in_visits = f.visits;
        }
      where
        place : (i : ℕ) → i < M.students → held_at states₂ i ≡ q (suc i)
        place i l = ap (λ (j : ℕ). held_at states₂ j) (omega arith) ∙ f.held (suc i) (omega arith) (omega arith)

    outcome : Left (rule_outcome M B)
    unfolding rule_outcome outcome_of
    outcome = by_end left
      where
        by_end : Ends M B visits (record { visits = visits₂; seats = seats₂; states = states₂; run = r }) → Left (outcome_of M (lazy_gale_shapley M B))
        by_end (stops s w vs rule l) = subst Left (sym (ap (outcome_of M) rule)) (when_stopped s w vs l)
        by_end (finishes q vs rule f) = subst Left (sym (ap (outcome_of M) rule)) (when_finished q vs f)

    pub can_read_lem : CanRead states₂ places (to_place r n)
    can_read_lem = outcome.can_read

    pub places_long : length (places_held (to_place r n) states₂ places) ≡ length places
    places_long = head_long (held_at states₂) (to_place r n) places can_read_lem.many_places

    pub ran : (a : Answer) (seats₃ places₃ : List ℕ) → a ≡ answer_end r → places₃ ≡ places_held (to_place r n) states₂ places → seats₃ ≡ replicate (length
        seats) 0
        → Ran case book places visits seats a places₃ visits₂ seats₃
    ran a seats₃ places₃ ea ep es =
        record { answer = ap Ok ea ∙ outcome.answer; in_places = ep ∙ outcome.in_places; in_visits = outcome.in_visits; in_seats = es }

-- ---- the call
module _ (case book places visits seats index : List ℕ) (states : List StudentState) (c : Result Counts Refusal) (seats₁ index₁ table₁ : List ℕ)
    (tested : TestedInput case book (lent case book places visits seats index states) c seats₁ index₁ table₁) where
  -- the room of the call
  abbrev lengths : Room
  lengths = lent case book places visits seats index states

  -- what is left is that of the outcome
  record Leaves (a : Result Answer Refusal) (places₃ visits₃ : List ℕ) : Type 0 where
    answer : a ≡ answer_for (engine case book lengths)
    in_places : places₃ ≡ places_after (engine case book lengths) places
    in_visits : visits₃ ≡ visits_after (engine case book lengths) visits

  whole : (a : Result Answer Refusal) (places₃ visits₃ seats₃ index₃ : List ℕ) → Leaves a places₃ visits₃ → seats₃ ≡ replicate (length seats) 0
      → index₃ ≡ replicate (length index) 0
      → Answered case book places visits seats index states a places₃ visits₃ seats₃ index₃ (replicate (length states) zero_state)
  whole a places₃ visits₃ seats₃ index₃ l es ei =
      record {
        answer = l.answer;
        values = ap values_of l.answer ∙ values_same (engine case book lengths) (engine_tabled case book lengths);
        in_places = l.in_places;
        in_visits = l.in_visits;
        in_seats = es;
        in_index = ei;
        in_states = refl;
        promised = promised case book lengths;
      }

  -- a refusal
  by_refusal : (q : ℕ × ℕ) → refusal case book lengths ≡ Some q
      → (Err (refusal_for q.0 q.1) ≡ answer_for (engine case book lengths)) × (places ≡ places_after (engine case book lengths) places)
      × (visits ≡ visits_after (engine case book lengths) visits)
      × (index_after (refusal case book lengths) case book (length index) ≡ replicate (length index) 0)
  unfolding engine outcome_unless answer_for places_after visits_after
  by_refusal q o = rw o (refl, refl, refl, refl)

  pub answered_refused : (r : Refusal) → c ≡ Err r
      → Answered case book places visits seats index states (Err r) places visits seats₁ index₁ (replicate (length states) zero_state)
  answered_refused r e =
      let o = as_refused case (refusal case book lengths) r (sym e ∙ tested.answer) in
      let left = by_refusal o.0 o.1 in
      whole (Err r) places visits seats₁ index₁ (record { answer = ap Err o.2 ∙ left.0; in_places = left.1; in_visits = left.2 }) tested.free
      (tested.left ∙ left.3)

  -- the input passes
  module _ (k : Counts) (e : c ≡ Ok k) where
    passed : (refusal case book lengths ≡ None) × (k.students ≡ (market_in case).students) × (k.workshops ≡ (market_in case).workshops)
    passed = let p = as_clean case (refusal case book lengths) k (sym e ∙ tested.answer) in (p.0, p.1, p.2)

    pub cleaned : Clean case book index₁ table₁ k.students k.workshops
    cleaned = rw (passed.1, passed.2) (tested.clean passed.0)

    -- what the test leaves is what a run asks: the input is clean, and it can be run
    pub runnable : length seats₁ ≡ length seats → length index₁ ≡ length index
        → Clean case book index₁ table₁ k.students k.workshops × Runnable case book index₁ places visits seats₁ (length states)
    runnable es ei = (
      cleaned,
      record {
        valid = rw (es, ei) (refusal_none case book lengths passed.0);
        free = tested.free ∙ ap (λ (j : ℕ). replicate {A = ℕ} j 0) (sym es);
      },
    )

    -- and the run's answer is the call's
    pub answered_ran : (a : Answer) (places₃ visits₃ seats₃ index₃ : List ℕ) → length seats₁ ≡ length seats
        → Ran case book places visits seats₁ a places₃ visits₃ seats₃ → index₃ ≡ replicate (length index) 0
        → Answered case book places visits seats index states (Ok a) places₃ visits₃ seats₃ index₃ (replicate (length states) zero_state)
    unfolding engine outcome_unless
    answered_ran a places₃ visits₃ seats₃ index₃ es r ei =
        whole (Ok a) places₃ visits₃ seats₃ index₃ left' (r.in_seats ∙ ap (λ (j : ℕ). replicate {A = ℕ} j 0) es) ei
      where
        by_rule : engine case book lengths ≡ rule_outcome (market_in case) (results_in book)
        by_rule = rw passed.0

        left' : Leaves (Ok a) places₃ visits₃
        left' = record { answer = rw by_rule r.answer; in_places = rw by_rule r.in_places; in_visits = rw by_rule r.in_visits }
