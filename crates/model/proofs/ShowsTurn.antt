-- A turn on the buffers is the machine's turn: what they show afterwards is where the machine stands, or the interview that it lacks. The
-- proof goes through the cases of a turn.
use Prim.Native.Nat.{ℕ, zero, suc, ◌+◌, ◌*◌, ◌-◌, ◌^◌, ◌≤◌, ◌<◌}
use mathlib.Core.Path.{◌≡◌, refl, sym, subst, ap, ◌∙◌}
use mathlib.Core.Logic.{⊎_elim}
use mathlib.Core.Bool.{Bool, true, false, not, cond, ◌&&◌}
use mathlib.Core.List.{List, [], ◌∷◌, ◌++◌}
use mathlib.Core.List.Memᴰ.{not-nil}
use mathlib.Core.List.{Memᴰ as Mem}
use native.Mathlib.Omega.{arith}
use native.Mathlib.Nat.{pos_of_ne-zero}
use lib.Dec.{eqb}
use lib.ListN.{length, get_or, set, length-append, length-set}
use lib.Seq.{get_or-set_same, get_or-set_other}
use borrow.Author.Tests.{eqb-true, eqb-false, eq-eqb, ne_eqb, not-true}
use Rattle.base.specs.Lists.{upto, keep, update, cons_if}
use Rattle.base.specs.Bits.{member, members}
use Rattle.lgs.specs.Market.{Market, Results, student_outside, seats_of}
use Rattle.lgs.specs.Rule.{best}
use Rattle.lgs.specs.Fares.{fares_of}
use Rattle.format.specs.Buffers.{flat, with_head}
use Rattle.api.specs.declared.StudentState.{StudentState}
use Rattle.model.specs.Model.{Machine, Turn, on, lacks, done, push, due_now, options, held, missing, round, opens, answers, applies, acts, take_turn}
use Rattle.model.specs.Store.{part, put_part, push_padded}
use Rattle.model.specs.Turn.{Left, put_at, told_state, RoundSoFar, round_to, favourite_in, after_round, after_seating, open_tier, apply_to, turn_of}
use Rattle.api.specs.Answered.{zero_state}
use Rattle.base.proofs.Tests.{is_false, and_left, and_right, eq?}
use Rattle.lgs.proofs.Fares.{fares_append}
use Rattle.base.proofs.Members.{cons_if_in, in_front, keep_in, update_at, update_off}
use Rattle.model.proofs.Seats.{push_fits}
use Rattle.model.proofs.Tied.{top_pick}
use Rattle.model.proofs.Loop.{Safe}
use Rattle.model.proofs.Stages.{Waits, over, holds, Coming, taken}
use Rattle.model.proofs.Parts.{padded, push_padded_lem, stored_put}
use Rattle.model.proofs.Openings.{card_of, told_small, members_inside, members_none, members_some}
use Rattle.model.proofs.Rounds.{so_far, round_to_lem, round_small}
use Rattle.model.proofs.Shows.{Stand, Shows, Lacking, head_more, state_at, same_dues, in_range, told_shown, opening_booked}

-- a turn of the student in hand
abbrev pub one_turn : Market → Results → Stand → Stand
one_turn M B x =
    let o = turn_of M B x.visits x.seats (state_at x.states x.run.hand) x.run in
    record { visits = o.visits; seats = o.seats; states = set x.states (x.run.hand - 1) o.turned.state; run = o.turned.run }

-- what the buffers show after a turn
abbrev pub Follows : (M : Market) (old : List ℕ) (x : Stand) → Turn → Type 0
Follows M old x (on m) = Shows M old m x
Follows M old x (lacks s w vs) = Lacking M old s w vs x
Follows M old x (done p vs) = ⊥

module _ (M : Market) (B : Results) (old : List ℕ) (fits : M.workshops ≤ 64) (m : Machine) (x : Stand) (S : Safe M B m) (W : Shows M old m x)
    (rest : List ℕ) (wait : m.waiting ≡ x.run.hand ∷ rest) where
  abbrev hand : ℕ
  hand = x.run.hand

  abbrev state : StudentState
  state = told_state x.run.lost (state_at x.states hand)

  range : (1 ≤ hand) × (hand ≤ M.students)
  range = in_range M B old fits m x S W rest wait

  coming : (x.run.last ≤ M.students) × Coming M.stage M.students x.run.last rest
  coming = by_waits m.waiting wait W.waits
    where
      by_waits : (l : List ℕ) → l ≡ hand ∷ rest → Waits M.stage M.students hand x.run.last l
          → (x.run.last ≤ M.students) × Coming M.stage M.students x.run.last rest
      by_waits [] e (over z) = absurd (omega (arith, range))
      by_waits (h ∷ ws) e (holds {rest = ws'} p l c) = let q : ws' ≡ rest = cc in (l, subst (Coming M.stage M.students x.run.last) q c)

  -- her new state is written, and the others stay
  module _ (k : StudentState) (ok : k.openings < 2 ^ 64) where
    abbrev written : List StudentState
    written = set x.states (hand - 1) k

    state_mine : (t : ℕ) → t ≡ hand → state_at written t ≡ k
    state_mine t e = ap (λ i. get_or written (i - 1) zero_state) e ∙ get_or-set_same x.states (hand - 1) k zero_state (omega (arith, W.states, range))

    state_other : (t : ℕ) → 1 ≤ t → (t ≡ hand → ⊥) → state_at written t ≡ state_at x.states t
    state_other t l ne = get_or-set_other x.states (hand - 1) (t - 1) k zero_state (λ q. ne (omega (arith, range)))

    card_at : (t : ℕ) → 1 ≤ t → t ≤ M.students → update m.cards hand (card_of k) t ≡ card_of (state_at written t)
    card_at t l u =
        ⊎_elim (λ (e : t ≡ hand). update_at m.cards hand (card_of k) t e ∙ ap card_of (sym (state_mine t e)))
        (λ ne. update_off m.cards hand (card_of k) t ne ∙ W.card t l u ∙ ap card_of (sym (state_other t l ne)))
        (eq? t hand)

    small_at : (t : ℕ) → 1 ≤ t → t ≤ M.students → (state_at written t).openings < 2 ^ 64
    small_at t l u = ⊎_elim (λ (e : t ≡ hand). rw (state_mine t e) ok) (λ ne. rw (state_other t l ne) (W.small t l u)) (eq? t hand)

    long_still : M.students ≤ length written
    long_still = omega (arith, W.states, length-set x.states (hand - 1) k)

  state_small : state.openings < 2 ^ 64
  state_small = told_small x.run.lost (state_at x.states hand) (W.small hand range.0 range.1)

  -- the stand that a turn leaves
  abbrev after : Left M B → Stand
  after o = record { visits = o.visits; seats = o.seats; states = set x.states (hand - 1) o.turned.state; run = o.turned.run }

  -- ---- she is done without a place
  leaves : Follows M old (after (apply_to M B x.visits x.seats state x.run 0)) (applies M B m hand rest (card_of state) 0)
  unfolding apply_to applies
  leaves =
      record {
        stored = W.stored;
        states = long_still state state_small;
        card = card_at state state_small;
        small = small_at state state_small;
        visits = W.visits;
        count = W.count;
        fares = W.fares;
        waits = taken M.stage M.students x.run.last rest coming.1;
        lost = refl;
        dropper = omega arith;
        workshop = refl;
      }

  -- ---- she applies to workshop c
  module _ (c : ℕ) (l : 1 ≤ suc c) (u : suc c ≤ M.workshops) where
    abbrev zs : List ℕ
    zs = (push M B (suc c) (seats_of M (suc c)) hand (m.seats (suc c))).0

    abbrev held_state : StudentState
    held_state = record { reached = state.reached; held = suc c; openings = state.openings }

    abbrev seated : List ℕ
    seated = put_part M x.seats (suc c) (padded (seats_of M (suc c)) zs)

    same_push : ((push_padded M B (suc c) hand (part M x.seats (suc c))).0 ≡ padded (seats_of M (suc c)) zs)
        × ((push_padded M B (suc c) hand (part M x.seats (suc c))).1 ≡ (push M B (suc c) (seats_of M (suc c)) hand (m.seats (suc c))).1)
    same_push =
        rw (W.stored.parts (suc c) l u)
        (push_padded_lem M B (suc c) (seats_of M (suc c)) hand (m.seats (suc c)) (S.seats (suc c) l) (λ y k. (S.seated (suc c) y l k).student.0))

    -- the workshop answers: z is dropped, or 0
    answered : (z : ℕ) → Follows M old
        (record { visits = x.visits; seats = seated; states = set x.states (hand - 1) held_state; run = after_seating M B x.run (suc c) z })
        (answers M B m hand rest (card_of state) (suc c) zs z)
    unfolding answers after_seating
    answered zero =
        record {
          stored = stored_put M x.seats m.seats W.stored (suc c) l u zs (push_fits M B (suc c) (seats_of M (suc c)) hand (m.seats (suc c)));
          states = long_still held_state state_small;
          card = card_at held_state state_small;
          small = small_at held_state state_small;
          visits = W.visits;
          count = W.count;
          fares = W.fares;
          waits = taken M.stage M.students x.run.last rest coming.1;
          lost = refl;
          dropper = omega arith;
          workshop = refl;
        }
    answered (suc z) =
        rw (ne_eqb (suc z) 0 (λ q. omega arith))
        (record {
          stored = stored_put M x.seats m.seats W.stored (suc c) l u zs (push_fits M B (suc c) (seats_of M (suc c)) hand (m.seats (suc c)));
          states = long_still held_state state_small;
          card = card_at held_state state_small;
          small = small_at held_state state_small;
          visits = W.visits;
          count = W.count;
          fares = W.fares;
          waits = holds (omega arith) coming.0 coming.1;
          lost = refl;
          dropper = u;
          workshop = refl;
        })

    applied : Follows M old (after (apply_to M B x.visits x.seats state x.run (suc c))) (applies M B m hand rest (card_of state) (suc c))
    unfolding apply_to applies
    applied = rw (same_push.0, same_push.1) (answered (push M B (suc c) (seats_of M (suc c)) hand (m.seats (suc c))).1)

  -- ---- she goes to her next tier
  abbrev o : RoundSoFar
  o = round_to M B x.seats hand (suc state.reached) state.openings M.workshops

  -- the interviews listed and what they cost, after the round
  more_visits : put_at (2 * x.run.count) (flat o.interviews) x.visits ≡ with_head (flat (m.interviews ++ o.interviews)) old
  more_visits = rw W.visits (head_more m.interviews o.interviews x.run.count old W.count)

  more_count : x.run.count + length o.interviews ≡ length (m.interviews ++ o.interviews)
  more_count = omega (arith, W.count, length-append m.interviews o.interviews)

  more_fares : x.run.fares + fares_of M o.interviews ≡ fares_of M (m.interviews ++ o.interviews)
  more_fares = omega (arith, W.fares, fares_append M m.interviews o.interviews)

  by_missing : (b : Bool) → eqb o.missing 0 ≡ b
      → Follows M old (after (open_tier M B x.visits x.seats state x.run))
      (opens M B m hand rest (card_of state)
      (cond b (held (m.interviews ++ o.interviews) (member o.openings)) (missing o.missing (m.interviews ++ o.interviews))))
  unfolding open_tier opens after_round
  by_missing true e =
      rw e
      (record {
        stored = W.stored;
        states = long_still new_state new_small;
        card = card_at new_state new_small;
        small = small_at new_state new_small;
        visits = more_visits;
        count = more_count;
        fares = more_fares;
        waits = holds range.0 coming.0 coming.1;
        lost = refl;
        dropper = omega arith;
        workshop = refl;
      })
    where
      new_state : StudentState
      new_state = record { reached = suc state.reached; held = state.held; openings = o.openings }

      new_small : o.openings < 2 ^ 64
      new_small = round_small M B hand x.seats (suc state.reached) state.openings m.interviews M.workshops fits state_small
  by_missing false e =
      rw e
      (record {
        hand = refl;
        student = refl;
        workshop = refl;
        real = pos_of_ne-zero (eqb-false _ _ e);
        count = more_count;
        fares = more_fares;
        visits = more_visits;
      })

  opened : Follows M old (after (open_tier M B x.visits x.seats state x.run))
      (opens M B m hand rest (card_of state) (round M B hand (due_now M B m.seats (card_of state) hand) m.interviews (card_of state).bits))
  opened =
      subst (λ r. Follows M old (after (open_tier M B x.visits x.seats state x.run)) (opens M B m hand rest (card_of state) r)) (sym same_round)
      (by_missing (eqb o.missing 0) refl)
    where
      same_round : round M B hand (due_now M B m.seats (card_of state) hand) m.interviews (member state.openings) ≡ so_far M B hand m.interviews o
      same_round =
          ap (λ l. round M B hand l m.interviews (member state.openings)) (sym (same_dues M B old fits m x S W (card_of state) hand))
          ∙ round_to_lem M B hand x.seats (suc state.reached) state.openings m.interviews M.workshops

  -- ---- her turn
  abbrev outside : Bool
  outside = eqb (student_outside M hand) state.reached

  inside : (d : ℕ) → member state.openings d ≡ true → d ≤ M.workshops
  inside d b = (opening_booked M B old fits m x S W rest wait d b).workshop.1

  -- she chooses the best of what is open
  chosen : (y : ℕ) (ys : List ℕ) → options M B (card_of state) hand ≡ y ∷ ys
      → Follows M old (after (apply_to M B x.visits x.seats state x.run (best M B hand y ys)))
      (applies M B m hand rest (card_of state) (best M B hand y ys))
  unfolding options best
  chosen y ys e = by_favourite (best M B hand y ys) (rw (← e) at (top_pick (B.student_score hand) y ys).0)
    where
      by_favourite : (c : ℕ) → Mem c (cons_if outside 0 (keep (member state.openings) (upto M.workshops)))
          → Follows M old (after (apply_to M B x.visits x.seats state x.run c)) (applies M B m hand rest (card_of state) c)
      by_favourite zero k = leaves
      by_favourite (suc c) k =
          applied c (omega arith)
          (⊎_elim (λ r. absurd (omega (arith, r.1))) (λ n. inside (suc c) (keep_in (member state.openings) (upto M.workshops) (suc c) n).0)
          (cons_if_in outside 0 (suc c) (keep (member state.openings) (upto M.workshops)) k))

  -- what she may choose from, as the code finds it
  same_options : cons_if outside 0 (members state.openings) ≡ options M B (card_of state) hand
  unfolding options
  same_options = ap (cons_if outside 0) (members_inside state.openings M.workshops fits inside)

  -- the two branches of the code's turn
  abbrev turned : Left M B
  turned = turn_of M B x.visits x.seats (state_at x.states hand) x.run

  turn_opens : options M B (card_of state) hand ≡ [] → turned ≡ open_tier M B x.visits x.seats state x.run
  unfolding turn_of options
  turn_opens e = rw (eq-eqb state.openings 0 no_opening, no_outside)
    where
      no_outside : outside ≡ false
      no_outside = is_false outside (λ o. not-nil (rw e at (in_front outside 0 0 (keep (member state.openings) (upto M.workshops)) o refl)))

      no_opening : state.openings ≡ 0
      no_opening =
          ⊎_elim (λ z. z)
          (λ ne. absurd (members_some state.openings M.workshops fits inside state_small ne
          (ap (λ b. cons_if b 0 (keep (member state.openings) (upto M.workshops))) (sym no_outside) ∙ e)))
          (eq? state.openings 0)

  turn_applies : (y : ℕ) (ys : List ℕ) → options M B (card_of state) hand ≡ y ∷ ys → turned ≡ apply_to M B x.visits x.seats state x.run
      (best M B hand y ys)
  unfolding turn_of options favourite_in
  turn_applies y ys e = rw (is_false (eqb state.openings 0 && not outside) nothing, same_options ∙ e)
    where
      nothing : (eqb state.openings 0 && not outside) ≡ true → ⊥
      nothing q =
          let z : state.openings ≡ 0 = eqb-true _ _ (and_left (eqb state.openings 0) _ q) in
          let n : outside ≡ false = not-true _ (and_right (eqb state.openings 0) _ q) in
          let none : options M B (card_of state) hand ≡ [] =
          ap (λ b. cons_if b 0 (keep (member state.openings) (upto M.workshops))) n ∙ members_none state.openings M.workshops fits inside z in
          let y_none : ◌≡◌ {A = List ℕ} (y ∷ ys) [] = sym e ∙ none in
          let bad : ◌≡◌ {A = ℕ} 0 1 = cc in
          omega arith

  acts_shown : (l : List ℕ) → options M B (card_of state) hand ≡ l → Follows M old (after turned) (acts M B m hand rest (card_of state) l)
  unfolding acts
  acts_shown [] e = rw (turn_opens e) opened
  acts_shown (y ∷ ys) e = rw (turn_applies y ys e) (chosen y ys e)

  pub shows_turn : Follows M old (one_turn M B x) (take_turn M B m m.waiting)
  unfolding take_turn
  shows_turn =
      subst (λ l. Follows M old (after turned) (take_turn M B m l)) (sym wait)
      (subst (λ k. Follows M old (after turned) (acts M B m hand rest k (options M B k hand))) (sym (told_shown M B old fits m x S W rest wait))
      (acts_shown (options M B (card_of state) hand) refl))
