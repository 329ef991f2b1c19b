-- What the buffers show of the machine: the record `Shows`. Zeroed buffers show its beginning, and buffers that show a safe machine are ready
-- for a turn.
use Prim.Native.Nat.{ℕ, zero, suc, ◌+◌, ◌*◌, ◌-◌, ◌^◌, ◌≤◌, ◌<◌}
use mathlib.Core.Path.{◌≡◌, refl, sym, ap, ◌∙◌, fun_ext}
use mathlib.Core.Bool.{true, false, not, ◌&&◌}
use mathlib.Core.List.{List, [], ◌∷◌, ◌++◌, append_assoc}
use native.Mathlib.Omega.{arith}
use lib.Dec.{eqb}
use lib.ListN.{length, get_or, take, drop, replicate, length-append, length-drop, length-replicate, get_or-replicate}
use lib.Seq.{take_at, drop-append-add, drop-drop}
use Rattle.base.specs.Lists.{count, upto, keep}
use Rattle.base.specs.Bits.{member}
use Rattle.lgs.specs.Market.{Market, Results, seats_of, all_seats}
use Rattle.lgs.specs.Rule.{Interview}
use Rattle.lgs.specs.Fares.{fares_of}
use Rattle.lgs.specs.Promises.{pairs_in}
use Rattle.format.specs.Buffers.{flat, with_head}
use Rattle.api.specs.declared.StudentState.{StudentState}
use Rattle.model.specs.declared.Run.{Run}
use Rattle.model.specs.Model.{Card, Machine, told, begin, due_now, shut_by}
use Rattle.model.specs.Store.{part}
use Rattle.model.specs.Turn.{told_state, put_at, due_at, begin_run}
use Rattle.api.specs.Answered.{zero_state}
use Rattle.model.specs.Ready.{Booked, InOrder, Ready}
use Rattle.base.proofs.Digits.{keep_same, keep_count, bit_zero}
use Rattle.lgs.proofs.Fares.{fares_none, fares_within}
use Rattle.model.proofs.Seats.{seat_in}
use Rattle.model.proofs.Loop.{Safe}
use Rattle.model.proofs.Stages.{Waits, over, holds, waits_first}
use Rattle.model.proofs.Parts.{Stored, padded_at, last_stored, stored_none, zeros}
use Rattle.model.proofs.Openings.{card_of, told_card, told_reached}

-- ---- the visits as a list of entries
flat_append : (vs us : List Interview) → flat (vs ++ us) ≡ flat vs ++ flat us
unfolding flat
flat_append [] us = refl
flat_append (v ∷ vs) us = ap (λ l. v.0 ∷ v.1 ∷ l) (flat_append vs us)

pub flat_length : (vs : List Interview) → length (flat vs) ≡ 2 * length vs
unfolding flat
flat_length [] = refl
flat_length (v ∷ vs) = omega (arith, flat_length vs)

-- interviews written behind those that the head shows
pub head_more : (vs us : List Interview) (n : ℕ) (old : List ℕ) → n ≡ length vs → put_at (2 * n) (flat us) (with_head (flat vs) old) ≡ with_head
    (flat (vs ++ us)) old
head_more vs us n old e =
    let l : length (flat vs) ≡ 2 * n = flat_length vs ∙ ap (λ k. 2 * k) (sym e) in
    let front : take (2 * n) (with_head (flat vs) old) ≡ flat vs = take_at (flat vs) (drop (length (flat vs)) old) (2 * n) l in
    let back : drop (2 * n + length (flat us)) (with_head (flat vs) old) ≡ drop (length (flat vs) + length (flat us)) old =
    ap (λ k. drop (k + length (flat us)) (with_head (flat vs) old)) (sym l)
    ∙ drop-append-add (flat vs) (drop (length (flat vs)) old) (length (flat us))
    ∙ drop-drop (length (flat us)) (length (flat vs)) old in
    rw (front, back)
    (sym (append_assoc (flat vs) (flat us) (drop (length (flat vs) + length (flat us)) old))
    ∙ ap (λ k. (flat vs ++ flat us) ++ drop k old) (sym (length-append (flat vs) (flat us)))
    ∙ ap (λ l. with_head l old) (sym (flat_append vs us)))

pub head_length : (new old : List ℕ) → length new ≤ length old → length (with_head new old) ≡ length old
head_length new old l = length-append new (drop (length new) old) ∙ omega (arith, length-drop (length new) old)

none_open : (w : ℕ) → member 0 w ≡ false
unfolding member
none_open zero = refl
none_open (suc w) = bit_zero w

-- where a run stands: the buffers, the students' states and the run
pub record Stand : Type 0 where
  pub visits : List ℕ
  pub seats : List ℕ
  pub states : List StudentState
  pub run : Run

abbrev pub state_at : List StudentState → ℕ → StudentState
state_at states s = get_or states (s - 1) zero_state

-- there are no more pairs than of 512 students and 64 workshops, and a fare is a 16-bit number
pub record Payable (M : Market) : Type 0 where
  pub few : pairs_in M M.paired ≤ 32768
  pub small : (s w : ℕ) → M.fare s w ≤ 65535

module _ (M : Market) (old : List ℕ) where
  -- the buffers show the machine; `old` are the visits as they were lent
  pub record Shows (m : Machine) (x : Stand) : Type 0 where
    pub stored : Stored M x.seats m.seats
    pub states : M.students ≤ length x.states
    pub card : (s : ℕ) → 1 ≤ s → s ≤ M.students → m.cards s ≡ card_of (state_at x.states s)
    pub small : (s : ℕ) → 1 ≤ s → s ≤ M.students → (state_at x.states s).openings < 2 ^ 64
    pub visits : x.visits ≡ with_head (flat m.interviews) old
    pub count : x.run.count ≡ length m.interviews
    pub fares : x.run.fares ≡ fares_of M m.interviews
    pub waits : Waits M.stage M.students x.run.hand x.run.last m.waiting
    pub lost : x.run.lost ≡ m.lost
    pub dropper : m.lost ≤ M.workshops
    pub workshop : x.run.workshop ≡ 0

  -- the buffers of a run that lacks an interview
  pub record Lacking (s w : ℕ) (vs : List Interview) (x : Stand) : Type 0 where
    pub hand : x.run.hand ≡ 0
    pub student : x.run.student ≡ s
    pub workshop : x.run.workshop ≡ w
    pub real : 0 < w
    pub count : x.run.count ≡ length vs
    pub fares : x.run.fares ≡ fares_of M vs
    pub visits : x.visits ≡ with_head (flat vs) old

module _ (M : Market) (B : Results) (old : List ℕ) where
  -- zeroed buffers
  abbrev pub beginning : ℕ → ℕ → Stand
  beginning n k = record { visits = old; seats = zeros n; states = replicate k zero_state; run = begin_run M B }

  pub shows_begin : (n k : ℕ) → all_seats M ≤ n → M.students ≤ k → Shows M old (begin M B) (beginning n k)
  unfolding begin begin_run flat
  shows_begin n k seats states =
      record {
        stored = stored_none M n seats;
        states = omega (arith, length-replicate k zero_state);
        card = λ s l u. rw (at s l u) (ap (λ b. record { reached = 0; held = 0; bits = b }) (sym (fun_ext none_open)));
        small = λ s l u. rw (at s l u) (omega arith);
        visits = refl;
        count = refl;
        fares = sym (fares_none M);
        waits = waits_first M.stage M.students;
        lost = refl;
        dropper = omega arith;
        workshop = refl;
      }
    where
      at : (s : ℕ) → 1 ≤ s → s ≤ M.students → state_at (replicate k zero_state) s ≡ zero_state
      at s l u = get_or-replicate k (s - 1) zero_state zero_state (omega arith)

  module _ (fits : M.workshops ≤ 64) (m : Machine) (x : Stand) (S : Safe M B m) (W : Shows M old m x) where
    -- the code finds due what the machine does
    pub same_dues : (k : Card) (s : ℕ) → keep (due_at M B x.seats s (suc k.reached)) (upto M.workshops) ≡ due_now M B m.seats k s
    unfolding due_now due_at
    same_dues k s =
        keep_same _ _ M.workshops
        (λ w a b.
        ap (λ l. M.paired s w && (eqb (M.student_tier s w) (suc k.reached) && not (shut_by M B l s w)))
        (last_stored M x.seats m.seats W.stored w a b (S.seats w a) B))

    -- the student in hand
    module _ (rest : List ℕ) (wait : m.waiting ≡ x.run.hand ∷ rest) where
      pub in_range : (1 ≤ x.run.hand) × (x.run.hand ≤ M.students)
      in_range = S.hand x.run.hand rest wait

      pub told_shown : told m.lost (m.cards x.run.hand) ≡ card_of (told_state x.run.lost (state_at x.states x.run.hand))
      told_shown =
          ap (λ c. told m.lost c) (W.card x.run.hand in_range.0 in_range.1)
          ∙ ap (λ l. told l (card_of (state_at x.states x.run.hand))) (sym W.lost)
          ∙ told_card x.run.lost (state_at x.states x.run.hand) (omega (arith, W.lost, W.dropper))
          (W.small x.run.hand in_range.0 in_range.1)

      -- what is open to her is booked
      pub opening_booked : (d : ℕ) → member (told_state x.run.lost (state_at x.states x.run.hand)).openings d ≡ true → Booked M B x.run.hand d
      opening_booked d b = S.bits x.run.hand rest wait d (rw told_shown b)

      -- all that the code of a turn needs
      pub shows_ready : 2 * pairs_in M M.paired ≤ length old → Payable M
          → Ready M B x.visits x.seats (state_at x.states x.run.hand) x.run
      shows_ready room P =
          record {
            hand = in_range;
            last = last_in;
            lost = omega (arith, W.lost, W.dropper);
            reached = omega (arith, S.reached x.run.hand rest wait, ap (λ c. c.reached) told_shown, told_reached x.run.lost state);
            openings = W.small x.run.hand in_range.0 in_range.1;
            opened = opening_booked;
            long = W.stored.long;
            seated = λ w l u i li p. seat_booked w l u i p;
            ordered = seats_ordered;
            room = rw W.visits (omega (arith, due_room, head_length (flat m.interviews) old (omega (arith, due_room, flat_length m.interviews))));
            paid = omega (
              arith,
              W.fares,
              fares_within M P.small m.interviews,
              S.room x.run.hand rest wait,
              P.few,
            );
          }
        where
          state : StudentState
          state = state_at x.states x.run.hand

          last_in : x.run.last ≤ M.students
          last_in = by_waits m.waiting wait W.waits
            where
              by_waits : (l : List ℕ) → l ≡ x.run.hand ∷ rest → Waits M.stage M.students x.run.hand x.run.last l → x.run.last ≤ M.students
              by_waits [] e (over z) = absurd (omega (arith, in_range))
              by_waits (h ∷ ws) e (holds p l c) = l

          seat_at : (w : ℕ) → 1 ≤ w → w ≤ M.workshops → (i : ℕ) → get_or (part M x.seats w) i 0 ≡ get_or (m.seats w) i 0
          seat_at w l u i = ap (λ z. get_or z i 0) (W.stored.parts w l u) ∙ padded_at (seats_of M w) (m.seats w) (S.seats w l) i

          seat_booked : (w : ℕ) → 1 ≤ w → w ≤ M.workshops → (i : ℕ) → 0 < get_or (part M x.seats w) i 0 → Booked M B (get_or (part M x.seats w) i 0) w
          seat_booked w l u i p =
              let e : get_or (part M x.seats w) i 0 ≡ get_or (m.seats w) i 0 = seat_at w l u i in
              rw e (S.seated w (get_or (m.seats w) i 0) l (seat_in (m.seats w) i (rw e at p)))

          seats_ordered : (w : ℕ) → 1 ≤ w → w ≤ M.workshops → InOrder M B w (part M x.seats w)
          seats_ordered w l u i j less p = rw (seat_at w l u i, seat_at w l u j) (S.ordered w l i j less (rw (seat_at w l u j) at p))

          due_room : 2 * (x.run.count + count (due_at M B x.seats x.run.hand (suc state.reached)) M.workshops) ≤ length old
          due_room =
              omega (
                arith,
                S.room x.run.hand rest wait,
                W.count,
                keep_count (due_at M B x.seats x.run.hand (suc state.reached)) M.workshops,
                ap length (ap (λ r. keep (due_at M B x.seats x.run.hand (suc r)) (upto M.workshops)) reached_is),
                ap length (same_dues (told m.lost (m.cards x.run.hand)) x.run.hand),
              )
            where
              reached_is : state.reached ≡ (told m.lost (m.cards x.run.hand)).reached
              reached_is = sym (ap (λ c. c.reached) told_shown ∙ told_reached x.run.lost state)
