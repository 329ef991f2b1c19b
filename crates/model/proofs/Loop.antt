-- The machine on its way: `Sound` holds of it at each turn and `weight_of` falls, its last turn gives the rule's answer, and `Safe` is what
-- the accesses of a turn need.
use Prim.Native.Nat.{ℕ, zero, suc, ◌+◌, ◌≤◌, ◌<◌}
use mathlib.Core.Path.{◌≡◌, refl, sym, subst, ap, ◌∙◌}
use mathlib.Core.Logic.{⊎_elim}
use mathlib.Core.Bool.{true, false, not, ◌&&◌}
use mathlib.Core.List.{List, [], ◌∷◌, ◌++◌}
use mathlib.Core.List.Memᴰ.{head as here}
use mathlib.Core.List.{Memᴰ as Mem}
use native.Mathlib.Omega.{arith}
use lib.Dec.{eqb}
use lib.ListN.{length, get_or, length-append, length-map}
use borrow.Author.Tests.{eqb-true}
use Rattle.base.specs.Lists.{upto}
use Rattle.lgs.specs.Market.{Market, Results, student_outside, seats_of}
use Rattle.lgs.specs.Profiles.{Profile, flip}
use Rattle.lgs.specs.Rule.{State, going, stopped, finished, Interview, interviewed, due, close, step, fuel, start, lazy_gale_shapley}
use Rattle.lgs.specs.Promises.{NoRepeats, pairs_in}
use Rattle.model.specs.Model.{Card, Machine, Turn, on, lacks, done, told, begin, before, due_now, take_turn, turns, machine, step_of}
use Rattle.model.specs.Ready.{Booked, InOrder}
use Rattle.base.proofs.Tests.{bool_cases, and_left, and_right}
use Rattle.base.proofs.Members.{keep_in, keep_distinct, upto_distinct}
use Rattle.lgs.proofs.Sides.{Known}
use Rattle.lgs.proofs.Setting.{Setting}
use Rattle.lgs.proofs.Invariant.{Seen, Inv, known_by}
use Rattle.lgs.proofs.Interviews.{interviews_with, interviewed_or, interviewed_of}
use Rattle.lgs.proofs.Moves.{Move, interviews, leaves, sits, drops, moves}
use Rattle.lgs.proofs.Start.{start_inv}
use Rattle.lgs.proofs.Once.{append_distinct, interviews_distinct, listed_fits}
use Rattle.model.proofs.Seats.{seat_in, ranked_at, not_before_rank}
use Rattle.model.proofs.Evident.{Evident, start_evident}
use Rattle.model.proofs.Tied.{Tied, due_same, bit_seen, holder_seen, holder_possible}
use Rattle.model.proofs.Match.{now_at, now_hand}
use Rattle.model.proofs.Storage.{seats_of_lem}
use Rattle.model.proofs.Turns.{weight_of, Linked, Matches, waits, moved, turn_matches}
use Rattle.model.proofs.Refined.{next, begin_linked, begin_weight, lacks_stay, done_stays, refined}

-- what the accesses of a turn need of the machine
pub record Safe (M : Market) (B : Results) (m : Machine) : Type 0 where
  pub seats : (c : ℕ) → 0 < c → length (m.seats c) ≤ seats_of M c
  pub seated : (c h : ℕ) → 0 < c → Mem h (m.seats c) → Booked M B h c
  pub ordered : (c : ℕ) → 0 < c → InOrder M B c (m.seats c)
  pub hand : (s : ℕ) (rest : List ℕ) → m.waiting ≡ s ∷ rest → (1 ≤ s) × (s ≤ M.students)
  pub reached : (s : ℕ) (rest : List ℕ) → m.waiting ≡ s ∷ rest → (told m.lost (m.cards s)).reached ≤ student_outside M s
  pub bits : (s : ℕ) (rest : List ℕ) → m.waiting ≡ s ∷ rest → (d : ℕ) → (told m.lost (m.cards s)).bits d ≡ true → Booked M B s d
  pub room : (s : ℕ) (rest : List ℕ) → m.waiting ≡ s ∷ rest
      → length m.interviews + length (due_now M B m.seats (told m.lost (m.cards s)) s) ≤ pairs_in M M.paired

module _ (M : Market) (B : Results) (O : Profile) (E : Setting M B O B.met) where
  -- the machine m is on its way to the rule's answer
  pub record Sound (m : Machine) : Type 0 where
    pub state : State
    pub inv : Inv M B O B.met state
    pub evident : Evident M B state
    pub linked : Linked M B O state m
    pub once : NoRepeats state.interviews
    pub left : ℕ
    pub more : weight_of M B O m < left
    pub runs : machine M B ≡ turns M B left (on m)

  pub sound_begin : Sound (begin M B)
  unfolding machine start
  sound_begin =
      record {
        state = start M B;
        inv = start_inv M B O B.met E;
        evident = start_evident M B O B.met E;
        linked = begin_linked M B O E;
        once = tt;
        left = fuel M B;
        more = begin_weight M B O E;
        runs = refl;
      }

  -- what is due has a pair, and has had no interview
  module _ (σ : State) (I : Inv M B O B.met σ) (s : ℕ) where
    due_parts : (w : ℕ) → Mem w (due M B σ s) → (M.paired s w ≡ true) × (M.student_tier s w ≡ suc (σ.reached s))
    unfolding due
    due_parts w k =
        let e : (M.paired s w && (eqb (M.student_tier s w) (suc (σ.reached s)) && not (σ.deleted s w))) ≡ true = (keep_in _ (upto M.workshops) w k).0 in
        (and_left (M.paired s w) _ e, eqb-true _ _ (and_left (eqb (M.student_tier s w) (suc (σ.reached s))) _ (and_right (M.paired s w) _ e)))

    due_apart : NoRepeats σ.interviews → NoRepeats (σ.interviews ++ interviews_with s (due M B σ s))
    due_apart once =
        append_distinct σ.interviews (interviews_with s (due M B σ s)) once
        (interviews_distinct s (due M B σ s) (unfold due in (keep_distinct _ (upto M.workshops) (upto_distinct M.workshops))))
        (λ t d a b.
        let r : (t ≡ s) × Mem d (due M B σ s) = interviewed_of s (due M B σ s) t d b in
        omega (arith, (due_parts d r.1).1, (I.seen s d (rw r.0 at a)).tier))

    due_fits : NoRepeats σ.interviews → length σ.interviews + length (due M B σ s) ≤ pairs_in M M.paired
    due_fits once =
        omega (
          arith,
          listed_fits M E.wf (σ.interviews ++ interviews_with s (due M B σ s)) (due_apart once) pairs M.paired pairs,
          length-append σ.interviews (interviews_with s (due M B σ s)),
          length-map {B = Interview} (due M B σ s) (λ d. (s, d)),
        )
      where
        pairs : (t d : ℕ) → interviewed (σ.interviews ++ interviews_with s (due M B σ s)) t d ≡ true → M.paired t d ≡ true
        pairs t d v =
            ⊎_elim (λ o. (I.seen t d o).pair)
            (λ n. let r : (t ≡ s) × Mem d (due M B σ s) = interviewed_of s (due M B σ s) t d n in rw r.0 (due_parts d r.1).0)
            (interviewed_or σ.interviews (interviews_with s (due M B σ s)) t d v)

  module _ (m : Machine) (D : Sound m) where
    matched : Matches M B O D.state (weight_of M B O m) (take_turn M B m m.waiting)
    matched = turn_matches M B O E D.state D.inv D.evident m D.linked

    -- one turn of the run
    turned : (x : Turn) → take_turn M B m m.waiting ≡ x → (k : ℕ) → D.left ≡ suc k → machine M B ≡ turns M B k x
    unfolding turns
    turned x e k q = D.runs ∙ ap (λ j. turns M B j (on m)) q ∙ ap (turns M B k) e

    fuelled : {A : Type 0} → ((k : ℕ) → D.left ≡ suc k → A) → A
    fuelled {A} use_it = by_left D.left refl
      where
        by_left : (j : ℕ) → D.left ≡ j → A
        by_left zero q = absurd (omega (arith, D.more))
        by_left (suc k) q = use_it k q

    -- the turn leads on
    pub sound_on : (m' : Machine) → take_turn M B m m.waiting ≡ on m' → Sound m' × (weight_of M B O m' < weight_of M B O m)
    unfolding step close
    sound_on m' e = fuelled (λ k q. by_match k q (subst (Matches M B O D.state (weight_of M B O m)) e matched))
      where
        once_more : (σ' : State) → step M B D.state D.state.waiting ≡ going σ' → NoRepeats σ'.interviews
        once_more σ' st = by_waiting D.state.waiting st
          where
            by_move : (s : ℕ) (rest : List ℕ) → Move M B D.state s rest σ' → NoRepeats σ'.interviews
            by_move s rest (interviews empty met e) = rw e (due_apart D.state D.inv s D.once)
            by_move s rest (leaves _ _ _ _ e) = rw e D.once
            by_move s rest (sits _ _ _ _ _ _ e) = rw e D.once
            by_move s rest (drops _ _ _ _ _ _ e) = rw e D.once

            by_waiting : (l : List ℕ) → step M B D.state l ≡ going σ' → NoRepeats σ'.interviews
            by_waiting [] f = let z : ◌≡◌ {A = ℕ} 0 1 = cc in absurd (omega arith)
            by_waiting (s ∷ rest) f = by_move s rest (moves M B D.state s rest σ' f)

        by_match : (k : ℕ) → D.left ≡ suc k → Matches M B O D.state (weight_of M B O m) (on m') → Sound m' × (weight_of M B O m' < weight_of M B O m)
        by_match k q (waits L less) = (
          record {
            state = D.state;
            inv = D.inv;
            evident = D.evident;
            linked = L;
            once = D.once;
            left = k;
            more = omega
                (arith, D.more);
            runs = turned (on m') e k q;
          },
          less,
        )
        by_match k q (moved σ' st L less) =
            let n : Inv M B O B.met σ' × Evident M B σ' = next M B O E D.state σ' D.inv D.evident st in (
              record {
                state = σ';
                inv = n.0;
                evident = n.1;
                linked = L;
                once = once_more σ' st;
                left = k;
                more = omega
                    (arith, D.more);
                runs = turned (on m') e k q;
              },
              less,
            )

    -- the turn is the last: it gives the rule's answer
    pub sound_lacks : (s w : ℕ) (vs : List Interview) → take_turn M B m m.waiting ≡ lacks s w vs → lazy_gale_shapley M B ≡ stopped s w vs
    unfolding step_of
    sound_lacks s w vs e = fuelled (λ k q. sym (refined M B O E) ∙ ap (step_of M B) (turned (lacks s w vs) e k q ∙ lacks_stay M B k s w vs))

    pub sound_done : (p : ℕ → ℕ) (vs : List Interview) → take_turn M B m m.waiting ≡ done p vs → lazy_gale_shapley M B ≡ finished p vs
    unfolding step_of
    sound_done p vs e = fuelled (λ k q. sym (refined M B O E) ∙ ap (step_of M B) (turned (done p vs) e k q ∙ done_stays M B k p vs))

    -- ---- what the accesses need

    seats_fit : (c : ℕ) → 0 < c → length (m.seats c) ≤ seats_of M c
    seats_fit c pos = omega (arith, seats_of_lem M c, D.linked.tied.size c pos, D.inv.within c pos)

    booked : (s d : ℕ) → Seen M B.met D.state s d → Booked M B s d
    booked s d v = record { student = E.wf.student s d v.pair; workshop = E.wf.workshop s d v.pair; pair = v.pair; met = v.seen }

    seat_seen : (c h : ℕ) → 0 < c → Mem h (m.seats c) → Seen M B.met D.state h c
    seat_seen c h pos k = holder_seen M B O E D.state D.inv _ m.seats D.linked.tied c h pos (D.linked.tied.sits c h pos k)

    seat_booked : (c h : ℕ) → 0 < c → Mem h (m.seats c) → Booked M B h c
    seat_booked c h pos k = booked h c (seat_seen c h pos k)

    seats_ordered : (c : ℕ) → 0 < c → InOrder M B c (m.seats c)
    seats_ordered c pos i j l p =
        let a : ℕ = get_or (m.seats c) i 0 in
        let b : ℕ = get_or (m.seats c) j 0 in
        let r : Mem a (m.seats c) × (O.workshop_rank c a < O.workshop_rank c b) = ranked_at (O.workshop_rank c) (m.seats c) (D.linked.tied.ranked c pos)
        i j l p in (
          (seat_booked c a pos r.0).student.0,
          ⊎_elim (λ e. e)
              (λ f. absurd (omega (
                arith,
                not_before_rank M B O B.met E c a b (knows a r.0) (knows b (seat_in (m.seats c) j p))
                    (possible b (seat_in (m.seats c) j p)) f,
              )))
              (bool_cases (before M B c a b)),
        )
      where
        knows : (h : ℕ) → Mem h (m.seats c) → Known (flip M.paired) (flip B.met) c h
        knows h k = known_by M B O B.met E D.state h c (seat_seen c h pos k)

        possible : (h : ℕ) → Mem h (m.seats c) → B.never h c ≡ false
        possible h k = holder_possible M B O E D.state D.inv _ m.seats D.linked.tied c h pos (D.linked.tied.sits c h pos k)

    -- of the student in hand
    module _ (s : ℕ) (rest : List ℕ) (w : m.waiting ≡ s ∷ rest) where
      abbrev card : Card
      card = told m.lost (m.cards s)

      hand_range : (1 ≤ s) × (s ≤ M.students)
      hand_range = D.inv.range s (subst (λ l. Mem s l) D.linked.waiting (subst (λ l. Mem s l) (sym w) (here refl)))

      tied : Tied M B O D.state (now_at (s ∷ rest) m.lost m.cards) m.seats
      tied = subst (λ l. Tied M B O D.state (now_at l m.lost m.cards) m.seats) w D.linked.tied

      same_card : now_at (s ∷ rest) m.lost m.cards s ≡ card
      same_card = now_hand s rest m.lost m.cards s refl

      reached_outside : card.reached ≤ student_outside M s
      reached_outside = omega (arith, ap (λ k. k.reached) same_card, tied.reached s, D.inv.outside s)

      bit_booked : (d : ℕ) → card.bits d ≡ true → Booked M B s d
      bit_booked d b = booked s d (bit_seen M B O E D.state D.inv _ m.seats tied s d (rw same_card b))

      due_room : length m.interviews + length (due_now M B m.seats card s) ≤ pairs_in M M.paired
      due_room = omega (arith, due_fits D.state D.inv s D.once, ap length D.linked.interviews, ap length same_due)
        where
          same_due : due_now M B m.seats card s ≡ due M B D.state s
          same_due = ap (λ k. due_now M B m.seats k s) (sym same_card) ∙ due_same M B O E D.state D.inv _ m.seats tied D.evident s

    pub sound_safe : Safe M B m
    sound_safe =
        record {
          seats = seats_fit;
          seated = seat_booked;
          ordered = seats_ordered;
          hand = hand_range;
          reached = reached_outside;
          bits = bit_booked;
          room = due_room;
        }
