-- What a turn's callees need, from what the turn needs.
use Prim.Native.Nat.{ℕ, zero, suc, ◌+◌, ◌-◌, ◌*◌, ◌^◌, ◌≤◌, ◌<◌}
use mathlib.Core.Path.{◌≡◌, refl, sym, ap, ◌∙◌}
use mathlib.Core.Logic.{⊎_elim}
use mathlib.Core.Bool.{Bool, true, false, not, ◌&&◌}
use mathlib.Core.List.{List, [], ◌∷◌}
use mathlib.Core.List.Memᴰ.{head as here}
use mathlib.Core.List.Memᴰ.{tail as later}
use mathlib.Core.List.{Memᴰ as Mem}
use native.Mathlib.Omega.{arith}
use lib.Dec.{eqb, ltb}
use lib.ListN.{length, get_or}
use borrow.Author.Tests.{eq-eqb, ne_eqb, eqb-false, not-true}
use Rattle.base.specs.Lists.{count, upto}
use Rattle.base.specs.Bits.{member, members}
use Rattle.base.proofs.Tests.{bool_cases, eq?, less?}
use Rattle.base.proofs.Members.{keep_in, picked}
use Rattle.base.proofs.Signed.{same_eq}
use Rattle.base.proofs.Digits.{count_empty, empty_count}
use Rattle.lgs.specs.Market.{Market, Results, student_outside, seats_of, seats_before}
use Rattle.format.specs.Buffers.{flat}
use Rattle.format.specs.Engine.{market_in, results_in}
use Rattle.api.specs.declared.StudentState.{StudentState}
use Rattle.model.specs.declared.Run.{Run}
use Rattle.lgs.specs.Rule.{best}
use Rattle.model.specs.Store.{part, put_part, last_of, push_padded}
use Rattle.model.specs.Turn.{told_state, favourite_in, RoundSoFar, due_at, round_to, put_at, next_run, after_round, after_seating, open_tier, apply_to, turn_of}
use Rattle.model.specs.Ready.{Booked, Ready}
use Rattle.model.proofs.Storage.{part_inside}
use Rattle.model.proofs.Parts.{last_at}
use Rattle.seating.proofs.Laws.{positive, last_none}
use Rattle.lookup.specs.Clean.{Clean}
use Rattle.std.specs.Prelude.{Some, None}
use Rattle.seating.specs.Seats.{named}
use Rattle.turning.specs.Round.{SeatsAt, SeatedAll, round_of}
use Rattle.turning.specs.declared.Round.{Round}

module _ (M : Market) (B : Results) (seats : List ℕ) (a : SeatedAll M B seats) (w : ℕ) (l : 1 ≤ w) (h : w ≤ M.workshops) where
  last_booked : 0 < last_of M seats w → Booked M B (last_of M seats w) w
  last_booked p =
      ⊎_elim
      (λ (z : seats_of M w ≡ 0). absurd (omega (arith, last_none M seats w (seats_before M w) (seats_of M w) refl refl z, p)))
      (λ (z : seats_of M w ≡ 0 → ⊥).
      let q : 0 < seats_of M w = positive (seats_of M w) z in
      let e : last_of M seats w ≡ get_or (part M seats w) (seats_of M w - 1) 0 = last_at M seats a.long w l h q in
      rw e (a.seated w l h (seats_of M w - 1) (omega arith) (omega (arith, e, p))))
      (eq? (seats_of M w) 0)

  pub long_to : seats_before M w + seats_of M w ≤ length seats
  long_to = omega (arith, part_inside M w l h, a.long)

pub seats_at : {case book index table : List ℕ} {n m : ℕ} (k : Clean case book index table n m) (seats : List ℕ)
    → SeatedAll (market_in case) (results_in book) seats
    → (w : ℕ)
    → 1 ≤ w
    → w ≤ m
    → SeatsAt case seats n w
seats_at {case} {book} {index} {table} {n} {m} k seats a w l h =
    let u : w ≤ (market_in case).workshops = omega (arith, k.workshops) in
    record {
      workshop = (l, omega (arith, k.many_workshops));
      each = λ v p q. k.workshop v p (omega arith);
      long = long_to (market_in case) (results_in book) seats a w l u;
      last = λ z.
          let p : (market_in case).paired (last_of (market_in case) seats w) w ≡ true = (last_booked (market_in case) (results_in book) seats a w l u z).pair in
          (p, k.pair (last_of (market_in case) seats w) w p);
    }

-- what she is told leaves her tier
pub told_reached : (lost : ℕ) (k : StudentState) → (told_state lost k).reached ≡ k.reached
unfolding told_state
told_reached lost k = ⊎_elim (λ (e : eqb lost 0 ≡ true). rw e) (λ (e : eqb lost 0 ≡ false). rw e) (bool_cases (eqb lost 0))

-- what the turn needs has what its callees need
module _ {M : Market} {B : Results} {visits seats : List ℕ} {k : StudentState} {r : Run} (a : Ready M B visits seats k r) where
  pub ready_seats : SeatedAll M B seats
  ready_seats = record { long = a.long; seated = a.seated; ordered = a.ordered }

  -- t is her state after she has been told
  module _ (t : StudentState) (e : t ≡ told_state r.lost k) where
    same_reached : t.reached ≡ k.reached
    same_reached = ap (λ (x : StudentState). x.reached) e ∙ told_reached r.lost k

    -- where her outside option is not open, she has a next tier
    pub may_open : (o : ℕ) → o ≡ student_outside M r.hand → o < 65536 → not (eqb o t.reached) ≡ true → t.reached < 65535
    may_open o q h n =
        ⊎_elim (λ (l : t.reached < o). omega arith)
        (λ (l : o ≤ t.reached). absurd (eqb-false o t.reached (not-true (eqb o t.reached) n) (omega (arith, a.reached, same_reached))))
        (less? t.reached o)

    pub room_to : (m : ℕ) → M.workshops ≡ m → 2 * (r.count + count (due_at M B seats r.hand (suc t.reached)) m) ≤ length visits
    room_to m q = rw (same_reached, ← q) a.room

    pub open_booked : (w : ℕ) → member t.openings w ≡ true → Booked M B r.hand w
    open_booked w m = a.opened w (rw e at m)

-- ---- what the code gives back, as the model has it
module _ (M : Market) (B : Results) (visits seats : List ℕ) (k : StudentState) (r : Run) where
  -- she goes to tier t of m workshops
  module _ (m t : ℕ) (e : M.workshops ≡ m) (q : t ≡ suc k.reached) where
    abbrev held : RoundSoFar
    held = round_to M B seats r.hand t k.openings m

    same_round : round_to M B seats r.hand (suc k.reached) k.openings M.workshops ≡ held
    same_round = rw (e, ← q)

    pub open_turned : (o : Round) (next : Run)
        → o ≡ round_of M r.count held
        → next ≡ after_round M B r held
        → record { state = record { reached = t; held = k.held; openings = o.openings }; run = next } ≡ (open_tier M B visits seats k r).turned
    unfolding open_tier
    open_turned o next a b = rw (same_round, ← b, a, ← q)

    pub open_visits : (new : List ℕ) → new ≡ put_at (2 * r.count) (flat held.interviews) visits → new ≡ (open_tier M B visits seats k r).visits
    unfolding open_tier
    open_visits new a = a ∙ sym (rw same_round)

  -- she applies to workshop c, or to nobody
  pub apply_none : (c : ℕ) (next : Run) → c ≡ 0 → next ≡ next_run M B r → (record { state = k; run = next } ≡ (apply_to M B visits seats k r c).turned) ×
      (seats ≡ (apply_to M B visits seats k r c).seats)
  unfolding apply_to
  apply_none c next z e = rw (z, e) (refl, refl)

  pub apply_some : (c x : ℕ) (new : List ℕ) (next : Run)
      → (c ≡ 0 → ⊥)
      → new ≡ put_part M seats c (push_padded M B c r.hand (part M seats c)).0
      → x ≡ (push_padded M B c r.hand (part M seats c)).1
      → next ≡ after_seating M B r c x
      → (record { state = record { reached = k.reached; held = c; openings = k.openings }; run = next } ≡ (apply_to M B visits seats k r c).turned) ×
      (new ≡ (apply_to M B visits seats k r c).seats)
  unfolding apply_to
  apply_some zero x new next z a b e = absurd (z refl)
  apply_some (suc c) x new next z a b e = (rw (e, b), a)

  -- the turn, by the state t after she has been told and by whether her outside option is open
  module _ (t : StudentState) (o : Bool) (e : t ≡ told_state r.lost k) (q : o ≡ eqb (student_outside M r.hand) t.reached) where
    pub turn_opens : (eqb t.openings 0 && not o) ≡ true → turn_of M B visits seats k r ≡ open_tier M B visits seats t r
    unfolding turn_of
    turn_opens h = rw (← e, ← q, h)

    pub turn_applies : (eqb t.openings 0 && not o) ≡ false → turn_of M B visits seats k r ≡ apply_to M B visits seats t r
        (favourite_in M B r.hand o t.openings)
    unfolding turn_of
    turn_applies h = rw (← e, ← q, h)

-- the round leaves the seats, and the application the visits
pub open_seats : (M : Market) (B : Results) (visits seats : List ℕ) (k : StudentState) (r : Run) → seats ≡ (open_tier M B visits seats k r).seats
unfolding open_tier
open_seats M B visits seats k r = refl

pub apply_visits : (M : Market) (B : Results) (visits seats : List ℕ) (k : StudentState) (r : Run) (c : ℕ) → visits ≡ (apply_to M B visits seats k r c).visits
unfolding apply_to
apply_visits M B visits seats k r zero = refl
apply_visits M B visits seats k r (suc c) = refl

-- what a number names
pub named_none : (n : ℕ) → named n ≡ None → n ≡ 0
named_none zero h = refl
named_none (suc n) h = absurd (cc)

pub named_is : (n w : ℕ) → named n ≡ Some w → (n ≡ w) × (n ≡ 0 → ⊥)
named_is zero w h = absurd (cc)
named_is (suc n) w h = (cc, λ z. omega arith)

-- the run after a round
module _ (M : Market) (B : Results) (r : Run) (o : Round) (s : RoundSoFar) (e : o ≡ round_of M r.count s) where
  pub round_over : o.missing ≡ None
      → record { hand = r.hand; last = r.last; lost = 0; count = o.count; student = 0; workshop = 0; fares = r.fares + o.fares } ≡ after_round M B r s
  unfolding after_round
  round_over h =
      let z : s.missing ≡ 0 = named_none s.missing (rw e at h) in
      rw (e, eq-eqb s.missing 0 z)

  pub round_stopped : (w : ℕ) → o.missing ≡ Some w
      → record { hand = 0; last = r.last; lost = 0; count = o.count; student = r.hand; workshop = w; fares = r.fares + o.fares }
      ≡ after_round M B r s
  unfolding after_round
  round_stopped w h =
      let z : (s.missing ≡ w) × (s.missing ≡ 0 → ⊥) = named_is s.missing w (rw e at h) in
      rw (e, ← z.0, ne_eqb s.missing 0 z.1)

-- the count of a set tells whether it is empty
pub count_test : (n c : ℕ) → n < 2 ^ 64 → c ≡ count (member n) 64 → eqb c 0 ≡ eqb n 0
count_test n c h e = same_eq c 0 n 0 (λ z. count_empty n h (sym e ∙ z)) (λ z. e ∙ empty_count n z)

-- ---- the best of what is open is one of them, or 0
best_of_lem : (M : Market) (B : Results) (s : ℕ) (P : ℕ → Type 0) (x : ℕ) (xs : List ℕ) → P x → ((y : ℕ) → Mem y xs → P y) → P (best M B s x xs)
unfolding best
best_of_lem M B s P x xs p f =
    (picked (λ y z. ltb (B.student_score s z) (B.student_score s y)) (λ y z. Unit {0}) P (λ y. tt) (λ u v w a b. tt) (λ u v a b e. tt)
    (λ u v a b e. tt) x xs p f).chosen

module _ (M : Market) (B : Results) (s set : ℕ) (P : ℕ → Type 0) (z : P 0) (f : (w : ℕ) → member set w ≡ true → P w) where
  listed : (y : ℕ) → Mem y (members set) → P y
  unfolding members
  listed y m = f y (keep_in (member set) (upto 64) y m).0

  pub best_known : (o : Bool) → P (favourite_in M B s o set)
  unfolding favourite_in
  best_known true = best_of_lem M B s P 0 (members set) z listed
  best_known false = go (members set) listed
    where
      go : (l : List ℕ) → ((y : ℕ) → Mem y l → P y) → P (elim l [ [] ↦ 0 | x ∷ xs ↦ best M B s x xs ])
      go [] g = z
      go (x ∷ xs) g = best_of_lem M B s P x xs (g x (here refl)) (λ y m. g y (later m))
