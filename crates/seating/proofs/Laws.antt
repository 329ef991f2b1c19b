-- How a student takes her place in a workshop's part of the seats, and the part itself.
use Prim.Native.Nat.{ℕ, zero, suc, ◌+◌, ◌-◌, ◌≤◌, ◌<◌, min}
use mathlib.Core.Path.{◌≡◌, refl, sym, ap, ◌∙◌}
use mathlib.Core.Logic.{◌⊎◌, inl, inr, ⊎_elim}
use mathlib.Core.Bool.{Bool, true, false, not, ◌&&◌, ◌||◌}
use mathlib.Core.List.{List, [], ◌∷◌, ◌++◌, append-nil}
use native.Mathlib.Omega.{arith}
use lib.ListN.{length, get_or, take, drop, set, length-set, length-take, get_or-eq_default}
use lib.Seq.{drop-cons, take-length, drop-length, length-take-le, take-take, get_or-take, set_split, take-set-le, drop_at}
use lib.Dec.{eqb, ltb}
use lib.IntN.{ℤ}
use borrow.Author.Tests.{eqb-true, ltb-true, eq-eqb, ne_eqb, lt-ltb, not-true, not-false}
use Rattle.std.specs.Prelude.{Some}
use Rattle.base.specs.Words.{biased}
use Rattle.base.proofs.Tests.{never, is_false, and_left, and_right, and_make, or_true, or_left, or_right, eq?, less?}
use Rattle.lgs.specs.Market.{Market, Results, outscored, seats_of, seats_before}
use Rattle.lgs.proofs.Valid.{outscored_on}
use Rattle.model.specs.Model.{before}
use Rattle.model.specs.Store.{push_padded, part, last_of}
use Rattle.model.specs.Ready.{Booked, InOrder}
use Rattle.format.specs.Engine.{market_in, results_in}
use Rattle.lookup.specs.Clean.{StudentAt, Clean}
use Rattle.seating.specs.Seats.{Stands, named}

pub positive : (y : ℕ) → (y ≡ 0 → ⊥) → 0 < y
positive y f = ⊎_elim (λ (l : 0 < y). l) (λ (l : y ≤ 0). absurd (f (omega arith))) (less? 0 y)

zero_of : (y : ℕ) → (0 < y → ⊥) → y ≡ 0
zero_of y f = ⊎_elim (λ (l : 0 < y). absurd (f l)) (λ (l : y ≤ 0). omega arith) (less? 0 y)

-- whoever has a number is named
pub named_some : (n : ℕ) → 0 < n → Some n ≡ named n
named_some zero h = absurd (omega arith)
named_some (suc n) h = refl

-- whoever has been interviewed has a record
pub booked_student : {case book index table : List ℕ} {n m x w : ℕ} → Clean case book index table n m
    → Booked (market_in case) (results_in book) x w → StudentAt case x
booked_student {x = x} c b = c.student x b.student.0 (rw (sym c.students) b.student.1)

pub before_by : (M : Market) (B : Results) (w x y t u : ℕ) (a b : ℤ) → Stands M B w x t a → Stands M B w y u b → (r : Bool)
    → r ≡ (ltb t u || (eqb t u && (ltb (biased b) (biased a) || (eqb (biased b) (biased a) && ltb (M.lot x) (M.lot y))))) → before M B w x y ≡ r
unfolding before outscored
before_by M B w x y t u a b p q r e = sym (e ∙ rw (p.tier, p.score, q.tier, q.score))

-- a pair's two parts
pub two_parts : (r : List ℕ × ℕ) (p : List ℕ) (x : ℕ) → r ≡ (p, x) → (p ≡ r.0) × (x ≡ r.1)
two_parts r p x e = rw e (refl, refl)

-- the two have been compared: y is seated, and stays or not
pub stays_by : (M : Market) (B : Results) (w x y : ℕ) (r : Bool) → (y ≡ 0 → ⊥) → before M B w x y ≡ r → not r ≡ (ltb 0 y && not (before M B w x y))
stays_by M B w x y r ne e = rw (lt-ltb 0 y (positive y ne), e)

-- what the answer says
pub stays_true : (M : Market) (B : Results) (w x y : ℕ) (r : Bool) → r ≡ (ltb 0 y && not (before M B w x y)) → r ≡ true
    → (0 < y) × (before M B w x y ≡ false)
stays_true M B w x y r e t =
    let f : (ltb 0 y && not (before M B w x y)) ≡ true = sym e ∙ t in
    (ltb-true 0 y (and_left (ltb 0 y) _ f), not-true (before M B w x y) (and_right (ltb 0 y) _ f))

pub stays_false : (M : Market) (B : Results) (w x y : ℕ) (r : Bool) → r ≡ (ltb 0 y && not (before M B w x y)) → r ≡ false
    → 0 < y → before M B w x y ≡ true
stays_false M B w x y r e t pos =
    let f : not (before M B w x y) ≡ false = rw (lt-ltb 0 y pos) at (sym e ∙ t) in
    not-false (before M B w x y) f

module _ (M : Market) (B : Results) (w : ℕ) where
  -- `before` is by tier, then by how the workshop compares those of a tier: so it carries on
  abbrev Ahead : ℕ → ℕ → Type 0
  Ahead x y = (M.workshop_tier w x < M.workshop_tier w y) ⊎ ((M.workshop_tier w x ≡ M.workshop_tier w y) × (outscored M B w y x ≡ true))

  before_ahead : (x y : ℕ) → before M B w x y ≡ true → Ahead x y
  unfolding before
  before_ahead x y e =
      ⊎_elim (λ f. inl (ltb-true _ _ f))
      (λ f. inr (eqb-true _ _ (and_left (eqb (M.workshop_tier w x) _) _ f), and_right (eqb (M.workshop_tier w x) _) _ f))
      (or_true (ltb (M.workshop_tier w x) (M.workshop_tier w y)) _ e)

  ahead_before : (x y : ℕ) → Ahead x y → before M B w x y ≡ true
  unfolding before
  ahead_before x y c =
      ⊎_elim (λ l. or_left (ltb (M.workshop_tier w x) (M.workshop_tier w y)) _ (lt-ltb _ _ l))
      (λ l. or_right (ltb (M.workshop_tier w x) (M.workshop_tier w y)) _ (and_make (eq-eqb _ _ l.0) l.1))
      c

  before_on : (x y z : ℕ) → before M B w x y ≡ true → before M B w y z ≡ true → before M B w x z ≡ true
  before_on x y z e f = ahead_before x z (both (before_ahead x y e) (before_ahead y z f))
    where
      both : Ahead x y → Ahead y z → Ahead x z
      both (inl a) (inl b) = inl (omega arith)
      both (inl a) (inr b) = inl (omega arith)
      both (inr a) (inl b) = inl (omega arith)
      both (inr a) (inr b) = inr (omega arith, outscored_on M B w z y x b.1 a.1)

  -- z ranks before whoever has a seat from i on
  abbrev pub Wins : ℕ → List ℕ → ℕ → Type 0
  Wins z l i = (k : ℕ) → i ≤ k → 0 < get_or l k 0 → before M B w z (get_or l k 0) ≡ true

  -- x takes her place in the seats l from the back, which have become `part`: seat i is free for her, and whoever was behind has moved on one seat
  pub record Settling (x : ℕ) (l part : List ℕ) (i : ℕ) : Type 0 where
    pub within : i < length l
    pub long : length part ≡ length l
    pub front : take i part ≡ take i l
    pub wins : Wins x l i
    pub moved : (z : ℕ) → Wins z l i → push_padded M B w z (drop i l) ≡ (z ∷ drop (suc i) part, get_or l (length l - 1) 0)

  module _ (x : ℕ) (l part : List ℕ) (i : ℕ) (p : Settling x l part i) (b : 0 < i) where
    -- the seat in front of it
    seat_there : get_or part (i - 1) 0 ≡ get_or l (i - 1) 0
    seat_there =
        sym (get_or-take i part (i - 1) 0 (omega arith))
        ∙ ap (λ (m : List ℕ). get_or m (i - 1) 0) p.front
        ∙ get_or-take i l (i - 1) 0 (omega arith)

    -- what is known of everybody seated is known of whoever has it
    pub known_there : (P : ℕ → Type 0) → ((k : ℕ) → k < length l → 0 < get_or l k 0 → P (get_or l k 0)) → 0 < get_or part (i - 1) 0 → P (get_or part (i - 1) 0)
    known_there P f h = rw seat_there (f (i - 1) (omega (arith, p.within)) (rw seat_there at h))

  -- one step of `push_padded`
  pub push_empty : (x : ℕ) (l : List ℕ) → length l ≡ 0 → push_padded M B w x l ≡ (l, x)
  unfolding push_padded
  push_empty x [] e = refl
  push_empty x (y ∷ ys) e = absurd (omega arith)

  push_free : (z y : ℕ) (ys : List ℕ) → y ≡ 0 → push_padded M B w z (y ∷ ys) ≡ (z ∷ ys, 0)
  unfolding push_padded
  push_free z y ys e = rw (eq-eqb y 0 e)

  push_taken : (z y : ℕ) (ys : List ℕ) → (y ≡ 0 → ⊥) → before M B w z y ≡ true
      → push_padded M B w z (y ∷ ys) ≡ (z ∷ (push_padded M B w y ys).0, (push_padded M B w y ys).1)
  unfolding push_padded
  push_taken z y ys ne h = rw (ne_eqb y 0 ne, h)

  push_last : (z y : ℕ) → (0 < y → before M B w z y ≡ true) → push_padded M B w z (y ∷ []) ≡ (z ∷ [], y)
  unfolding push_padded
  push_last z y h =
      ⊎_elim (λ (e : y ≡ 0). push_free z y [] e ∙ rw e) (λ (ne : y ≡ 0 → ⊥). push_taken z y [] ne (h (positive y ne))) (eq? y 0)

  -- the first i seats stay as they are
  abbrev Kept : ℕ → List ℕ → ℕ → Type 0
  Kept x l i = push_padded M B w x l ≡ (take i l ++ (push_padded M B w x (drop i l)).0, (push_padded M B w x (drop i l)).1)

  -- x does not rank before the holder of seat i
  push_stays : (x : ℕ) (l : List ℕ) → InOrder M B w l → (i : ℕ) → 0 < get_or l i 0 → before M B w x (get_or l i 0) ≡ false → Kept x l (suc i)
  unfolding push_padded
  push_stays x [] o i pos f = absurd (omega arith)
  push_stays x (y ∷ ys) o zero pos f = rw (ne_eqb y 0 (λ z. omega arith), f)
  push_stays x (y ∷ ys) o (suc i) pos f =
      let h : (0 < y) × (before M B w y (get_or ys i 0) ≡ true) = o 0 (suc i) (omega arith) pos in
      let g : before M B w x y ≡ false = is_false (before M B w x y) (λ t. never (before_on x y (get_or ys i 0) t h.1) f) in
      let e : Kept x ys (suc i) = push_stays x ys (λ j k l. o (suc j) (suc k) (omega arith)) i pos f in
      rw (ne_eqb y 0 (λ z. omega arith), g, e)

  module _ (l : List ℕ) (o : InOrder M B w l) where
    -- nobody moves where the last holder stays
    pub push_none : (x : ℕ) → 0 < get_or l (length l - 1) 0 → before M B w x (get_or l (length l - 1) 0) ≡ false → 0 < length l
        → push_padded M B w x l ≡ (l, x)
    unfolding push_padded
    push_none x pos f long =
        let n : suc (length l - 1) ≡ length l = omega arith in
        push_stays x l o (length l - 1) pos f ∙ rw (n, take-length, drop-length, append-nil)

    seated_in : (k : ℕ) → 0 < get_or l k 0 → k < length l
    seated_in k h = ⊎_elim (λ (a : k < length l). a) (λ (a : length l ≤ k). absurd (omega (arith, get_or-eq_default l 0 {n = k} a))) (less? k (length l))

    module _ (x : ℕ) where
      pub settle_start : 0 < length l → (0 < get_or l (length l - 1) 0 → before M B w x (get_or l (length l - 1) 0) ≡ true) → Settling x l l (length l - 1)
      settle_start pos f =
          let n : suc (length l - 1) ≡ length l = omega arith in
          record {
            within = omega arith;
            long = refl;
            front = refl;
            wins = λ k le h. let e : k ≡ length l - 1 = omega (arith, seated_in k h) in rw e (f (rw e at h));
            moved = λ z h.
                rw (drop-cons l (length l - 1) 0 (omega arith), n, drop-length) (push_last z (get_or l (length l - 1) 0) (h (length l - 1) (omega arith)));
          }

      module _ (part : List ℕ) (i : ℕ) (p : Settling x l part i) where
        -- seat i is hers
        settled : Kept x l i → push_padded M B w x l ≡ (set part i x, get_or l (length l - 1) 0)
        settled e =
            let s : set part i x ≡ take i part ++ (x ∷ drop (suc i) part) = set_split part i x (omega (arith, p.within, p.long)) in
            e ∙ rw (p.moved x p.wins, s, p.front)

        module _ (b : 0 < i) where
          there : get_or part (i - 1) 0 ≡ get_or l (i - 1) 0
          there = seat_there x l part i p b

          pub settle_here : 0 < get_or part (i - 1) 0 → before M B w x (get_or part (i - 1) 0) ≡ false
              → push_padded M B w x l ≡ (set part i x, get_or l (length l - 1) 0)
          settle_here pos f =
              let n : suc (i - 1) ≡ i = omega arith in
              settled (rw n at (push_stays x l o (i - 1) (rw there at pos) (rw there at f)))

          pub settle_on : (0 < get_or part (i - 1) 0 → before M B w x (get_or part (i - 1) 0) ≡ true)
              → Settling x l (set part i (get_or part (i - 1) 0)) (i - 1)
          settle_on f =
              record {
                within = omega (arith, p.within);
                long = length-set part i y ∙ p.long;
                front = take-set-le (i - 1) part i y (omega arith)
                    ∙ sym (take-take (i - 1) i part (omega arith))
                    ∙ ap (take (i - 1)) p.front
                    ∙ take-take (i - 1) i l (omega arith);
                wins = λ k le h.
                    ⊎_elim (λ (e : k ≡ i - 1). rw (e, ← there) (f (rw (e, ← there) at h)))
                    (λ (a : i ≤ k). p.wins k a h)
                    (from k le);
                moved = λ z h.
                    rw (drop-cons l (i - 1) 0 (omega (arith, p.within)), suc_pred, behind, ← there)
                    (⊎_elim (λ (e : y ≡ 0). free z e) (λ ne. taken z ne (rw there (h (i - 1) (omega arith) (rw there at (positive y ne))))) (eq? y 0));
              }
            where
              y : ℕ
              y = get_or part (i - 1) 0

              suc_pred : suc (i - 1) ≡ i
              suc_pred = omega arith

              from : (k : ℕ) → i - 1 ≤ k → (k ≡ i - 1) ⊎ (i ≤ k)
              from k le = ⊎_elim (λ (a : i - 1 < k). inr (omega arith)) (λ (a : k ≤ i - 1). inl (omega arith)) (less? (i - 1) k)

              behind : drop i (set part i y) ≡ y ∷ drop (suc i) part
              behind =
                  let a : i < length part = omega (arith, p.within, p.long) in
                  ap (drop i) (set_split part i y a) ∙ drop_at (take i part) (y ∷ drop (suc i) part) i (length-take-le i part (omega arith))

              -- the seat is free, and so are those behind it
              free : (z : ℕ) → y ≡ 0 → push_padded M B w z (y ∷ drop i l) ≡ (z ∷ (y ∷ drop (suc i) part), get_or l (length l - 1) 0)
              free z e =
                  let none : (k : ℕ) → i ≤ k → 0 < get_or l k 0 → ⊥ = λ k le h. omega (arith, o (i - 1) k (omega arith) h, there) in
                  let m : push_padded M B w 0 (drop i l) ≡ (0 ∷ drop (suc i) part, get_or l (length l - 1) 0) =
                  p.moved 0 (λ k le h. absurd (none k le h)) in
                  let d : drop i l ≡ get_or l i 0 ∷ drop (suc i) l = drop-cons l i 0 p.within in
                  let q : get_or l i 0 ≡ 0 = zero_of (get_or l i 0) (none i (omega arith)) in
                  push_free z y (drop i l) e ∙ rw (d, q, e) (ap (λ r. (z ∷ r.0, r.1)) (sym (push_free 0 0 (drop (suc i) l) refl) ∙ rw (d, q) at m))

              taken : (z : ℕ) → (y ≡ 0 → ⊥) → before M B w z y ≡ true
                  → push_padded M B w z (y ∷ drop i l) ≡ (z ∷ (y ∷ drop (suc i) part), get_or l (length l - 1) 0)
              taken z ne h =
                  push_taken z y (drop i l) ne h
                  ∙ rw (p.moved y (λ k le r. rw there (o (i - 1) k (omega arith) r).1))

-- ---- a workshop's part of the seats
module _ (M : Market) (seats : List ℕ) (w a b : ℕ) (e : a ≡ seats_before M w) (f : b ≡ a + seats_of M w) where
  -- the part that is lent, from a to b
  pub part_lent : take (b - a) (drop a seats) ≡ part M seats w
  unfolding part
  part_lent = let d : b - a ≡ seats_of M w = omega arith in rw (d, e)

  pub known_lent : (P : ℕ → Type 0)
      → ((i : ℕ) → i < seats_of M w → 0 < get_or (part M seats w) i 0 → P (get_or (part M seats w) i 0))
      → (i : ℕ)
      → i < length (take (b - a) (drop a seats))
      → 0 < get_or (take (b - a) (drop a seats)) i 0
      → P (get_or (take (b - a) (drop a seats)) i 0)
  known_lent P g i l =
      let m : i < min (b - a) (length (drop a seats)) = rw length-take at l in
      rw part_lent (g i (omega arith))

pub ordered_lent : (M : Market) (B : Results) (seats : List ℕ) (w a b : ℕ) → a ≡ seats_before M w → b ≡ a + seats_of M w
    → InOrder M B w (part M seats w) → InOrder M B w (take (b - a) (drop a seats))
ordered_lent M B seats w a b e f o = rw (part_lent M seats w a b e f) o

module _ (M : Market) (seats : List ℕ) (w a q : ℕ) (e : a ≡ seats_before M w) (f : q ≡ seats_of M w) where
  -- who has the last seat
  pub last_none : q ≡ 0 → 0 ≡ last_of M seats w
  unfolding last_of
  last_none z = let d : seats_of M w ≡ 0 = omega arith in sym (rw (eq-eqb (seats_of M w) 0 d))

  pub last_some : (q ≡ 0 → ⊥) → get_or seats (a + q - 1) 0 ≡ last_of M seats w
  unfolding last_of
  last_some z = let d : eqb (seats_of M w) 0 ≡ false = ne_eqb (seats_of M w) 0 (λ h. z (f ∙ h)) in sym (rw (d, e, f))
