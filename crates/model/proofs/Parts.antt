-- A workshop's seats as a part of the seat slice, its holders and then zeros: such a part takes a student as the list of holders does, and a
-- change of one part leaves the others.
use Prim.Native.Nat.{ℕ, zero, suc, ◌+◌, ◌-◌, ◌≤◌, ◌<◌}
use mathlib.Core.Path.{◌≡◌, refl, sym, subst, ap, ◌∙◌}
use mathlib.Core.Logic.{⊎_elim}
use mathlib.Core.Bool.{true, false}
use mathlib.Core.List.{List, [], ◌∷◌, ◌++◌}
use mathlib.Core.List.Memᴰ.{head as here}
use mathlib.Core.List.Memᴰ.{tail as later}
use mathlib.Core.List.{Memᴰ as Mem}
use native.Mathlib.Omega.{arith}
use native.Mathlib.Nat.{eq-or-lt_of_le, pos_of_ne-zero}
use lib.Dec.{eqb}
use lib.ListN.{length, take, drop, get_or, replicate, length-append, length-drop, length-replicate, get_or-replicate, get_or-append, get_or-eq_default}
use lib.Seq.{length-take-le, take_at, drop_at, get_or-append-add, get_or-take, get_or-drop, ext_get_or}
use borrow.Author.Tests.{eq-eqb, ne_eqb}
use Rattle.base.specs.Lists.{update}
use Rattle.lgs.specs.Market.{Market, Results, seats_of, seats_before, all_seats}
use Rattle.model.specs.Model.{before, push, last_seat}
use Rattle.model.specs.Store.{push_padded, part, put_part, last_of}
use Rattle.base.proofs.Tests.{bool_cases, eq?, less?}
use Rattle.model.proofs.Storage.{part_within, part_inside as inside}
use Rattle.base.proofs.Members.{update_at, update_off}

-- q seats, the free ones zero
abbrev pub padded : ℕ → List ℕ → List ℕ
padded zero l = []
padded (suc q) [] = 0 ∷ padded q []
padded (suc q) (y ∷ ys) = y ∷ padded q ys

abbrev pub zeros : ℕ → List ℕ
zeros n = replicate n 0

-- the slice holds the seats S
pub record Stored (M : Market) (flat : List ℕ) (S : ℕ → List ℕ) : Type 0 where
  pub long : all_seats M ≤ length flat
  pub parts : (w : ℕ) → 1 ≤ w → w ≤ M.workshops → part M flat w ≡ padded (seats_of M w) (S w)

module _ (M : Market) (B : Results) (w : ℕ) where
  pub push_padded_lem : (q x : ℕ) (ys : List ℕ) → length ys ≤ q → ((y : ℕ) → Mem y ys → 1 ≤ y)
      → ((push_padded M B w x (padded q ys)).0 ≡ padded q (push M B w q x ys).0) × ((push_padded M B w x (padded q ys)).1 ≡ (push M B w q x ys).1)
  unfolding push_padded push
  push_padded_lem zero x [] l pos = (refl, refl)
  push_padded_lem zero x (y ∷ ys) l pos = absurd (omega arith)
  push_padded_lem (suc q) x [] l pos = (refl, refl)
  push_padded_lem (suc q) x (y ∷ ys) l pos =
      let z : eqb y 0 ≡ false = ne_eqb y 0 (λ (e : y ≡ 0). omega (arith, pos y (here refl))) in
      let a : ((push_padded M B w y (padded q ys)).0 ≡ padded q (push M B w q y ys).0) × ((push_padded M B w y (padded q ys)).1 ≡ (push M B w q y ys).1) =
      push_padded_lem q y ys (omega arith) (λ v m. pos v (later m)) in
      let b : ((push_padded M B w x (padded q ys)).0 ≡ padded q (push M B w q x ys).0) × ((push_padded M B w x (padded q ys)).1 ≡ (push M B w q x ys).1) =
      push_padded_lem q x ys (omega arith) (λ v m. pos v (later m)) in
      ⊎_elim (λ (e : before M B w x y ≡ true). rw (z, e) (ap (λ l. x ∷ l) a.0, a.1))
      (λ (e : before M B w x y ≡ false). rw (z, e) (ap (λ l. y ∷ l) b.0, b.1))
      (bool_cases (before M B w x y))

-- each seat of the part is the list's, or zero
pub padded_at : (q : ℕ) (ys : List ℕ) → length ys ≤ q → (i : ℕ) → get_or (padded q ys) i 0 ≡ get_or ys i 0
padded_at zero [] l i = refl
padded_at zero (y ∷ ys) l i = absurd (omega arith)
padded_at (suc q) [] l zero = refl
padded_at (suc q) [] l (suc i) = padded_at q [] (omega arith) i
padded_at (suc q) (y ∷ ys) l zero = refl
padded_at (suc q) (y ∷ ys) l (suc i) = padded_at q ys (omega arith) i

pub padded_length : (q : ℕ) (ys : List ℕ) → length ys ≤ q → length (padded q ys) ≡ q
padded_length zero [] l = refl
padded_length zero (y ∷ ys) l = absurd (omega arith)
padded_length (suc q) [] l = ap suc (padded_length q [] (omega arith))
padded_length (suc q) (y ∷ ys) l = ap suc (padded_length q ys (omega arith))

-- ---- a list with a part replaced
module _ (a q : ℕ) (flat p : List ℕ) (fits : a + q ≤ length flat) (lp : length p ≡ q) where
  abbrev new : List ℕ
  new = take a flat ++ (p ++ drop q (drop a flat))

  front : length (take a flat) ≡ a
  front = length-take-le a flat (omega arith)

  new_length : length new ≡ length flat
  new_length =
      length-append (take a flat) (p ++ drop q (drop a flat))
      ∙ omega (arith, front, length-append p (drop q (drop a flat)), length-drop q (drop a flat), length-drop a flat)

  new_part : take q (drop a new) ≡ p
  new_part = ap (take q) (drop_at (take a flat) (p ++ drop q (drop a flat)) a front) ∙ take_at p (drop q (drop a flat)) q lp

  new_before : (j : ℕ) → j < a → get_or new j 0 ≡ get_or flat j 0
  new_before j l = get_or-append (take a flat) (p ++ drop q (drop a flat)) 0 j (omega (arith, front)) ∙ get_or-take a flat j 0 l

  new_after : (j : ℕ) → a + q ≤ j → get_or new j 0 ≡ get_or flat j 0
  new_after j l =
      let e : j ≡ length (take a flat) + (length p + (j - (a + q))) = omega (arith, front) in
      ap (λ k. get_or new k 0) e
      ∙ get_or-append-add (take a flat) (p ++ drop q (drop a flat)) (length p + (j - (a + q))) 0
      ∙ get_or-append-add p (drop q (drop a flat)) (j - (a + q)) 0
      ∙ get_or-drop q (drop a flat) (j - (a + q)) 0
      ∙ get_or-drop a flat (q + (j - (a + q))) 0
      ∙ ap (λ k. get_or flat k 0) (omega arith)

module _ (M : Market) where
  -- entry i of a part, in the slice
  pub part_at : (flat : List ℕ) (w i : ℕ) → i < seats_of M w → get_or (part M flat w) i 0 ≡ get_or flat (seats_before M w + i) 0
  unfolding part
  part_at flat w i l = get_or-take (seats_of M w) (drop (seats_before M w) flat) i 0 l ∙ get_or-drop (seats_before M w) flat i 0

  module _ (flat : List ℕ) (long : all_seats M ≤ length flat) (w : ℕ) (l : 1 ≤ w) (u : w ≤ M.workshops) where
    pub part_inside : seats_before M w + seats_of M w ≤ length flat
    part_inside = omega (arith, inside M w l u)

    pub part_length : length (part M flat w) ≡ seats_of M w
    unfolding part
    part_length = length-take-le (seats_of M w) (drop (seats_before M w) flat) (omega (arith, length-drop (seats_before M w) flat, part_inside))

    -- the last seat
    pub last_at : 1 ≤ seats_of M w → last_of M flat w ≡ get_or (part M flat w) (seats_of M w - 1) 0
    unfolding last_of
    last_at q =
        rw (ne_eqb (seats_of M w) 0 (λ e. omega arith))
        (ap (λ k. get_or flat k 0) (omega arith) ∙ sym (part_at flat w (seats_of M w - 1) (omega arith)))

  module _ (flat : List ℕ) (S : ℕ → List ℕ) (K : Stored M flat S) where
    -- the last seat is the list's
    pub last_stored : (w : ℕ) → 1 ≤ w → w ≤ M.workshops → length (S w) ≤ seats_of M w → (B : Results) → last_of M flat w ≡ last_seat M B S w
    unfolding last_of
    last_stored w l u fits B =
        ⊎_elim
        (λ (e : seats_of M w ≡ 0). rw (eq-eqb (seats_of M w) 0 e) (sym (get_or-eq_default (S w) 0 {n = seats_of M w - 1} (omega arith))))
        (λ ne.
        last_at flat K.long w l u (pos_of_ne-zero ne)
        ∙ ap (λ p. get_or p (seats_of M w - 1) 0) (K.parts w l u)
        ∙ padded_at (seats_of M w) (S w) fits (seats_of M w - 1))
        (eq? (seats_of M w) 0)

    module _ (c : ℕ) (l : 1 ≤ c) (u : c ≤ M.workshops) (zs : List ℕ) (fits : length zs ≤ seats_of M c) where
      abbrev changed : List ℕ
      changed = put_part M flat c (padded (seats_of M c) zs)

      p_length : length (padded (seats_of M c) zs) ≡ seats_of M c
      p_length = padded_length (seats_of M c) zs fits

      pub changed_length : length changed ≡ length flat
      unfolding put_part
      changed_length = new_length (seats_before M c) (seats_of M c) flat (padded (seats_of M c) zs) (part_inside flat K.long c l u) p_length

      same : part M changed c ≡ padded (seats_of M c) zs
      unfolding part put_part
      same = new_part (seats_before M c) (seats_of M c) flat (padded (seats_of M c) zs) (part_inside flat K.long c l u) p_length

      off : (j : ℕ) (d : ℕ) → 1 ≤ d → (d ≡ c → ⊥) → j < seats_of M d → get_or changed (seats_before M d + j) 0 ≡ get_or flat (seats_before M d + j) 0
      unfolding put_part
      off j d ld ne lj =
          ⊎_elim
          (λ (less : d < c).
          new_before (seats_before M c) (seats_of M c) flat (padded (seats_of M c) zs) (part_inside flat K.long c l u) p_length (seats_before M d + j)
          (omega (arith, part_within M d c ld less)))
          (λ (le : c ≤ d).
          new_after (seats_before M c) (seats_of M c) flat (padded (seats_of M c) zs) (part_inside flat K.long c l u) p_length (seats_before M d + j)
          (omega (arith, part_within M c d l (⊎_elim (λ (q : c ≡ d). absurd (ne (sym q))) (λ (k : c < d). k) (eq-or-lt_of_le le)))))
          (less? d c)

      others : (d : ℕ) → 1 ≤ d → d ≤ M.workshops → (d ≡ c → ⊥) → part M changed d ≡ part M flat d
      others d ld ud ne =
          let e : length (part M changed d) ≡ seats_of M d = part_length changed (omega (arith, changed_length, K.long)) d ld ud in
          ext_get_or 0 (part M changed d) (part M flat d) (e ∙ sym (part_length flat K.long d ld ud))
          (λ i li. part_at changed d i (omega arith) ∙ off i d ld ne (omega arith) ∙ sym (part_at flat d i (omega arith)))

      -- the slice holds the new seats
      pub stored_put : Stored M changed (update S c zs)
      stored_put =
          record {
            long = omega (arith, changed_length, K.long);
            parts = λ w lw uw.
                ⊎_elim
                (λ (e : w ≡ c).
                subst (λ v. part M changed v ≡ padded (seats_of M v) (update S c zs v)) (sym e)
                (same ∙ ap (padded (seats_of M c)) (sym (update_at S c zs c refl))))
                (λ ne. others w lw uw ne ∙ K.parts w lw uw ∙ ap (padded (seats_of M w)) (sym (update_off S c zs w ne)))
                (eq? w c);
          }

  -- a slice of zeros holds empty seats
  pub stored_none : (n : ℕ) → all_seats M ≤ n → Stored M (zeros n) (λ w. [])
  stored_none n fits = record { long = long; parts = λ w l u. empty w l u }
    where
      long : all_seats M ≤ length (zeros n)
      long = omega (arith, length-replicate {A = ℕ} n 0)

      empty : (w : ℕ) → 1 ≤ w → w ≤ M.workshops → part M (zeros n) w ≡ padded (seats_of M w) []
      empty w l u =
          let e : length (part M (zeros n) w) ≡ seats_of M w = part_length (zeros n) long w l u in
          ext_get_or 0 (part M (zeros n) w) (padded (seats_of M w) []) (e ∙ sym (padded_length (seats_of M w) [] (omega arith)))
          (λ i li.
          part_at (zeros n) w i (omega arith)
          ∙ get_or-replicate {A = ℕ} n (seats_before M w + i) 0 0 (omega (arith, part_inside (zeros n) long w l u, length-replicate {A = ℕ} n 0))
          ∙ sym (padded_at (seats_of M w) [] (omega arith) i))
