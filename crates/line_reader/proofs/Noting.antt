-- What is noted of the items that were read.
use Prim.Native.Nat.{ℕ, zero, suc, ◌+◌, ◌≤◌, ◌<◌}
use mathlib.Core.Path.{◌≡◌, refl, sym, ap, ◌∙◌}
use mathlib.Core.Logic.{⊎_elim, ◌⊎◌, inl, inr}
use mathlib.Core.Bool.{Bool, true, false, cond, ◌||◌}
use mathlib.Core.List.{List, [], ◌∷◌, ◌++◌, flatten}
use native.Mathlib.Omega.{arith}
use borrow.Author.Tests.{eq-eqb, ne_eqb, le-leb, lt-leb}
use lib.Dec.{eqb, leb}
use lib.ListN.{length, get_or, set, length-set}
use lib.Seq.{get_or-set_same, get_or-set_other}
use Rattle.base.specs.Lists.{one, any, tally}
use Rattle.base.specs.Bits.{member}
use Rattle.base.proofs.Tests.{bool_cases, never, or_false, or_none, eq?, less?}
use Rattle.base.proofs.Below.{tally_append}
use Rattle.base.proofs.Digits.{bit_zero}
use Rattle.wish_lines.specs.Lines.{position}
use Rattle.line_reader.specs.declared.Marks.{Marks}
use Rattle.line_reader.specs.Items.{cap, cap_group}
use Rattle.line_reader.specs.Marks.{Noted, times_in, Marked}

or_yes : (a : Bool) → (a || true) ≡ true
or_yes true = refl
or_yes false = refl

-- ---- one item

module _ (m m' : Marks) (groups groups' : List ℕ) (x g : ℕ) (small : m.nones ≤ 1000) where
  pub note_far : 64 < x → m'.stray ≡ true → m'.nones ≡ m.nones → groups' ≡ groups → Noted m m' groups groups' x g
  note_far l s n w =
      record {
        written = rw (lt-leb x 64 l) w;
        stray = rw (lt-leb x 64 l) (s ∙ sym (or_yes m.stray));
        named = λ a b. absurd (omega arith);
        same = λ e. absurd (omega arith);
        nones = rw (ne_eqb x 0 (λ e. omega arith)) (omega arith);
      }

  pub note_none : x ≡ 0 → m'.stray ≡ m.stray → m'.named ≡ m.named → m'.nones ≡ cap (m.nones + 1) → groups' ≡ set groups x g
      → Noted m m' groups groups' x g
  unfolding member
  note_none e s d n w =
      record {
        written = rw (le-leb x 64 (omega arith)) w;
        stray = rw (le-leb x 64 (omega arith), e) (s ∙ sym (or_none m.stray));
        named = λ a b. absurd (omega arith);
        same = λ e. d;
        nones = rw (eq-eqb x 0 e) n;
      }

  pub note_workshop : 1 ≤ x → x ≤ 64 → m'.stray ≡ (m.stray || member m.named x) → ((w : ℕ) → member m'.named w ≡ (eqb w x || member m.named w))
      → m'.nones ≡ m.nones → groups' ≡ set groups x g → Noted m m' groups groups' x g
  note_workshop low high s d n w =
      record {
        written = rw (le-leb x 64 high) w;
        stray = rw (le-leb x 64 high) s;
        named = λ a b. d;
        same = λ e. absurd (omega arith);
        nones = rw (ne_eqb x 0 (λ e. omega arith)) (omega arith);
      }

-- ---- how often the groups name an item, and where

times_snoc : (gs : List (List ℕ)) (g : List ℕ) (w : ℕ) → times_in (gs ++ (g ∷ [])) w ≡ times_in gs w + tally (eqb w) g
unfolding flatten tally
times_snoc [] g w = tally_append (eqb w) g [] ∙ omega arith
times_snoc (h ∷ gs) g w =
    tally_append (eqb w) h (flatten (gs ++ (g ∷ []))) ∙ omega (arith, times_snoc gs g w, tally_append (eqb w) h (flatten gs))

times_item : (gs : List (List ℕ)) (xs : List ℕ) (y w : ℕ) → times_in (gs ++ ((xs ++ (y ∷ [])) ∷ [])) w ≡ times_in (gs ++ (xs ∷ [])) w + one (eqb w y)
unfolding tally
times_item gs xs y w = omega (arith, times_snoc gs (xs ++ (y ∷ [])) w, times_snoc gs xs w, tally_append (eqb w) xs (y ∷ []))

times_group : (gs : List (List ℕ)) (w : ℕ) → times_in (gs ++ ([] ∷ [])) w ≡ times_in gs w
unfolding tally
times_group gs w = omega (arith, times_snoc gs [] w)

any_snoc : (w y : ℕ) (xs : List ℕ) → any (eqb w) (xs ++ (y ∷ [])) ≡ (any (eqb w) xs || eqb w y)
unfolding any
any_snoc w y [] = or_none (eqb w y)
any_snoc w y (x ∷ xs) = rw (any_snoc w y xs) (regroup (eqb w x) (any (eqb w) xs) (eqb w y))
  where
    regroup : (a b c : Bool) → (a || (b || c)) ≡ ((a || b) || c)
    regroup true b c = refl
    regroup false b c = refl

any_none : (w : ℕ) (xs : List ℕ) → tally (eqb w) xs ≡ 0 → any (eqb w) xs ≡ false
unfolding any tally
any_none w [] e = refl
any_none w (x ∷ xs) e =
    ⊎_elim (λ (q : eqb w x ≡ true). absurd (omega (arith, rw q at e)))
    (λ (q : eqb w x ≡ false). rw q (any_none w xs (omega (arith, rw q at e)))) (bool_cases (eqb w x))

any_no_times : (w : ℕ) (xs : List ℕ) → any (eqb w) xs ≡ false → tally (eqb w) xs ≡ 0
unfolding any tally
any_no_times w [] e = refl
any_no_times w (x ∷ xs) e =
    let r : (eqb w x ≡ false) × (any (eqb w) xs ≡ false) = or_false (eqb w x) _ e in
    rw r.0 (omega (arith, any_no_times w xs r.1))

position_other : (gs : List (List ℕ)) (xs : List ℕ) (y w : ℕ) → eqb w y ≡ false
    → position (gs ++ ((xs ++ (y ∷ [])) ∷ [])) w ≡ position (gs ++ (xs ∷ [])) w
unfolding position
position_other [] xs y w e = rw (any_snoc w y xs, e, or_none (any (eqb w) xs))
position_other (g ∷ gs) xs y w e = ap (λ p. cond (any (eqb w) g) 1 (suc p)) (position_other gs xs y w e)

position_new : (gs : List (List ℕ)) (xs : List ℕ) (y : ℕ) → times_in (gs ++ (xs ∷ [])) y ≡ 0 → position (gs ++ ((xs ++ (y ∷ [])) ∷ [])) y ≡ suc (length gs)
unfolding position flatten tally
position_new [] xs y e = rw (any_snoc y y xs, eq-eqb y y refl, or_yes (any (eqb y) xs))
position_new (g ∷ gs) xs y e =
    let t : tally (eqb y) g + times_in (gs ++ (xs ∷ [])) y ≡ 0 = sym (tally_append (eqb y) g (flatten (gs ++ (xs ∷ [])))) ∙ e in
    rw (any_none y g (omega arith)) (ap suc (position_new gs xs y (omega arith)))

position_group : (gs : List (List ℕ)) (w : ℕ) → 1 ≤ times_in gs w → position (gs ++ ([] ∷ [])) w ≡ position gs w
unfolding position flatten tally
position_group [] w l = absurd (omega arith)
position_group (g ∷ gs) w l =
    ⊎_elim (λ (e : any (eqb w) g ≡ true). rw e)
    (λ (e : any (eqb w) g ≡ false).
    rw e (ap suc (position_group gs w (omega (arith, tally_append (eqb w) g (flatten gs), any_no_times w g e)))))
    (bool_cases (any (eqb w) g))

-- ---- what is marked

pub marked_start : (m : Marks) (groups : List ℕ) → m.named ≡ 0 → m.stray ≡ false → m.nones ≡ 0 → length groups ≡ 65 → Marked ([] ∷ []) m groups
unfolding flatten tally member
marked_start m groups d s n l =
    record {
      sized = l;
      nones = omega arith;
      stray = λ e. never e s;
      named = λ e w low. rw (d, empty w);
      position = λ e x t. absurd (omega arith);
    }
  where
    empty : (w : ℕ) → member 0 w ≡ false
    empty zero = refl
    empty (suc i) = bit_zero i

-- a new group begins
pub marked_group : (gs : List (List ℕ)) (m : Marks) (groups : List ℕ) → Marked gs m groups → Marked (gs ++ ([] ∷ [])) m groups
marked_group gs m groups M =
    record {
      sized = M.sized;
      nones = rw (times_group gs 0) M.nones;
      stray = λ e. stray (M.stray e);
      named = λ e w low. rw (times_group gs w) (M.named e w low);
      position = λ e x t.
          let u : times_in gs x ≡ 1 = sym (times_group gs x) ∙ t in
          M.position e x u ∙ ap cap_group (sym (position_group gs x (omega arith)));
    }
  where
    stray : (w : ℕ) × (1 ≤ w) × ((2 ≤ times_in gs w) ⊎ ((64 < w) × (1 ≤ times_in gs w)))
        → (w : ℕ) × (1 ≤ w) × ((2 ≤ times_in (gs ++ ([] ∷ [])) w) ⊎ ((64 < w) × (1 ≤ times_in (gs ++ ([] ∷ [])) w)))
    stray (w, l, o) = (w, l, rw (times_group gs w) o)

cap_none : (x : ℕ) → eqb (cap x) 0 ≡ eqb 0 x
cap_none x =
    ⊎_elim (λ (l : 0 < x). ne_eqb (cap x) 0 (λ e. omega arith) ∙ sym (ne_eqb 0 x (λ e. omega arith)))
    (λ (l : x ≤ 0). eq-eqb (cap x) 0 (omega arith) ∙ sym (eq-eqb 0 x (omega arith)))
    (less? 0 x)

member_low : (n w : ℕ) → member n w ≡ true → 1 ≤ w
unfolding member
member_low n zero e = never e refl
member_low n (suc w) e = omega arith

-- the item y is noted, of a group that the items xs have begun
module _ (gs : List (List ℕ)) (xs : List ℕ) (y : ℕ) (m m' : Marks) (groups groups' : List ℕ) (g : ℕ)
    (M : Marked (gs ++ (xs ∷ [])) m groups) (N : Noted m m' groups groups' (cap y) g) (number : g ≡ cap_group (suc (length gs))) where
  abbrev old : List (List ℕ)
  old = gs ++ (xs ∷ [])

  abbrev new : List (List ℕ)
  new = gs ++ ((xs ++ (y ∷ [])) ∷ [])

  marked_sized : length groups' ≡ 65
  marked_sized =
      ap length N.written
      ∙ ⊎_elim (λ (e : leb (cap y) 64 ≡ true). rw e (length-set groups (cap y) g ∙ M.sized)) (λ (e : leb (cap y) 64 ≡ false). rw e M.sized)
      (bool_cases (leb (cap y) 64))

  abbrev Stray : List (List ℕ) → Type 0
  Stray hs = (w : ℕ) × (1 ≤ w) × ((2 ≤ times_in hs w) ⊎ ((64 < w) × (1 ≤ times_in hs w)))

  still_stray : Stray old → Stray new
  still_stray (w, l, o) = (
    w,
    l,
    ⊎_elim (λ (t : 2 ≤ times_in old w). inl (omega (arith, times_item gs xs y w))) (λ t. inr (t.0, omega (arith, t.1, times_item gs xs y w))) o,
  )

  -- y itself is why
  own_stray : m.stray ≡ false → cond (leb (cap y) 64) (member m.named (cap y)) true ≡ true → Stray new
  own_stray s e =
      ⊎_elim
      (λ (l : y ≤ 64).
      let same : cap y ≡ y = omega arith in
      let has : member m.named y ≡ true = rw same at (rw (le-leb (cap y) 64 (omega arith)) at e) in
      twice l has)
      (λ (l : 64 < y). (y, omega arith, inr (l, omega (arith, times_item gs xs y y, ap one (eq-eqb y y refl)))))
      (split (less? 64 y))
    where
      split : (64 < y) ⊎ (y ≤ 64) → (y ≤ 64) ⊎ (64 < y)
      split (inl a) = inr a
      split (inr a) = inl a

      twice : y ≤ 64 → member m.named y ≡ true → Stray new
      twice l has =
          let low : 1 ≤ y = member_low m.named y has in
          (y, low, inl (omega (arith, times_item gs xs y y, ap one (eq-eqb y y refl), M.named s y low, ap one has)))

  marked_stray : m'.stray ≡ true → Stray new
  marked_stray e =
      ⊎_elim (λ (s : m.stray ≡ true). still_stray (M.stray s))
      (λ (s : m.stray ≡ false). own_stray s (sym (rw s at N.stray) ∙ e))
      (bool_cases m.stray)

  -- what a number that is not stray tells
  record Clean : Type 0 where
    before : m.stray ≡ false
    small : y ≤ 64
    same : cap y ≡ y
    fresh : member m.named y ≡ false
    written : groups' ≡ set groups y g

  clean : m'.stray ≡ false → Clean
  clean e = ⊎_elim low high (less? 64 y)
    where
      r : (m.stray ≡ false) × (cond (leb (cap y) 64) (member m.named (cap y)) true ≡ false)
      r = or_false m.stray _ (sym N.stray ∙ e)

      low : 64 < y → Clean
      low l = never refl (rw (lt-leb (cap y) 64 (omega arith)) at r.1)

      high : y ≤ 64 → Clean
      high l =
          let q : cap y ≡ y = omega arith in
          let c : leb (cap y) 64 ≡ true = le-leb (cap y) 64 (omega arith) in
          record { before = r.0; small = l; same = q; fresh = rw q at (rw c at r.1); written = rw q at (rw c at N.written) }

  marked_named : Clean → (w : ℕ) → 1 ≤ w → times_in new w ≡ one (member m'.named w)
  marked_named C w low =
      times_item gs xs y w
      ∙ ⊎_elim (λ (l : 0 < y). rw (N.named (omega (arith, C.same)) (omega (arith, C.same)) w, C.same) (workshop (M.named C.before w low) (eq? w y)))
      (λ (l : y ≤ 0). rw (N.same (omega arith), ne_eqb w y (λ e. omega arith)) (omega (arith, M.named C.before w low)))
      (less? 0 y)
    where
      workshop : times_in old w ≡ one (member m.named w) → (w ≡ y) ⊎ (w ≡ y → ⊥)
          → times_in old w + one (eqb w y) ≡ one (eqb w y || member m.named w)
      workshop t (inl e) = rw (eq-eqb w y e) (omega (arith, ap (λ z. one (member m.named z)) e, ap one C.fresh))
      workshop t (inr e) = rw (ne_eqb w y e) (omega arith)

  marked_position : Clean → (x : ℕ) → times_in new x ≡ 1 → get_or groups' x 0 ≡ cap_group (position new x)
  marked_position C x t =
      ap (λ l. get_or l x 0) C.written
      ∙ ⊎_elim
      (λ (e : x ≡ y).
      let none : times_in old y ≡ 0 = omega (arith, times_item gs xs y x, ap one (eq-eqb x y e), ap (times_in old) e) in
      rw e (get_or-set_same groups y g 0 (omega (arith, M.sized, C.small)) ∙ (number ∙ ap cap_group (sym (position_new gs xs y none)))))
      (λ (e : x ≡ y → ⊥).
      let once : times_in old x ≡ 1 = omega (arith, times_item gs xs y x, ap one (ne_eqb x y e)) in
      get_or-set_other groups y x g 0 e ∙ (M.position C.before x once ∙ ap cap_group (sym (position_other gs xs y x (ne_eqb x y e)))))
      (eq? x y)

  pub marked_item : Marked (gs ++ ((xs ++ (y ∷ [])) ∷ [])) m' groups'
  marked_item =
      record {
        sized = marked_sized;
        nones = omega (arith, N.nones, M.nones, times_item gs xs y 0, ap one (cap_none y));
        stray = marked_stray;
        named = λ e. marked_named (clean e);
        position = λ e. marked_position (clean e);
      }
