-- What 15 tests: each workshop with a pair is named once, and no other is named. So a line that fits has at most 65 groups.
use Prim.Native.Nat.{ℕ, zero, suc, ◌+◌, ◌≤◌, ◌<◌}
use mathlib.Core.Path.{◌≡◌, refl, sym, ap, ◌∙◌}
use mathlib.Core.Logic.{⊎_elim, ◌↔◌}
use mathlib.Core.Bool.{Bool, true, false, not, ◌&&◌, ◌||◌}
use mathlib.Core.List.{List, [], ◌∷◌, flatten}
use mathlib.Core.List.Memᴰ.{cases_cons}
use mathlib.Core.List.Memᴰ.{head as here}
use mathlib.Core.List.Memᴰ.{not-nil}
use mathlib.Core.List.Memᴰ.{tail as later}
use mathlib.Core.List.{Memᴰ as Mem}
use native.Mathlib.Omega.{arith}
use native.Mathlib.Nat.{eq-or-lt_of_le}
use borrow.Author.Tests.{eq-eqb, ne_eqb, eqb-false, lt-ltb, ltb-false, not-false}
use lib.Dec.{eqb, ltb}
use lib.ListN.{length, length-append}
use Rattle.base.specs.Lists.{one, any, tally, total, upto}
use Rattle.base.proofs.Tests.{bool_cases, never, or_false, eq?, less?}
use Rattle.base.proofs.Below.{tally_append}
use Rattle.base.proofs.Members.{in_upto, upto_in}
use Rattle.lgs.specs.Market.{Market}
use Rattle.wish_lines.specs.Lines.{Line, times, Formed, position}
use Rattle.wish_lines.specs.Reading.{misnamed}
use Rattle.wish_lines.specs.Wishes.{Option?, Ranged}
use Rattle.wish_lines.proofs.Groups.{in_has, from_one_lem}
use Rattle.wish_lines.proofs.Written.{any_no, tally_in}

any_each : (p : ℕ → Bool) (xs : List ℕ) → any p xs ≡ false → (x : ℕ) → Mem x xs → p x ≡ false
unfolding any
any_each p [] e x m = absurd (not-nil m)
any_each p (y ∷ xs) e x m =
    let r : (p y ≡ false) × (any p xs ≡ false) = or_false (p y) _ e in
    ⊎_elim (λ (q : x ≡ y). rw q r.0) (λ k. any_each p xs r.1 x k) (cases_cons m)

in_tally : (x : ℕ) (xs : List ℕ) → 1 ≤ tally (eqb x) xs → Mem x xs
unfolding tally
in_tally x [] l = absurd (omega arith)
in_tally x (y ∷ xs) l =
    ⊎_elim (λ (e : x ≡ y). here e) (λ (e : x ≡ y → ⊥). later (in_tally x xs (omega (arith, rw (ne_eqb x y e) at l)))) (eq? x y)

module _ (M : Market) (R : Ranged M) (l : Line) where
  named : List ℕ
  named = flatten l.groups

  abbrev Exactly : Type 0
  Exactly = (w : ℕ) → 1 ≤ w → times w l ≡ one (M.paired l.student w)

  exactly : misnamed M l ≡ false → Exactly
  unfolding misnamed times named
  exactly e w low = ⊎_elim there absent (bool_cases (M.paired l.student w))
    where
      r : (any (λ w. ltb 0 w && (ltb 1 (times w l) || not (M.paired l.student w))) named ≡ false)
          × (any (λ w. M.paired l.student w && eqb (times w l) 0) (upto M.workshops) ≡ false)
      r = or_false (any (λ w. ltb 0 w && (ltb 1 (times w l) || not (M.paired l.student w))) named) _ e

      -- of a number that is named
      item : Mem w named → (times w l ≤ 1) × (M.paired l.student w ≡ true)
      item m =
          let q : (ltb 1 (times w l) ≡ false) × (not (M.paired l.student w) ≡ false) =
          or_false (ltb 1 (times w l)) _ (rw (lt-ltb 0 w low) at (any_each _ named r.0 w m)) in
          (ltb-false 1 (times w l) q.0, not-false _ q.1)

      there : M.paired l.student w ≡ true → times w l ≡ one (M.paired l.student w)
      there p =
          let q : eqb (times w l) 0 ≡ false =
          rw p at (any_each (λ w. M.paired l.student w && eqb (times w l) 0) (upto M.workshops) r.1 w
          (in_upto M.workshops w low (R.workshop l.student w p).1)) in
          rw p
          (⊎_elim (λ (z : times w l ≡ 0). absurd (eqb-false (times w l) 0 q z))
          (λ (z : times w l ≡ 0 → ⊥).
          ⊎_elim (λ (k : 0 < times w l). omega (arith, (item (in_tally w named k)).0)) (λ (k : times w l ≤ 0). absurd (z (omega arith))) (less? 0 (times w l)))
          (eq? (times w l) 0))

      absent : M.paired l.student w ≡ false → times w l ≡ one (M.paired l.student w)
      absent p =
          rw p
          (⊎_elim (λ (k : 0 < times w l). absurd (never (item (in_tally w named k)).1 p)) (λ (k : times w l ≤ 0). omega arith) (less? 0 (times w l)))

  enough : Exactly → misnamed M l ≡ false
  unfolding misnamed times named
  enough h = rw (any_no _ named items) (any_no _ (upto M.workshops) pairs)
    where
      items : (w : ℕ) → Mem w named → (ltb 0 w && (ltb 1 (times w l) || not (M.paired l.student w))) ≡ false
      items zero m = refl
      items (suc w) m =
          ⊎_elim (λ (p : M.paired l.student (suc w) ≡ true). let e : times (suc w) l ≡ 1 = h (suc w) (omega arith) ∙ ap one p in rw
          (e, p, lt-ltb 0 (suc w) (omega arith)))
          (λ (p : M.paired l.student (suc w) ≡ false).
          let e : times (suc w) l ≡ 0 = h (suc w) (omega arith) ∙ ap one p in
          absurd (omega (arith, tally_in (suc w) named m)))
          (bool_cases (M.paired l.student (suc w)))

      pairs : (w : ℕ) → Mem w (upto M.workshops) → (M.paired l.student w && eqb (times w l) 0) ≡ false
      pairs w m =
          ⊎_elim
          (λ (p : M.paired l.student w ≡ true).
          let e : times w l ≡ 1 = h w (upto_in M.workshops w m).0 ∙ ap one p in
          rw (p, e))
          (λ (p : M.paired l.student w ≡ false). rw p)
          (bool_cases (M.paired l.student w))

  -- "Every pair in the case must be named, and no other", once
  pub named_exactly : (misnamed M l ≡ false) ↔ Exactly
  named_exactly = (exactly, enough)

-- ---- at most 65 groups

grows : (g : ℕ → ℕ) (x m : ℕ) → total g m ≤ total (λ w. one (eqb w x) + g w) m
unfolding total
grows g x zero = omega arith
grows g x (suc m) = omega (arith, grows g x m)

-- the sum over 1 to m of how often the list has a number; one more where x is of them
bump : (g : ℕ → ℕ) (x m : ℕ) → 1 ≤ x → x ≤ m → 1 + total g m ≤ total (λ w. one (eqb w x) + g w) m
unfolding total
bump g x zero l u = absurd (omega arith)
bump g x (suc m) l u =
    ⊎_elim (λ (e : x ≡ suc m). rw (eq-eqb (suc m) x (sym e)) (omega (arith, grows g x m)))
    (λ (less : x < suc m). omega (arith, bump g x m l (omega arith)))
    (eq-or-lt_of_le u)

counted : (m : ℕ) (xs : List ℕ) → ((x : ℕ) → Mem x xs → x ≤ m) → length xs ≤ tally (eqb 0) xs + total (λ w. tally (eqb w) xs) m
unfolding tally
counted m [] h = omega arith
counted m (zero ∷ xs) h = omega (arith, counted m xs (λ x k. h x (later k)), grows (λ w. tally (eqb w) xs) 0 m)
counted m (suc x ∷ xs) h =
    omega (arith, counted m xs (λ y k. h y (later k)), bump (λ w. tally (eqb w) xs) (suc x) m (omega arith) (h (suc x) (here refl)))

single : (g : ℕ → ℕ) (m : ℕ) → ((w : ℕ) → 1 ≤ w → w ≤ m → g w ≤ 1) → total g m ≤ m
unfolding total
single g zero h = omega arith
single g (suc m) h = omega (arith, h (suc m) (omega arith) (omega arith), single g m (λ w l u. h w l (omega arith)))

module _ (M : Market) (R : Ranged M) (l : Line) (f : Formed l) (e : misnamed M l ≡ false) where
  one_most : (b : Bool) → one b ≤ 1
  one_most true = omega arith
  one_most false = omega arith

  named_below : (x : ℕ) → Mem x (flatten l.groups) → x ≤ M.workshops
  unfolding times
  named_below zero m = omega arith
  named_below (suc w) m =
      ⊎_elim (λ (p : M.paired l.student (suc w) ≡ true). (R.workshop l.student (suc w) p).1)
      (λ (p : M.paired l.student (suc w) ≡ false).
      let z : times (suc w) l ≡ 0 = exactly M R l e (suc w) (omega arith) ∙ ap one p in
      absurd (omega (arith, tally_in (suc w) (flatten l.groups) m)))
      (bool_cases (M.paired l.student (suc w)))

  few_items : length (flatten l.groups) ≤ 65
  unfolding times
  few_items =
      omega (
        arith,
        counted M.workshops (flatten l.groups) named_below,
        f.none,
        single (λ w. tally (eqb w) (flatten l.groups)) M.workshops
            (λ w low u. omega (arith, exactly M R l e w low, one_most (M.paired l.student w))),
        R.workshops,
      )

  groups_few : (gs : List (List ℕ)) → ((g : List ℕ) → Mem g gs → 1 ≤ length g) → length gs ≤ length (flatten gs)
  unfolding flatten
  groups_few [] h = omega arith
  groups_few (g ∷ gs) h = omega (arith, h g (here refl), groups_few gs (λ k m. h k (later m)), length-append g (flatten gs))

  -- a named item stands in one of the groups
  pub within : (gs : List (List ℕ)) (x : ℕ) → 1 ≤ tally (eqb x) (flatten gs) → position gs x ≤ length gs
  unfolding flatten position tally
  within [] x k = absurd (omega arith)
  within (g ∷ gs) x k =
      ⊎_elim (λ (h : any (eqb x) g ≡ true). rw h (omega arith))
      (λ (h : any (eqb x) g ≡ false).
      rw h (omega (arith, within gs x (omega (arith, tally_append (eqb x) g (flatten gs), none_in h)))))
      (bool_cases (any (eqb x) g))
    where
      none_in : any (eqb x) g ≡ false → tally (eqb x) g ≡ 0
      none_in h = ⊎_elim (λ (q : 0 < tally (eqb x) g). absurd (never (in_has x g (in_tally x g q)) h)) (λ (q : tally (eqb x) g ≤ 0). omega arith)
          (less? 0 (tally (eqb x) g))

  -- an option is named
  pub once : (x : ℕ) → Option? M l.student x → 1 ≤ tally (eqb x) (flatten l.groups)
  unfolding times
  once zero o = omega (arith, f.none)
  once (suc w) o = omega (arith, exactly M R l e (suc w) (omega arith), ap one o)

  -- "groups counted from 1": each position is one of a group that cause 5 lets pass
  pub few_groups : (x : ℕ) → Option? M l.student x → (1 ≤ position l.groups x) × (position l.groups x ≤ 65)
  few_groups x o = (
    from_one_lem l.groups x,
    omega (arith, within l.groups x (once x o), groups_few l.groups f.groups, few_items),
  )
