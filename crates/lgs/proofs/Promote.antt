-- Moving one option to the top of its tier for one person: the new rank is strict, keeps the tiers, and compares all others as before.
-- Better tiers keep their ranks, and all that stood in the tier or below is ranked behind the option.
use Prim.Native.Nat.{ℕ, ◌+◌, ◌≤◌, ◌<◌}
use mathlib.Core.Path.{◌≡◌, refl, sym, subst, ap, fun_ext}
use mathlib.Core.Logic.{⊎_elim}
use mathlib.Core.Bool.{Bool, true, false, cond}
use native.Mathlib.Omega.{arith}
use lib.Dec.{eqb, ltb}
use borrow.Author.Tests.{ltb-true, ltb-false, eqb-true, eqb-false, eq-eqb, ne_eqb}
use Rattle.base.proofs.Tests.{never, eq?}
use Rattle.lgs.specs.Profiles.{SameComparisons, outside_or}
use Rattle.lgs.proofs.Valid.{Refines}

-- the rank r of one person, with c at the top of its tier g c
unfoldable pub to_top : (ℕ → ℕ) → (ℕ → ℕ) → ℕ → ℕ → ℕ
to_top g r c x = cond (ltb (g x) (g c)) (r x) (cond (eqb x c) (r c) (r c + 1 + r x))

-- the same for the person p alone
unfoldable pub promote : (ℕ → ℕ → ℕ) → (ℕ → ℕ → ℕ) → ℕ → ℕ → ℕ → ℕ → ℕ
promote tier rank p c q x = cond (eqb q p) (to_top (tier p) (rank p) c x) (rank q x)

-- the three places of to_top
data Place (g r : ℕ → ℕ) (c x : ℕ) : Type 0 where
  above : g x < g c → to_top g r c x ≡ r x → Place g r c x
  here : x ≡ c → to_top g r c x ≡ r c → Place g r c x
  under : g c ≤ g x → (x ≡ c → ⊥) → to_top g r c x ≡ r c + 1 + r x → Place g r c x

place : (g r : ℕ → ℕ) (c x : ℕ) → Place g r c x
unfolding to_top
place g r c x = go (ltb (g x) (g c)) (eqb x c) refl refl
  where
    go : (a b : Bool) → ltb (g x) (g c) ≡ a → eqb x c ≡ b → Place g r c x
    go true b e f = above (ltb-true _ _ e) (rw e)
    go false true e f = here (eqb-true _ _ f) (rw (e, f))
    go false false e f = under (ltb-false _ _ e) (eqb-false _ _ f) (rw (e, f))

module _ (g r : ℕ → ℕ) (option : ℕ → Bool)
    (strict : (x y : ℕ) → option x ≡ true → option y ≡ true → r x ≡ r y → x ≡ y)
    (keeps : (x y : ℕ) → option x ≡ true → option y ≡ true → g x < g y → r x < r y)
    (c : ℕ) (oc : option c ≡ true) where
  to_top_strict : (x y : ℕ) → option x ≡ true → option y ≡ true → to_top g r c x ≡ to_top g r c y → x ≡ y
  to_top_strict x y ox oy e = go (place g r c x) (place g r c y)
    where
      go : Place g r c x → Place g r c y → x ≡ y
      go (above l p) (above m q) = strict x y ox oy (omega arith)
      go (above l p) (here m q) = absurd (omega (arith, keeps x c ox oc l))
      go (above l p) (under m n q) = absurd (omega (arith, keeps x c ox oc l))
      go (here l p) (above m q) = absurd (omega (arith, keeps y c oy oc m))
      go (here l p) (here m q) = cc
      go (here l p) (under m n q) = absurd (omega arith)
      go (under l k p) (above m q) = absurd (omega (arith, keeps y c oy oc m))
      go (under l k p) (here m q) = absurd (omega arith)
      go (under l k p) (under m n q) = strict x y ox oy (omega arith)

  to_top_keeps : (x y : ℕ) → option x ≡ true → option y ≡ true → g x < g y → to_top g r c x < to_top g r c y
  to_top_keeps x y ox oy less = go (place g r c x) (place g r c y)
    where
      go : Place g r c x → Place g r c y → to_top g r c x < to_top g r c y
      go (above l p) (above m q) = omega (arith, keeps x y ox oy less)
      go (above l p) (here m q) = omega (arith, keeps x c ox oc l)
      go (above l p) (under m n q) = omega (arith, keeps x c ox oc l)
      go (here l p) (above m q) = absurd (omega (arith, ap g l))
      go (here l p) (here m q) = absurd (omega (arith, ap g l, ap g m))
      go (here l p) (under m n q) = omega arith
      go (under l k p) (above m q) = absurd (omega arith)
      go (under l k p) (here m q) = absurd (omega (arith, ap g m))
      go (under l k p) (under m n q) = omega (arith, keeps x y ox oy less)

  -- c is now above whoever is in its tier or a worse one
  to_top_top : (x : ℕ) → g c ≤ g x → (x ≡ c → ⊥) → to_top g r c c < to_top g r c x
  to_top_top x le ne = go (place g r c c) (place g r c x)
    where
      go : Place g r c c → Place g r c x → to_top g r c c < to_top g r c x
      go (above l p) z = absurd (omega arith)
      go (here l p) (above m q) = absurd (omega arith)
      go (here l p) (here m q) = absurd (ne m)
      go (here l p) (under m n q) = omega arith
      go (under l k p) z = absurd (k refl)

  -- the others compare as before
  to_top_same : (x y : ℕ) → option x ≡ true → option y ≡ true → (x ≡ c → ⊥) → (y ≡ c → ⊥) → r x < r y → to_top g r c x < to_top g r c y
  to_top_same x y ox oy nx ny less = go (place g r c x) (place g r c y)
    where
      go : Place g r c x → Place g r c y → to_top g r c x < to_top g r c y
      go (above l p) (above m q) = omega arith
      go (above l p) (here m q) = absurd (ny m)
      go (above l p) (under m n q) = omega (arith, keeps x c ox oc l)
      go (here l p) z = absurd (nx l)
      go (under l k p) (above m q) = absurd (omega (arith, keeps y x oy ox (omega arith)))
      go (under l k p) (here m q) = absurd (ny m)
      go (under l k p) (under m n q) = omega arith

module _ (option met : ℕ → ℕ → Bool) (tier rank : ℕ → ℕ → ℕ) (fits : Refines option tier rank) (p c : ℕ) (oc : outside_or (option p) c ≡ true) where
  at_p : (x : ℕ) → promote tier rank p c p x ≡ to_top (tier p) (rank p) c x
  unfolding promote
  at_p x = rw (eq-eqb p p refl)

  off_p : (q x : ℕ) → (q ≡ p → ⊥) → promote tier rank p c q x ≡ rank q x
  unfolding promote
  off_p q x ne = rw (ne_eqb q p ne)

  -- what holds of the rank of p with c at the top, and of the ranks of the others, holds of the new rank
  by_person : (P : ℕ → (ℕ → ℕ) → Type 0) → P p (to_top (tier p) (rank p) c) → ((q : ℕ) → P q (rank q)) → (q : ℕ) → P q (promote tier rank p c q)
  by_person P mine theirs q =
      ⊎_elim (λ (e : q ≡ p). rw e (subst (λ r. P p r) (sym (fun_ext at_p)) mine))
      (λ ne. subst (λ r. P q r) (sym (fun_ext (λ x. off_p q x ne))) (theirs q))
      (eq? q p)

  pub promote_fits : Refines option tier (promote tier rank p c)
  promote_fits =
      record {
        strict = by_person (λ q r. (x y : ℕ) → outside_or (option q) x ≡ true → outside_or (option q) y ≡ true → r x ≡ r y → x ≡ y)
            (to_top_strict (tier p) (rank p) (outside_or (option p)) (fits.strict p) (fits.keeps p) c oc) fits.strict;
        keeps = by_person (λ q r. (x y : ℕ) → outside_or (option q) x ≡ true → outside_or (option q) y ≡ true → tier q x < tier q y → r x < r y)
            (to_top_keeps (tier p) (rank p) (outside_or (option p)) (fits.strict p) (fits.keeps p) c oc) fits.keeps;
      }

  -- c is above whoever stands in its tier or a worse one
  pub promote_top : (x : ℕ) → tier p c ≤ tier p x → (x ≡ c → ⊥) → promote tier rank p c p c < promote tier rank p c p x
  promote_top x le ne = rw (at_p x, at_p c) (to_top_top (tier p) (rank p) (outside_or (option p)) (fits.strict p) (fits.keeps p) c oc x le ne)

  -- those met compare as before, where c is not among them
  pub promote_same : outside_or (met p) c ≡ false → SameComparisons option met rank (promote tier rank p c)
  promote_same unmet =
      record {
        same = by_person
            (λ q r. (x y : ℕ)
            → outside_or (option q) x ≡ true
            → outside_or (option q) y ≡ true
            → outside_or (met q) x ≡ true
            → outside_or (met q) y ≡ true
            → rank q x < rank q y
            → r x < r y)
            (λ x y ox oy mx my. to_top_same (tier p) (rank p) (outside_or (option p)) (fits.strict p) (fits.keeps p) c oc x y ox oy (other x mx) (other y my))
            (λ q x y ox oy mx my l. l);
      }
    where
      other : (x : ℕ) → outside_or (met p) x ≡ true → x ≡ c → ⊥
      other x mx e = never (rw e at mx) unmet
