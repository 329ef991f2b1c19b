-- What the groups of a student name: every option once, and nothing else. Groups are the same where options and order are.
use Prim.Native.Nat.{ℕ, zero, suc, ◌+◌, ◌≤◌, ◌<◌}
use mathlib.Core.Path.{◌≡◌, refl, sym, ap, ◌∙◌}
use mathlib.Core.Logic.{⊎_elim}
use mathlib.Core.Bool.{Bool, true, false}
use mathlib.Core.List.{List, [], ◌∷◌, ◌++◌, flatten}
use mathlib.Core.List.Memᴰ.{cases_cons}
use mathlib.Core.List.Memᴰ.{head as here}
use mathlib.Core.List.Memᴰ.{not-nil}
use mathlib.Core.List.Memᴰ.{tail as later}
use mathlib.Core.List.{Memᴰ as Mem}
use native.Mathlib.Omega.{arith}
use native.Mathlib.Nat.{eq-or-lt_of_le}
use borrow.Author.Tests.{eq-eqb, ne_eqb}
use lib.Dec.{eqb}
use lib.ListN.{length}
use Rattle.base.specs.Lists.{tally, keep, upto}
use Rattle.base.proofs.Below.{tally_append}
use Rattle.base.proofs.Tests.{bool_cases, never, eq?}
use Rattle.wish_lines.specs.Wishes.{at_tier, cons_group, groups_from}
use Rattle.wish_lines.proofs.Groups.{at_in, in_at}

-- ---- how often a list has x

pub tally_keep : (p : ℕ → Bool) (x : ℕ) (xs : List ℕ) → p x ≡ true → tally (eqb x) (keep p xs) ≡ tally (eqb x) xs
unfolding tally keep
tally_keep p x [] e = refl
tally_keep p x (y ∷ xs) e =
    ⊎_elim (λ (c : p y ≡ true). rw c (omega (arith, tally_keep p x xs e)))
    (λ (c : p y ≡ false). rw (c, ne_eqb x y (λ (q : x ≡ y). never (rw q at e) c)) (omega (arith, tally_keep p x xs e)))
    (bool_cases (p y))

pub tally_drop : (p : ℕ → Bool) (x : ℕ) (xs : List ℕ) → p x ≡ false → tally (eqb x) (keep p xs) ≡ 0
unfolding tally keep
tally_drop p x [] e = refl
tally_drop p x (y ∷ xs) e =
    ⊎_elim (λ (c : p y ≡ true). rw (c, ne_eqb x y (λ (q : x ≡ y). never c (rw q at e))) (omega (arith, tally_drop p x xs e)))
    (λ (c : p y ≡ false). rw c (tally_drop p x xs e))
    (bool_cases (p y))

-- the list 1 to m
pub upto_past : (m x : ℕ) → m < x → tally (eqb x) (upto m) ≡ 0
unfolding upto tally
upto_past zero x l = refl
upto_past (suc m) x l =
    tally_append (eqb x) (upto m) (suc m ∷ []) ∙ rw (ne_eqb x (suc m) (λ e. omega arith)) (omega (arith, upto_past m x (omega arith)))

pub upto_zero : (m : ℕ) → tally (eqb 0) (upto m) ≡ 0
unfolding upto tally
upto_zero zero = refl
upto_zero (suc m) = tally_append (eqb 0) (upto m) (suc m ∷ []) ∙ rw (ne_eqb 0 (suc m) (λ e. omega arith)) (omega (arith, upto_zero m))

pub upto_once : (m x : ℕ) → 1 ≤ x → x ≤ m → tally (eqb x) (upto m) ≡ 1
unfolding upto tally
upto_once zero x l u = absurd (omega arith)
upto_once (suc m) x l u =
    tally_append (eqb x) (upto m) (suc m ∷ [])
    ∙ ⊎_elim (λ (e : x ≡ suc m). rw (eq-eqb x (suc m) e) (omega (arith, upto_past m x (omega arith))))
    (λ (less : x < suc m). rw (ne_eqb x (suc m) (λ e. omega arith)) (omega (arith, upto_once m x l (omega arith))))
    (eq-or-lt_of_le u)

-- ---- what the groups name

pub flatten_cons : (g : List ℕ) (gs : List (List ℕ)) → flatten (cons_group g gs) ≡ g ++ flatten gs
unfolding flatten
flatten_cons [] gs = refl
flatten_cons (x ∷ g) gs = refl

module _ (tier : ℕ → ℕ) (xs : List ℕ) where
  -- how often k tiers from t on name x
  abbrev pub in_groups : ℕ → ℕ → ℕ → ℕ
  in_groups x k t = tally (eqb x) (flatten (groups_from tier xs k t))

  in_suc : (x k t : ℕ) → in_groups x (suc k) t ≡ tally (eqb x) (at_tier tier xs t) + in_groups x k (suc t)
  unfolding groups_from
  in_suc x k t = ap (tally (eqb x)) (flatten_cons (at_tier tier xs t) (groups_from tier xs k (suc t))) ∙ tally_append (eqb x) (at_tier tier xs t) _

  at_same : (x t : ℕ) → tier x ≡ t → tally (eqb x) (at_tier tier xs t) ≡ tally (eqb x) xs
  unfolding at_tier
  at_same x t e = tally_keep (λ y. eqb (tier y) t) x xs (eq-eqb (tier x) t e)

  at_other : (x t : ℕ) → (tier x ≡ t → ⊥) → tally (eqb x) (at_tier tier xs t) ≡ 0
  unfolding at_tier
  at_other x t ne = tally_drop (λ y. eqb (tier y) t) x xs (ne_eqb (tier x) t ne)

  in_none : (x k t : ℕ) → tier x < t → in_groups x k t ≡ 0
  unfolding groups_from flatten tally
  in_none x zero t l = refl
  in_none x (suc k) t l = in_suc x k t ∙ omega (arith, at_other x t (λ e. omega arith), in_none x k (suc t) (omega arith))

  pub in_all : (x k t : ℕ) → t ≤ tier x → tier x < t + k → in_groups x k t ≡ tally (eqb x) xs
  in_all x zero t l u = absurd (omega arith)
  in_all x (suc k) t l u =
      in_suc x k t
      ∙ ⊎_elim (λ (e : t ≡ tier x). omega (arith, at_same x t (sym e), in_none x k (suc t) (omega arith)))
      (λ (m : t < tier x). omega (arith, at_other x t (λ e. omega arith), in_all x k (suc t) m (omega arith)))
      (eq-or-lt_of_le l)

  pub in_nothing : (x k t : ℕ) → tally (eqb x) xs ≡ 0 → in_groups x k t ≡ 0
  unfolding groups_from flatten tally
  in_nothing x zero t e = refl
  in_nothing x (suc k) t e =
      in_suc x k t
      ∙ ⊎_elim (λ (q : tier x ≡ t). omega (arith, at_same x t q, in_nothing x k (suc t) e))
      (λ q. omega (arith, at_other x t q, in_nothing x k (suc t) e))
      (eq? (tier x) t)

  -- no group is empty
  pub none_empty : (k t : ℕ) (g : List ℕ) → Mem g (groups_from tier xs k t) → 1 ≤ length g
  unfolding groups_from
  none_empty zero t g m = absurd (not-nil m)
  none_empty (suc k) t g m = go (at_tier tier xs t) (none_empty k (suc t) g) m
    where
      go : (h : List ℕ) → (Mem g (groups_from tier xs k (suc t)) → 1 ≤ length g) → Mem g (cons_group h (groups_from tier xs k (suc t))) → 1 ≤ length g
      go [] more m = more m
      go (y ∷ h) more m = ⊎_elim (λ (e : g ≡ y ∷ h). rw e (omega arith)) more (cases_cons m)

-- ---- the same options in the same order have the same groups

pub keep_agree : (p q : ℕ → Bool) (xs : List ℕ) → ((x : ℕ) → Mem x xs → p x ≡ q x) → keep p xs ≡ keep q xs
unfolding keep
keep_agree p q [] h = refl
keep_agree p q (x ∷ xs) h = rw (h x (here refl), keep_agree p q xs (λ y m. h y (later m)))

-- k tiers from t on of the one have the options that k' from t' on of the other have, and there are no more
pub record Alike (tier tier' : ℕ → ℕ) (xs : List ℕ) (k t k' t' : ℕ) : Type 0 where
  pub order : (x y : ℕ) → Mem x xs → Mem y xs → tier x < tier y → tier' x < tier' y
  pub order' : (x y : ℕ) → Mem x xs → Mem y xs → tier' x < tier' y → tier x < tier y
  pub low : (x : ℕ) → Mem x xs → t ≤ tier x → t' ≤ tier' x
  pub low' : (x : ℕ) → Mem x xs → t' ≤ tier' x → t ≤ tier x
  pub high : (x : ℕ) → Mem x xs → tier x < t + k
  pub high' : (x : ℕ) → Mem x xs → tier' x < t' + k'

swap : {tier tier' : ℕ → ℕ} {xs : List ℕ} {k t k' t' : ℕ} → Alike tier tier' xs k t k' t' → Alike tier' tier xs k' t' k t
swap A =
    record { order = A.order'; order' = A.order; low = A.low'; low' = A.low; high = A.high'; high' = A.high }

-- a tier without options is passed over
skip : {tier tier' : ℕ → ℕ} {xs : List ℕ} {k t k' t' : ℕ} → Alike tier tier' xs (suc k) t k' t' → at_tier tier xs t ≡ [] → Alike tier tier' xs k (suc t) k' t'
skip {tier} {tier'} {xs} {k} {t} {k'} {t'} A e =
    record {
      order = A.order;
      order' = A.order';
      low = λ x m l. A.low x m (omega arith);
      low' = λ x m l. ⊎_elim (λ (q : t ≡ tier x). absurd (gone x m (sym q))) (λ (q : t < tier x). q) (eq-or-lt_of_le (A.low' x m l));
      high = λ x m. omega (arith, A.high x m);
      high' = A.high';
    }
  where
    gone : (x : ℕ) → Mem x xs → tier x ≡ t → ⊥
    gone x m q = not-nil (rw e at (at_in tier xs x t m q))

module _ (tier tier' : ℕ → ℕ) (xs : List ℕ) (k t k' t' : ℕ) where
  -- both first tiers have options
  module _ (A : Alike tier tier' xs (suc k) t (suc k') t') (z' : ℕ) (in' : Mem z' (at_tier tier' xs t')) where
    first_too : (x : ℕ) → Mem x xs → tier x ≡ t → tier' x ≡ t'
    first_too x m e =
        let r : Mem z' xs × (tier' z' ≡ t') = in_at tier' xs z' t' in' in
        ⊎_elim (λ (q : t' ≡ tier' x). sym q)
        (λ (q : t' < tier' x).
        absurd (omega (arith, A.order' z' x r.0 m (omega arith), A.low' z' r.0 (omega arith))))
        (eq-or-lt_of_le (A.low x m (omega arith)))

  both_on : Alike tier tier' xs (suc k) t (suc k') t'
      → ((x : ℕ) → Mem x xs → tier x ≡ t → tier' x ≡ t')
      → ((x : ℕ) → Mem x xs → tier' x ≡ t' → tier x ≡ t)
      → Alike tier tier' xs k (suc t) k' (suc t')
  both_on A to from =
      record {
        order = A.order;
        order' = A.order';
        low = λ x m l. ⊎_elim (λ (q : t' ≡ tier' x). absurd (omega (arith, from x m (sym q)))) (λ (q : t' < tier' x). q)
            (eq-or-lt_of_le (A.low x m (omega arith)));
        low' = λ x m l. ⊎_elim (λ (q : t ≡ tier x). absurd (omega (arith, to x m (sym q)))) (λ (q : t < tier x). q)
            (eq-or-lt_of_le (A.low' x m (omega arith)));
        high = λ x m. omega (arith, A.high x m);
        high' = λ x m. omega (arith, A.high' x m);
      }

  same_first : ((x : ℕ) → Mem x xs → tier x ≡ t → tier' x ≡ t') → ((x : ℕ) → Mem x xs → tier' x ≡ t' → tier x ≡ t)
      → at_tier tier xs t ≡ at_tier tier' xs t'
  unfolding at_tier
  same_first to from =
      keep_agree (λ x. eqb (tier x) t) (λ x. eqb (tier' x) t') xs
      (λ x m.
      ⊎_elim (λ (e : tier x ≡ t). rw (eq-eqb (tier x) t e, eq-eqb (tier' x) t' (to x m e)))
      (λ (e : tier x ≡ t → ⊥). rw (ne_eqb (tier x) t e, ne_eqb (tier' x) t' (λ q. e (from x m q))))
      (eq? (tier x) t))

-- where no tier is left there are no options
no_tiers : (tier tier' : ℕ → ℕ) (xs : List ℕ) (k t t' : ℕ) → Alike tier tier' xs k t 0 t' → groups_from tier xs k t ≡ []
unfolding groups_from
no_tiers tier tier' xs zero t t' A = refl
no_tiers tier tier' xs (suc k) t t' A = go (at_tier tier xs t) refl (λ e. no_tiers tier tier' xs k (suc t) t' (skip A e))
  where
    go : (g : List ℕ) → at_tier tier xs t ≡ g → (at_tier tier xs t ≡ [] → groups_from tier xs k (suc t) ≡ []) → cons_group g (groups_from tier xs k (suc t)) ≡ []
    go [] e more = more e
    go (z ∷ g) e more =
        let r : Mem z xs × (tier z ≡ t) = in_at tier xs z t (rw e (here refl)) in
        absurd (omega (arith, A.low z r.0 (omega arith), A.high' z r.0))

-- n bounds the tiers that are left
pub same_groups : (n : ℕ) (tier tier' : ℕ → ℕ) (xs : List ℕ) (k t k' t' : ℕ) → k + k' ≤ n → Alike tier tier' xs k t k' t'
    → groups_from tier xs k t ≡ groups_from tier' xs k' t'
unfolding groups_from
same_groups n tier tier' xs zero t k' t' l A = sym (no_tiers tier' tier xs k' t' t (swap A))
same_groups n tier tier' xs (suc k) t zero t' l A = no_tiers tier tier' xs (suc k) t t' A
same_groups zero tier tier' xs (suc k) t (suc k') t' l A = absurd (omega arith)
same_groups (suc n) tier tier' xs (suc k) t (suc k') t' l A =
    go (at_tier tier xs t) (at_tier tier' xs t') refl refl
    (λ e. same_groups n tier tier' xs k (suc t) (suc k') t' (omega arith) (skip A e))
    (λ e. same_groups n tier tier' xs (suc k) t k' (suc t') (omega arith) (swap (skip (swap A) e)))
    (λ B. same_groups n tier tier' xs k (suc t) k' (suc t') (omega arith) B)
  where
    gs : List (List ℕ)
    gs = groups_from tier xs k (suc t)

    gs' : List (List ℕ)
    gs' = groups_from tier' xs k' (suc t')

    go : (g g' : List ℕ) → at_tier tier xs t ≡ g → at_tier tier' xs t' ≡ g'
        → (at_tier tier xs t ≡ [] → gs ≡ cons_group (at_tier tier' xs t') gs')
        → (at_tier tier' xs t' ≡ [] → cons_group (at_tier tier xs t) gs ≡ gs')
        → (Alike tier tier' xs k (suc t) k' (suc t') → gs ≡ gs')
        → cons_group g gs ≡ cons_group g' gs'
    go [] g' e e' a b c = a e ∙ ap (λ h. cons_group h gs') e'
    go (z ∷ g) [] e e' a b c = ap (λ h. cons_group h gs) (sym e) ∙ b e'
    go (z ∷ g) (z' ∷ g') e e' a b c =
        let to : (x : ℕ) → Mem x xs → tier x ≡ t → tier' x ≡ t' = first_too tier tier' xs k t k' t' A z' (rw e' (here refl)) in
        let from : (x : ℕ) → Mem x xs → tier' x ≡ t' → tier x ≡ t = first_too tier' tier xs k' t' k t (swap A) z (rw e (here refl)) in
        ap (λ h. cons_group h gs) (sym e ∙ (same_first tier tier' xs k t k' t' to from ∙ e'))
        ∙ ap (λ hs. cons_group (z' ∷ g') hs) (c (both_on tier tier' xs k t k' t' A to from))
