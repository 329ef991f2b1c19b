-- Who is in a list that `upto`, `keep` and `pick` give, that the first two name nobody twice, where `upto` has whom, and what `entry_for` gives.
use Prim.Native.Nat.{ℕ, zero, suc, ◌≤◌, ◌<◌}
use mathlib.Core.Path.{◌≡◌, refl, sym, ap, ◌∙◌}
use mathlib.Core.Logic.{◌⊎◌, inl, inr, ⊎_elim}
use mathlib.Core.Bool.{Bool, true, false, ◌||◌, or_assoc}
use mathlib.Core.List.{List, [], ◌∷◌, ◌++◌, map}
use mathlib.Core.List.Memᴰ.{cases_cons}
use mathlib.Core.List.Memᴰ.{head as here}
use mathlib.Core.List.Memᴰ.{not-nil}
use mathlib.Core.List.Memᴰ.{tail as later}
use mathlib.Core.List.{Memᴰ as Mem}
use mathlib.Core.List.Memᴰ.{append_cases}
use mathlib.Core.List.Memᴰ.{append_left as in_left}
use mathlib.Core.List.Memᴰ.{append_right as in_right}
use mathlib.Core.List.Memᴰ.{eq_of_singleton}
use native.Mathlib.Omega.{arith}
use borrow.Author.Tests.{eq-eqb, ne_eqb}
use lib.ListN.{length, get_or, replicate, length-append, length-map, get_or-append, get_or-eq_default}
use lib.Seq.{get_or_at, ext_get_or}
use native.Mathlib.Nat.{eq-or-lt_of_le}
use Rattle.base.specs.Lists.{upto, keep, cons_if, pick, any, update, entry_for}
use Rattle.base.proofs.Tests.{bool_cases, never, or_true, or_false, or_none}

pub in_upto : (n x : ℕ) → 1 ≤ x → x ≤ n → Mem x (upto n)
unfolding upto
in_upto zero x l u = absurd (omega arith)
in_upto (suc n) x l u =
    ⊎_elim (λ (e : x ≡ suc n). in_right (upto n) (here e)) (λ (less : x < suc n). in_left (suc n ∷ []) (in_upto n x l (omega arith))) (eq-or-lt_of_le u)

pub upto_in : (n x : ℕ) → Mem x (upto n) → (1 ≤ x) × (x ≤ n)
unfolding upto
upto_in zero x m = absurd (not-nil m)
upto_in (suc n) x m =
    ⊎_elim (λ m'. let r : (1 ≤ x) × (x ≤ n) = upto_in n x m' in omega arith) (λ m'. let e : x ≡ suc n = eq_of_singleton m' in omega arith)
    (append_cases (upto n) m)

pub cons_if_in : (b : Bool) (x y : ℕ) (xs : List ℕ) → Mem y (cons_if b x xs) → ((b ≡ true) × (y ≡ x)) ⊎ Mem y xs
cons_if_in true x y xs m = ⊎_elim (λ e. inl (refl, e)) inr (cases_cons m)
cons_if_in false x y xs m = inr m

pub in_rest : (b : Bool) (x y : ℕ) (xs : List ℕ) → Mem y xs → Mem y (cons_if b x xs)
in_rest true x y xs m = later m
in_rest false x y xs m = m

pub in_front : (b : Bool) (x y : ℕ) (xs : List ℕ) → b ≡ true → y ≡ x → Mem y (cons_if b x xs)
in_front true x y xs b e = here e
in_front false x y xs b e = never refl (sym b)

module _ (p : ℕ → Bool) where
  pub in_keep : (xs : List ℕ) (x : ℕ) → p x ≡ true → Mem x xs → Mem x (keep p xs)
  unfolding keep
  in_keep [] x e m = absurd (not-nil m)
  in_keep (y ∷ xs) x e m =
      ⊎_elim (λ (q : x ≡ y). in_front (p y) y x (keep p xs) (rw q at e) q) (λ m'. in_rest (p y) y x (keep p xs) (in_keep xs x e m')) (cases_cons m)

  pub keep_in : (xs : List ℕ) (x : ℕ) → Mem x (keep p xs) → (p x ≡ true) × Mem x xs
  unfolding keep
  keep_in [] x m = absurd (not-nil m)
  keep_in (y ∷ xs) x m =
      ⊎_elim (λ r. (rw r.1 r.0, here r.1)) (λ m'. let r : (p x ≡ true) × Mem x xs = keep_in xs x m' in (r.0, later r.1))
      (cons_if_in (p y) y x (keep p xs) m)

-- z, of which P holds, is before x and all of ys
pub record Picked (R : ℕ → ℕ → Type 0) (P : ℕ → Type 0) (x : ℕ) (ys : List ℕ) (z : ℕ) : Type 0 where
  pub chosen : P z
  pub first : R z x
  pub others : (y : ℕ) → Mem y ys → R z y

-- `pick` gives an element that R puts before every other
module _ (better : ℕ → ℕ → Bool) (R : ℕ → ℕ → Type 0) (P : ℕ → Type 0)
    (same : (x : ℕ) → R x x)
    (trans : (x y z : ℕ) → R x y → R y z → R x z)
    (wins : (x y : ℕ) → P x → P y → better y x ≡ true → R y x)
    (stays : (x y : ℕ) → P x → P y → better y x ≡ false → R x y) where
  one_more : (w x y : ℕ) (ys : List ℕ) (z : ℕ) → Picked R P w ys z → R w x → R w y → Picked R P x (y ∷ ys) z
  one_more w x y ys z k rx ry =
      record {
        chosen = k.chosen;
        first = trans z w x k.first rx;
        others = λ v m. ⊎_elim (λ (e : v ≡ y). rw e (trans z w y k.first ry)) (k.others v) (cases_cons m);
      }

  pub picked : (x : ℕ) (ys : List ℕ) → P x → ((y : ℕ) → Mem y ys → P y) → Picked R P x ys (pick better x ys)
  unfolding pick
  picked x [] px pys = record { chosen = px; first = same x; others = λ y m. absurd (not-nil m) }
  picked x (y ∷ ys) px pys =
      ⊎_elim
      (λ (e : better y x ≡ true).
      rw e (one_more y x y ys (pick better y ys) (picked y ys (pys y (here refl)) (λ v m. pys v (later m))) (wins x y px (pys y (here refl)) e) (same y)))
      (λ (e : better y x ≡ false).
      rw e (one_more x x y ys (pick better x ys) (picked x ys px (λ v m. pys v (later m))) (same x) (stays x y px (pys y (here refl)) e)))
      (bool_cases (better y x))

-- tests that agree on the list pick the same
pub pick_same : (p q : ℕ → ℕ → Bool) (x : ℕ) (xs : List ℕ) → ((y z : ℕ) → Mem y (x ∷ xs) → Mem z (x ∷ xs) → p y z ≡ q y z)
    → pick p x xs ≡ pick q x xs
unfolding pick
pick_same p q x [] h = refl
pick_same p q x (y ∷ ys) h =
    rw (h y x (later (here refl)) (here refl))
    (⊎_elim (λ (e : q y x ≡ true). rw e (pick_same p q y ys (λ v z mv mz. h v z (later mv) (later mz))))
    (λ (e : q y x ≡ false). rw e (pick_same p q x ys (λ v z mv mz. h v z (skip v mv) (skip z mz))))
    (bool_cases (q y x)))
  where
    skip : (z : ℕ) → Mem z (x ∷ ys) → Mem z (x ∷ y ∷ ys)
    skip z m = ⊎_elim here (λ k. later (later k)) (cases_cons m)

-- the first of a list is in it
pub in_first : {l xs : List ℕ} {x : ℕ} → l ≡ x ∷ xs → Mem x l
in_first e = rw e (here refl)

-- ---- no element twice

abbrev pub NoDup : List ℕ → Type 0
NoDup [] = Unit {0}
NoDup (x ∷ xs) = (Mem x xs → ⊥) × NoDup xs

snoc_distinct : (xs : List ℕ) (y : ℕ) → NoDup xs → (Mem y xs → ⊥) → NoDup (xs ++ (y ∷ []))
snoc_distinct [] y d out = (not-nil, tt)
snoc_distinct (x ∷ xs) y d out =
    ((λ m. ⊎_elim d.0 (λ s. out (here (sym (eq_of_singleton s)))) (append_cases xs m)), snoc_distinct xs y d.1 (λ m. out (later m)))

pub upto_distinct : (n : ℕ) → NoDup (upto n)
unfolding upto
upto_distinct zero = tt
upto_distinct (suc n) =
    snoc_distinct (upto n) (suc n) (upto_distinct n) (λ m. let r : (1 ≤ suc n) × (suc n ≤ n) = upto_in n (suc n) m in omega arith)

pub keep_distinct : (p : ℕ → Bool) (xs : List ℕ) → NoDup xs → NoDup (keep p xs)
unfolding keep
keep_distinct p [] d = tt
keep_distinct p (x ∷ xs) d =
    ⊎_elim (λ (e : p x ≡ true). rw e ((λ m. d.0 (keep_in p xs x m).1), keep_distinct p xs d.1))
    (λ (e : p x ≡ false). rw e (keep_distinct p xs d.1))
    (bool_cases (p x))

-- ---- some element of two lists in a row passes

pub any_append : {A : Type 0} (p : A → Bool) (xs ys : List A) → any p (xs ++ ys) ≡ (any p xs || any p ys)
unfolding any
any_append p [] ys = refl
any_append p (x ∷ xs) ys = ap (λ b. p x || b) (any_append p xs ys) ∙ sym (or_assoc (p x) (any p xs) (any p ys))

-- ---- the list 1 to n by position

pub map_append : {A B : Type 0} (f : A → B) (xs ys : List A) → map f (xs ++ ys) ≡ map f xs ++ map f ys
map_append f [] ys = refl
map_append f (x ∷ xs) ys = ap (λ l. f x ∷ l) (map_append f xs ys)

pub upto_length : (n : ℕ) → length (upto n) ≡ n
unfolding upto
upto_length zero = refl
upto_length (suc n) = omega (arith, upto_length n, length-append (upto n) (suc n ∷ []))

pub map_upto_at : (f : ℕ → ℕ) (n k : ℕ) → k < n → get_or (map f (upto n)) k 0 ≡ f (suc k)
unfolding upto
map_upto_at f zero k l = absurd (omega arith)
map_upto_at f (suc n) k l = ap (λ xs. get_or xs k 0) (map_append f (upto n) (suc n ∷ [])) ∙ ⊎_elim last (λ less. before less (map_upto_at f n k))
    (eq-or-lt_of_le l)
  where
    size : length (map f (upto n)) ≡ n
    size = length-map (upto n) f ∙ upto_length n

    last : suc k ≡ suc n → get_or (map f (upto n) ++ (f (suc n) ∷ [])) k 0 ≡ f (suc k)
    last e = get_or_at (map f (upto n)) (f (suc n)) [] 0 k (omega (arith, size)) ∙ ap f (sym e)

    before : suc k < suc n → (k < n → get_or (map f (upto n)) k 0 ≡ f (suc k)) → get_or (map f (upto n) ++ (f (suc n) ∷ [])) k 0 ≡ f (suc k)
    before less more = get_or-append (map f (upto n)) (f (suc n) ∷ []) 0 k (omega (arith, size)) ∙ more (omega arith)

-- ---- some number of 1 to n passes, or none does

module _ (p : ℕ → Bool) where
  any_last : (n : ℕ) → any p (upto (suc n)) ≡ (any p (upto n) || p (suc n))
  unfolding upto any
  any_last n = any_append p (upto n) (suc n ∷ []) ∙ ap (λ b. any p (upto n) || b) (or_none (p (suc n)))

  pub upto_some : (n : ℕ) → any p (upto n) ≡ true → (k : ℕ) × (1 ≤ k) × (k ≤ n) × (p k ≡ true)
  unfolding upto any
  upto_some zero e = never e refl
  upto_some (suc n) e =
      ⊎_elim (λ q. let r : (k : ℕ) × (1 ≤ k) × (k ≤ n) × (p k ≡ true) = upto_some n q in (r.0, r.1, omega (arith, r.2), r.3))
      (λ q. (suc n, omega arith, omega arith, q))
      (or_true (any p (upto n)) (p (suc n)) (sym (any_last n) ∙ e))

  pub upto_none : (n : ℕ) → any p (upto n) ≡ false → (k : ℕ) → 1 ≤ k → k ≤ n → p k ≡ false
  upto_none zero e k l u = absurd (omega arith)
  upto_none (suc n) e k l u =
      let r : (any p (upto n) ≡ false) × (p (suc n) ≡ false) = or_false (any p (upto n)) (p (suc n)) (sym (any_last n) ∙ e) in
      ⊎_elim (λ (q : k ≡ suc n). rw q r.1) (λ (less : k < suc n). upto_none n r.0 k l (omega arith)) (eq-or-lt_of_le u)

-- ---- what a list has for a number

pub entry_past : (xs : List ℕ) (s : ℕ) → length xs < s → entry_for xs s ≡ 0
entry_past xs zero l = refl
entry_past xs (suc s) l = get_or-eq_default xs 0 (omega arith)

pub entry_upto : (f : ℕ → ℕ) (n s : ℕ) → 1 ≤ s → s ≤ n → entry_for (map f (upto n)) s ≡ f s
entry_upto f n zero l u = absurd (omega arith)
entry_upto f n (suc s) l u = map_upto_at f n s (omega arith)

-- lists of one length that have the same for every number are the same
pub entry_same : (xs ys : List ℕ) → length xs ≡ length ys → ((s : ℕ) → entry_for xs s ≡ entry_for ys s) → xs ≡ ys
entry_same xs ys e same = ext_get_or 0 xs ys e (λ i l. same (suc i))

-- ---- a function changed at one place

pub update_at : {A : Type 0} (f : ℕ → A) (k : ℕ) (v : A) (x : ℕ) → x ≡ k → update f k v x ≡ v
unfolding update
update_at f k v x e = rw (eq-eqb x k e)

pub update_off : {A : Type 0} (f : ℕ → A) (k : ℕ) (v : A) (x : ℕ) → (x ≡ k → ⊥) → update f k v x ≡ f x
unfolding update
update_off f k v x ne = rw (ne_eqb x k ne)

-- every entry of a list of zeros is 0
pub all_zero : (n k : ℕ) → ◌≡◌ {A = ℕ} (get_or (replicate n 0) k 0) 0
all_zero zero k = refl
all_zero (suc n) zero = refl
all_zero (suc n) (suc k) = all_zero n k
