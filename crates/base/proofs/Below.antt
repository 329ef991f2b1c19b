-- From the definitions' lists of records to the code's numbers: `get_or`, `take`, `any`, `tally` and a first match of `tabulate f n`, by `f`.
use Prim.Native.Nat.{ℕ, zero, suc, ◌+◌, ◌≤◌, ◌<◌}
use mathlib.Core.Path.{◌≡◌, refl, sym, ◌∙◌}
use mathlib.Core.Logic.{⊎_elim}
use mathlib.Core.Bool.{Bool, true, false, cond, ◌||◌}
use mathlib.Core.List.{List, [], ◌∷◌, ◌++◌, map}
use mathlib.Core.List.Memᴰ.{append_cases}
use mathlib.Core.List.Memᴰ.{head as here}
use mathlib.Core.List.Memᴰ.{not-nil}
use mathlib.Core.List.{Memᴰ as Mem}
use mathlib.Core.List.Memᴰ.{append_left as in_left}
use mathlib.Core.List.Memᴰ.{append_right as in_right}
use mathlib.Core.List.Memᴰ.{eq_of_singleton}
use native.Mathlib.Omega.{arith}
use native.Mathlib.Numerals.{add-one}
use lib.ListN.{length, get_or, take, set, replicate, length-append, length-set, get_or-append}
use lib.Seq.{get_or_at, get_or-set_same, get_or-set_other, take-append-le, take_all, ext_get_or}
use Rattle.base.specs.Lists.{one, any, tabulate, tally, find}
use Rattle.base.specs.Below.{any_below, count_below}
use Rattle.base.proofs.Tests.{less?, eq?, bool_cases, never, or_false, or_none}

-- ---- a loop's turn
pub count_on : (p : ℕ → Bool) (i : ℕ) → count_below p (i + 1) ≡ count_below p i + one (p i)
unfolding count_below
count_on p i = rw (add-one i)

pub count_grows : (p : ℕ → Bool) (i n : ℕ) → i ≤ n → count_below p i ≤ count_below p n
unfolding count_below
count_grows p i zero l = let e : i ≡ 0 = omega arith in rw e (omega arith)
count_grows p i (suc n) l =
    ⊎_elim (λ (q : i < suc n). omega (arith, count_grows p i n (omega arith)))
    (λ (q : suc n ≤ i). let e : i ≡ suc n = omega arith in rw e (omega arith)) (less? i (suc n))

pub any_on : (p : ℕ → Bool) (i : ℕ) → any_below p (i + 1) ≡ (any_below p i || p i)
unfolding any_below
any_on p i = rw (add-one i)

-- one that passes is enough
pub any_found : (p : ℕ → Bool) (i n : ℕ) → i < n → p i ≡ true → any_below p n ≡ true
unfolding any_below
any_found p i zero l b = absurd (omega arith)
any_found p i (suc n) l b =
    ⊎_elim (λ (q : i < n). rw (any_found p i n q b)) (λ (q : n ≤ i). let e : i ≡ n = omega arith in rw (← e, b) (always (any_below p i))) (less? i n)
  where
    always : (a : Bool) → (a || true) ≡ true
    always true = refl
    always false = refl

pub any_fails : (p : ℕ → Bool) (n : ℕ) → any_below p n ≡ false → (k : ℕ) → k < n → p k ≡ false
any_fails p n e k l = ⊎_elim (λ (b : p k ≡ true). never (any_found p k n l b) e) (λ b. b) (bool_cases (p k))

-- where one passes there is a first that does
pub any_first : (p : ℕ → Bool) (n : ℕ) → any_below p n ≡ true → (i : ℕ) × (i < n) × (p i ≡ true) × ((k : ℕ) → k < i → p k ≡ false)
unfolding any_below
any_first p zero e = never e refl
any_first p (suc n) e =
    ⊎_elim
    (λ (q : any_below p n ≡ true).
    let r : (i : ℕ) × (i < n) × (p i ≡ true) × ((k : ℕ) → k < i → p k ≡ false) = any_first p n q in
    (r.0, omega (arith, r.1), r.2, r.3))
    (λ (q : any_below p n ≡ false). (n, omega arith, rw q at e, λ k l. any_fails p n q k l))
    (bool_cases (any_below p n))

pub any_none : (p : ℕ → Bool) (n : ℕ) → ((k : ℕ) → k < n → p k ≡ false) → any_below p n ≡ false
unfolding any_below
any_none p zero f = refl
any_none p (suc n) f = rw (any_none p n (λ k l. f k (omega arith)), f n (omega arith))

-- ---- lists
module _ {A : Type 0} (f : ℕ → A) where
  pub tabulate_length : (n : ℕ) → length (tabulate f n) ≡ n
  unfolding tabulate
  tabulate_length zero = refl
  tabulate_length (suc n) = length-append (tabulate f n) (f n ∷ []) ∙ omega (arith, tabulate_length n)

  pub tabulate_at : (n i : ℕ) (d : A) → i < n → get_or (tabulate f n) i d ≡ f i
  unfolding tabulate
  tabulate_at zero i d l = absurd (omega arith)
  tabulate_at (suc n) i d l =
      ⊎_elim (λ (q : i < n). get_or-append (tabulate f n) (f n ∷ []) d i (omega (arith, tabulate_length n)) ∙ tabulate_at n i d q)
      (λ (q : n ≤ i). let e : i ≡ n = omega arith in rw e (get_or_at (tabulate f n) (f n) [] d n (tabulate_length n)))
      (less? i n)

  pub tabulate_take : (n i : ℕ) → i ≤ n → take i (tabulate f n) ≡ tabulate f i
  unfolding tabulate
  tabulate_take zero i l = let e : i ≡ 0 = omega arith in rw e
  tabulate_take (suc n) i l =
      ⊎_elim (λ (q : i < suc n). take-append-le i (tabulate f n) (f n ∷ []) (omega (arith, tabulate_length n)) ∙ tabulate_take n i (omega arith))
      (λ (q : suc n ≤ i). let e : i ≡ suc n = omega arith in rw e (take_all (suc n) (tabulate f n ++ (f n ∷ [])) (omega (arith, tabulate_length (suc n)))))
      (less? i (suc n))

  -- the members are f 0 to f (n - 1)
  pub tabulate_in : (n : ℕ) (x : A) → Mem x (tabulate f n) → (i : ℕ) × (i < n) × (x ≡ f i)
  unfolding tabulate
  tabulate_in zero x m = absurd (not-nil m)
  tabulate_in (suc n) x m =
      ⊎_elim (λ k. let r : (i : ℕ) × (i < n) × (x ≡ f i) = tabulate_in n x k in (r.0, omega (arith, r.1), r.2))
      (λ k. (n, omega arith, eq_of_singleton k))
      (append_cases (tabulate f n) m)

  pub in_tabulate : (n i : ℕ) → i < n → Mem (f i) (tabulate f n)
  unfolding tabulate
  in_tabulate zero i l = absurd (omega arith)
  in_tabulate (suc n) i l =
      ⊎_elim (λ (q : i < n). in_left (f n ∷ []) (in_tabulate n i q))
      (λ (q : n ≤ i). let e : i ≡ n = omega arith in rw e (in_right (tabulate f n) (here refl))) (less? i n)

  module _ (p : A → Bool) where
    tally_snoc : (xs : List A) (y : A) → tally p (xs ++ (y ∷ [])) ≡ tally p xs + one (p y)
    unfolding tally
    tally_snoc [] y = omega arith
    tally_snoc (x ∷ xs) y = omega (arith, tally_snoc xs y)

    any_snoc : (xs : List A) (y : A) → any p (xs ++ (y ∷ [])) ≡ (any p xs || p y)
    unfolding any
    any_snoc [] y = or_none (p y)
    any_snoc (x ∷ xs) y = rw (any_snoc xs y) (assoc (p x))
      where
        assoc : (a : Bool) → (a || (any p xs || p y)) ≡ ((a || any p xs) || p y)
        assoc true = refl
        assoc false = refl

    pub tally_below : (n : ℕ) → tally p (tabulate f n) ≡ count_below (λ k. p (f k)) n
    unfolding tabulate tally count_below
    tally_below zero = refl
    tally_below (suc n) = tally_snoc (tabulate f n) (f n) ∙ rw (tally_below n)

    pub any_below_lem : (n : ℕ) → any p (tabulate f n) ≡ any_below (λ k. p (f k)) n
    unfolding tabulate any any_below
    any_below_lem zero = refl
    any_below_lem (suc n) = any_snoc (tabulate f n) (f n) ∙ rw (any_below_lem n)

    -- the tests that a refusal makes of the records before record i
    pub tally_before : (n i : ℕ) → i ≤ n → tally p (take i (tabulate f n)) ≡ count_below (λ k. p (f k)) i
    tally_before n i l = rw (tabulate_take n i l) (tally_below i)

    pub any_before : (n i : ℕ) → i ≤ n → any p (take i (tabulate f n)) ≡ any_below (λ k. p (f k)) i
    any_before n i l = rw (tabulate_take n i l) (any_below_lem i)

    -- ---- a first match
    find_snoc : (d : A) (xs : List A) (y : A) → find p d (xs ++ (y ∷ [])) ≡ cond (any p xs) (find p d xs) (cond (p y) y d)
    unfolding find any
    find_snoc d [] y = refl
    find_snoc d (x ∷ xs) y = ⊎_elim (λ (e : p x ≡ true). rw e) (λ (e : p x ≡ false). rw e (find_snoc d xs y)) (bool_cases (p x))

    pub find_first : (d : A) (n i : ℕ) → i < n → p (f i) ≡ true → ((k : ℕ) → k < i → p (f k) ≡ false) → find p d (tabulate f n) ≡ f i
    unfolding tabulate
    find_first d zero i l b g = absurd (omega arith)
    find_first d (suc n) i l b g =
        find_snoc d (tabulate f n) (f n)
        ∙ ⊎_elim
        (λ (q : i < n). rw (any_below_lem n, any_found (λ k. p (f k)) i n q b) (find_first d n i q b g))
        (λ (q : n ≤ i). let e : i ≡ n = omega arith in rw (any_below_lem n, any_none (λ k. p (f k)) n (λ k m. g k (omega arith)), ← e, b))
        (less? i n)

    pub find_at : (d : A) (n : ℕ) → any p (tabulate f n) ≡ true → (i : ℕ) × (i < n) × (p (f i) ≡ true) × (find p d (tabulate f n) ≡ f i)
    find_at d n e =
        let r : (i : ℕ) × (i < n) × (p (f i) ≡ true) × ((k : ℕ) → k < i → p (f k) ≡ false) = any_first (λ k. p (f k)) n (sym (any_below_lem n) ∙ e) in
        (r.0, r.1, r.2, find_first d n r.0 r.1 r.2 r.3)

    pub any_at : (n i : ℕ) → i < n → p (f i) ≡ true → any p (tabulate f n) ≡ true
    any_at n i l b = any_below_lem n ∙ any_found (λ k. p (f k)) i n l b

-- ---- a list that a loop fills, an element at a time

-- to set one element is to change the table at that place
pub tabulate_set : (f g : ℕ → ℕ) (n k v : ℕ) → k < n → g k ≡ v → ((j : ℕ) → j < n → (j ≡ k → ⊥) → g j ≡ f j) → set (tabulate f n) k v ≡ tabulate g n
tabulate_set f g n k v l e same =
    ext_get_or 0 (set (tabulate f n) k v) (tabulate g n) (length-set (tabulate f n) k v ∙ tabulate_length f n ∙ sym (tabulate_length g n)) at
  where
    at : (j : ℕ) → j < length (set (tabulate f n) k v) → get_or (set (tabulate f n) k v) j 0 ≡ get_or (tabulate g n) j 0
    at j h =
        let m : j < n = omega (arith, length-set (tabulate f n) k v, tabulate_length f n) in
        ⊎_elim
        (λ (q : j ≡ k). rw q (get_or-set_same (tabulate f n) k v 0 (omega (arith, tabulate_length f n)) ∙ sym (tabulate_at g n k 0 l ∙ e)))
        (λ (q : j ≡ k → ⊥). get_or-set_other (tabulate f n) k j v 0 q ∙ tabulate_at f n j 0 m ∙ sym (tabulate_at g n j 0 m ∙ same j m q))
        (eq? j k)

module _ {A : Type 0} (p : A → Bool) where
  pub tally_le : (xs : List A) → tally p xs ≤ length xs
  unfolding tally
  tally_le [] = omega arith
  tally_le (x ∷ xs) = ⊎_elim (λ (e : p x ≡ true). rw e (omega (arith, tally_le xs))) (λ (e : p x ≡ false). rw e (omega (arith, tally_le xs))) (bool_cases (p x))

  pub tally_append : (xs ys : List A) → tally p (xs ++ ys) ≡ tally p xs + tally p ys
  unfolding tally
  tally_append [] ys = omega arith
  tally_append (x ∷ xs) ys = omega (arith, tally_append xs ys)

  pub tally_none : (x : A) (n : ℕ) → p x ≡ false → tally p (replicate n x) ≡ 0
  unfolding tally
  tally_none x zero e = refl
  tally_none x (suc n) e = rw e (omega (arith, tally_none x n e))

  -- one more passes where one that fails gives way to one that passes
  pub tally_set : (d : A) (xs : List A) (k : ℕ) (v : A) → k < length xs → p (get_or xs k d) ≡ false → p v ≡ true → tally p (set xs k v) ≡ suc (tally p xs)
  unfolding tally
  tally_set d [] k v l e b = absurd (omega arith)
  tally_set d (x ∷ xs) zero v l e b = rw (e, b) (omega arith)
  tally_set d (x ∷ xs) (suc k) v l e b = omega (arith, tally_set d xs k v (omega arith) e b)

-- where none passes a search finds nothing
pub find_none : {A : Type 0} (p : A → Bool) (d : A) (xs : List A) → any p xs ≡ false → find p d xs ≡ d
unfolding find any
find_none p d [] e = refl
find_none p d (x ∷ xs) e = let r : (p x ≡ false) × (any p xs ≡ false) = or_false (p x) _ e in rw r.0 (find_none p d xs r.1)

-- in a list of which every element is changed, by a test that does not see the change
module _ {A : Type 0} (f : A → A) (p : A → Bool) (same : (x : A) → p (f x) ≡ p x) where
  pub find_map : (d : A) → f d ≡ d → (xs : List A) → find p d (map f xs) ≡ f (find p d xs)
  unfolding find
  find_map d e [] = sym e
  find_map d e (x ∷ xs) = rw (same x) (⊎_elim (λ (q : p x ≡ true). rw q) (λ (q : p x ≡ false). rw q (find_map d e xs)) (bool_cases (p x)))
