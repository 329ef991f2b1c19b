-- Counting, selecting and searching over numbers 1 to n and over lists, by tests that compute.
use Rattle.std.specs.Prelude.{ℕ, zero, suc, ◌+◌, max, Bool, true, false, cond, ◌||◌, List, [], ◌∷◌, ◌++◌, eqb, get_or}

-- 1 if the test passed, else 0
abbrev pub one : Bool → ℕ
one true = 1
one false = 0

-- how many of 1 to n pass
unfoldable pub count : (ℕ → Bool) → ℕ → ℕ
count p zero = 0
count p (suc n) = one (p (suc n)) + count p n

-- the sum of f over 1 to n
unfoldable pub total : (ℕ → ℕ) → ℕ → ℕ
total f zero = 0
total f (suc n) = f (suc n) + total f n

-- the largest of f 1 to f n, and 0 where there is none
unfoldable pub largest : (ℕ → ℕ) → ℕ → ℕ
largest f zero = 0
largest f (suc n) = max (largest f n) (f (suc n))

-- the list 1 to n
unfoldable pub upto : ℕ → List ℕ
upto zero = []
upto (suc n) = upto n ++ (suc n ∷ [])

-- the list f 0 to f (n - 1)
unfoldable pub tabulate : {A : Type 0} → (ℕ → A) → ℕ → List A
tabulate f zero = []
tabulate f (suc n) = tabulate f n ++ (f n ∷ [])

-- the list with x in front if the test passed
abbrev pub cons_if : Bool → ℕ → List ℕ → List ℕ
cons_if true x xs = x ∷ xs
cons_if false x xs = xs

-- the elements that pass, in order
unfoldable pub keep : (ℕ → Bool) → List ℕ → List ℕ
keep p [] = []
keep p (x ∷ xs) = cons_if (p x) x (keep p xs)

-- some element passes
unfoldable pub any {ℓ} : {A : Type ℓ} → (A → Bool) → List A → Bool
any p [] = false
any p (x ∷ xs) = p x || any p xs

-- how many elements pass
unfoldable pub tally : {A : Type 0} → (A → Bool) → List A → ℕ
tally p [] = 0
tally p (x ∷ xs) = one (p x) + tally p xs

-- the sum of f over the elements
unfoldable pub sum_of : {A : Type 0} → (A → ℕ) → List A → ℕ
sum_of f [] = 0
sum_of f (x ∷ xs) = f x + sum_of f xs

-- the first element that passes, or d
unfoldable pub find : {A : Type 0} → (A → Bool) → A → List A → A
find p d [] = d
find p d (x ∷ xs) = cond (p x) x (find p d xs)

-- of x and the elements of the list, the one that no other is better than; `better` is a strict order
unfoldable pub pick : (ℕ → ℕ → Bool) → ℕ → List ℕ → ℕ
pick better x [] = x
pick better x (y ∷ ys) = pick better (cond (better y x) y x) ys

-- the function f, changed at k to v
unfoldable pub update : {A : Type 0} → (ℕ → A) → ℕ → A → ℕ → A
update f k v x = cond (eqb x k) v (f x)

-- what a list has for number s: entry s - 1, and 0 for 0 and past the end
abbrev pub entry_for : List ℕ → ℕ → ℕ
entry_for xs zero = 0
entry_for xs (suc s) = get_or xs s 0
