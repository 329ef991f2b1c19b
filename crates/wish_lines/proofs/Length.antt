-- How long the text of a case is: at most 8 bytes for each student and 4 for each pair.
use Prim.Native.Nat.{ℕ, zero, suc, ◌+◌, ◌*◌, ◌≤◌}
use mathlib.Core.Path.{◌≡◌, refl, ap}
use mathlib.Core.Logic.{⊎_elim}
use mathlib.Core.Bool.{Bool, true, false}
use mathlib.Core.List.{List, [], ◌∷◌, ◌++◌, map, flat_map, flatten}
use mathlib.Core.List.Memᴰ.{head as here}
use mathlib.Core.List.Memᴰ.{tail as later}
use mathlib.Core.List.{Memᴰ as Mem}
use native.Mathlib.Omega.{arith}
use borrow.Author.Tests.{eqb-true, leb-true, le-leb, lt-leb}
use lib.Dec.{eqb, leb}
use lib.ListN.{length, length-append}
use Rattle.base.specs.Lists.{sum_of, upto, keep, count, total}
use Rattle.base.proofs.Tests.{bool_cases}
use Rattle.base.proofs.Sums.{sum_append}
use Rattle.base.proofs.Digits.{keep_count}
use Rattle.base.proofs.Members.{upto_in, keep_in}
use Rattle.lgs.specs.Market.{Market}
use Rattle.lgs.specs.Profiles.{outside_or}
use Rattle.format.specs.Printed.{decimal}
use Rattle.wish_lines.specs.Lines.{Line, item_text, joined, group_text, line_text, lines_text}
use Rattle.wish_lines.specs.Wishes.{options_of, at_tier, groups_from, line_of, lines_from, lines_of}
use Rattle.wish_lines.specs.Wishes.{wish_text, pairs_of, Ranged}
use Rattle.wish_lines.proofs.Decimal.{two_digits, three_digits}
use Rattle.wish_lines.proofs.Named.{flatten_cons}
use Rattle.wish_lines.proofs.Written.{line_formed}
use Rattle.wish_lines.proofs.Grammar.{has_group}

-- ---- texts with commas

-- each with one byte more
abbrev spaced : {A : Type 0} → (A → List ℕ) → A → ℕ
spaced f x = 1 + length (f x)

commas_length : {A : Type 0} (f : A → List ℕ) (xs : List A) → length (flat_map (λ u. 44 ∷ u) (map f xs)) ≡ sum_of (spaced f) xs
unfolding flat_map sum_of
commas_length f [] = refl
commas_length f (x ∷ xs) = omega (arith, length-append (f x) (flat_map (λ u. 44 ∷ u) (map f xs)), commas_length f xs)

joined_length : {A : Type 0} (f : A → List ℕ) (xs : List A) → 1 ≤ length xs → 1 + length (joined (map f xs)) ≡ sum_of (spaced f) xs
unfolding joined sum_of
joined_length f [] l = absurd (omega arith)
joined_length f (x ∷ xs) l = omega (arith, length-append (f x) (flat_map (λ u. 44 ∷ u) (map f xs)), commas_length f xs)

-- an item, its comma and half a pair of braces
abbrev item_room : ℕ → ℕ
item_room x = 2 + length (item_text x)

room_more : (xs : List ℕ) → sum_of item_room xs ≡ length xs + sum_of (spaced item_text) xs
unfolding sum_of
room_more [] = refl
room_more (x ∷ xs) = omega (arith, room_more xs)

group_length : (g : List ℕ) → 1 ≤ length g → 1 + length (group_text g) ≤ sum_of item_room g
unfolding group_text sum_of
group_length [] l = absurd (omega arith)
group_length (x ∷ []) l = omega arith
group_length (x ∷ y ∷ xs) l =
    omega (
      arith,
      length-append (joined (map item_text (x ∷ y ∷ xs))) (125 ∷ []),
      joined_length item_text (x ∷ y ∷ xs) (omega arith),
      room_more (x ∷ y ∷ xs),
    )

groups_length : (gs : List (List ℕ)) → ((g : List ℕ) → Mem g gs → 1 ≤ length g) → sum_of (spaced group_text) gs ≤ sum_of item_room (flatten gs)
unfolding sum_of flatten
groups_length [] all = omega arith
groups_length (g ∷ gs) all =
    omega (
      arith,
      group_length g (all g (here refl)),
      groups_length gs (λ h m. all h (later m)),
      sum_append item_room g (flatten gs),
    )

line_length : (l : Line) → 1 ≤ length l.groups → ((g : List ℕ) → Mem g l.groups → 1 ≤ length g)
    → length (line_text l) ≤ length (decimal l.student) + 2 + sum_of item_room (flatten l.groups)
unfolding line_text
line_length l some all =
    omega (
      arith,
      length-append ((decimal l.student ++ (58 ∷ 32 ∷ [])) ++ joined (map group_text l.groups)) (10 ∷ []),
      length-append (decimal l.student ++ (58 ∷ 32 ∷ [])) (joined (map group_text l.groups)),
      length-append (decimal l.student) (58 ∷ 32 ∷ []),
      joined_length group_text l.groups some,
      groups_length l.groups all,
    )

-- ---- each option stands in one group

sum_keep : (f : ℕ → ℕ) (p q r : ℕ → Bool)
    → ((x : ℕ) → p x ≡ true → (q x ≡ false) × (r x ≡ true))
    → ((x : ℕ) → q x ≡ true → r x ≡ true)
    → (xs : List ℕ)
    → sum_of f (keep p xs) + sum_of f (keep q xs) ≤ sum_of f (keep r xs)
unfolding sum_of keep
sum_keep f p q r first next [] = omega arith
sum_keep f p q r first next (x ∷ xs) =
    ⊎_elim (λ (e : p x ≡ true). rw (e, (first x e).0, (first x e).1) (omega (arith, sum_keep f p q r first next xs)))
    (λ (e : p x ≡ false).
    rw e
    (⊎_elim (λ (c : q x ≡ true). rw (c, next x c) (omega (arith, sum_keep f p q r first next xs)))
    (λ (c : q x ≡ false).
    rw c
    (⊎_elim (λ (d : r x ≡ true). rw d (omega (arith, sum_keep f p q r first next xs)))
    (λ (d : r x ≡ false). rw d (sum_keep f p q r first next xs))
    (bool_cases (r x))))
    (bool_cases (q x))))
    (bool_cases (p x))

keep_all : (p : ℕ → Bool) (f : ℕ → ℕ) (xs : List ℕ) → sum_of f (keep p xs) ≤ sum_of f xs
unfolding sum_of keep
keep_all p f [] = omega arith
keep_all p f (x ∷ xs) =
    ⊎_elim (λ (e : p x ≡ true). rw e (omega (arith, keep_all p f xs))) (λ (e : p x ≡ false). rw e (omega (arith, keep_all p f xs))) (bool_cases (p x))

module _ (tier : ℕ → ℕ) (xs : List ℕ) (f : ℕ → ℕ) where
  groups_rest : (k t : ℕ) → sum_of f (flatten (groups_from tier xs k t)) ≤ sum_of f (keep (λ x. leb t (tier x)) xs)
  unfolding groups_from flatten sum_of at_tier
  groups_rest zero t = omega arith
  groups_rest (suc k) t =
      omega (
        arith,
        ap (sum_of f) (flatten_cons (at_tier tier xs t) (groups_from tier xs k (suc t))),
        sum_append f (at_tier tier xs t) (flatten (groups_from tier xs k (suc t))),
        groups_rest k (suc t),
        sum_keep f (λ x. eqb (tier x) t) (λ x. leb (suc t) (tier x)) (λ x. leb t (tier x))
            (λ x e. let q : tier x ≡ t = eqb-true (tier x) t e in (lt-leb (suc t) (tier x) (omega arith), le-leb t (tier x) (omega arith)))
            (λ x e. let q : suc t ≤ tier x = leb-true (suc t) (tier x) e in le-leb t (tier x) (omega arith)) xs,
      )

  groups_all : (k t : ℕ) → sum_of f (flatten (groups_from tier xs k t)) ≤ sum_of f xs
  groups_all k t = omega (arith, groups_rest k t, keep_all (λ x. leb t (tier x)) f xs)

-- ---- a student's line

each_within : (f : ℕ → ℕ) (xs : List ℕ) → ((x : ℕ) → Mem x xs → f x ≤ 4) → sum_of f xs ≤ 4 * length xs
unfolding sum_of
each_within f [] h = omega arith
each_within f (x ∷ xs) h = omega (arith, h x (here refl), each_within f xs (λ y m. h y (later m)))

count_options : (p : ℕ → Bool) (m : ℕ) → count (outside_or p) m ≡ count p m
unfolding count
count_options p zero = refl
count_options p (suc m) = rw (count_options p m)

item_length : (x : ℕ) → x ≤ 64 → length (item_text x) ≤ 2
unfolding item_text
item_length zero l = omega arith
item_length (suc w) l = two_digits (suc w) (omega arith)

module _ (M : Market) (R : Ranged M) where
  options_length : (s : ℕ) → sum_of item_room (options_of M s) ≤ 3 + 4 * count (M.paired s) M.workshops
  unfolding options_of keep sum_of item_text
  options_length s =
      omega (
        arith,
        each_within item_room (keep (outside_or (M.paired s)) (upto M.workshops)) small,
        keep_count (outside_or (M.paired s)) M.workshops,
        count_options (M.paired s) M.workshops,
      )
    where
      small : (x : ℕ) → Mem x (keep (outside_or (M.paired s)) (upto M.workshops)) → item_room x ≤ 4
      small x m =
          omega (arith, item_length x (omega (arith, upto_in M.workshops x (keep_in (outside_or (M.paired s)) (upto M.workshops) x m).1, R.workshops)))

  student_length : (s : ℕ) → 1 ≤ s → s ≤ M.students → length (line_text (line_of M s)) ≤ 8 + 4 * count (M.paired s) M.workshops
  unfolding line_of
  student_length s l u =
      omega (
        arith,
        line_length (line_of M s) (has_group (line_of M s) (line_formed M R s l u)) (line_formed M R s l u).groups,
        three_digits s (omega (arith, R.students)),
        groups_all (M.student_tier s) (options_of M s) item_room 65 1,
        options_length s,
      )

  abbrev pairs_for : ℕ → ℕ
  pairs_for s = count (M.paired s) M.workshops

  total_suc : (k : ℕ) → total pairs_for (suc k) ≡ pairs_for (suc k) + total pairs_for k
  unfolding total
  total_suc k = refl

  lines_length : (n k : ℕ) → k + n ≤ M.students
      → length (lines_text (lines_from M n k)) + 4 * total pairs_for k ≤ 8 * n + 4 * total pairs_for (k + n)
  unfolding lines_text lines_from flat_map
  lines_length zero k l = omega (arith, ap (total pairs_for) (same k))
    where
      same : (k : ℕ) → k + 0 ≡ k
      same k = omega arith
  lines_length (suc n) k l =
      omega (
        arith,
        length-append (line_text (line_of M (suc k))) (lines_text (lines_from M n (suc k))),
        student_length (suc k) (omega arith) (omega arith),
        lines_length n (suc k) (omega arith),
        total_suc k,
        ap (total pairs_for) (same k n),
      )
    where
      same : (k n : ℕ) → k + suc n ≡ suc k + n
      same k n = omega arith

  -- the room for the text of a case
  pub text_length : length (wish_text M) ≤ 8 * M.students + 4 * pairs_of M
  unfolding wish_text lines_of pairs_of
  text_length = omega (arith, lines_length M.students 0 (omega arith), ap (total pairs_for) (same M.students))
    where
      same : (n : ℕ) → 0 + n ≡ n
      same n = omega arith
