-- The reader and the grammar: a line's text is read as that line, whatever follows; and what is read as a line is that line's text.
use Prim.Native.Nat.{ℕ, zero, suc, ◌+◌, ◌-◌, ◌/◌, ◌%◌, ◌≤◌, ◌<◌}
use mathlib.Core.Path.{◌≡◌, refl, ap, ◌∙◌}
use mathlib.Core.Logic.{⊎_elim}
use mathlib.Core.Bool.{true, false}
use mathlib.Core.List.{List, [], ◌∷◌, ◌++◌, map, flat_map, append_assoc}
use mathlib.Core.List.Memᴰ.{head as here}
use mathlib.Core.List.Memᴰ.{tail as later}
use mathlib.Core.List.{Memᴰ as Mem}
use Rattle.std.specs.Prelude.{Some}
use native.Mathlib.Omega.{arith}
use borrow.Author.Tests.{ne_eqb, lt-ltb, le-leb}
use lib.Dec.{ltb}
use lib.ListN.{length, length-append}
use lib.Seq.{append_snoc}
use Rattle.base.proofs.Tests.{bool_cases, less?}
use Rattle.format.specs.Printed.{decimal}
use Rattle.wish_lines.specs.Lines.{Line, item_text, joined, group_text, line_text}
use Rattle.wish_lines.specs.Reading.{State, step, scan}
use Rattle.wish_lines.specs.Reading.{is_digit, is_first, with_digit}
use Rattle.wish_lines.specs.Reading.{start, number, colon, group, alone, inside, among, closed, on, done}
use Rattle.wish_lines.proofs.Decimal.{tenth_less, decimal_small, decimal_more}

-- ---- single bytes

digit_test : (b : ℕ) → 48 ≤ b → b ≤ 57 → is_digit b ≡ true
digit_test b l u = rw (le-leb 48 b l, le-leb b 57 u)

first_test : (b : ℕ) → 49 ≤ b → b ≤ 57 → is_first b ≡ true
first_test b l u = rw (le-leb 49 b l, le-leb b 57 u)

-- the reader goes on over a byte
scan_on : (b : ℕ) (t : List ℕ) (σ σ' : State) → step σ b ≡ on σ' → scan (b ∷ t) σ ≡ scan t σ'
unfolding scan
scan_on b t σ σ' e = rw e

scan_done : (b : ℕ) (t : List ℕ) (σ : State) (l : Line) → step σ b ≡ done l → scan (b ∷ t) σ ≡ Some (l, t)
unfolding scan
scan_done b t σ l e = rw e

-- ---- numbers

-- digits go from σ, where a number begins, to k n behind the number n
pub record Counts (σ : State) (k : ℕ → State) : Type 0 where
  pub begins : (b : ℕ) → 49 ≤ b → b ≤ 57 → step σ b ≡ on (k (b - 48))
  pub goes : (x b : ℕ) → 1 ≤ x → 48 ≤ b → b ≤ 57 → step (k x) b ≡ on (k (with_digit x b))

module _ (σ : State) (k : ℕ → State) (C : Counts σ k) where
  -- d bounds the number
  scan_within : (d n : ℕ) (t : List ℕ) → 1 ≤ n → n < d → scan (decimal n ++ t) σ ≡ scan t (k n)
  scan_within zero n t l u = absurd (omega arith)
  scan_within (suc d) n t l u = ⊎_elim small (λ m. large m (scan_within d (n / 10) ((48 + n % 10) ∷ t) (omega arith) (omega (arith, tenth_less n m))))
      (less? n 10)
    where
      small : n < 10 → scan (decimal n ++ t) σ ≡ scan t (k n)
      small s =
          let e : 48 + n - 48 ≡ n = omega arith in
          rw (decimal_small n s) (scan_on (48 + n) t σ _ (C.begins (48 + n) (omega arith) (omega arith)) ∙ ap (λ x. scan t (k x)) e)

      large : 10 ≤ n → scan (decimal (n / 10) ++ ((48 + n % 10) ∷ t)) σ ≡ scan ((48 + n % 10) ∷ t) (k (n / 10)) → scan (decimal n ++ t) σ ≡ scan t (k n)
      large s ih =
          let e : with_digit (n / 10) (48 + n % 10) ≡ n = omega arith in
          rw (decimal_more n s, append_snoc (decimal (n / 10)) (48 + n % 10) t)
          (ih ∙ (scan_on (48 + n % 10) t (k (n / 10)) _ (C.goes (n / 10) (48 + n % 10) (omega arith) (omega arith) (omega arith)) ∙ ap (λ x. scan t (k x)) e))

  scan_number : (n : ℕ) (t : List ℕ) → 1 ≤ n → scan (decimal n ++ t) σ ≡ scan t (k n)
  scan_number n t l = scan_within (suc n) n t l (omega arith)

count_student : Counts start number
unfolding step
count_student =
    record { begins = λ b l u. rw (first_test b l u); goes = λ x b m l u. rw (digit_test b l u) }

count_alone : (s : ℕ) (gs : List (List ℕ)) → Counts (group s gs) (alone s gs)
unfolding step
count_alone s gs =
    record {
      begins = λ b l u. rw (ne_eqb b 123 (λ e. omega arith), ne_eqb b 45 (λ e. omega arith), le-leb 49 b l, le-leb b 57 u);
      goes = λ x b m l u. rw (lt-ltb 0 x m, le-leb 48 b l, le-leb b 57 u);
    }

count_among : (s : ℕ) (gs : List (List ℕ)) (xs : List ℕ) → Counts (inside s gs xs) (among s gs xs)
unfolding step
count_among s gs xs =
    record {
      begins = λ b l u. rw (ne_eqb b 45 (λ e. omega arith), le-leb 49 b l, le-leb b 57 u);
      goes = λ x b m l u. rw (lt-ltb 0 x m, le-leb 48 b l, le-leb b 57 u);
    }

-- ---- items

module _ (s : ℕ) (gs : List (List ℕ)) where
  scan_alone : (x : ℕ) (t : List ℕ) → scan (item_text x ++ t) (group s gs) ≡ scan t (alone s gs x)
  unfolding item_text scan step
  scan_alone zero t = refl
  scan_alone (suc w) t = scan_number (group s gs) (alone s gs) (count_alone s gs) (suc w) t (omega arith)

  scan_among : (xs : List ℕ) (x : ℕ) (t : List ℕ) → scan (item_text x ++ t) (inside s gs xs) ≡ scan t (among s gs xs x)
  unfolding item_text scan step
  scan_among xs zero t = refl
  scan_among xs (suc w) t = scan_number (inside s gs xs) (among s gs xs) (count_among s gs xs) (suc w) t (omega arith)

  -- a comma and the closing brace behind an item in braces
  comma_among : (xs : List ℕ) (x : ℕ) → step (among s gs xs x) 44 ≡ on (inside s gs (xs ++ (x ∷ [])))
  unfolding step
  comma_among xs x = ⊎_elim (λ (e : ltb 0 x ≡ true). rw e) (λ (e : ltb 0 x ≡ false). rw e) (bool_cases (ltb 0 x))

  brace_among : (xs : List ℕ) (x : ℕ) → 0 < length xs → step (among s gs xs x) 125 ≡ on (closed s gs (xs ++ (x ∷ [])))
  unfolding step
  brace_among xs x l = ⊎_elim (λ (e : ltb 0 x ≡ true). rw (e, lt-ltb 0 (length xs) l)) (λ (e : ltb 0 x ≡ false). rw (e, lt-ltb 0 (length xs) l))
      (bool_cases (ltb 0 x))

  -- the items behind the first, each after a comma, and the closing brace
  scan_items : (ys xs : List ℕ) (x : ℕ) (t : List ℕ)
      → 0 < length xs + length ys
      → scan (flat_map (λ u. 44 ∷ u) (map item_text ys) ++ (125 ∷ t)) (among s gs xs x) ≡ scan t (closed s gs (xs ++ (x ∷ ys)))
  unfolding flat_map
  scan_items [] xs x t l = scan_on 125 t (among s gs xs x) _ (brace_among xs x (omega arith))
  scan_items (y ∷ ys) xs x t l =
      scan_on 44 _ (among s gs xs x) _ (comma_among xs x)
      ∙ rw (append_assoc (item_text y) (flat_map (λ u. 44 ∷ u) (map item_text ys)) (125 ∷ t))
      (scan_among (xs ++ (x ∷ [])) y _
      ∙ (scan_items ys (xs ++ (x ∷ [])) y t (omega (arith, length-append xs (x ∷ []))) ∙ ap (λ g. scan t (closed s gs g)) (append_snoc xs x (y ∷ ys))))

-- ---- groups

-- behind the group g
abbrev behind : ℕ → List (List ℕ) → List ℕ → State
behind s gs [] = closed s gs []
behind s gs (x ∷ []) = alone s gs x
behind s gs (x ∷ y ∷ xs) = closed s gs (x ∷ y ∷ xs)

module _ (s : ℕ) where
  brace_group : (gs : List (List ℕ)) → step (group s gs) 123 ≡ on (inside s gs [])
  unfolding step
  brace_group gs = refl

  scan_group : (gs : List (List ℕ)) (g t : List ℕ) → 1 ≤ length g → scan (group_text g ++ t) (group s gs) ≡ scan t (behind s gs g)
  unfolding group_text joined
  scan_group gs [] t l = absurd (omega arith)
  scan_group gs (x ∷ []) t l = scan_alone s gs x t
  scan_group gs (x ∷ y ∷ xs) t l =
      scan_on 123 _ (group s gs) _ (brace_group gs)
      ∙ simp append_assoc
      (scan_among s gs [] x _ ∙ scan_items s gs (y ∷ xs) [] x t (omega arith))

  comma_behind : (gs : List (List ℕ)) (g : List ℕ) → 1 ≤ length g → step (behind s gs g) 44 ≡ on (group s (gs ++ (g ∷ [])))
  unfolding step
  comma_behind gs [] l = absurd (omega arith)
  comma_behind gs (x ∷ []) l = ⊎_elim (λ (e : ltb 0 x ≡ true). rw e) (λ (e : ltb 0 x ≡ false). rw e) (bool_cases (ltb 0 x))
  comma_behind gs (x ∷ y ∷ xs) l = refl

  end_behind : (gs : List (List ℕ)) (g : List ℕ) → 1 ≤ length g → step (behind s gs g) 10 ≡ done (record { student = s; groups = gs ++ (g ∷ []) })
  unfolding step
  end_behind gs [] l = absurd (omega arith)
  end_behind gs (x ∷ []) l = ⊎_elim (λ (e : ltb 0 x ≡ true). rw e) (λ (e : ltb 0 x ≡ false). rw e) (bool_cases (ltb 0 x))
  end_behind gs (x ∷ y ∷ xs) l = refl

  -- the groups behind the first, each after a comma, and the line feed
  scan_groups : (hs gs : List (List ℕ)) (g t : List ℕ)
      → 1 ≤ length g
      → ((h : List ℕ) → Mem h hs → 1 ≤ length h)
      → scan (flat_map (λ u. 44 ∷ u) (map group_text hs) ++ (10 ∷ t)) (behind s gs g) ≡ Some (record { student = s; groups = gs ++ (g ∷ hs) }, t)
  unfolding flat_map
  scan_groups [] gs g t l all = scan_done 10 t (behind s gs g) _ (end_behind gs g l)
  scan_groups (h ∷ hs) gs g t l all =
      scan_on 44 _ (behind s gs g) _ (comma_behind gs g l)
      ∙ rw (append_assoc (group_text h) (flat_map (λ u. 44 ∷ u) (map group_text hs)) (10 ∷ t))
      (scan_group (gs ++ (g ∷ [])) h _ (all h (here refl))
      ∙ (scan_groups hs (gs ++ (g ∷ [])) h t (all h (here refl)) (λ k m. all k (later m))
      ∙ ap (λ (ks : List (List ℕ)). Some (record { student = s; groups = ks }, t)) (append_snoc gs g (h ∷ hs))))

  colon_behind : step (number s) 58 ≡ on (colon s)
  unfolding step
  colon_behind = refl

  blank_behind : step (colon s) 32 ≡ on (group s [])
  unfolding step
  blank_behind = refl

  scan_all : (gs : List (List ℕ)) (t : List ℕ)
      → 1 ≤ length gs
      → ((h : List ℕ) → Mem h gs → 1 ≤ length h)
      → scan (joined (map group_text gs) ++ (10 ∷ t)) (group s []) ≡ Some (record { student = s; groups = gs }, t)
  unfolding joined
  scan_all [] t l all = absurd (omega arith)
  scan_all (g ∷ gs) t l all =
      rw (append_assoc (group_text g) (flat_map (λ u. 44 ∷ u) (map group_text gs)) (10 ∷ t))
      (scan_group [] g _ (all g (here refl)) ∙ scan_groups gs [] g t (all g (here refl)) (λ h m. all h (later m)))

-- ---- a line

-- Completeness: a line's text is read as that line, whatever follows.
pub scan_line : (l : Line) (t : List ℕ)
    → 1 ≤ l.student
    → 1 ≤ length l.groups
    → ((g : List ℕ) → Mem g l.groups → 1 ≤ length g)
    → scan (line_text l ++ t) start ≡ Some (l, t)
unfolding line_text
scan_line l t one some_group all =
    simp append_assoc
    (scan_number start number count_student l.student _ one
    ∙ (scan_on 58 _ (number l.student) _ (colon_behind l.student)
    ∙ (scan_on 32 _ (colon l.student) _ (blank_behind l.student) ∙ scan_all l.student l.groups t some_group all)))
