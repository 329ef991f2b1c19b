-- Soundness of the reader: what it has read is the text of its state, so what it reads as a line is that line's text.
use Prim.Native.Nat.{ℕ, zero, suc, ◌+◌, ◌-◌, ◌≤◌, ◌<◌}
use mathlib.Core.Path.{◌≡◌, refl, sym, ap, ◌∙◌}
use mathlib.Core.Logic.{⊎_elim}
use mathlib.Core.Bool.{Bool, true, false, cond, ◌&&◌}
use mathlib.Core.List.{List, [], ◌∷◌, ◌++◌, map, flat_map, append_assoc, append-nil}
use mathlib.Core.List.Memᴰ.{append_cases}
use mathlib.Core.List.Memᴰ.{eq_of_singleton}
use mathlib.Core.List.Memᴰ.{not-nil}
use mathlib.Core.List.{Memᴰ as Mem}
use Rattle.std.specs.Prelude.{Some}
use Rattle.std.proofs.lemmas.Option.{same_Some}
use native.Mathlib.Omega.{arith}
use borrow.Author.Tests.{eqb-true, leb-true, ltb-true}
use lib.Dec.{eqb, ltb, leb}
use lib.ListN.{length, length-append}
use Rattle.base.proofs.Tests.{and_left, and_right}
use Rattle.format.specs.Printed.{decimal}
use Rattle.wish_lines.specs.Lines.{Line, item_text, joined, group_text, line_text}
use Rattle.wish_lines.specs.Reading.{State, Step, step, scan, proceed}
use Rattle.wish_lines.specs.Reading.{is_digit, is_first, with_digit, begin_item, end_group, end_item}
use Rattle.wish_lines.specs.Reading.{start, number, colon, group, alone, inside, among, closed, on, done, wrong}
use Rattle.wish_lines.proofs.Decimal.{decimal_small, decimal_digit}

-- ---- texts with a comma behind each

commas : List (List ℕ) → List ℕ
commas [] = []
commas (t ∷ ts) = t ++ (44 ∷ commas ts)

commas_snoc : (ts : List (List ℕ)) (u : List ℕ) → commas (ts ++ (u ∷ [])) ≡ commas ts ++ (u ++ (44 ∷ []))
unfolding commas
commas_snoc [] u = refl
commas_snoc (t ∷ ts) u = rw (commas_snoc ts u, append_assoc t (44 ∷ commas ts) (u ++ (44 ∷ [])))

-- with the last text behind, they are joined
commas_joined : (ts : List (List ℕ)) (u : List ℕ) → commas ts ++ u ≡ joined (ts ++ (u ∷ []))
unfolding commas joined flat_map
commas_joined [] u = sym (append-nil u)
commas_joined (t ∷ ts) u = append_assoc t (44 ∷ commas ts) u ∙ ap (λ k. t ++ k) (ap (λ k. 44 ∷ k) (commas_joined ts u) ∙ first ts)
  where
    first : (ts : List (List ℕ)) → 44 ∷ joined (ts ++ (u ∷ [])) ≡ flat_map (λ k. 44 ∷ k) (ts ++ (u ∷ []))
    first [] = refl
    first (t ∷ ts) = refl

map_snoc : {A : Type 0} (f : A → List ℕ) (xs : List A) (x : A) → map f (xs ++ (x ∷ [])) ≡ map f xs ++ (f x ∷ [])
map_snoc f [] x = refl
map_snoc f (y ∷ xs) x = ap (λ k. f y ∷ k) (map_snoc f xs x)

-- ---- the text of a state

abbrev head : ℕ → List (List ℕ) → List ℕ
head s gs = decimal s ++ (58 ∷ 32 ∷ commas (map group_text gs))

abbrev brace : List ℕ → List ℕ
brace xs = 123 ∷ commas (map item_text xs)

abbrev shown : State → List ℕ
shown start = []
shown (number s) = decimal s
shown (colon s) = decimal s ++ (58 ∷ [])
shown (group s gs) = head s gs
shown (alone s gs x) = head s gs ++ item_text x
shown (inside s gs xs) = head s gs ++ brace xs
shown (among s gs xs x) = head s gs ++ (brace xs ++ item_text x)
shown (closed s gs g) = head s gs ++ group_text g

pub record Whole (s : ℕ) (gs : List (List ℕ)) : Type 0 where
  pub student : 1 ≤ s
  pub groups : (g : List ℕ) → Mem g gs → 1 ≤ length g

abbrev Good : State → Type 0
Good start = Unit {0}
Good (number s) = 1 ≤ s
Good (colon s) = 1 ≤ s
Good (group s gs) = Whole s gs
Good (alone s gs x) = Whole s gs
Good (inside s gs xs) = Whole s gs
Good (among s gs xs x) = Whole s gs
Good (closed s gs g) = Whole s gs × (1 ≤ length g)

-- what a step from the text t over the byte b gives
abbrev Sound : List ℕ → ℕ → Step → Type 0
Sound t b (on σ) = (shown σ ≡ t ++ (b ∷ [])) × Good σ
Sound t b (done l) = (line_text l ≡ t ++ (b ∷ [])) × Whole l.student l.groups × (1 ≤ length l.groups)
Sound t b wrong = Unit {0}

by_test : (P : Step → Type 0) (c : Bool) (x y : Step) → (c ≡ true → P x) → (c ≡ false → P y) → P (cond c x y)
by_test P true x y f g = f refl
by_test P false x y f g = g refl

more_whole : {s : ℕ} {gs : List (List ℕ)} (g : List ℕ) → Whole s gs → 1 ≤ length g → Whole s (gs ++ (g ∷ []))
more_whole {s} {gs} g w l =
    record {
      student = w.student;
      groups = λ h m. ⊎_elim (w.groups h) (λ k. let e : h ≡ g = eq_of_singleton k in rw e l) (append_cases gs m);
    }

-- ---- the parts of a step

-- what tests of a byte say
digit : (b : ℕ) → is_digit b ≡ true → (48 ≤ b) × (b ≤ 57)
digit b e = (leb-true 48 b (and_left (leb 48 b) _ e), leb-true b 57 (and_right (leb 48 b) _ e))

first : (b : ℕ) → is_first b ≡ true → (49 ≤ b) × (b ≤ 57)
first b e = (leb-true 49 b (and_left (leb 49 b) _ e), leb-true b 57 (and_right (leb 49 b) _ e))

first_text : (b : ℕ) → is_first b ≡ true → decimal (b - 48) ≡ b ∷ []
first_text b e =
    let r : (49 ≤ b) × (b ≤ 57) = first b e in
    let q : 48 + (b - 48) ≡ b = omega arith in
    decimal_small (b - 48) (omega arith) ∙ ap (λ k. k ∷ []) q

item_number : (n : ℕ) → 1 ≤ n → item_text n ≡ decimal n
unfolding item_text
item_number zero l = absurd (omega arith)
item_number (suc n) l = refl

item_first : (b : ℕ) → is_first b ≡ true → item_text (b - 48) ≡ b ∷ []
item_first b e = let r : (49 ≤ b) × (b ≤ 57) = first b e in item_number (b - 48) (omega arith) ∙ first_text b e

item_digit : (x b : ℕ) → (ltb 0 x && is_digit b) ≡ true → item_text (with_digit x b) ≡ item_text x ++ (b ∷ [])
item_digit x b e =
    let l : 0 < x = ltb-true 0 x (and_left (ltb 0 x) _ e) in
    let r : (48 ≤ b) × (b ≤ 57) = digit b (and_right (ltb 0 x) _ e) in
    item_number (with_digit x b) (omega arith) ∙ (decimal_digit x b l r.0 r.1 ∙ ap (λ k. k ++ (b ∷ [])) (sym (item_number x l)))

-- a group behind whole groups, and a comma or the line feed
group_comma : (s : ℕ) (gs : List (List ℕ)) (g : List ℕ) → head s (gs ++ (g ∷ [])) ≡ (head s gs ++ group_text g) ++ (44 ∷ [])
group_comma s gs g = rw (map_snoc group_text gs g, commas_snoc (map group_text gs) (group_text g)) (simp append_assoc)

group_end : (s : ℕ) (gs : List (List ℕ)) (g : List ℕ)
    → line_text (record { student = s; groups = gs ++ (g ∷ []) }) ≡ (head s gs ++ group_text g) ++ (10 ∷ [])
unfolding line_text
group_end s gs g = rw (map_snoc group_text gs g, sym (commas_joined (map group_text gs) (group_text g))) (simp append_assoc)

-- an item in braces behind whole items, and a comma or the brace
item_comma : (xs : List ℕ) (x : ℕ) → brace (xs ++ (x ∷ [])) ≡ (brace xs ++ item_text x) ++ (44 ∷ [])
item_comma xs x = rw (map_snoc item_text xs x, commas_snoc (map item_text xs) (item_text x)) (simp append_assoc)

braced : (g : List ℕ) → 1 < length g → group_text g ≡ 123 ∷ (joined (map item_text g) ++ (125 ∷ []))
unfolding group_text
braced [] l = absurd (omega arith)
braced (x ∷ []) l = absurd (omega arith)
braced (x ∷ y ∷ xs) l = refl

item_brace : (xs : List ℕ) (x : ℕ) → 0 < length xs → group_text (xs ++ (x ∷ [])) ≡ (brace xs ++ item_text x) ++ (125 ∷ [])
item_brace xs x l =
    braced (xs ++ (x ∷ [])) (omega (arith, length-append xs (x ∷ [])))
    ∙ rw (map_snoc item_text xs x, sym (commas_joined (map item_text xs) (item_text x))) (simp append_assoc)

-- ---- a step

module _ (s : ℕ) (gs : List (List ℕ)) (w : Whole s gs) where
  -- the text u of an item behind the text t of the state where it begins
  begin_sound : (t : List ℕ) (k : ℕ → State) (b : ℕ)
      → ((x : ℕ) → item_text x ≡ b ∷ [] → Sound t b (on (k x)))
      → Sound t b (begin_item k b)
  unfolding item_text
  begin_sound t k b item =
      by_test (Sound t b) (eqb b 45) _ _ (λ e. item 0 (ap (λ c. c ∷ []) (sym (eqb-true b 45 e))))
      (λ d. by_test (Sound t b) (is_first b) _ _ (λ e. item (b - 48) (item_first b e)) (λ e. tt))

  end_sound : (g : List ℕ) (b : ℕ) → 1 ≤ length g → Sound (head s gs ++ group_text g) b (end_group s (gs ++ (g ∷ [])) b)
  end_sound g b l =
      by_test (Sound (head s gs ++ group_text g) b) (eqb b 44) _ _
      (λ e. rw (eqb-true b 44 e) (group_comma s gs g, more_whole g w l))
      (λ d.
      by_test (Sound (head s gs ++ group_text g) b) (eqb b 10) _ _
      (λ e. rw (eqb-true b 10 e) (group_end s gs g, more_whole g w l, omega (arith, length-append gs (g ∷ []))))
      (λ e. tt))

  item_sound : (xs : List ℕ) (x b : ℕ) → Sound (head s gs ++ (brace xs ++ item_text x)) b (end_item s gs xs x b)
  item_sound xs x b =
      by_test (Sound (head s gs ++ (brace xs ++ item_text x)) b) (eqb b 44) _ _
      (λ e. rw (eqb-true b 44 e) (ap (λ k. head s gs ++ k) (item_comma xs x) ∙ sym (append_assoc (head s gs) (brace xs ++ item_text x) (44 ∷ [])), w))
      (λ d.
      by_test (Sound (head s gs ++ (brace xs ++ item_text x)) b) (eqb b 125 && ltb 0 (length xs)) _ _
      (λ e.
      rw (eqb-true b 125 (and_left (eqb b 125) _ e)) (
        ap (λ k. head s gs ++ k) (item_brace xs x (ltb-true 0 (length xs) (and_right (eqb b 125) _ e)))
            ∙ sym (append_assoc (head s gs) (brace xs ++ item_text x) (125 ∷ [])),
        (w, omega (arith, length-append xs (x ∷ []))),
      ))
      (λ e. tt))

no_groups_lem : (s : ℕ) → 1 ≤ s → Whole s []
no_groups_lem s l = record { student = l; groups = λ g m. absurd (not-nil m) }

step_sound : (σ : State) (b : ℕ) → Good σ → Sound (shown σ) b (step σ b)
unfolding step commas group_text
step_sound start b good = by_test (Sound [] b) (is_first b) _ _ (λ e. (first_text b e, omega (arith, first b e))) (λ e. tt)
step_sound (number s) b good =
    by_test (Sound (decimal s) b) (is_digit b) _ _
    (λ e. (decimal_digit s b good (digit b e).0 (digit b e).1, omega arith))
    (λ d. by_test (Sound (decimal s) b) (eqb b 58) _ _ (λ e. rw (eqb-true b 58 e) (refl, good)) (λ e. tt))
step_sound (colon s) b good =
    by_test (Sound (decimal s ++ (58 ∷ [])) b) (eqb b 32) _ _
    (λ e. rw (eqb-true b 32 e) (sym (append_assoc (decimal s) (58 ∷ []) (32 ∷ [])), no_groups_lem s good))
    (λ e. tt)
step_sound (group s gs) b good =
    by_test (Sound (head s gs) b) (eqb b 123) _ _
    (λ e. rw (eqb-true b 123 e) (refl, good))
    (λ d. begin_sound s gs good (head s gs) (alone s gs) b (λ x e. (ap (λ k. head s gs ++ k) e, good)))
step_sound (alone s gs x) b good =
    by_test (Sound (head s gs ++ item_text x) b) (ltb 0 x && is_digit b) _ _
    (λ e. (ap (λ k. head s gs ++ k) (item_digit x b e) ∙ sym (append_assoc (head s gs) (item_text x) (b ∷ [])), good))
    (λ d. end_sound s gs good (x ∷ []) b (omega arith))
step_sound (inside s gs xs) b good =
    begin_sound s gs good (head s gs ++ brace xs) (among s gs xs) b
    (λ x e. (ap (λ k. head s gs ++ (brace xs ++ k)) e ∙ sym (append_assoc (head s gs) (brace xs) (b ∷ [])), good))
step_sound (among s gs xs x) b good =
    by_test (Sound (head s gs ++ (brace xs ++ item_text x)) b) (ltb 0 x && is_digit b) _ _
    (λ e. (ap (λ k. head s gs ++ (brace xs ++ k)) (item_digit x b e) ∙ simp append_assoc, good))
    (λ d. item_sound s gs good xs x b)
step_sound (closed s gs g) b good = end_sound s gs good.0 g b good.1

-- ---- a text

-- what is read from the text t is the text of the line and the rest
pub record Read (t : List ℕ) (l : Line) (rest : List ℕ) : Type 0 where
  pub text : t ≡ line_text l ++ rest
  pub whole : Whole l.student l.groups
  pub groups : 1 ≤ length l.groups

scan_sound : (t : List ℕ) (σ : State) (l : Line) (rest : List ℕ) → Good σ → scan t σ ≡ Some (l, rest) → Read (shown σ ++ t) l rest
unfolding scan
scan_sound [] σ l rest good e = let z : ◌≡◌ {A = ℕ} 0 1 = cc in absurd (omega arith)
scan_sound (b ∷ t) σ l rest good e =
    by_step (step σ b) (step_sound σ b good) (λ σ'. scan_sound t σ' l rest) e
  where
    by_step : (r : Step) → Sound (shown σ) b r
        → ((σ' : State) → Good σ' → scan t σ' ≡ Some (l, rest) → Read (shown σ' ++ t) l rest)
        → proceed r (scan t) t ≡ Some (l, rest)
        → Read (shown σ ++ (b ∷ t)) l rest
    by_step (on σ') sound more e =
        let r : Read (shown σ' ++ t) l rest = more σ' sound.1 e in
        record {
          text = sym (append_assoc (shown σ) (b ∷ []) t) ∙ (ap (λ k. k ++ t) (sym sound.0) ∙ r.text);
          whole = r.whole;
          groups = r.groups;
        }
    by_step (done k) sound more e =
        let r : ◌≡◌ {A = Line × List ℕ} (k, t) (l, rest) = same_Some (k, t) (l, rest) e in
        let p : k ≡ l = ap (λ x. x.0) r in
        let q : t ≡ rest = ap (λ x. x.1) r in
        rw (← p, ← q)
        (record {
          text = sym (append_assoc (shown σ) (b ∷ []) t) ∙ ap (λ k. k ++ t) (sym sound.0);
          whole = sound.1;
          groups = sound.2;
        })
    by_step wrong sound more e = let z : ◌≡◌ {A = ℕ} 0 1 = cc in absurd (omega arith)

pub line_sound : (t : List ℕ) (l : Line) (rest : List ℕ) → scan t start ≡ Some (l, rest) → Read t l rest
line_sound t l rest e = scan_sound t start l rest tt e
