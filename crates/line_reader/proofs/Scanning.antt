-- The numbers, the items and the turns of the code, against the reader's steps.
use Prim.Native.Nat.{ℕ, suc, ◌+◌, ◌-◌, ◌≤◌, ◌<◌}
use mathlib.Core.Path.{◌≡◌, refl, ap, ◌∙◌}
use mathlib.Core.Logic.{⊎_elim}
use mathlib.Core.Bool.{Bool, true, false, cond, ◌&&◌}
use mathlib.Core.List.{List, [], ◌∷◌, ◌++◌}
use Rattle.std.specs.Prelude.{Some, None, Option}
use native.Mathlib.Omega.{arith}
use borrow.Author.Tests.{eqb-true, lt-ltb, le-ltb, ltb-true, leb-true}
use lib.Dec.{eqb, ltb}
use lib.ListN.{length, drop, get_or, drop_of_length-le}
use lib.Seq.{drop-cons, drop-drop}
use Rattle.base.proofs.Tests.{bool_cases, less?, and_left, and_right}
use Rattle.wish_lines.specs.Lines.{Line}
use Rattle.wish_lines.specs.Reading.{State, scan, step, is_digit, is_first, with_digit, begin_item, end_group, end_item}
use Rattle.wish_lines.specs.Reading.{start, number, colon, group, alone, inside, among, closed, on, done, wrong}
use Rattle.line_reader.specs.declared.Number.{Number}
use Rattle.line_reader.specs.declared.Turn.{Turn}
use Rattle.line_reader.specs.Items.{cap, stands_at, digits_in, extended, number_in, item_in, shown, Headed}
use Rattle.line_reader.specs.Items.{behind_group, in_braces, before, Open, Each, Turned}

-- ---- bytes

pub stands_inside : (text : List ℕ) (i b : ℕ) → stands_at text i b ≡ true → i < length text
stands_inside text i b e = ltb-true i (length text) (and_left (ltb i (length text)) _ e)

pub first_at : (text : List ℕ) (i : ℕ) → i < length text → drop i text ≡ get_or text i 0 ∷ drop (i + 1) text
first_at text i l = let e : suc i ≡ i + 1 = omega arith in drop-cons text i 0 l ∙ ap (λ k. get_or text i 0 ∷ drop k text) e

pub stands_first : (text : List ℕ) (i b : ℕ) → stands_at text i b ≡ true → drop i text ≡ b ∷ drop (i + 1) text
stands_first text i b e =
    first_at text i (stands_inside text i b e) ∙ ap (λ k. k ∷ drop (i + 1) text) (eqb-true (get_or text i 0) b (and_right (ltb i (length text)) _ e))

scan_on : (b : ℕ) (t : List ℕ) (σ σ' : State) → step σ b ≡ on σ' → scan (b ∷ t) σ ≡ scan t σ'
unfolding scan
scan_on b t σ σ' e = rw e

scan_done : (b : ℕ) (t : List ℕ) (σ : State) (l : Line) → step σ b ≡ done l → scan (b ∷ t) σ ≡ Some (l, t)
unfolding scan
scan_done b t σ l e = rw e

scan_wrong : (b : ℕ) (t : List ℕ) (σ : State) → step σ b ≡ wrong → scan (b ∷ t) σ ≡ None
unfolding scan
scan_wrong b t σ e = rw e

pub scan_past : (text : List ℕ) (i : ℕ) (σ : State) → length text ≤ i → scan (drop i text) σ ≡ None
unfolding scan
scan_past text i σ l = rw (drop_of_length-le text l)

-- ---- numbers

-- digits go on from k x, where the number x was read
abbrev pub Goes : (ℕ → State) → Type 0
Goes k = (x b : ℕ) → 1 ≤ x → is_digit b ≡ true → step (k x) b ≡ on (k (with_digit x b))

scan_digits : (k : ℕ → State) → Goes k → (x : ℕ) (t : List ℕ) → 1 ≤ x → scan t (k x) ≡ scan (drop (digits_in t) t) (k (extended x t))
unfolding digits_in extended
scan_digits k G x [] l = refl
scan_digits k G x (b ∷ t) l =
    ⊎_elim (λ (e : is_digit b ≡ true). rw e (scan_on b t (k x) _ (G x b l e) ∙ scan_digits k G (with_digit x b) t (omega arith)))
    (λ (e : is_digit b ≡ false). rw e)
    (bool_cases (is_digit b))

-- a digit that follows would be of the number x
abbrev pub Over : ℕ → List ℕ → Type 0
Over x [] = Unit {0}
Over x (b ∷ t) = (ltb 0 x && is_digit b) ≡ false

and_no : (a : Bool) → (a && false) ≡ false
and_no true = refl
and_no false = refl

digits_over : (x : ℕ) (t : List ℕ) → Over x (drop (digits_in t) t)
unfolding digits_in
digits_over x [] = tt
digits_over x (b ∷ t) =
    ⊎_elim (λ (e : is_digit b ≡ true). rw e (digits_over x t)) (λ (e : is_digit b ≡ false). rw e (rw e (and_no (ltb 0 x)))) (bool_cases (is_digit b))

pub digits_inside : (t : List ℕ) → digits_in t ≤ length t
unfolding digits_in
digits_inside [] = omega arith
digits_inside (b ∷ t) =
    ⊎_elim (λ (e : is_digit b ≡ true). rw e (omega (arith, digits_inside t))) (λ (e : is_digit b ≡ false). rw e (omega arith)) (bool_cases (is_digit b))

-- what is read from σ, behind which the item x leads to k x
abbrev pub Reads : State → (ℕ → State) → List ℕ → Option (ℕ × ℕ) → Type 0
Reads σ k t None = scan t σ ≡ None
Reads σ k t (Some (x, n)) = (scan t σ ≡ scan (drop n t) (k x)) × Over x (drop n t) × (1 ≤ n) × (n ≤ length t)

by_option : (P : Option (ℕ × ℕ) → Type 0) (c : Bool) (x y : Option (ℕ × ℕ)) → (c ≡ true → P x) → (c ≡ false → P y) → P (cond c x y)
by_option P true x y f g = f refl
by_option P false x y f g = g refl

-- a number begins, or the first byte leads on as a `-` may
number_reads : (σ : State) (k : ℕ → State) → Goes k → (b : ℕ) (t : List ℕ)
    → step σ b ≡ cond (is_first b) (on (k (b - 48))) wrong → Reads σ k (b ∷ t) (number_in (b ∷ t))
number_reads σ k G b t e =
    by_option (Reads σ k (b ∷ t)) (is_first b) _ _
    (λ (f : is_first b ≡ true).
    let l : 49 ≤ b = leb-true 49 b (and_left _ _ f) in
    (scan_on b t σ (k (b - 48)) (e ∙ rw f) ∙ scan_digits k G (b - 48) t (omega arith), digits_over _ t, omega arith, omega (arith, digits_inside t)))
    (λ (f : is_first b ≡ false). scan_wrong b t σ (e ∙ rw f))

item_first : (σ : State) (k : ℕ → State) → Goes k → (b : ℕ) (t : List ℕ) → step σ b ≡ begin_item k b → Reads σ k (b ∷ t) (item_in (b ∷ t))
item_first σ k G b t e =
    by_option (Reads σ k (b ∷ t)) (eqb b 45) _ _
    (λ (f : eqb b 45 ≡ true). (scan_on b t σ (k 0) (e ∙ rw f), over t, omega arith, omega arith))
    (λ (f : eqb b 45 ≡ false). number_reads σ k G b t (e ∙ rw f))
  where
    over : (t : List ℕ) → Over 0 t
    over [] = tt
    over (c ∷ t) = refl

-- the first byte of the text leads from σ to an item
abbrev pub Begins : State → (ℕ → State) → List ℕ → Type 0
Begins σ k [] = Unit {0}
Begins σ k (b ∷ t) = step σ b ≡ begin_item k b

pub item_reads : (σ : State) (k : ℕ → State) → Goes k → (t : List ℕ) → Begins σ k t → Reads σ k t (item_in t)
unfolding scan
item_reads σ k G [] e = refl
item_reads σ k G (b ∷ t) e = item_first σ k G b t e

pub student_reads : (t : List ℕ) → Reads start number t (number_in t)
unfolding scan step
student_reads [] = refl
student_reads (b ∷ t) = number_reads start number (λ x b l e. rw e) b t refl

goes_alone : (s : ℕ) (gs : List (List ℕ)) → Goes (alone s gs)
unfolding step
goes_alone s gs x b l e = rw (lt-ltb 0 x l, e)

goes_among : (s : ℕ) (gs : List (List ℕ)) (xs : List ℕ) → Goes (among s gs xs)
unfolding step
goes_among s gs xs x b l e = rw (lt-ltb 0 x l, e)

-- ---- one item with what stands around it

by_turn : (P : Option Turn → Type 0) (c : Bool) (x y : Option Turn) → (c ≡ true → P x) → (c ≡ false → P y) → P (cond c x y)
by_turn P true x y f g = f refl
by_turn P false x y f g = g refl

-- the item x is read from place i on
module _ (text : List ℕ) (i : ℕ) (within : Bool) (x : ℕ) where
  -- behind a group, at place j: the next byte ends it, whichever state `at` is
  module _ (v j : ℕ) (at : ℕ → List (List ℕ) → List ℕ → State) (same : v ≡ cap x) (past : i ≤ j)
      (here : Each text i within (λ s gs xs. scan (drop j text) (at s gs xs)))
      (ends : j < length text → (s : ℕ) (gs : List (List ℕ)) (xs : List ℕ) → Open within xs
      → step (at s gs xs) (get_or text j 0) ≡ end_group s (gs ++ ((xs ++ (x ∷ [])) ∷ [])) (get_or text j 0)) where
    abbrev b : ℕ
    b = get_or text j 0

    abbrev rest : List ℕ
    rest = drop (j + 1) text

    pub behind_turned : Turned text i within (behind_group text v j)
    behind_turned = ⊎_elim more none_left (less? j (length text))
      where
        none_left : length text ≤ j → Turned text i within (behind_group text v j)
        none_left l = rw (le-ltb j (length text) l) (λ s gs xs o. here s gs xs o ∙ scan_past text j (at s gs xs) l)

        more : j < length text → Turned text i within (behind_group text v j)
        more l =
            rw (lt-ltb j (length text) l)
            (by_turn (Turned text i within) (eqb b 44) _ _
            (λ c. (
              x,
              same,
              omega arith,
              omega arith,
              λ s gs xs o. here s gs xs o ∙ rw (first_at text j l) (scan_on b rest (at s gs xs) _ (ends l s gs xs o ∙ rw c)),
            ))
            (λ d. by_turn (Turned text i within) (eqb b 10) _ _
            (λ c. (
              x,
              same,
              omega arith,
              omega arith,
              λ s gs xs o. here s gs xs o ∙ rw (first_at text j l) (scan_done b rest (at s gs xs) _ (ends l s gs xs o ∙ rw (d, c))),
            ))
            (λ c s gs xs o. here s gs xs o ∙ rw (first_at text j l) (scan_wrong b rest (at s gs xs) (ends l s gs xs o ∙ rw (d, c))))))

-- the item x has been read where the text goes on at j
over_at : (text : List ℕ) (j x : ℕ) → j < length text → Over x (drop j text) → (ltb 0 x && is_digit (get_or text j 0)) ≡ false
over_at text j x l o = rw (first_at text j l) at o

among_ends : (s : ℕ) (gs : List (List ℕ)) (xs : List ℕ) (x b : ℕ) → (ltb 0 x && is_digit b) ≡ false → step (among s gs xs x) b ≡ end_item s gs xs x b
unfolding step
among_ends s gs xs x b e = rw e

alone_ends : (s : ℕ) (gs : List (List ℕ)) (x b : ℕ) → (ltb 0 x && is_digit b) ≡ false → step (alone s gs x) b ≡ end_group s (gs ++ ((x ∷ []) ∷ [])) b
unfolding step
alone_ends s gs x b e = rw e

closed_ends : (s : ℕ) (gs : List (List ℕ)) (g : List ℕ) (b : ℕ) → step (closed s gs g) b ≡ end_group s (gs ++ (g ∷ [])) b
unfolding step
closed_ends s gs g b = refl

and_swap : (a b : Bool) → (a && b) ≡ (b && a)
and_swap true true = refl
and_swap true false = refl
and_swap false true = refl
and_swap false false = refl

-- in braces at place i, from place i₀ on
module _ (text : List ℕ) (i₀ : ℕ) (within : Bool) (i : ℕ) (more : Bool) (past : i₀ ≤ i)
    (enters : (s : ℕ) (gs : List (List ℕ)) (xs : List ℕ) → Open within xs → scan (drop i₀ text) (before within s gs xs) ≡ scan (drop i text) (inside s gs xs))
    (many : (xs : List ℕ) → Open within xs → ltb 0 (length xs) ≡ more) where
  braced_item : (x n : ℕ) → ((s : ℕ) (gs : List (List ℕ)) (xs : List ℕ) → Reads (inside s gs xs) (among s gs xs) (drop i text) (Some (x, n)))
      → Turned text i₀ within (in_braces text more (shown i (Some (x, n))))
  braced_item x n h = ⊎_elim inner none_left (less? (i + n) (length text))
    where
      here : Each text i₀ within (λ s gs xs. scan (drop (i + n) text) (among s gs xs x))
      here s gs xs o = enters s gs xs o ∙ ((h s gs xs).0 ∙ rw (drop-drop n i text))

      some_bytes : 1 ≤ n
      some_bytes = (h 0 [] []).2

      none_left : length text ≤ i + n → Turned text i₀ within (in_braces text more (shown i (Some (x, n))))
      none_left l =
          rw (le-ltb (i + n) (length text) l, and_no more)
          (λ s gs xs o. here s gs xs o ∙ scan_past text (i + n) (among s gs xs x) l)

      inner : i + n < length text → Turned text i₀ within (in_braces text more (shown i (Some (x, n))))
      inner l =
          rw (lt-ltb (i + n) (length text) l)
          (by_turn (Turned text i₀ within) (eqb b 44) _ _
          (λ c. (
            x,
            refl,
            omega (arith, some_bytes),
            omega arith,
            λ s gs xs o. here s gs xs o ∙ rw (first_at text (i + n) l) (scan_on b rest (among s gs xs x) _ (ends s gs xs ∙ rw c)),
          ))
          (λ d. by_turn (Turned text i₀ within) (more && eqb b 125) _ _
          (λ c. behind_turned text i₀ within x (cap x) (i + n + 1) (λ s gs xs. closed s gs (xs ++ (x ∷ []))) refl (omega (arith, some_bytes))
          (λ s gs xs o. here s gs xs o ∙ rw (first_at text (i + n) l) (scan_on b rest (among s gs xs x) _ (ends s gs xs ∙ rw (d, closes xs o, c))))
          (λ k s gs xs o. closed_ends s gs (xs ++ (x ∷ [])) _))
          (λ c s gs xs o. here s gs xs o ∙ rw (first_at text (i + n) l) (scan_wrong b rest (among s gs xs x) (ends s gs xs ∙ rw (d, closes xs o, c))))))
        where
          b : ℕ
          b = get_or text (i + n) 0

          rest : List ℕ
          rest = drop (i + n + 1) text

          ends : (s : ℕ) (gs : List (List ℕ)) (xs : List ℕ) → step (among s gs xs x) b ≡ end_item s gs xs x b
          ends s gs xs = among_ends s gs xs x b (over_at text (i + n) x l (rw (drop-drop n i text) at (h s gs xs).1))

          closes : (xs : List ℕ) → Open within xs → (eqb b 125 && ltb 0 (length xs)) ≡ (more && eqb b 125)
          closes xs o = rw (many xs o) (and_swap (eqb b 125) more)

  pub braces_turned : Turned text i₀ within (in_braces text more (shown i (item_in (drop i text))))
  unfolding step
  braces_turned =
      go (item_in (drop i text))
      (λ s gs xs. item_reads (inside s gs xs) (among s gs xs) (goes_among s gs xs) (drop i text) (begins (drop i text) s gs xs))
    where
      begins : (t : List ℕ) (s : ℕ) (gs : List (List ℕ)) (xs : List ℕ) → Begins (inside s gs xs) (among s gs xs) t
      begins [] s gs xs = tt
      begins (b ∷ t) s gs xs = refl

      go : (p : Option (ℕ × ℕ)) → ((s : ℕ) (gs : List (List ℕ)) (xs : List ℕ) → Reads (inside s gs xs) (among s gs xs) (drop i text) p)
          → Turned text i₀ within (in_braces text more (shown i p))
      go None h = λ s gs xs o. enters s gs xs o ∙ h s gs xs
      go (Some (x, n)) h = braced_item x n h

-- behind an item that is a group
abbrev pub alone_turn : List ℕ → Option Number → Option Turn
alone_turn text None = None
alone_turn text (Some n) = behind_group text n.value n.end

-- where a group must begin, and no brace stands
module _ (text : List ℕ) (i : ℕ) (bare : stands_at text i 123 ≡ false) where
  begins_alone : (s : ℕ) (gs : List (List ℕ)) → Begins (group s gs) (alone s gs) (drop i text)
  unfolding step
  begins_alone s gs =
      ⊎_elim (λ (l : i < length text). rw (first_at text i l) (rw (rw (lt-ltb i (length text) l) at bare)))
      (λ (l : length text ≤ i). rw (drop_of_length-le text l) tt)
      (less? i (length text))

  reads_alone : (s : ℕ) (gs : List (List ℕ)) → Reads (group s gs) (alone s gs) (drop i text) (item_in (drop i text))
  reads_alone s gs = item_reads (group s gs) (alone s gs) (goes_alone s gs) (drop i text) (begins_alone s gs)

  pub alone_turned : Turned text i false (alone_turn text (shown i (item_in (drop i text))))
  alone_turned = go (item_in (drop i text)) reads_alone
    where
      go : (p : Option (ℕ × ℕ)) → ((s : ℕ) (gs : List (List ℕ)) → Reads (group s gs) (alone s gs) (drop i text) p)
          → Turned text i false (alone_turn text (shown i p))
      go None r = λ s gs xs o. r s gs
      go (Some (x, k)) r =
          behind_turned text i false x (cap x) (i + k) (λ s gs xs. alone s gs x) refl (omega arith)
          (λ s gs xs o. (r s gs).0 ∙ rw (drop-drop k i text))
          (λ l s gs xs o. rw o (alone_ends s gs x _ (over_at text (i + k) x l (rw (drop-drop k i text) at (r s gs).1))))

-- ---- the student's number

abbrev Ended : List ℕ → Option (ℕ × ℕ) → Type 0
Ended t None = Unit {0}
Ended t (Some (x, n)) = Over 1 (drop n t)

number_ended : (t : List ℕ) → Ended t (number_in t)
number_ended [] = tt
number_ended (b ∷ t) = by_option (Ended (b ∷ t)) (is_first b) _ _ (λ e. digits_over 1 t) (λ e. tt)

module _ (text : List ℕ) (from : ℕ) where
  -- the number n was read
  pub record Student (n : Number) : Type 0 where
    pub whole : ℕ
    pub value : n.value ≡ cap whole
    pub reads : scan (drop from text) start ≡ scan (drop n.end text) (number whole)
    pub over : n.end < length text → is_digit (get_or text n.end 0) ≡ false

  abbrev pub Started : Option Number → Type 0
  Started None = scan (drop from text) start ≡ None
  Started (Some n) = Student n

  pub started : Started (shown from (number_in (drop from text)))
  started = go (number_in (drop from text)) (student_reads (drop from text)) (number_ended (drop from text))
    where
      go : (p : Option (ℕ × ℕ)) → Reads start number (drop from text) p → Ended (drop from text) p → Started (shown from p)
      go None r o = r
      go (Some (x, k)) r o =
          record {
            whole = x;
            value = refl;
            reads = r.0 ∙ rw (drop-drop k from text);
            over = λ l. over_at text (from + k) 1 l (rw (drop-drop k from text) at o);
          }

  module _ (n : Number) (S : Student n) where
    pub no_colon : stands_at text n.end 58 ≡ false → scan (drop from text) start ≡ None
    unfolding step
    no_colon c =
        S.reads
        ∙ ⊎_elim
        (λ (l : n.end < length text).
        rw (first_at text n.end l) (scan_wrong _ _ (number S.whole) (rw (S.over l, rw (lt-ltb n.end (length text) l) at c))))
        (λ (l : length text ≤ n.end). scan_past text n.end _ l)
        (less? n.end (length text))

    -- at the colon
    colon_on : stands_at text n.end 58 ≡ true → scan (drop from text) start ≡ scan (drop (n.end + 1) text) (colon S.whole)
    unfolding step
    colon_on c = S.reads ∙ rw (stands_first text n.end 58 c) (scan_on 58 _ (number S.whole) _ refl)

    pub no_blank : stands_at text n.end 58 ≡ true → stands_at text (n.end + 1) 32 ≡ false → scan (drop from text) start ≡ None
    unfolding step
    no_blank c d =
        colon_on c
        ∙ ⊎_elim
        (λ (l : n.end + 1 < length text).
        rw (first_at text (n.end + 1) l) (scan_wrong _ _ (colon S.whole) (rw (rw (lt-ltb (n.end + 1) (length text) l) at d))))
        (λ (l : length text ≤ n.end + 1). scan_past text (n.end + 1) _ l)
        (less? (n.end + 1) (length text))

    pub head_right : stands_at text n.end 58 ≡ true → stands_at text (n.end + 1) 32 ≡ true
        → Headed text from (Some (record { value = n.value; end = n.end + 2 }))
    unfolding step
    head_right b c = (
      S.whole,
      S.value,
      colon_on b ∙ (blank ∙ ap (λ k. scan (drop k text) (group S.whole [])) after),
      omega (arith, stands_inside text (n.end + 1) 32 c),
    )
      where
        blank : scan (drop (n.end + 1) text) (colon S.whole) ≡ scan (drop (n.end + 1 + 1) text) (group S.whole [])
        blank = rw (stands_first text (n.end + 1) 32 c) (scan_on 32 _ (colon S.whole) _ refl)

        after : n.end + 1 + 1 ≡ n.end + 2
        after = omega arith

-- ---- the ways of a turn

module _ (text : List ℕ) (i : ℕ) where
  inner_turned : Turned text i true (in_braces text true (shown i (item_in (drop i text))))
  inner_turned = braces_turned text i true i true (omega arith) (λ s gs xs o. refl) (λ xs o. lt-ltb 0 (length xs) o)

  pub next_inner : (within : Bool) → within ≡ true → Turned text i within (in_braces text true (shown i (item_in (drop i text))))
  next_inner within e = rw e inner_turned

  brace_turned : stands_at text i 123 ≡ true → Turned text i false (in_braces text false (shown (i + 1) (item_in (drop (i + 1) text))))
  unfolding step
  brace_turned s =
      braces_turned text i false (i + 1) false (omega arith)
      (λ n gs xs o. rw (o, stands_first text i 123 s) (scan_on 123 (drop (i + 1) text) (group n gs) (inside n gs []) refl))
      (λ xs o. rw o)

  pub next_brace : (within : Bool) → within ≡ false → stands_at text i 123 ≡ true
      → Turned text i within (in_braces text false (shown (i + 1) (item_in (drop (i + 1) text))))
  next_brace within e s = rw e (brace_turned s)

  pub next_alone : (within : Bool) → within ≡ false → stands_at text i 123 ≡ false
      → Turned text i within (alone_turn text (shown i (item_in (drop i text))))
  next_alone within e bare = rw e (alone_turned text i bare)
