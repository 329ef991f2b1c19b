-- The cause or none, of what was read and noted of a line.
use Prim.Native.Nat.{ℕ, zero, suc, ◌+◌, ◌/◌, ◌%◌, ◌≤◌, ◌<◌}
use mathlib.Core.Path.{◌≡◌, refl, sym, ap, ◌∙◌}
use mathlib.Core.Logic.{⊎_elim, ◌⊎◌, inl, inr}
use mathlib.Core.Bool.{Bool, true, false, cond, not, ◌&&◌}
use mathlib.Core.List.{List}
use Rattle.std.specs.Prelude.{Some, None, Result, Ok, Err}
use native.Mathlib.Omega.{arith}
use borrow.Author.Tests.{eq-eqb, ne_eqb, eqb-true}
use lib.Dec.{eqb}
use lib.ListN.{length, drop, get_or}
use Rattle.base.specs.Lists.{one}
use Rattle.base.specs.Bits.{bit, member}
use Rattle.base.proofs.Tests.{bool_cases, never, is_false, less?, eq?}
use Rattle.base.proofs.Digits.{digit}
use Rattle.lgs.specs.Market.{Market}
use Rattle.wish_lines.specs.Lines.{Line, times, position, Formed}
use Rattle.wish_lines.specs.Reading.{scan, read_line, misnamed, start}
use Rattle.wish_lines.specs.Wishes.{Option?, Ranged}
use Rattle.wish_lines.proofs.Naming.{named_exactly, few_groups}
use Rattle.wish_lines.proofs.Grammar.{read_sound}
use Rattle.line_reader.specs.declared.Number.{Number}
use Rattle.line_reader.specs.declared.Marks.{Marks}
use Rattle.line_reader.specs.declared.Body.{Body}
use Rattle.line_reader.specs.Items.{cap, Headed}
use Rattle.line_reader.specs.Marks.{times_in, Marked, BodyRead}
use Rattle.api.specs.declared.Cause.{Cause}
use Rattle.api.specs.declared.Cause.TheVariants.{LineForm, LineNames}
use Rattle.line_reader.specs.Checked.{LineChecked}

-- ---- sets with the same members are the same number

-- d bounds both numbers
same_digits : (d n m : ℕ) → n + m ≤ d → ((i : ℕ) → bit n i ≡ bit m i) → n ≡ m
unfolding bit
same_digits zero n m l h = omega arith
same_digits (suc d) n m l h =
    ⊎_elim (λ (z : 0 < n + m). last (same_digits d (n / 2) (m / 2) (omega arith) (λ i. h (suc i))) (digit n) (digit m))
    (λ (z : n + m ≤ 0). omega arith)
    (less? 0 (n + m))
  where
    last : n / 2 ≡ m / 2 → (n % 2 ≡ 0) ⊎ (n % 2 ≡ 1) → (m % 2 ≡ 0) ⊎ (m % 2 ≡ 1) → n ≡ m
    last e (inl p) (inl q) = omega arith
    last e (inl p) (inr q) = let a : bit n 0 ≡ false = rw p in let b : bit m 0 ≡ true = rw q in never b (sym (h 0) ∙ a)
    last e (inr p) (inl q) = let a : bit n 0 ≡ true = rw p in let b : bit m 0 ≡ false = rw q in never a (h 0 ∙ b)
    last e (inr p) (inr q) = omega arith

same_members : (n m : ℕ) → ((w : ℕ) → 1 ≤ w → member n w ≡ member m w) → n ≡ m
unfolding member
same_members n m h = same_digits (n + m) n m (omega arith) (λ i. h (suc i) (omega arith))

one_same : (a b : Bool) → one a ≡ one b → a ≡ b
one_same true true e = refl
one_same true false e = absurd (omega arith)
one_same false true e = absurd (omega arith)
one_same false false e = refl

cap_test : (x n : ℕ) → n < 1000 → eqb (cap x) n ≡ eqb x n
cap_test x n l =
    ⊎_elim (λ (e : x ≡ n). eq-eqb (cap x) n (omega arith) ∙ sym (eq-eqb x n e))
    (λ (e : x ≡ n → ⊥). ne_eqb (cap x) n (λ q. e (omega arith)) ∙ sym (ne_eqb x n e))
    (eq? x n)

-- ---- the names

module _ (M : Market) (R : Ranged M) (high : (s w : ℕ) → M.paired s w ≡ true → w ≤ 64) (l : Line) (m : Marks) (groups : List ℕ)
    (K : Marked l.groups m groups) (set : ℕ) (pairs : (w : ℕ) → member set w ≡ M.paired l.student w) where
  exactly : misnamed M l ≡ false → (w : ℕ) → 1 ≤ w → times_in l.groups w ≡ one (M.paired l.student w)
  unfolding times
  exactly e = (named_exactly M R l).0 e

  enough : ((w : ℕ) → 1 ≤ w → times_in l.groups w ≡ one (M.paired l.student w)) → misnamed M l ≡ false
  unfolding times
  enough h = (named_exactly M R l).1 h

  option_once : Formed l → misnamed M l ≡ false → (x : ℕ) → Option? M l.student x → times_in l.groups x ≡ 1
  unfolding times
  option_once f e zero o = f.none
  option_once f e (suc w) o = exactly e (suc w) (omega arith) ∙ ap one o

  stray_misnamed : m.stray ≡ true → misnamed M l ≡ false → ⊥
  stray_misnamed s e = go (K.stray s)
    where
      go : (w : ℕ) × (1 ≤ w) × ((2 ≤ times_in l.groups w) ⊎ ((64 < w) × (1 ≤ times_in l.groups w))) → ⊥
      go (w, low, inl t) =
          ⊎_elim (λ (p : M.paired l.student w ≡ true). omega (arith, exactly e w low, ap one p))
          (λ (p : M.paired l.student w ≡ false). omega (arith, exactly e w low, ap one p))
          (bool_cases (M.paired l.student w))
      go (w, low, inr t) =
          ⊎_elim (λ (p : M.paired l.student w ≡ true). omega (arith, high l.student w p, t.0))
          (λ (p : M.paired l.student w ≡ false). omega (arith, exactly e w low, ap one p, t.1))
          (bool_cases (M.paired l.student w))

  same_named : m.stray ≡ false → m.named ≡ set → misnamed M l ≡ false
  same_named s e = enough (λ w low. K.named s w low ∙ ap one (ap (λ n. member n w) e ∙ pairs w))

  named_same : m.stray ≡ false → misnamed M l ≡ false → m.named ≡ set
  named_same s e = same_members m.named set (λ w low. one_same _ _ (sym (K.named s w low) ∙ (exactly e w low ∙ ap one (sym (pairs w)))))

  -- the code's test of the names
  pub names_test : (not m.stray && eqb m.named set) ≡ not (misnamed M l)
  names_test =
      ⊎_elim
      (λ (s : m.stray ≡ true). rw (s, is_true (misnamed M l) (stray_misnamed s)))
      (λ (s : m.stray ≡ false).
      ⊎_elim (λ (e : m.named ≡ set). rw (s, eq-eqb m.named set e, same_named s e))
      (λ (e : m.named ≡ set → ⊥). rw (s, ne_eqb m.named set e, is_true (misnamed M l) (λ f. e (named_same s f))))
      (eq? m.named set))
      (bool_cases m.stray)
    where
      is_true : (b : Bool) → (b ≡ false → ⊥) → b ≡ true
      is_true true h = refl
      is_true false h = absurd (h refl)

-- ---- the line

-- what the code finds of a line that ends at `end`, by its tests
abbrev pub decided : ℕ → Bool → Bool → Result ℕ Cause
decided end form names = cond form (cond names (Ok end) (Err LineNames)) (Err LineForm)

module _ (M : Market) (text : List ℕ) (from k : ℕ) (groups : List ℕ) (sized : length groups ≡ 65) where
  pub departs : scan (drop from text) start ≡ None → LineChecked M text from k (Err LineForm) groups
  unfolding read_line
  departs e = (sized, rw e)

  -- the line l was read, and m noted of it; v is the student's number as the code has it
  module _ (R : Ranged M) (high : (s w : ℕ) → M.paired s w ≡ true → w ≤ 64) (small : k < 512)
      (set : ℕ) (pairs : (w : ℕ) → member set w ≡ M.paired (k + 1) w)
      (l : Line) (end : ℕ) (scanned : scan (drop from text) start ≡ Some (l, drop end text)) (within : end ≤ length text)
      (m : Marks) (K : Marked l.groups m groups) (v : ℕ) (value : v ≡ cap l.student) where
    found : Result ℕ Cause
    found = decided end (eqb m.nones 1 && eqb v (k + 1)) (not m.stray && eqb m.named set)

    none_test : eqb m.nones 1 ≡ eqb (times 0 l) 1
    unfolding times
    none_test = ap (λ n. eqb n 1) K.nones ∙ cap_test (times_in l.groups 0) 1 (omega arith)

    student_test : eqb v (k + 1) ≡ eqb l.student (suc k)
    student_test =
        let e : k + 1 ≡ suc k = omega arith in
        rw (value, e) (cap_test l.student (suc k) (omega arith))

    not_once : eqb (times 0 l) 1 ≡ false → LineChecked M text from k found groups
    unfolding read_line found
    not_once e = rw (none_test, e) (sized, rw scanned (rw e))

    module _ (once : eqb (times 0 l) 1 ≡ true) where
      is_read : read_line (drop from text) ≡ Some (l, drop end text)
      unfolding read_line
      is_read = rw scanned (rw once)

      not_hers : eqb l.student (suc k) ≡ false → LineChecked M text from k found groups
      unfolding found
      not_hers e = rw (none_test, once, student_test, e) (sized, rw is_read (rw e))

      module _ (hers : eqb l.student (suc k) ≡ true) where
        her_pairs : (w : ℕ) → member set w ≡ M.paired l.student w
        her_pairs w = let e : k + 1 ≡ l.student = omega (arith, eqb-true l.student (suc k) hers) in pairs w ∙ ap (λ s. M.paired s w) e

        by_names : found ≡ cond (not (misnamed M l)) (Ok end) (Err LineNames)
        unfolding found
        by_names = rw (none_test, once, student_test, hers, names_test M R high l m groups K set her_pairs)

        wrong_names : misnamed M l ≡ true → LineChecked M text from k found groups
        wrong_names e = rw (by_names, e) (sized, rw is_read (rw (hers, e)))

        right_names : misnamed M l ≡ false → LineChecked M text from k found groups
        right_names e =
            rw (by_names, e) (
              sized,
              record {
                line = l;
                rest = drop end text;
                read = is_read;
                fault = rw (hers, e);
                left = refl;
                within = within;
                noted = positions;
              },
            )
          where
            formed : Formed l
            formed = (read_sound (drop from text) l (drop end text) is_read).1

            clean : m.stray ≡ false
            clean = is_false m.stray (λ s. stray_misnamed M R high l m groups K set her_pairs s e)

            positions : (x : ℕ) → Option? M (suc k) x → get_or groups x 0 ≡ position l.groups x
            positions x o =
                let own : Option? M l.student x = rw (eqb-true l.student (suc k) hers) o in
                K.position clean x (option_once M R high l m groups K set her_pairs formed e x own)
                ∙ omega (arith, (few_groups M R l formed e x own).1)

        named_checked : LineChecked M text from k found groups
        named_checked = ⊎_elim wrong_names right_names (bool_cases (misnamed M l))

    pub line_checked : LineChecked M text from k (decided end (eqb m.nones 1 && eqb v (k + 1)) (not m.stray && eqb m.named set)) groups
    unfolding found
    line_checked =
        ⊎_elim (λ (e : eqb (times 0 l) 1 ≡ true). ⊎_elim (named_checked e) (not_hers e) (bool_cases (eqb l.student (suc k)))) not_once
        (bool_cases (eqb (times 0 l) 1))

-- of the student's number h and the groups b behind it
module _ (M : Market) (text : List ℕ) (from k : ℕ) (groups : List ℕ) (h : Number) (H : Headed text from (Some h)) where
  pub no_body : BodyRead text h.end None groups → LineChecked M text from k (Err LineForm) groups
  no_body B = departs M text from k groups B.0 (H.2 ∙ B.1 H.0)

  pub checked : (R : Ranged M) (high : (s w : ℕ) → M.paired s w ≡ true → w ≤ 64) → k < 512
      → (b : Body) → BodyRead text h.end (Some b) groups
      → (set : ℕ) → ((w : ℕ) → member set w ≡ M.paired (k + 1) w)
      → (form names : Bool) → form ≡ (eqb b.marks.nones 1 && eqb h.value (k + 1)) → names ≡ (not b.marks.stray && eqb b.marks.named set)
      → LineChecked M text from k (decided b.end form names) groups
  checked R high small b B set pairs form names f n =
      rw (f, n)
      (line_checked M text from k groups B.3.sized R high small set pairs (record { student = H.0; groups = B.0 }) b.end
      (H.2 ∙ B.1 H.0) B.2 b.marks B.3 h.value H.1)
