-- The reader reads the grammar, and so the grammar is unambiguous: a text begins with at most one line, and is at most one list of lines.
use Prim.Native.Nat.{ℕ, ◌≤◌}
use mathlib.Core.Path.{◌≡◌, refl, sym, ap, ◌∙◌}
use mathlib.Core.Logic.{⊎_elim}
use mathlib.Core.Bool.{true, false}
use mathlib.Core.List.{List, [], ◌∷◌, ◌++◌, flat_map, flatten}
use mathlib.Core.List.Memᴰ.{head as here}
use mathlib.Core.List.Memᴰ.{tail as later}
use mathlib.Core.List.{Memᴰ as Mem}
use Rattle.std.specs.Prelude.{Some, None}
use Rattle.std.proofs.lemmas.Option.{same_Some}
use native.Mathlib.Omega.{arith}
use borrow.Author.Tests.{eq-eqb, eqb-true}
use lib.Dec.{eqb}
use lib.ListN.{length}
use Rattle.base.specs.Lists.{tally}
use Rattle.base.proofs.Tests.{bool_cases}
use Rattle.wish_lines.specs.Lines.{Line, line_text, lines_text, times, Formed}
use Rattle.wish_lines.specs.Reading.{Parsed, once_none, read_line, scan, start, ReadsForm, OneReading}
use Rattle.wish_lines.proofs.Reader.{scan_line}
use Rattle.wish_lines.proofs.Sound.{Read, line_sound}

-- a line that names none has a group
some_group : (gs : List (List ℕ)) → tally (eqb 0) (flatten gs) ≡ 1 → 1 ≤ length gs
unfolding tally flatten
some_group [] e = absurd (omega arith)
some_group (g ∷ gs) e = omega arith

pub has_group : (l : Line) → Formed l → 1 ≤ length l.groups
unfolding times
has_group l f = some_group l.groups f.none

-- Completeness
pub read_complete : (l : Line) (t : List ℕ) → Formed l → read_line (line_text l ++ t) ≡ Some (l, t)
unfolding read_line
read_complete l t f =
    rw (scan_line l t f.student (has_group l f) f.groups) (rw (eq-eqb (times 0 l) 1 f.none))

-- Soundness
pub read_sound : (t : List ℕ) (l : Line) (rest : List ℕ) → read_line t ≡ Some (l, rest) → (t ≡ line_text l ++ rest) × Formed l
unfolding read_line
read_sound t l rest e = go (scan t start) refl e
  where
    go : (p : Parsed) → scan t start ≡ p → once_none p ≡ Some (l, rest) → (t ≡ line_text l ++ rest) × Formed l
    go None q e = let z : ◌≡◌ {A = ℕ} 0 1 = cc in absurd (omega arith)
    go (Some (k, u)) q e =
        ⊎_elim
        (λ (c : eqb (times 0 k) 1 ≡ true).
        let r : ◌≡◌ {A = Line × List ℕ} (k, u) (l, rest) = same_Some (k, u) (l, rest) (rw c at e) in
        let kl : k ≡ l = ap (λ x. x.0) r in
        let ur : u ≡ rest = ap (λ x. x.1) r in
        let R : Read t k u = line_sound t k u q in
        rw (← kl, ← ur)
        (R.text, record { student = R.whole.student; groups = R.whole.groups; none = eqb-true (times 0 k) 1 c }))
        (λ (c : eqb (times 0 k) 1 ≡ false). let f : None ≡ Some (l, rest) = rw c at e in let z : ◌≡◌ {A = ℕ} 0 1 = cc in absurd (omega arith))
        (bool_cases (eqb (times 0 k) 1))

-- "exactly when"
pub reads : ReadsForm
reads t l rest = (read_sound t l rest, λ r. rw r.0 (read_complete l rest r.1))

-- ---- unambiguous

pub line_unique : OneReading
line_unique l l' t t' f f' e =
    let r : ◌≡◌ {A = Line × List ℕ} (l, t) (l', t') =
    same_Some (l, t) (l', t') (sym (read_complete l t f) ∙ (ap read_line e ∙ read_complete l' t' f')) in
    (ap (λ x. x.0) r, ap (λ x. x.1) r)

no_line : (l : Line) (t : List ℕ) → Formed l → line_text l ++ t ≡ [] → ⊥
unfolding read_line scan
no_line l t f e = let q : read_line [] ≡ Some (l, t) = sym (ap read_line e) ∙ read_complete l t f in let z : ◌≡◌ {A = ℕ} 0 1 = cc in omega arith

abbrev pub AllFormed : List Line → Type 0
AllFormed ls = (l : Line) → Mem l ls → Formed l

pub lines_unique : (ls ls' : List Line) → AllFormed ls → AllFormed ls' → lines_text ls ≡ lines_text ls' → ls ≡ ls'
unfolding lines_text flat_map
lines_unique [] [] f f' e = refl
lines_unique [] (l' ∷ ls') f f' e = absurd (no_line l' (lines_text ls') (f' l' (here refl)) (sym e))
lines_unique (l ∷ ls) [] f f' e = absurd (no_line l (lines_text ls) (f l (here refl)) e)
lines_unique (l ∷ ls) (l' ∷ ls') f f' e =
    let r : (l ≡ l') × (lines_text ls ≡ lines_text ls') = line_unique l l' (lines_text ls) (lines_text ls') (f l (here refl)) (f' l' (here refl)) e in
    rw (r.0, lines_unique ls ls' (λ k m. f k (later m)) (λ k m. f' k (later m)) r.1)
