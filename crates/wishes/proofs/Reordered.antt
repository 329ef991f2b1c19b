-- Items in braces are "read in any order": lines that differ in that order only are read alike.
use Prim.Native.Nat.{ℕ, zero, suc, ◌+◌, ◌-◌, ◌≤◌}
use mathlib.Core.Path.{◌≡◌, refl, sym, ap, ◌∙◌, fun_ext}
use mathlib.Core.Logic.{⊎_elim}
use mathlib.Core.Bool.{Bool, true, false, cond}
use mathlib.Core.List.{List, [], ◌∷◌, ◌++◌, map, flat_map, flatten, append_assoc}
use mathlib.Core.List.Memᴰ.{cases_cons}
use mathlib.Core.List.Memᴰ.{head as here}
use mathlib.Core.List.Memᴰ.{not-nil}
use mathlib.Core.List.Memᴰ.{tail as later}
use mathlib.Core.List.{Memᴰ as Mem}
use native.Mathlib.Omega.{arith}
use borrow.Author.Tests.{lt-ltb}
use lib.Dec.{eqb, ltb}
use lib.ListN.{length, get_or, length-append}
use Rattle.base.specs.Lists.{one, any, tally}
use Rattle.base.proofs.Tests.{bool_cases, never}
use Rattle.base.proofs.Below.{tally_append}
use Rattle.lgs.specs.Market.{Market}
use Rattle.format.specs.Layout.{Row}
use Rattle.format.specs.Engine.{market_in}
use Rattle.format.specs.Printed.{ascii, decimal}
use Rattle.wish_lines.specs.Lines.{Line, joined, group_text, line_text, lines_text, times, Formed, position}
use Rattle.wish_lines.specs.Reading.{misnamed, Reading, read, refused, with_line, read_line, scan, read_from, read_lines}
use Rattle.wish_lines.specs.Wishes.{Ranged}
use Rattle.wish_lines.proofs.Grammar.{read_complete}
use Rattle.wish_lines.proofs.Naming.{named_exactly}
use Rattle.wish_lines.proofs.Written.{tally_in}
use Rattle.wishes.specs.Copy.{with_wish, wished}
use Rattle.wishes.specs.Outcome.{copy_for}
use Rattle.wishes.specs.Promises.{SameItems, SameGroups, no_groups, more_groups, Reordered, no_lines, more_lines}

-- ---- groups with the same items

any_tally : (x : ℕ) (xs : List ℕ) → any (eqb x) xs ≡ ltb 0 (tally (eqb x) xs)
unfolding any tally
any_tally x [] = refl
any_tally x (y ∷ xs) =
    ⊎_elim (λ (e : eqb x y ≡ true). rw e (sym (lt-ltb 0 (1 + tally (eqb x) xs) (omega arith))))
    (λ (e : eqb x y ≡ false). let z : 0 + tally (eqb x) xs ≡ tally (eqb x) xs = omega arith in rw (e, z) (any_tally x xs))
    (bool_cases (eqb x y))

any_same : (x : ℕ) (g g' : List ℕ) → SameItems g g' → any (eqb x) g ≡ any (eqb x) g'
any_same x g g' h = any_tally x g ∙ (ap (ltb 0) (h x) ∙ sym (any_tally x g'))

position_same : {gs gs' : List (List ℕ)} → SameGroups gs gs' → (x : ℕ) → position gs x ≡ position gs' x
unfolding position
position_same no_groups x = refl
position_same (more_groups {g} {g'} h rest) x = rw (any_same x g g' h, position_same rest x)

tally_same : {gs gs' : List (List ℕ)} → SameGroups gs gs' → (x : ℕ) → tally (eqb x) (flatten gs) ≡ tally (eqb x) (flatten gs')
unfolding flatten
tally_same no_groups x = refl
tally_same (more_groups {g} {g'} {gs} {gs'} h rest) x =
    omega (arith, tally_append (eqb x) g (flatten gs), tally_append (eqb x) g' (flatten gs'), h x, tally_same rest x)

some_item : (g g' : List ℕ) → SameItems g g' → 1 ≤ length g → 1 ≤ length g'
unfolding tally
some_item [] g' h l = absurd (omega arith)
some_item (x ∷ g) (y ∷ g') h l = omega arith
some_item (x ∷ g) [] h l =
    absurd (omega (arith, tally_in x (x ∷ g) (here refl), h x))

groups_some : {gs gs' : List (List ℕ)} → SameGroups gs gs' → ((g : List ℕ) → Mem g gs → 1 ≤ length g) → (g : List ℕ) → Mem g gs' → 1 ≤ length g
groups_some no_groups f h m = absurd (not-nil m)
groups_some (more_groups {g} {g'} s more) f h m =
    ⊎_elim (λ (e : h ≡ g'). rw e (some_item g g' s (f g (here refl)))) (λ k. groups_some more (λ d n. f d (later n)) h k) (cases_cons m)

-- ---- lines

formed_same : (l l' : Line) → l.student ≡ l'.student → SameGroups l.groups l'.groups → Formed l → Formed l'
unfolding times
formed_same l l' e same f =
    record {
      student = omega (arith, e, f.student);
      groups = groups_some same f.groups;
      none = sym (tally_same same 0) ∙ f.none;
    }

groups_self : (gs : List (List ℕ)) → SameGroups gs gs
groups_self [] = no_groups
groups_self (g ∷ gs) = more_groups (λ x. refl) (groups_self gs)

lines_self : (ls : List Line) → Reordered ls ls
lines_self [] = no_lines
lines_self (l ∷ ls) = more_lines refl (groups_self l.groups) (lines_self ls)

module _ (M : Market) (R : Ranged M) where
  passed_same : (l l' : Line) → l.student ≡ l'.student → ((x : ℕ) → times x l ≡ times x l') → misnamed M l ≡ false → misnamed M l' ≡ false
  passed_same l l' e same p =
      (named_exactly M R l').1 (λ w low. sym (same w) ∙ ((named_exactly M R l).0 p w low ∙ ap (λ s. one (M.paired s w)) e))

  misnamed_same : (l l' : Line) → l.student ≡ l'.student → ((x : ℕ) → times x l ≡ times x l') → misnamed M l ≡ misnamed M l'
  misnamed_same l l' e same =
      ⊎_elim
      (λ (p : misnamed M l ≡ true).
      ⊎_elim (λ (q : misnamed M l' ≡ true). p ∙ sym q)
      (λ (q : misnamed M l' ≡ false). never p (passed_same l' l (sym e) (λ x. sym (same x)) q))
      (bool_cases (misnamed M l')))
      (λ (p : misnamed M l ≡ false). p ∙ sym (passed_same l l' e same p))
      (bool_cases (misnamed M l))

  -- two readings that differ in the order only
  data Like : Reading → Reading → Type 0 where
    both : {ls ls' : List Line} → Reordered ls ls' → Like (read ls) (read ls')
    same : {k i : ℕ} → Like (refused k i) (refused k i)

  one_more : (l l' : Line) (r r' : Reading) → l.student ≡ l'.student → SameGroups l.groups l'.groups → Like r r' → Like (with_line l r) (with_line l' r')
  one_more l l' r r' e s (both o) = both (more_lines e s o)
  one_more l l' r r' e s same = same

  over : (k : ℕ) (t : List ℕ) → 1 ≤ length t → read_from M 0 k t ≡ refused 14 k
  unfolding read_from
  over k [] l = absurd (omega arith)
  over k (b ∷ t) l = refl

  some_text : (l : Line) (t : List ℕ) → 1 ≤ length (line_text l ++ t)
  unfolding line_text
  some_text l t =
      omega (arith, length-append (line_text l) t, length-append {A = ℕ} (decimal l.student ++ ascii ": " ++ joined (map group_text l.groups)) (10 ∷ []))

  by_cond : (c c' d d' : Bool) (k : ℕ) (r r' : Reading) → c ≡ c' → d ≡ d' → Like r r'
      → Like (cond c (cond d (refused 15 k) r) (refused 14 k)) (cond c' (cond d' (refused 15 k) r') (refused 14 k))
  by_cond true true true true k r r' p q o = same
  by_cond true true true false k r r' p q o = never refl q
  by_cond true true false true k r r' p q o = never q refl
  by_cond true true false false k r r' p q o = o
  by_cond true false d d' k r r' p q o = never refl p
  by_cond false true d d' k r r' p q o = never p refl
  by_cond false false d d' k r r' p q o = same

  alike_self : (r : Reading) → Like r r
  alike_self (read ls) = both (lines_self ls)
  alike_self (refused k i) = same

  -- `rest` stands behind the lines
  from_alike : (rest : List ℕ) (n k : ℕ) (ls ls' : List Line) → ((l : Line) → Mem l ls → Formed l) → Reordered ls ls'
      → Like (read_from M n k (lines_text ls ++ rest)) (read_from M n k (lines_text ls' ++ rest))
  unfolding read_from lines_text flat_map read_line scan times
  from_alike rest n k ms ms' f no_lines = alike_self (read_from M n k rest)
  from_alike rest zero k ms ms' f (more_lines {l} {l'} {ls} {ls'} e s more) =
      rw (
        append_assoc (line_text l) (lines_text ls) rest,
        append_assoc (line_text l') (lines_text ls') rest,
        over k (line_text l ++ (lines_text ls ++ rest)) (some_text l (lines_text ls ++ rest)),
        over k (line_text l' ++ (lines_text ls' ++ rest)) (some_text l' (lines_text ls' ++ rest)),
      )
      same
  from_alike rest (suc n) k ms ms' f (more_lines {l} {l'} {ls} {ls'} e s more) =
      let f' : Formed l' = formed_same l l' e s (f l (here refl)) in
      rw (
        append_assoc (line_text l) (lines_text ls) rest,
        append_assoc (line_text l') (lines_text ls') rest,
        read_complete l (lines_text ls ++ rest) (f l (here refl)),
        read_complete l' (lines_text ls' ++ rest) f',
      )
      (by_cond (eqb l.student (suc k)) (eqb l'.student (suc k)) (misnamed M l) (misnamed M l') k _ _ (ap (λ x. eqb x (suc k)) e)
      (misnamed_same l l' e (tally_same s))
      (one_more l l' (read_from M n (suc k) (lines_text ls ++ rest)) (read_from M n (suc k) (lines_text ls' ++ rest)) e s
      (from_alike rest n (suc k) ls ls' (λ d m. f d (later m)) more)))

-- ---- the copy

groups_at : {ls ls' : List Line} → Reordered ls ls' → (i : ℕ) (d : Line) (x : ℕ) → position (get_or ls i d).groups x ≡ position (get_or ls' i d).groups x
groups_at no_lines i d x = refl
groups_at (more_lines e s more) zero d x = position_same s x
groups_at (more_lines e s more) (suc i) d x = groups_at more i d x

wish_same : {ls ls' : List Line} → Reordered ls ls' → (r : Row) → with_wish ls r ≡ with_wish ls' r
unfolding with_wish
wish_same o r = rw (
  groups_at o (r.first - 1) (record { student = 0; groups = [] }) 0,
  groups_at o (r.first - 1) (record { student = 0; groups = [] })
      r.second,
)

copy_same : (case : List ℕ) (M : Market) (R : Ranged M) (r r' : Reading) → Like M R r r' → copy_for case r ≡ copy_for case r'
unfolding copy_for wished
copy_same case M R r r' (both {ls} {ls'} o) = rw (fun_ext (wish_same o))
copy_same case M R r r' same = refl

pub read_alike : (case rest : List ℕ) → Ranged (market_in case) → (ls ls' : List Line) → ((l : Line) → Mem l ls → Formed l) → Reordered ls ls'
    → copy_for case (read_lines (market_in case) (lines_text ls ++ rest)) ≡ copy_for case (read_lines (market_in case) (lines_text ls' ++ rest))
unfolding read_lines
read_alike case rest R ls ls' f o = copy_same case (market_in case) R _ _ (from_alike (market_in case) R rest (market_in case).students 0 ls ls' f o)
