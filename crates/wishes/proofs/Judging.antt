-- The lines of a text, one after the other, as the loop over them meets them.
use Prim.Native.Nat.{ℕ, zero, suc, ◌+◌, ◌-◌, ◌*◌, ◌≤◌, ◌<◌}
use mathlib.Core.Path.{◌≡◌, refl, sym, ap, ◌∙◌, subst}
use mathlib.Core.Logic.{⊎_elim}
use mathlib.Core.Bool.{Bool, true, false}
use mathlib.Core.List.{List, [], ◌∷◌, ◌++◌}
use Rattle.std.specs.Prelude.{Option, Some, None, Result, Ok, Err}
use Rattle.std.specs.Result.{MatchResult, IsErrAnd}
use native.Mathlib.Omega.{arith}
use lib.Dec.{eqb}
use lib.ListN.{length, get_or, take, drop, length-append, length-drop, drop_of_length-le, get_or-append}
use lib.Seq.{drop-append_seam, drop-drop, length-take-le, get_or-take, get_or-drop, get_or-append-add, get_or-append_seam}
use Rattle.base.proofs.Tests.{less?}
use Rattle.lgs.specs.Market.{Market}
use Rattle.wish_lines.specs.Lines.{Line, position}
use Rattle.wish_lines.specs.Reading.{Parsed, read_line, misnamed, Reading, read, refused, with_line, line_then, read_from, read_lines}
use Rattle.format.specs.Buffers.{with_head}
use Rattle.api.specs.declared.Refusal.{Refusal}
use Rattle.api.specs.declared.Cause.{Cause}
use Rattle.api.specs.declared.Cause.TheVariants.{LineForm, LineNames}
use Rattle.api.specs.Causes.{number_of}
use Rattle.line_reader.specs.Checked.{fault_of, Fine}
use Rattle.wish_lines.specs.Wishes.{Option?, Ranged}
use Rattle.wishes.specs.Copy.{groups_in}
use Rattle.wishes.specs.Records.{AllNoted}

no_cause : {A : Type 0} (c : Cause) → Some c ≡ None → A
no_cause c e = let z : ◌≡◌ {A = ℕ} 0 1 = cc in absurd (omega arith)

abbrev pub prepend : List Line → Reading → Reading
prepend [] r = r
prepend (l ∷ ls) r = with_line l (prepend ls r)

prepend_refused : (ls : List Line) (k i : ℕ) → prepend ls (refused k i) ≡ refused k i
prepend_refused [] k i = refl
prepend_refused (l ∷ ls) k i = rw (prepend_refused ls k i)

prepend_read : (ls : List Line) → prepend ls (read []) ≡ read ls
prepend_read [] = refl
prepend_read (l ∷ ls) = rw (prepend_read ls)

prepend_on : (ls : List Line) (l : Line) (r : Reading) → prepend ls (with_line l r) ≡ prepend (ls ++ (l ∷ [])) r
prepend_on [] l r = refl
prepend_on (m ∷ ls) l r = ap (with_line m) (prepend_on ls l r)

-- an option is none or one of 64 workshops
pub narrow : (M : Market) → Ranged M → (s x : ℕ) → Option? M s x → x ≤ 64
narrow M R s zero o = omega arith
narrow M R s (suc w) o = omega (arith, (R.workshop s (suc w) o).1, R.workshops)

module _ (M : Market) (text : List ℕ) where
  -- k lines are read, up to place `at`, and their groups are noted
  pub record Passed (k at : ℕ) (groups : List ℕ) : Type 0 where
    pub lines : List Line
    pub many : length lines ≡ k
    pub there : at ≤ length text
    pub few : k ≤ M.students
    pub same : read_lines M text ≡ prepend lines (read_from M (M.students - k) k (drop at text))
    pub noted : (j x : ℕ) → j < k → Option? M (suc j) x → get_or groups (65 * j + x) 0 ≡ position (groups_in lines (suc j)) x

  pub passed_none : (groups : List ℕ) → Passed 0 0 groups
  unfolding read_lines
  passed_none groups =
      let e : M.students - 0 ≡ M.students = omega arith in
      record {
        lines = [];
        many = refl;
        there = omega arith;
        few = omega arith;
        same = ap (λ n. read_from M n 0 text) (sym e);
        noted = λ j x l o. absurd (omega arith);
      }

  next_line : (k at : ℕ) (p : Parsed) → k < M.students → read_line (drop at text) ≡ p
      → read_from M (M.students - k) k (drop at text) ≡ line_then M k p (read_from M (M.students - suc k) (suc k))
  unfolding read_from
  next_line k at p l e = let q : M.students - k ≡ suc (M.students - suc k) = omega arith in rw (q, e)

  -- a line that is not refused
  no_fault : (k : ℕ) (l : Line) (t : List ℕ) (more : List ℕ → Reading) → fault_of M k (Some (l, t)) ≡ None
      → line_then M k (Some (l, t)) more ≡ with_line l (more t)
  no_fault k l t more e = go (eqb l.student (suc k)) (misnamed M l) refl refl
    where
      go : (a b : Bool) → eqb l.student (suc k) ≡ a → misnamed M l ≡ b → line_then M k (Some (l, t)) more ≡ with_line l (more t)
      go true false p q = rw (p, q)
      go true true p q = absurd (no_cause LineNames (rw (p, q) at e))
      go false b p q = absurd (no_cause LineForm (rw p at e))

  -- the cause of a refusal
  abbrev cause_in : Option Cause → Cause
  cause_in (Some c) = c
  cause_in None = LineForm

  a_fault : (k : ℕ) (p : Parsed) (c : Cause) (more : List ℕ → Reading) → fault_of M k p ≡ Some c → line_then M k p more ≡ refused (number_of c) k
  a_fault k None c more e = ap (λ o. refused (number_of (cause_in o)) k) e
  a_fault k (Some (l, t)) c more e = go (eqb l.student (suc k)) (misnamed M l) refl refl
    where
      go : (a b : Bool) → eqb l.student (suc k) ≡ a → misnamed M l ≡ b → line_then M k (Some (l, t)) more ≡ refused (number_of c) k
      go true true p q = rw (p, q) (ap (λ o. refused (number_of (cause_in o)) k) (rw (p, q) at e))
      go true false p q = absurd (no_cause c (sym (rw (p, q) at e)))
      go false b p q = rw p (ap (λ o. refused (number_of (cause_in o)) k) (rw p at e))

  -- the groups of a line more: `new` has the old ones below place 65 k, and those of the line, `part`, from there on
  pub passed_on : Ranged M → (k at end : ℕ) (old new part : List ℕ) → Passed k at old → k < M.students → Fine M text at k end part
      → ((i : ℕ) → i < 65 * k → get_or new i 0 ≡ get_or old i 0)
      → ((x : ℕ) → Option? M (suc k) x → get_or new (65 * k + x) 0 ≡ get_or part x 0)
      → Passed (k + 1) end new
  passed_on R k at end old new part P u F below own =
      let q : k + 1 ≡ suc k = omega arith in
      record {
        lines = P.lines ++ (l ∷ []);
        many = length-append P.lines (l ∷ []) ∙ omega (arith, P.many);
        there = F.within;
        few = omega arith;
        same = rw q
            (P.same
            ∙ (ap (prepend P.lines)
            (next_line k at (Some (l, F.rest)) u F.read
            ∙ (no_fault k l F.rest (read_from M (M.students - suc k) (suc k)) F.fault
            ∙ ap (λ t. with_line l (read_from M (M.students - suc k) (suc k) t)) (sym F.left)))
            ∙ prepend_on P.lines l (read_from M (M.students - suc k) (suc k) (drop end text))));
        noted = noted;
      }
    where
      l : Line
      l = F.line

      d : Line
      d = record { student = 0; groups = [] }

      noted : (j x : ℕ) → j < k + 1 → Option? M (suc j) x → get_or new (65 * j + x) 0 ≡ position (groups_in (P.lines ++ (l ∷ [])) (suc j)) x
      noted j x h o =
          let back : suc j - 1 ≡ j = omega arith in
          ⊎_elim
          (λ (b : j < k).
          below (65 * j + x) (omega (arith, narrow M R (suc j) x o))
          ∙ (P.noted j x b o
          ∙ ap (λ g. position g x)
          (ap (λ i. (get_or P.lines i d).groups) back
          ∙ (ap (λ h. h.groups) (sym (get_or-append P.lines (l ∷ []) d j (omega (arith, P.many)))) ∙ ap (λ i. (get_or (P.lines ++ (l ∷ [])) i d).groups)
          (sym back)))))
          (λ (b : k ≤ j).
          let same : j ≡ k = omega arith in
          subst (λ i. Option? M (suc i) x → get_or new (65 * i + x) 0 ≡ position (groups_in (P.lines ++ (l ∷ [])) (suc j)) x) (sym same)
          (λ o'.
          own x o'
          ∙ F.noted x o'
          ∙ ap (λ g. position g x)
          (sym (ap (λ i. (get_or (P.lines ++ (l ∷ [])) i d).groups) (omega (arith, same, P.many)) ∙ ap (λ h. h.groups) (get_or-append_seam P.lines l [] d))))
          o)
          (less? j k)

  pub passed_fault : (k at : ℕ) (groups : List ℕ) (c : Cause) → Passed k at groups → k < M.students → fault_of M k (read_line (drop at text)) ≡ Some c
      → read_lines M text ≡ refused (number_of c) k
  passed_fault k at groups c P u f =
      P.same
      ∙ (ap (prepend P.lines)
      (next_line k at (read_line (drop at text)) u refl ∙ a_fault k (read_line (drop at text)) c (read_from M (M.students - suc k) (suc k)) f)
      ∙ prepend_refused P.lines (number_of c) k)

  over : (k : ℕ) (t : List ℕ) → 1 ≤ length t → read_from M 0 k t ≡ refused 14 k
  unfolding read_from
  over k [] l = absurd (omega arith)
  over k (b ∷ t) l = refl

  -- anything left over
  pub passed_over : (at : ℕ) (groups : List ℕ) → Passed M.students at groups → 1 ≤ length (drop at text) → read_lines M text ≡ refused 14 M.students
  passed_over at groups P l =
      let e : M.students - M.students ≡ 0 = omega arith in
      P.same
      ∙ (ap (prepend P.lines) (ap (λ n. read_from M n M.students (drop at text)) e ∙ over M.students (drop at text) l)
      ∙ prepend_refused P.lines 14 M.students)

  pub passed_all : (at : ℕ) (groups : List ℕ) → Passed M.students at groups → length text ≤ at
      → (ls : List Line) × (read_lines M text ≡ read ls) × AllNoted M ls groups
  unfolding read_from
  passed_all at groups P l =
      let e : M.students - M.students ≡ 0 = omega arith in (
        P.lines,
        P.same
            ∙ (ap (prepend P.lines) (ap (λ n. read_from M n M.students (drop at text)) e ∙ ap (read_from M 0 M.students) (drop_of_length-le text l))
            ∙ prepend_read P.lines),
        P.noted,
      )

-- ---- a part of the noted groups is lent, and comes back

pub part_below : (a n : ℕ) (old new : List ℕ) → a ≤ length old → (i : ℕ) → i < a → get_or (take a old ++ (new ++ drop n (drop a old))) i 0 ≡ get_or old i 0
part_below a n old new l i u =
    get_or-append (take a old) _ 0 i (omega (arith, length-take-le a old l)) ∙ get_or-take a old i 0 u

pub part_own : (a n : ℕ) (old new : List ℕ) → a ≤ length old → (x : ℕ) → x < length new
    → get_or (take a old ++ (new ++ drop n (drop a old))) (a + x) 0 ≡ get_or new x 0
part_own a n old new l x u =
    let e : a + x ≡ length (take a old) + x = omega (arith, length-take-le a old l) in
    ap (λ i. get_or (take a old ++ (new ++ drop n (drop a old))) i 0) e
    ∙ (get_or-append-add (take a old) (new ++ drop n (drop a old)) x 0 ∙ get_or-append new (drop n (drop a old)) 0 x u)

-- a head over a head of the same length
pub head_over : (a b old : List ℕ) → length a ≡ length b → with_head a (with_head b old) ≡ with_head a old
head_over a b old e = ap (λ t. a ++ t) (ap (λ n. drop n (with_head b old)) e ∙ (drop-append_seam b (drop (length b) old) ∙ ap (λ n. drop n old) (sym e)))

pub part_long : (a n : ℕ) (old new : List ℕ) → a + n ≤ length old → length new ≡ n → length (take a old ++ (new ++ drop n (drop a old))) ≡ length old
part_long a n old new l e =
    omega (
      arith,
      length-append (take a old) (new ++ drop n (drop a old)),
      length-append new (drop n (drop a old)),
      length-take-le a old (omega arith),
      length-drop n (drop a old),
      length-drop a old,
    )

-- the first n parts of 65 groups, of which those from part k on are left: the next part, and the others
module _ (groups : List ℕ) (n k : ℕ) (long : 65 * n ≤ length groups) where
  parts_left : length (drop (65 * k) (take (65 * n) groups)) ≡ 65 * n - 65 * k
  parts_left = length-drop (65 * k) (take (65 * n) groups) ∙ ap (λ m. m - 65 * k) (length-take-le (65 * n) groups long)

  pub next_part : (part rest : List ℕ) → drop (65 * k) (take (65 * n) groups) ≡ part ++ rest → length part ≡ 65
      → (k < n) × (rest ≡ drop (65 * (k + 1)) (take (65 * n) groups)) × ((x : ℕ) → x < 65 → get_or part x 0 ≡ get_or groups (65 * k + x) 0)
  next_part part rest e l = (less, left, own)
    where
      less : k < n
      less = omega (arith, parts_left, ap length e, length-append part rest, l)

      left : rest ≡ drop (65 * (k + 1)) (take (65 * n) groups)
      left =
          let at : 65 * k + length part ≡ 65 * (k + 1) = omega (arith, l) in
          sym (drop-append_seam part rest)
          ∙ (ap (drop (length part)) (sym e)
          ∙ (drop-drop (length part) (65 * k) (take (65 * n) groups) ∙ ap (λ m. drop m (take (65 * n) groups)) at))

      own : (x : ℕ) → x < 65 → get_or part x 0 ≡ get_or groups (65 * k + x) 0
      own x u =
          sym (get_or-append part rest 0 x (omega (arith, l)))
          ∙ (ap (λ t. get_or t x 0) (sym e)
          ∙ (get_or-drop (65 * k) (take (65 * n) groups) x 0 ∙ get_or-take (65 * n) groups (65 * k + x) 0 (omega (arith, less))))

  pub no_part : k ≤ n → length (drop (65 * k) (take (65 * n) groups)) < 65 → k ≡ n
  no_part u l = omega (arith, parts_left)

-- ---- what `map_err` gives, and what it was given
module _ (P : Cause → Refusal → Type 0) {m : Result ℕ Refusal} where
  pub ok_before : (r : Result ℕ Cause) {n : ℕ} → MatchResult r (λ x. m ≡ Ok x) (λ e. IsErrAnd m (P e)) → m ≡ Ok n → r ≡ Ok n
  ok_before (Ok x) {n} h e = let same : x ≡ n = cc in ap Ok same
  ok_before (Err c) h e = absurd (subst (λ q. IsErrAnd q (P c)) e h)

  pub err_before : (r : Result ℕ Cause) {y : Refusal} → MatchResult r (λ x. m ≡ Ok x) (λ e. IsErrAnd m (P e)) → m ≡ Err y
      → (c : Cause) × (r ≡ Err c) × P c y
  err_before (Ok x) {y} h e = absurd (apart (sym h ∙ e))
    where
      apart : ◌≡◌ {A = Result ℕ Refusal} (Ok x) (Err y) → ⊥
      apart e = cc
  err_before (Err c) h e = (c, refl, subst (λ q. IsErrAnd q (P c)) e h)
