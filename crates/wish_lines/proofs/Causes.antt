-- A text is read exactly when it is lines that fit, and refused exactly where, and for what, the first line does not.
use Prim.Native.Nat.{ℕ, zero, suc, ◌+◌, ◌≤◌, ◌<◌}
use mathlib.Core.Path.{◌≡◌, refl, sym, ap, ◌∙◌, subst}
use mathlib.Core.Logic.{⊎_elim, ◌↔◌}
use mathlib.Core.Bool.{true, false}
use mathlib.Core.List.{List, [], ◌∷◌, ◌++◌, flat_map, append_assoc}
use Rattle.std.specs.Prelude.{Some, None}
use native.Mathlib.Omega.{arith}
use borrow.Author.Tests.{eq-eqb, ne_eqb, eqb-true, eqb-false}
use lib.Dec.{eqb}
use lib.ListN.{length}
use Rattle.base.proofs.Tests.{bool_cases}
use Rattle.lgs.specs.Market.{Market}
use Rattle.wish_lines.specs.Lines.{Line, line_text, lines_text, Formed}
use Rattle.wish_lines.specs.Reading.{Parsed, misnamed, Reading, read, refused, with_line, line_then, read_line, read_from, read_lines}
use Rattle.wish_lines.specs.Reading.{FitLine, FitLines, Fault, departs, left_over, names, FirstFault}
use Rattle.wish_lines.proofs.Grammar.{read_complete, read_sound, line_unique}

module _ (M : Market) where
  -- ---- what a reading says

  abbrev Says : ℕ → ℕ → List ℕ → Reading → Type 0
  Says n k t (read ls) = (t ≡ lines_text ls) × (length ls ≡ n) × FitLines M k ls
  Says n k t (refused c i) = FirstFault M (k + n) k t c i

  -- one line more
  more : (n k : ℕ) (l : Line) (t : List ℕ) (r : Reading) → FitLine M k l → Says n (suc k) t r → Says (suc n) k (line_text l ++ t) (with_line l r)
  unfolding lines_text flat_map
  more n k l t (read ls) f s = (ap (λ u. line_text l ++ u) s.0, omega arith, (f, s.2))
  more n k l t (refused c i) f s =
      let e : suc k + n ≡ k + suc n = omega arith in
      record {
        lines = l ∷ s.lines;
        rest = s.rest;
        fit = (f, s.fit);
        whole = ap (λ u. line_text l ++ u) s.whole ∙ sym (append_assoc (line_text l) (lines_text s.lines) s.rest);
        there = omega (arith, s.there);
        fault = subst (λ N. Fault M N i s.rest c) e s.fault;
      }

  -- the fault is at the first line
  at_once : (n k : ℕ) (t : List ℕ) (c : ℕ) → Fault M (k + n) k t c → Says n k t (refused c k)
  unfolding lines_text flat_map
  at_once n k t c f = record { lines = []; rest = t; fit = tt; whole = refl; there = omega arith; fault = f }

  says : (n k : ℕ) (t : List ℕ) → Says n k t (read_from M n k t)
  unfolding read_from lines_text flat_map
  says zero k [] = (refl, refl, tt)
  says zero k (b ∷ t) = at_once 0 k (b ∷ t) 14 (left_over (omega arith) (λ e. let z : ◌≡◌ {A = ℕ} 0 1 = cc in omega arith))
  says (suc n) k t = by_line (read_line t) refl (says n (suc k))
    where
      less : k < k + suc n
      less = omega arith

      by_line : (p : Parsed) → read_line t ≡ p → ((u : List ℕ) → Says n (suc k) u (read_from M n (suc k) u))
          → Says (suc n) k t (line_then M k p (read_from M n (suc k)))
      by_line None e ih =
          at_once (suc n) k t 14
          (departs less
          (λ l u f s q.
          let r : None ≡ Some (l, u) = sym e ∙ (ap read_line q ∙ read_complete l u f) in
          let z : ◌≡◌ {A = ℕ} 0 1 = cc in
          omega arith))
      by_line (Some (l, u)) e ih =
          let r : (t ≡ line_text l ++ u) × Formed l = read_sound t l u e in
          ⊎_elim
          (λ (c : eqb l.student (suc k) ≡ true).
          ⊎_elim
          (λ (d : misnamed M l ≡ true). rw (c, d) (at_once (suc n) k t 15 (names less l u r.1 (eqb-true l.student (suc k) c) r.0 d)))
          (λ (d : misnamed M l ≡ false).
          rw (c, d, r.0)
          (more n k l u (read_from M n (suc k) u) (record { formed = r.1; number = eqb-true l.student (suc k) c; names = d }) (ih u)))
          (bool_cases (misnamed M l)))
          (λ (c : eqb l.student (suc k) ≡ false).
          rw c
          (at_once (suc n) k t 14
          (departs less
          (λ l' u' f s q.
          let same : l ≡ l' = (line_unique l l' u u' r.1 f (sym r.0 ∙ q)).0 in
          eqb-false l.student (suc k) c (ap (λ h. h.student) same ∙ s)))))
          (bool_cases (eqb l.student (suc k)))

  -- ---- and back

  over_line : (n k : ℕ) (l : Line) (t : List ℕ) → FitLine M k l → read_from M (suc n) k (line_text l ++ t) ≡ with_line l (read_from M n (suc k) t)
  unfolding read_from
  over_line n k l t f = rw (read_complete l t f.formed, eq-eqb l.student (suc k) f.number, f.names)

  all_read : (n k : ℕ) (ls : List Line) → length ls ≡ n → FitLines M k ls → read_from M n k (lines_text ls) ≡ read ls
  unfolding lines_text flat_map read_from
  all_read zero k [] e f = refl
  all_read (suc n) k [] e f = absurd (omega arith)
  all_read zero k (l ∷ ls) e f = absurd (omega arith)
  all_read (suc n) k (l ∷ ls) e f = over_line n k l (lines_text ls) f.0 ∙ rw (all_read n (suc k) ls (omega arith) f.1)

  no_line : (n k : ℕ) (t : List ℕ) → ((l : Line) (u : List ℕ) → Formed l → l.student ≡ suc k → t ≡ line_text l ++ u → ⊥)
      → read_from M (suc n) k t ≡ refused 14 k
  unfolding read_from
  no_line n k t h = by_line (read_line t) refl
    where
      by_line : (p : Parsed) → read_line t ≡ p → line_then M k p (read_from M n (suc k)) ≡ refused 14 k
      by_line None e = refl
      by_line (Some (l, u)) e =
          let r : (t ≡ line_text l ++ u) × Formed l = read_sound t l u e in
          rw (ne_eqb l.student (suc k) (λ q. h l u r.1 q r.0))

  is_fault : (n k : ℕ) (t : List ℕ) {c : ℕ} → Fault M (k + n) k t c → read_from M n k t ≡ refused c k
  unfolding read_from
  is_fault zero k t (departs l h) = absurd (omega arith)
  is_fault (suc n) k t (departs l h) = no_line n k t h
  is_fault zero k [] (left_over e h) = absurd (h refl)
  is_fault zero k (b ∷ t) (left_over e h) = refl
  is_fault (suc n) k t (left_over e h) = absurd (omega arith)
  is_fault zero k t (names less l u f s q d) = absurd (omega arith)
  is_fault (suc n) k t (names less l u f s q d) = rw (q, read_complete l u f, eq-eqb l.student (suc k) s, d)

  fault_within : {N i : ℕ} {t : List ℕ} {c : ℕ} → Fault M N i t c → i ≤ N
  fault_within (departs l h) = omega arith
  fault_within (left_over e h) = omega arith
  fault_within (names l k u f s q d) = omega arith

  fault_read : (n k : ℕ) (ls : List Line) (rest : List ℕ) (c i : ℕ) → FitLines M k ls → i ≡ k + length ls → Fault M (k + n) i rest c
      → read_from M n k (lines_text ls ++ rest) ≡ refused c i
  unfolding lines_text flat_map
  fault_read n k [] rest c i f e w = let q : i ≡ k = omega arith in rw q (is_fault n k rest (subst (λ j. Fault M (k + n) j rest c) q w))
  fault_read zero k (l ∷ ls) rest c i f e w = absurd (omega (arith, fault_within w))
  fault_read (suc n) k (l ∷ ls) rest c i f e w =
      let q : k + suc n ≡ suc k + n = omega arith in
      rw (append_assoc (line_text l) (lines_text ls) rest)
      (over_line n k l (lines_text ls ++ rest) f.0
      ∙ rw (fault_read n (suc k) ls rest c i f.1 (omega arith) (subst (λ N. Fault M N i rest c) q w)))

  -- ---- "exactly when"

  pub read_exactly : (t : List ℕ) (ls : List Line) → (read_lines M t ≡ read ls) ↔ ((t ≡ lines_text ls) × (length ls ≡ M.students) × FitLines M 0 ls)
  unfolding read_lines
  read_exactly t ls = (
    λ e. subst (Says M.students 0 t) e (says M.students 0 t),
    λ s. rw s.0 (all_read M.students 0 ls s.1 s.2),
  )

  pub refused_exactly : (t : List ℕ) (c i : ℕ) → (read_lines M t ≡ refused c i) ↔ FirstFault M M.students 0 t c i
  unfolding read_lines
  refused_exactly t c i =
      let z : 0 + M.students ≡ M.students = omega arith in (
        λ e. subst (λ N. FirstFault M N 0 t c i) z (subst (Says M.students 0 t) e (says M.students 0 t)),
        λ w. rw w.whole (fault_read M.students 0 w.lines w.rest c i w.fit w.there (subst (λ N. Fault M N i w.rest c) (sym z) w.fault)),
      )
