-- The copy of a case with the groups that a text says: in range, with the order that the lines say; and from the case's own lines, with the case's order.
use Prim.Native.Nat.{ℕ, zero, suc, ◌+◌, ◌-◌, ◌≤◌, ◌<◌}
use mathlib.Core.Path.{◌≡◌, refl, sym, ap, ◌∙◌, subst}
use mathlib.Core.List.{List, [], ◌∷◌}
use native.Mathlib.Omega.{arith}
use lib.ListN.{length, get_or}
use Rattle.lgs.specs.Market.{Market}
use Rattle.lgs.specs.Profiles.{outside_or}
use Rattle.format.specs.Causes.{NothingFound}
use Rattle.format.specs.Refusals.{case_causes}
use Rattle.format.specs.Engine.{market_in}
use Rattle.wish_lines.specs.Lines.{Line, position, lines_text}
use Rattle.wish_lines.specs.Reading.{read, read_lines}
use Rattle.wish_lines.specs.Wishes.{line_of, lines_from, lines_of, Option?, Ranged, SameWishes}
use Rattle.wishes.specs.Copy.{groups_in, wished}
use Rattle.wishes.specs.Promises.{SameRest}
use Rattle.wish_lines.specs.Reading.{FitLine, FitLines}
use Rattle.wish_lines.proofs.Written.{written_order}
use Rattle.wish_lines.proofs.Causes.{read_exactly}
use Rattle.wish_lines.proofs.Naming.{few_groups}
use Rattle.wish_lines.proofs.Ranged.{ranged}
use Rattle.wishes.proofs.Case.{copy_rest, copy_tier}

pub fit_at : (M : Market) (k : ℕ) (ls : List Line) → FitLines M k ls → (i : ℕ) (d : Line) → i < length ls → FitLine M (k + i) (get_or ls i d)
fit_at M k [] f i d l = absurd (omega arith)
fit_at M k (h ∷ ls) f zero d l = let e : k + 0 ≡ k = omega arith in rw e f.0
fit_at M k (h ∷ ls) f (suc i) d l = let e : k + suc i ≡ suc k + i = omega arith in rw e (fit_at M (suc k) ls f.1 i d (omega arith))

from_at : (M : Market) (n k i : ℕ) (d : Line) → i < n → get_or (lines_from M n k) i d ≡ line_of M (suc k + i)
unfolding lines_from
from_at M zero k i d l = absurd (omega arith)
from_at M (suc n) k zero d l = ap (line_of M) (omega arith)
from_at M (suc n) k (suc i) d l = from_at M n (suc k) i d (omega arith) ∙ ap (line_of M) (omega arith)

module _ (case : List ℕ) (nothing : NothingFound (case_causes case)) where
  abbrev M : Market
  M = market_in case

  abbrev copy : List Line → Market
  copy ls = market_in (wished ls case)

  option_same : (ls : List Line) (s x : ℕ) → outside_or ((copy ls).paired s) x ≡ outside_or (M.paired s) x
  option_same ls s zero = refl
  option_same ls s (suc w) = (copy_rest ls case nothing).paired s (suc w)

  -- ---- from a text that is read

  module _ (t : List ℕ) (ls : List Line) (e : read_lines M t ≡ read ls) where
    fits : (t ≡ lines_text ls) × (length ls ≡ M.students) × FitLines M 0 ls
    fits = (read_exactly M t ls).0 e

    -- every group number is one that cause 5 lets pass
    pub line_range : (s x : ℕ) → 1 ≤ s → s ≤ M.students → Option? M s x → (1 ≤ position (groups_in ls s) x) × (position (groups_in ls s) x ≤ 65)
    line_range s x l u o =
        let h : Line = get_or ls (s - 1) (record { student = 0; groups = [] }) in
        let f : FitLine M (0 + (s - 1)) h = fit_at M 0 ls fits.2 (s - 1) (record { student = 0; groups = [] }) (omega (arith, fits.1)) in
        let n : h.student ≡ s = f.number ∙ omega arith in
        few_groups M (ranged case nothing) h f.formed f.names x (subst (λ k. Option? M k x) (sym n) o)

    pub copy_ranged : Ranged (copy ls)
    copy_ranged =
        record {
          students = omega (arith, rest.students, (ranged case nothing).students);
          workshops = omega (arith, rest.workshops, (ranged case nothing).workshops);
          student = λ s w p.
              let r : (1 ≤ s) × (s ≤ M.students) = (ranged case nothing).student s w (sym (rest.paired s w) ∙ p) in
              (r.0, omega (arith, rest.students));
          workshop = λ s w p.
              let r : (1 ≤ w) × (w ≤ M.workshops) = (ranged case nothing).workshop s w (sym (rest.paired s w) ∙ p) in
              (r.0, omega (arith, rest.workshops));
          tier = tier;
        }
      where
        rest : SameRest (copy ls) M
        rest = copy_rest ls case nothing

        tier : (s x : ℕ) → 1 ≤ s → s ≤ (copy ls).students → Option? (copy ls) s x → (1 ≤ (copy ls).student_tier s x) × ((copy ls).student_tier s x ≤ 65)
        tier s x l u o =
            let v : s ≤ M.students = omega (arith, rest.students) in
            let q : Option? M s x = sym (option_same ls s x) ∙ o in
            rw (copy_tier ls case nothing s x l v q) (line_range s x l v q)

  -- ---- from the case's own lines: "what was written is read as that order"

  pub own_groups : (s : ℕ) → 1 ≤ s → s ≤ M.students → groups_in (lines_of M) s ≡ (line_of M s).groups
  unfolding lines_of
  own_groups s l u = ap (λ h. h.groups) (from_at M M.students 0 (s - 1) _ (omega arith) ∙ ap (line_of M) (omega arith))

  -- also in the copy of another case with the same students and pairs
  module _ (case' : List ℕ) (nothing' : NothingFound (case_causes case')) (students : M.students ≡ (market_in case').students)
      (pairs : (s w : ℕ) → M.paired s w ≡ (market_in case').paired s w) where
    option_too : (s x : ℕ) → Option? M s x → Option? (market_in case') s x
    option_too s zero o = refl
    option_too s (suc w) o = sym (pairs s (suc w)) ∙ o

    tier_too : (s x : ℕ) → 1 ≤ s → s ≤ M.students → Option? M s x
        → (market_in (wished (lines_of M) case')).student_tier s x ≡ position (line_of M s).groups x
    tier_too s x l u o =
        copy_tier (lines_of M) case' nothing' s x l (omega (arith, students)) (option_too s x o) ∙ ap (λ gs. position gs x) (own_groups s l u)

    pub written_copy : SameWishes M (market_in (wished (lines_of M) case'))
    written_copy =
        record {
          students = students ∙ sym (copy_rest (lines_of M) case' nothing').students;
          pairs = λ s w. pairs s w ∙ sym ((copy_rest (lines_of M) case' nothing').paired s w);
          order = λ s x y l u p q. rw (tier_too s x l u p, tier_too s y l u q) (written_order M (ranged case nothing) s l u x y p q).0;
        }
