-- The text of a case as a loop writes it: line by line, group by group, item by item.
use Prim.Native.Nat.{ℕ, zero, suc, ◌+◌, ◌≤◌}
use mathlib.Core.Path.{◌≡◌, refl, sym, ap, ◌∙◌}
use mathlib.Core.List.{List, [], ◌∷◌, ◌++◌, flat_map, append_assoc, append-nil}
use native.Mathlib.Omega.{arith}
use lib.ListN.{length}
use Rattle.lgs.specs.Market.{Market}
use Rattle.wish_lines.specs.Lines.{joined, line_text, lines_text}
use Rattle.wish_lines.specs.Wishes.{at_tier, cons_group, groups_from, line_of, lines_from}

-- one line more
pub lines_on : (M : Market) (n k : ℕ) → lines_text (lines_from M (suc n) k) ≡ lines_text (lines_from M n k) ++ line_text (line_of M (suc (k + n)))
unfolding lines_text lines_from flat_map
lines_on M zero k = let e : k ≡ k + 0 = omega arith in append-nil _ ∙ ap (λ j. line_text (line_of M (suc j))) e
lines_on M (suc n) k =
    let e : suc k + n ≡ k + suc n = omega arith in
    ap (λ t. line_text (line_of M (suc k)) ++ t) (lines_on M n (suc k))
    ∙ (sym (append_assoc (line_text (line_of M (suc k))) (lines_text (lines_from M n (suc k))) (line_text (line_of M (suc (suc k + n)))))
    ∙ ap (λ j. (line_text (line_of M (suc k)) ++ lines_text (lines_from M n (suc k))) ++ line_text (line_of M (suc j))) e)

-- one tier more
pub groups_on : (tier : ℕ → ℕ) (xs : List ℕ) (k t : ℕ) → groups_from tier xs (suc k) t ≡ groups_from tier xs k t ++ cons_group (at_tier tier xs (t + k)) []
unfolding groups_from
groups_on tier xs zero t = let e : t ≡ t + 0 = omega arith in ap (λ j. cons_group (at_tier tier xs j) []) e
groups_on tier xs (suc k) t =
    let e : suc t + k ≡ t + suc k = omega arith in
    ap (cons_group (at_tier tier xs t)) (groups_on tier xs k (suc t) ∙ ap (λ j. groups_from tier xs k (suc t) ++ cons_group (at_tier tier xs j) []) e)
    ∙ front (at_tier tier xs t)
  where
    front : (g : List ℕ) → cons_group g (groups_from tier xs k (suc t) ++ cons_group (at_tier tier xs (t + suc k)) [])
        ≡ cons_group g (groups_from tier xs k (suc t)) ++ cons_group (at_tier tier xs (t + suc k)) []
    front [] = refl
    front (x ∷ g) = refl

-- one text more: a comma before it, but for the first
pub joined_on : (ts : List (List ℕ)) (u : List ℕ) → 1 ≤ length ts → joined (ts ++ (u ∷ [])) ≡ joined ts ++ (44 ∷ u)
unfolding joined flat_map
joined_on [] u l = absurd (omega arith)
joined_on (t ∷ ts) u l = ap (λ r. t ++ r) (more ts) ∙ sym (append_assoc t (flat_map (λ r. 44 ∷ r) ts) (44 ∷ u))
  where
    more : (ts : List (List ℕ)) → flat_map (λ r. 44 ∷ r) (ts ++ (u ∷ [])) ≡ flat_map (λ r. 44 ∷ r) ts ++ (44 ∷ u)
    more [] = ap (λ r. 44 ∷ r) (append-nil u)
    more (v ∷ ts) = ap (λ r. 44 ∷ r) (ap (λ r. v ++ r) (more ts) ∙ sym (append_assoc v (flat_map (λ r. 44 ∷ r) ts) (44 ∷ u)))

pub joined_first : (u : List ℕ) → joined (u ∷ []) ≡ u
unfolding joined flat_map
joined_first u = append-nil u
