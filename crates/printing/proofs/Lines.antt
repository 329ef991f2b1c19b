-- The lines of places and of interviews: one more is put after the others.
use Prim.Native.Nat.{ℕ, zero, suc, ◌+◌, ◌*◌, ◌<◌}
use mathlib.Core.Path.{◌≡◌, refl, sym, ap, ◌∙◌}
use mathlib.Core.List.{List, [], ◌∷◌, ◌++◌, append_assoc, append-nil}
use native.Mathlib.Omega.{arith}
use lib.ListN.{length, get_or, take, drop, get_or-append, length-append, length-drop, length-take}
use lib.Seq.{drop-append_seam, drop-drop}
use Rattle.std.proofs.lemmas.List.{get_or-drop, get_or-take}
use Rattle.base.specs.Lists.{tabulate}
use Rattle.base.proofs.Below.{tabulate_length}
use Rattle.lgs.specs.Rule.{Interview}
use Rattle.format.specs.Printed.{line_of, place_word, visit_word, visits_word, fares_word, place_lines, visit_lines, visits_text}
use Rattle.api.specs.Text.{interviews_at}

pub places_on : (l : List ℕ) (k i : ℕ) → i < length l
    → place_lines k (take (suc i) l) ≡ place_lines k (take i l) ++ line_of place_word ((i + k) ∷ get_or l i 0 ∷ [])
unfolding place_lines
places_on [] k i h = absurd (omega arith)
places_on (p ∷ ps) k zero h = append-nil _ ∙ ap (λ (n : ℕ). line_of place_word (n ∷ p ∷ [])) (omega arith)
places_on (p ∷ ps) k (suc i) h =
    ap (λ (t : List ℕ). line_of place_word (k ∷ p ∷ []) ++ t)
    (places_on ps (suc k) i (omega arith) ∙ ap (λ (n : ℕ). place_lines (suc k) (take i ps) ++ line_of place_word (n ∷ get_or ps i 0 ∷ [])) (omega arith))
    ∙ sym (append_assoc (line_of place_word (k ∷ p ∷ [])) (place_lines (suc k) (take i ps)) (line_of place_word ((suc i + k) ∷ get_or ps i 0 ∷ [])))

visits_append : (us : List Interview) (v : Interview) → visit_lines (us ++ (v ∷ [])) ≡ visit_lines us ++ line_of visit_word (v.0 ∷ v.1 ∷ [])
unfolding visit_lines
visits_append [] v = append-nil _
visits_append (u ∷ us) v =
    ap (λ (t : List ℕ). line_of visit_word (u.0 ∷ u.1 ∷ []) ++ t) (visits_append us v)
    ∙ sym (append_assoc (line_of visit_word (u.0 ∷ u.1 ∷ [])) (visit_lines us) (line_of visit_word (v.0 ∷ v.1 ∷ [])))

pub visits_on : (l : List ℕ) (i : ℕ)
    → visit_lines (interviews_at (suc i) l) ≡ visit_lines (interviews_at i l) ++ line_of visit_word (get_or l (2 * i) 0 ∷ get_or l (2 * i + 1) 0 ∷ [])
unfolding interviews_at tabulate
visits_on l i = visits_append (tabulate (λ i. (get_or l (2 * i) 0, get_or l (2 * i + 1) 0)) i) (get_or l (2 * i) 0, get_or l (2 * i + 1) 0)

-- the next two of the first n entries: what is left, and the entries by their places
pub pair_on : (l x t : List ℕ) (n k : ℕ) → drop (2 * k) (take n l) ≡ x ++ t → length x ≡ 2
    → (t ≡ drop (2 * (k + 1)) (take n l)) × (get_or x 0 0 ≡ get_or l (2 * k) 0) × (get_or x 1 0 ≡ get_or l (2 * k + 1) 0)
pair_on l x t n k e two = (left, entry 0 (omega arith) ∙ ap (λ j. get_or l j 0) (omega arith), entry 1 (omega arith))
  where
    left : t ≡ drop (2 * (k + 1)) (take n l)
    left =
        let gone : drop 2 (x ++ t) ≡ t = rw two at (drop-append_seam x t) in
        sym (ap (drop 2) e ∙ gone) ∙ (drop-drop 2 (2 * k) (take n l) ∙ ap (λ j. drop j (take n l)) (omega arith))

    entry : (j : ℕ) → j < 2 → get_or x j 0 ≡ get_or l (2 * k + j) 0
    entry j small =
        let inside : 2 * k + j < n = omega (arith, ap length e, length-append x t, length-drop (2 * k) (take n l), length-take n l) in
        sym (ap (λ xs. get_or xs j 0) e ∙ get_or-append x t 0 j (omega arith))
        ∙ (get_or-drop (2 * k) (take n l) j 0 ∙ get_or-take n l (2 * k + j) 0 inside)

pub visits_none : (l : List ℕ) → visit_lines (interviews_at 0 l) ≡ []
unfolding interviews_at tabulate visit_lines
visits_none l = refl

pub places_none : (k : ℕ) (l : List ℕ) → place_lines k (take 0 l) ≡ []
unfolding place_lines
places_none k l = refl

-- the line with the count, then the lines, and the line with the fares
pub visits_text_lem : (l : List ℕ) (n fares : ℕ)
    → line_of visits_word (n ∷ []) ++ visit_lines (interviews_at n l) ++ line_of fares_word (fares ∷ []) ≡ visits_text (interviews_at n l) fares
unfolding visits_text interviews_at
visits_text_lem l n fares =
    let f : ℕ → Interview = λ i. (get_or l (2 * i) 0, get_or l (2 * i + 1) 0) in
    ap (λ (k : ℕ). line_of visits_word (k ∷ []) ++ visit_lines (tabulate f n) ++ line_of fares_word (fares ∷ [])) (sym (tabulate_length f n))
