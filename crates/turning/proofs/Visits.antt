-- The visits as the code writes them, one interview after the other.
use Prim.Native.Nat.{ℕ, suc, ◌+◌, ◌*◌, ◌≤◌}
use mathlib.Core.Path.{◌≡◌, refl, sym, ap, ◌∙◌}
use mathlib.Core.List.{List, [], ◌∷◌, ◌++◌, append_assoc}
use native.Mathlib.Omega.{arith}
use lib.ListN.{length, take, drop, length-append}
use lib.Seq.{sets, sets-eq, length-sets}
use Rattle.lgs.specs.Rule.{Interview}
use Rattle.format.specs.Buffers.{flat}
use Rattle.model.specs.Turn.{put_at}

-- stores in a row
pub put_at_lem : (new old : List ℕ) (i : ℕ) → i + length new ≤ length old → sets old i new ≡ put_at i new old
put_at_lem new old i h = sets-eq new old i h ∙ append_assoc (take i old) new (drop (i + length new) old)

sets_more : (xs ys l : List ℕ) (i : ℕ) → sets (sets l i xs) (i + length xs) ys ≡ sets l i (xs ++ ys)
sets_more [] ys l i = ap (λ (k : ℕ). sets l k ys) (omega arith)
sets_more (x ∷ xs) ys l i = ap (λ (k : ℕ). sets (sets (lib.ListN.set l i x) (suc i) xs) k ys) (omega arith) ∙ sets_more xs ys (lib.ListN.set l i x) (suc i)

-- more after what has been put
pub put_more : (xs ys l : List ℕ) (i : ℕ) → i + length (xs ++ ys) ≤ length l → put_at (i + length xs) ys (put_at i xs l) ≡ put_at i (xs ++ ys) l
put_more xs ys l i h =
    let n : length (xs ++ ys) ≡ length xs + length ys = length-append xs ys in
    let a : sets l i xs ≡ put_at i xs l = put_at_lem xs l i (omega arith) in
    let b : sets (sets l i xs) (i + length xs) ys ≡ put_at (i + length xs) ys (sets l i xs) = put_at_lem ys (sets l i xs) (i + length xs)
    (omega (arith, length-sets l i xs)) in
    rw (← a, ← b, sets_more xs ys l i) (put_at_lem (xs ++ ys) l i h)

pub put_none : (l : List ℕ) (i : ℕ) → put_at i [] l ≡ l
put_none l i = let z : i + 0 ≡ i = omega arith in rw z (lib.ListN.take-append-drop i l)

pub put_length : (xs l : List ℕ) (i : ℕ) → i + length xs ≤ length l → length (put_at i xs l) ≡ length l
put_length xs l i h = ap length (sym (put_at_lem xs l i h)) ∙ length-sets l i xs

-- ---- pairs of entries
pub flat_length : (vs : List Interview) → length (flat vs) ≡ 2 * length vs
unfolding flat
flat_length [] = refl
flat_length (v ∷ vs) = omega (arith, flat_length vs)

pub flat_snoc : (vs : List Interview) (s w : ℕ) → flat (vs ++ ((s, w) ∷ [])) ≡ flat vs ++ (s ∷ w ∷ [])
unfolding flat
flat_snoc [] s w = refl
flat_snoc (v ∷ vs) s w = rw (flat_snoc vs s w)
