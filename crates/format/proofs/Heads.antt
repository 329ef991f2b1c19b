-- The head of a buffer, written entry by entry: how long the buffer is (`head_long`), and what a turn of the loop adds (`head_none`, `head_on`).
use Prim.Native.Nat.{ℕ, zero, suc, ◌+◌, ◌≤◌, ◌<◌}
use mathlib.Core.Path.{◌≡◌, refl, sym, ap, ◌∙◌}
use mathlib.Core.List.{List, [], ◌∷◌, ◌++◌}
use native.Mathlib.Omega.{arith}
use native.Mathlib.Numerals.{add-one}
use lib.ListN.{length, get_or, drop, take, set, length-append, length-drop}
use lib.Seq.{append_snoc, drop-cons, set_at, take-suc}
use Rattle.base.specs.Lists.{tabulate}
use Rattle.base.proofs.Below.{tabulate_length}
use Rattle.format.specs.Buffers.{with_head}

-- as `with_head` has it, by the length of the head
headed : (f : ℕ → ℕ) (n : ℕ) (l : List ℕ) → with_head (tabulate f n) l ≡ tabulate f n ++ drop n l
headed f n l = ap (λ (m : ℕ). tabulate f n ++ drop m l) (tabulate_length f n)

pub head_none : (f : ℕ → ℕ) (l : List ℕ) → l ≡ with_head (tabulate f 0) l
unfolding tabulate
head_none f l = refl

pub head_long : (f : ℕ → ℕ) (n : ℕ) (l : List ℕ) → n ≤ length l → length (with_head (tabulate f n) l) ≡ length l
head_long f n l h =
    ap length (headed f n l) ∙ (length-append (tabulate f n) (drop n l) ∙ omega (arith, tabulate_length f n, length-drop n l))

-- one place more
pub head_on : (f : ℕ → ℕ) (i : ℕ) (l : List ℕ) → i < length l → set (with_head (tabulate f i) l) i (f i) ≡ with_head (tabulate f (i + 1)) l
unfolding tabulate
head_on f i l h =
    ap (λ (m : List ℕ). set m i (f i)) (headed f i l ∙ ap (λ (m : List ℕ). tabulate f i ++ m) (drop-cons l i 0 h))
    ∙ (set_at (tabulate f i) (get_or l i 0) (drop (suc i) l) (f i) i (tabulate_length f i)
    ∙ (sym (append_snoc (tabulate f i) (f i) (drop (suc i) l))
    ∙ (sym (headed f (suc i) l) ∙ ap (λ (n : ℕ). with_head (tabulate f n) l) (sym (add-one i)))))

-- the first entries of a list
pub head_taken : (n : ℕ) (l : List ℕ) → n ≤ length l → tabulate (λ i. get_or l i 0) n ≡ take n l
unfolding tabulate
head_taken zero l h = refl
head_taken (suc n) l h = ap (λ (m : List ℕ). m ++ (get_or l n 0 ∷ [])) (head_taken n l (omega arith)) ∙ sym (take-suc l n 0 h)
