-- Lists of things written as records of one size: what is written is read back, record by record.
use Prim.Native.Nat.{ℕ, zero, suc, ◌+◌, ◌-◌, ◌*◌, ◌≤◌, ◌<◌}
use mathlib.Core.Path.{◌≡◌, refl, ap, ◌∙◌}
use mathlib.Core.Logic.{⊎_elim}
use mathlib.Core.List.{List, [], ◌∷◌, ◌++◌, flat_map}
use mathlib.Core.List.Memᴰ.{head as here}
use mathlib.Core.List.Memᴰ.{tail as later}
use mathlib.Core.List.{Memᴰ as Mem}
use native.Mathlib.Omega.{arith}
use native.Mathlib.Nat.{mul-suc}
use lib.ListN.{length, get_or, length-append, get_or-append}
use lib.Seq.{get_or-append-add, ext_get_or}
use Rattle.base.specs.Lists.{tabulate}
use Rattle.base.specs.Words.{word}
use Rattle.base.proofs.Below.{tabulate_length, tabulate_at}
use Rattle.base.proofs.Tests.{less?}

-- what stands behind the first record stands in what comes after it
module _ (x y : List ℕ) (k j : ℕ) (e : k ≡ length x + j) where
  pub byte_behind : get_or (x ++ y) k 0 ≡ get_or y j 0
  byte_behind = ap (λ (n : ℕ). get_or (x ++ y) n 0) e ∙ get_or-append-add x y j 0

  pub word_behind : word (x ++ y) k ≡ word y j
  unfolding word
  word_behind =
      let f : suc k ≡ length x + suc j = omega arith in
      rw (byte_behind, ap (λ (n : ℕ). get_or (x ++ y) n 0) f, get_or-append-add x y (suc j) 0)

-- every number of two lists has a property that 0 has
pub both_have : (P : ℕ → Type 0) (x y : List ℕ) → ((i : ℕ) → P (get_or x i 0)) → ((i : ℕ) → P (get_or y i 0)) → (i : ℕ) → P (get_or (x ++ y) i 0)
both_have P x y px py i =
    ⊎_elim (λ (l : i < length x). rw (get_or-append x y 0 i l) (px i))
    (λ (le : length x ≤ i).
    let e : i ≡ length x + (i - length x) = omega arith in
    rw (ap (λ (n : ℕ). get_or (x ++ y) n 0) e, get_or-append-add x y (i - length x) 0) (py (i - length x)))
    (less? i (length x))

pub all_have : {A : Type 0} (P : ℕ → Type 0) (encode : A → List ℕ) → P 0 → (xs : List A)
    → ((x : A) → Mem x xs → (i : ℕ) → P (get_or (encode x) i 0))
    → (i : ℕ) → P (get_or (flat_map encode xs) i 0)
unfolding flat_map
all_have P encode none [] p = λ i. none
all_have P encode none (x ∷ xs) p =
    both_have P (encode x) (flat_map encode xs) (p x (here refl)) (all_have P encode none xs (λ y m. p y (later m)))

module _ {A : Type 0} (size : ℕ) (encode : A → List ℕ) (decode : List ℕ → ℕ → A) (none : A)
    (sized : (x : A) → length (encode x) ≡ size)
    (next : (x : A) (bs : List ℕ) (i : ℕ) → decode (encode x ++ bs) (suc i) ≡ decode bs i) where
  pub coded_length : (xs : List A) → length (flat_map encode xs) ≡ size * length xs
  unfolding flat_map
  coded_length [] = omega arith
  coded_length (x ∷ xs) =
      omega (arith, length-append (encode x) (flat_map encode xs), sized x, coded_length xs, mul-suc size (length xs))

  pub coded_at : (xs : List A) → ((x : A) → Mem x xs → (bs : List ℕ) → decode (encode x ++ bs) 0 ≡ x) → (i : ℕ) → i < length xs → decode
      (flat_map encode xs) i ≡ get_or xs i none
  unfolding flat_map
  coded_at [] first i l = absurd (omega arith)
  coded_at (x ∷ xs) first zero l = first x (here refl) (flat_map encode xs)
  coded_at (x ∷ xs) first (suc i) l = next x (flat_map encode xs) i ∙ coded_at xs (λ y m. first y (later m)) i (omega arith)

  pub coded : (xs : List A) → ((x : A) → Mem x xs → (bs : List ℕ) → decode (encode x ++ bs) 0 ≡ x) → tabulate (decode (flat_map encode xs)) (length xs) ≡ xs
  coded xs first =
      let bs : List ℕ = flat_map encode xs in
      let e : length (tabulate (decode bs) (length xs)) ≡ length xs = tabulate_length (decode bs) (length xs) in
      ext_get_or none (tabulate (decode bs) (length xs)) xs e
      (λ i l. tabulate_at (decode bs) (length xs) i none (omega (arith, e)) ∙ coded_at xs first i (omega (arith, e)))
