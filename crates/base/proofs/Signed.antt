-- A signed number of 16 bits, an integer ℤ in the code, and the same number 32768 higher, a natural number in the definitions, compare alike.
use Prim.Native.Nat.{ℕ, suc, ◌+◌, ◌-◌, ◌%◌, ◌^◌, ◌≤◌, ◌<◌}
use mathlib.Core.Path.{◌≡◌, sym, ap, ◌∙◌}
use mathlib.Core.Logic.{⊎_elim}
use native.Mathlib.Omega.{arith}
use lib.Dec.{ltb, eqb}
use lib.IntN.{ℤ, pos, negsuc}
use lib.Signed.{lt_z, mag}
use mir.Syntax.{w16}
use mir.Val.{SFits, to_z, of_z, hbits}
use mir.ValLaws.{to_z-of_z, to_z_pos, to_z-neg}
use borrow.Author.Tests.{lt-ltb, le-ltb, eq-eqb, ne_eqb}
use Rattle.base.specs.Words.{biased}
use Rattle.base.proofs.Tests.{less?, eq?}

pub same_test : (a b c d : ℕ) → (a < b → c < d) → (c < d → a < b) → ltb a b ≡ ltb c d
same_test a b c d f g = ⊎_elim (λ l. lt-ltb a b l ∙ sym (lt-ltb c d (f l)))
    (λ le. le-ltb a b le ∙ sym (⊎_elim (λ l. absurd (omega (arith, g l))) (λ q. le-ltb c d q) (less? c d))) (less? a b)

pub same_eq : (a b c d : ℕ) → (a ≡ b → c ≡ d) → (c ≡ d → a ≡ b) → eqb a b ≡ eqb c d
same_eq a b c d f g = ⊎_elim (λ (e : a ≡ b). eq-eqb a b e ∙ sym (eq-eqb c d (f e)))
    (λ (n : a ≡ b → ⊥). ne_eqb a b n ∙ sym (ne_eqb c d (λ (q : c ≡ d). n (g q)))) (eq? a b)

pub biased_less : (a b : ℤ) → mag a < 32768 → mag b < 32768 → lt_z a b ≡ ltb (biased a) (biased b)
unfolding biased
biased_less (pos a) (pos b) u v = same_test a b (32768 + a) (32768 + b) (λ l. omega arith) (λ l. omega arith)
biased_less (pos a) (negsuc b) u v = sym (le-ltb (32768 + a) (32767 - b) (omega arith))
biased_less (negsuc a) (pos b) u v = sym (lt-ltb (32767 - a) (32768 + b) (omega arith))
biased_less (negsuc a) (negsuc b) u v = same_test b a (32767 - a) (32767 - b) (λ l. omega arith) (λ l. omega arith)

-- a comparison in the code: an i16 is kept as bits, and read back for the test
pub code_less : (a b : ℤ) → SFits w16 a → SFits w16 b → lt_z (to_z w16 (of_z w16 a)) (to_z w16 (of_z w16 b)) ≡ ltb (biased a) (biased b)
code_less a b f g = rw (to_z-of_z w16 a f, to_z-of_z w16 b g) (biased_less a b f.sfits g.sfits)

biased_apart : (a b : ℤ) → mag a < 32768 → mag b < 32768 → biased a ≡ biased b → a ≡ b
unfolding biased
biased_apart (pos a) (pos b) u v e = let q : a ≡ b = omega arith in ap pos q
biased_apart (pos a) (negsuc b) u v e = absurd (omega arith)
biased_apart (negsuc a) (pos b) u v e = absurd (omega arith)
biased_apart (negsuc a) (negsuc b) u v e = let q : a ≡ b = omega arith in ap negsuc q

-- `a == b` compares bits
pub code_same : (a b : ℤ) → SFits w16 a → SFits w16 b → eqb (of_z w16 a) (of_z w16 b) ≡ eqb (biased a) (biased b)
code_same a b f g =
    same_eq (of_z w16 a) (of_z w16 b) (biased a) (biased b)
    (λ e. ap biased (sym (to_z-of_z w16 a f) ∙ (ap (to_z w16) e ∙ to_z-of_z w16 b g)))
    (λ e. ap (of_z w16) (biased_apart a b f.sfits g.sfits e))

-- and `a == 0`
pub code_zero : (a : ℤ) → SFits w16 a → eqb (of_z w16 a) 0 ≡ eqb (biased a) 32768
unfolding biased
code_zero (pos n) f = same_eq n 0 (32768 + n) 32768 (λ e. omega arith) (λ e. omega arith)
code_zero (negsuc n) f =
    let l : n < 32768 = f.sfits in
    ne_eqb (2 ^ 16 - suc n) 0 (λ q. omega arith) ∙ sym (ne_eqb (32767 - n) 32768 (λ q. omega arith))

-- 16 bits read as a signed number
pub signed_16 : (v : ℕ) → v < 65536 → biased (to_z w16 v) ≡ (v + 32768) % 65536
unfolding biased
signed_16 v l = ⊎_elim low high (less? v 32768)
  where
    low : v < 32768 → biased (to_z w16 v) ≡ (v + 32768) % 65536
    low h = let m : v < 2 ^ hbits w16 = omega arith in rw (to_z_pos w16 v m) (omega arith)

    high : 32768 ≤ v → biased (to_z w16 v) ≡ (v + 32768) % 65536
    high h =
        let k : ℕ = 65536 - suc v in
        let m : k < 2 ^ hbits w16 = omega arith in
        let e : 2 ^ 16 - suc k ≡ v = omega arith in
        ap (λ (x : ℕ). biased (to_z w16 x)) (sym e) ∙ (rw (to_z-neg w16 k m) (omega arith))

-- and a signed number of 16 bits, raised in them
pub raised_16 : (a : ℤ) → SFits w16 a → (of_z w16 a + 32768) % 65536 ≡ biased a
unfolding biased
raised_16 (pos n) f = let l : n < 32768 = f.sfits in omega arith
raised_16 (negsuc n) f = let l : n < 32768 = f.sfits in omega arith
