-- The range of a score, as the code tests it, and the place of a pair's record.
use Prim.Native.Nat.{ℕ, ◌<◌}
use mathlib.Core.Path.{◌≡◌, refl, sym, ◌∙◌}
use mathlib.Core.Bool.{Bool, true, false, not, ◌||◌}
use mathlib.Core.List.{List, ◌++◌, append-nil}
use native.Mathlib.Omega.{arith}
use lib.ListN.{length, drop, replicate}
use lib.Seq.{drop-length}
use lib.Dec.{ltb, eqb}
use lib.IntN.{ℤ, pos, negsuc}
use lib.Signed.{lt_z}
use mir.Syntax.{w16}
use mir.Val.{SFits, to_z, of_z}
use borrow.Author.Tests.{lt-ltb, le-ltb, ltb-true, ne_eqb}
use Rattle.base.specs.Words.{biased}
use Rattle.base.specs.Lists.{any}
use Rattle.base.proofs.Tests.{is_false}
use Rattle.base.proofs.Below.{any_below_lem}
use Rattle.base.proofs.Search.{end_any, scan_none, scan_found}
use Rattle.base.proofs.Signed.{code_less, code_zero}
use Rattle.format.specs.Layout.{row_at, rows, row_count, is_pair}
use Rattle.format.specs.Refusals.{bad_score}
use Rattle.format.proofs.Positions.{Clean, pair_only}
use Rattle.records.specs.Records.{pair_place}

-- -1000 to 1000 and not 0
module _ (a : ℤ) (f : SFits w16 a) where
  -- a < -1000, and a > 1000
  test_low : lt_z (to_z w16 (of_z w16 a)) (negsuc 999) ≡ ltb (biased a) 31768
  unfolding biased
  test_low = code_less a (negsuc 999) f (record { sfits = omega arith })

  test_high : lt_z (pos 1000) (to_z w16 (of_z w16 a)) ≡ ltb 33768 (biased a)
  unfolding biased
  test_high = code_less (pos 1000) a (record { sfits = omega arith }) f

  pub score_low : lt_z (to_z w16 (of_z w16 a)) (negsuc 999) ≡ true → false ≡ not (bad_score (biased a))
  score_low t = let l : biased a < 31768 = ltb-true _ _ (sym test_low ∙ t) in rw (ne_eqb (biased a) 32768 (λ q. omega arith), lt-ltb (biased a) 31768 l)

  pub score_high : lt_z (pos 1000) (to_z w16 (of_z w16 a)) ≡ true → false ≡ not (bad_score (biased a))
  score_high t =
      let l : 33768 < biased a = ltb-true _ _ (sym test_high ∙ t) in
      rw (ne_eqb (biased a) 32768 (λ q. omega arith), le-ltb (biased a) 31768 (omega arith), lt-ltb 33768 (biased a) l)

  pub score_within : lt_z (to_z w16 (of_z w16 a)) (negsuc 999) ≡ false → lt_z (pos 1000) (to_z w16 (of_z w16 a)) ≡ false → not (eqb (of_z w16 a) 0) ≡ not
      (bad_score (biased a))
  score_within t u = rw (code_zero a f, sym test_low ∙ t, sym test_high ∙ u) (last (eqb (biased a) 32768))
    where
      last : (b : Bool) → not b ≡ not (b || false)
      last true = refl
      last false = refl

-- ---- a pair's record

-- there is a record of the pair where a place is found
pub pair_any : (case : List ℕ) (s w : ℕ) → any (is_pair s w) (rows case) ≡ ltb (pair_place case s w) (row_count case)
unfolding rows
pair_any case s w = any_below_lem (row_at case) (is_pair s w) (row_count case) ∙ end_any (λ i. is_pair s w (row_at case i)) (row_count case)

-- the record of a pair is the one that the search finds
pub found_at : (case : List ℕ) → Clean case (row_count case) → (s w g : ℕ) → g < row_count case → is_pair s w (row_at case g) ≡ true → g ≡ pair_place case s w
found_at case c s w g l p =
    sym
    (rw
    (scan_found (λ i. is_pair s w (row_at case i)) g (row_count case)
    (scan_none (λ i. is_pair s w (row_at case i)) g
    (λ k m. is_false (is_pair s w (row_at case k)) (λ t. omega (arith, pair_only case c s w k g (omega arith) l t p))))
    p l))

-- a fill's end
pub filled : (d s : List ℕ) (n : ℕ) → n ≡ length d → s ≡ replicate n 0 ++ drop n d → s ≡ replicate (length d) 0
filled d s n e p = p ∙ rw (e, drop-length d) (append-nil (replicate (length d) 0))
