-- Some profile fits the tiers and the results: it ranks by tier, then by the higher score (of a workshop: then by the lower lot), then by the lower number.
-- These are packed into one rank.
use Prim.Native.Nat.{ℕ, zero, suc, ◌+◌, ◌*◌, ◌-◌, ◌≤◌, ◌<◌}
use mathlib.Core.Path.{◌≡◌, refl, sym, subst, ap, ◌∙◌}
use mathlib.Core.Logic.{⊎_elim}
use mathlib.Core.Bool.{Bool, true}
use native.Mathlib.Omega.{arith}
use native.Mathlib.Nat.{mul-le-mul_right, eq-or-lt_of_le}
use borrow.Author.Tests.{ltb-true}
use Rattle.base.specs.Lists.{total}
use Rattle.base.proofs.Tests.{less?}
use Rattle.base.proofs.Counting.{total_part}
use Rattle.lgs.specs.Market.{Market, Results, scored_lower, outscored}
use Rattle.lgs.specs.Profiles.{Profile, Fits, KeepsScores, outside_or, flip}
use Rattle.lgs.proofs.Valid.{WellFormed, Refining, Refines, refining_strict, refining_tiers, outscored_by}

-- a pair as one number, for second parts up to n
unfoldable pub pack : ℕ → ℕ → ℕ → ℕ
pack n a b = a * suc n + b

pub pack_first : (n a b a' b' : ℕ) → b ≤ n → a < a' → pack n a b < pack n a' b'
unfolding pack
pack_first n a b a' b' l less = omega (arith, mul-le-mul_right (suc n) less)

pub pack_second : (n a b b' : ℕ) → b < b' → pack n a b < pack n a b'
unfolding pack
pack_second n a b b' l = omega arith

pub pack_same : (n a b a' b' : ℕ) → b ≤ n → b' ≤ n → pack n a b ≡ pack n a' b' → (a ≡ a') × (b ≡ b')
pack_same n a b a' b' l l' e =
    ⊎_elim (λ less. absurd (omega (arith, pack_first n a b a' b' l less)))
    (λ le. ⊎_elim (λ q. (sym q, seconds (sym q))) (λ less. absurd (omega (arith, pack_first n a' b' a b l' less))) (eq-or-lt_of_le le))
    (less? a a')
  where
    seconds : a ≡ a' → b ≡ b'
    seconds q =
        let e' : pack n a b ≡ pack n a b' = e ∙ ap (λ z. pack n z b') (sym q) in
        ⊎_elim (λ less. absurd (omega (arith, pack_second n a b b' less)))
        (λ le. ⊎_elim sym (λ less. absurd (omega (arith, pack_second n a b' b less))) (eq-or-lt_of_le le))
        (less? b b')

-- one side: the options of a person are numbers up to n, and no value of them is above `highest`
abbrev pub highest : (ℕ → ℕ → ℕ) → ℕ → ℕ → ℕ
highest value n p = value p 0 + total (value p) n

pub at_most_highest : (option : ℕ → ℕ → Bool) (value : ℕ → ℕ → ℕ) (n : ℕ) → ((p x : ℕ) → option p x ≡ true → (1 ≤ x) × (x ≤ n))
    → (p x : ℕ) → outside_or (option p) x ≡ true → value p x ≤ highest value n p
at_most_highest option value n inside p zero o = omega arith
at_most_highest option value n inside p (suc x) o = omega (arith, total_part (value p) n (suc x) (inside p (suc x) o).0 (inside p (suc x) o).1)

module _ (tier score : ℕ → ℕ → ℕ) (n : ℕ) where
  abbrev top : ℕ → ℕ
  top = highest score n

  unfoldable pub rank_by : ℕ → ℕ → ℕ
  rank_by p x = pack n (pack (top p) (tier p x) (top p - score p x)) x

  module _ (option : ℕ → ℕ → Bool) (inside : (p x : ℕ) → option p x ≡ true → (1 ≤ x) × (x ≤ n)) where
    small : (p x : ℕ) → outside_or (option p) x ≡ true → x ≤ n
    small p zero o = omega arith
    small p (suc x) o = (inside p (suc x) o).1

    bounded : (p x : ℕ) → outside_or (option p) x ≡ true → score p x ≤ top p
    bounded = at_most_highest option score n inside

    pub rank_tiers : Refines option tier rank_by
    unfolding rank_by
    rank_tiers =
        record {
          strict = λ p x y ox oy e. (pack_same n _ x _ y (small p x ox) (small p y oy) e).1;
          keeps = λ p x y ox oy l.
              pack_first n _ x _ y (small p x ox) (pack_first (top p) (tier p x) (top p - score p x) (tier p y) (top p - score p y) (omega arith) l);
        }

    -- where whoever comes below has the lower score
    pub rank_scores : (met : ℕ → ℕ → Bool) (lower : ℕ → ℕ → ℕ → Bool)
        → ((p x y : ℕ) → outside_or (option p) x ≡ true → lower p x y ≡ true → score p x < score p y) → KeepsScores option met tier lower rank_by
    unfolding rank_by
    rank_scores met lower less =
        record {
          higher = λ p x y ox oy mx my g l.
              pack_first n _ x _ y (small p x ox)
              (subst (λ z. pack (top p) (tier p x) (top p - score p x) < pack (top p) z (top p - score p y)) g
              (pack_second (top p) (tier p x) (top p - score p x) (top p - score p y)
              (omega (arith, less p y x oy l, bounded p x ox, bounded p y oy))));
        }

module _ (M : Market) (wf : WellFormed M) (B : Results) where
  -- a workshop's score and lot of a student as one number: higher where the score is, and where scores are equal and the lot is lower
  abbrev top_lot : ℕ → ℕ
  top_lot = highest (λ w. M.lot) M.students

  unfoldable pub with_lot : ℕ → ℕ → ℕ
  with_lot w x = pack (top_lot w) (B.workshop_score w x) (top_lot w - M.lot x)

  lot_less : (w x y : ℕ) → outside_or (flip M.paired w) x ≡ true → outscored M B w x y ≡ true → with_lot w x < with_lot w y
  unfolding with_lot
  lot_less w x y ox e =
      ⊎_elim (λ l. pack_first (top_lot w) _ _ _ _ (omega arith) l)
      (λ r.
      subst (λ z. pack (top_lot w) (B.workshop_score w x) (top_lot w - M.lot x) < pack (top_lot w) z (top_lot w - M.lot y)) r.0
      (pack_second (top_lot w) (B.workshop_score w x) (top_lot w - M.lot x) (top_lot w - M.lot y)
      (omega (arith, r.1, at_most_highest (flip M.paired) (λ w. M.lot) M.students (λ w s q. wf.student s w q) w x ox))))
      (outscored_by M B w x y e)

  unfoldable pub score_profile : Profile
  score_profile =
      record {
        student_rank = rank_by M.student_tier B.student_score M.workshops;
        workshop_rank = rank_by M.workshop_tier with_lot M.students;
        never = B.never;
      }

  score_refines : Refining M score_profile
  unfolding score_profile
  score_refines =
      record {
        students = rank_tiers M.student_tier B.student_score M.workshops M.paired wf.workshop;
        workshops = rank_tiers M.workshop_tier with_lot M.students (flip M.paired) (λ w s q. wf.student s w q);
      }

  pub score_fits : (Vs : ℕ → ℕ → Bool) → Fits M B Vs score_profile
  unfolding score_profile
  score_fits Vs =
      record {
        strict = refining_strict M score_profile score_refines;
        tiers = refining_tiers M score_profile score_refines;
        scores = record {
          students = rank_scores M.student_tier B.student_score M.workshops M.paired wf.workshop Vs (scored_lower B.student_score)
              (λ p x y o e. ltb-true _ _ e);
          workshops = rank_scores M.workshop_tier with_lot M.students (flip M.paired) (λ w s q. wf.student s w q) (flip Vs) (outscored M B) lot_less;
        };
        never = record { same = λ s w p v. refl };
      }
