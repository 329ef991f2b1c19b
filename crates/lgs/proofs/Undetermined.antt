-- An interview that may change the matching cannot be left out: whoever has not held it is not sure. For a profile that fits what is
-- revealed puts the student and the workshop at the top of their tiers and says that they are not never, and there the pair blocks.
use Prim.Native.Nat.{ℕ, zero, suc, ◌≤◌, ◌<◌}
use mathlib.Core.Path.{◌≡◌, refl, sym, ap, fun_ext, ◌∙◌}
use mathlib.Core.Logic.{◌⊎◌, inl, inr, ⊎_elim}
use mathlib.Core.Bool.{Bool, true, false, not, ◌&&◌, ◌||◌}
use native.Mathlib.Omega.{arith}
use lib.Dec.{eqb}
use borrow.Author.Tests.{eqb-true, eq-eqb}
use Rattle.base.proofs.Tests.{never, bool_cases, is_false, and_left, and_right, and_make, or_left, less?}
use Rattle.lgs.specs.Market.{Market, workshop_outside}
use Rattle.lgs.specs.Profiles.{Profile, StrictProfile, RespectsTiers, FitsRevealed, Matching, Blocks, Stable, StudentOptimal, Determined}
use Rattle.lgs.specs.Profiles.{seated, flip}
use Rattle.lgs.specs.Promises.{SureMeetsPlaced}
use Rattle.lgs.proofs.Valid.{Refining, refining_strict, refining_tiers}
use Rattle.lgs.proofs.Promote.{promote, promote_fits, promote_top, promote_same}
use Rattle.lgs.proofs.Optimal.{optimal_unique, placed_option}

-- the workshop has a free seat, or a holder in the student's tier or a worse one
abbrev pub Reachable : Market → (ℕ → ℕ) → ℕ → ℕ → Type 0
Reachable M μ s c = (seated M μ c < M.quota c) ⊎ ((h : ℕ) × (μ h ≡ c) × (M.workshop_tier c s ≤ M.workshop_tier c h))

-- a profile fits what it reveals itself
pub reveals_itself : (M : Market) (O : Profile) (Vs : ℕ → ℕ → Bool) → StrictProfile M O → RespectsTiers M O → FitsRevealed M Vs O O
reveals_itself M O Vs strict tiers =
    record {
      strict = strict;
      tiers = tiers;
      never = record { same = λ s w p v. refl };
      students = record { same = λ p x y ox oy mx my l. l };
      workshops = record { same = λ p x y ox oy mx my l. l };
    }

-- a pair met is not the one that was not met
another : (Vs : ℕ → ℕ → Bool) (s c : ℕ) → Vs s c ≡ false → (t w : ℕ) → Vs t w ≡ true → (eqb t s && eqb w c) ≡ false
another Vs s c unmet t w v =
    is_false _
    (λ e.
    let same : (t ≡ s) × (w ≡ c) = (eqb-true t s (and_left (eqb t s) _ e), eqb-true w c (and_right (eqb t s) _ e)) in
    never (rw (same.0, same.1) at v) unmet)

-- whoever is sure has met the placed pairs: a profile that fits what is revealed says never of one that was not met
pub sure_meets_placed : (M : Market) → SureMeetsPlaced M
sure_meets_placed M O strict tiers Vs μ determined s placed =
    ⊎_elim (λ e. e)
    (λ unmet. absurd (never (or_left (eqb s s && eqb (μ s) (μ s)) _ (and_make (eq-eqb s s refl) (eq-eqb (μ s) (μ s) refl)))
    ((determined.optimal without (fits unmet)).stable.matching.acceptable s placed).possible))
    (bool_cases (Vs s (μ s)))
  where
    without : Profile
    without =
        record {
          student_rank = O.student_rank;
          workshop_rank = O.workshop_rank;
          never = λ t w. (eqb t s && eqb w (μ s)) || O.never t w;
        }

    fits : Vs s (μ s) ≡ false → FitsRevealed M Vs O without
    fits unmet =
        record {
          strict = record { students = strict.students; workshops = strict.workshops };
          tiers = record { students = tiers.students; workshops = tiers.workshops };
          never = record { same = λ t w p v. rw (another Vs s (μ s) unmet t w v) };
          students = record { same = λ p x y ox oy mx my l. l };
          workshops = record { same = λ p x y ox oy mx my l. l };
        }

module _ (M : Market) (O : Profile) (full : Refining M O) (Vs : ℕ → ℕ → Bool) where
  -- the student s and the workshop c, both counted from 0, each at the top of its tier for the other, and not never
  module _ (s c : ℕ) (pair : M.paired (suc s) (suc c) ≡ true) where
    raised : Profile
    raised =
        record {
          student_rank = promote M.student_tier O.student_rank (suc s) (suc c);
          workshop_rank = promote M.workshop_tier O.workshop_rank (suc c) (suc s);
          never = λ t w. not (eqb t (suc s) && eqb w (suc c)) && O.never t w;
        }

    raised_full : Refining M raised
    unfolding raised
    raised_full =
        record {
          students = promote_fits M.paired Vs M.student_tier O.student_rank full.students (suc s) (suc c) pair;
          workshops = promote_fits (flip M.paired) (flip Vs) M.workshop_tier O.workshop_rank full.workshops (suc c) (suc s) pair;
        }

    raised_fits : Vs (suc s) (suc c) ≡ false → FitsRevealed M Vs O raised
    unfolding raised
    raised_fits unmet =
        record {
          strict = refining_strict M raised raised_full;
          tiers = refining_tiers M raised raised_full;
          never = record { same = λ t w p v. rw (another Vs (suc s) (suc c) unmet t w v) };
          students = promote_same M.paired Vs M.student_tier O.student_rank full.students (suc s) (suc c) pair unmet;
          workshops = promote_same (flip M.paired) (flip Vs) M.workshop_tier O.workshop_rank full.workshops (suc c) (suc s) pair unmet;
        }

    -- s's option is in c's tier or a worse one, s is not beyond c's outside, and c has a free seat or a holder in s's tier or a worse one
    raised_blocks : (μ : ℕ → ℕ) → Matching M O μ → (μ (suc s) ≡ suc c → ⊥)
        → M.student_tier (suc s) (suc c) ≤ M.student_tier (suc s) (μ (suc s))
        → M.workshop_tier (suc c) (suc s) ≤ workshop_outside M (suc c)
        → Reachable M μ (suc s) (suc c)
        → Blocks M raised μ (suc s) (suc c)
    unfolding raised
    raised_blocks μ P apart fits outside room =
        record {
          acceptable = record {
            pair = pair;
            possible = rw (eq-eqb (suc s) (suc s) refl, eq-eqb (suc c) (suc c) refl);
            student = top_s 0 (behind (less? (M.student_tier (suc s) 0) (M.student_tier (suc s) (μ (suc s))))) (λ e. absurd (omega arith));
            workshop = top_c 0 outside (λ e. absurd (omega arith));
          };
          prefers = top_s (μ (suc s)) fits apart;
          room = ⊎_elim inl (λ r. inr (r.0, r.1, top_c r.0 r.2 (λ e. apart (ap μ (sym e) ∙ r.1)))) room;
        }
      where
        at_most_none : (x : ℕ) → (0 < x → O.student_rank (suc s) x < O.student_rank (suc s) 0) → O.student_rank (suc s) x ≤ O.student_rank (suc s) 0
        at_most_none zero h = omega arith
        at_most_none (suc x) h = omega (arith, h (omega arith))

        -- the outside option is in c's tier or a worse one: the student has it, or something above it
        behind : (M.student_tier (suc s) 0 < M.student_tier (suc s) (μ (suc s))) ⊎ (M.student_tier (suc s) (μ (suc s)) ≤ M.student_tier (suc s) 0)
            → M.student_tier (suc s) (suc c) ≤ M.student_tier (suc s) 0
        behind (inr le) = omega arith
        behind (inl less) =
            absurd (omega (
              arith,
              at_most_none (μ (suc s)) (λ l. (P.acceptable (suc s) l).student),
              full.students.keeps (suc s) 0 (μ (suc s)) refl (placed_option M O μ P (suc s)) less,
            ))

        top_s : (x : ℕ) → M.student_tier (suc s) (suc c) ≤ M.student_tier (suc s) x → (x ≡ suc c → ⊥)
            → raised.student_rank (suc s) (suc c) < raised.student_rank (suc s) x
        top_s = promote_top M.paired Vs M.student_tier O.student_rank full.students (suc s) (suc c) pair

        top_c : (x : ℕ) → M.workshop_tier (suc c) (suc s) ≤ M.workshop_tier (suc c) x → (x ≡ suc s → ⊥)
            → raised.workshop_rank (suc c) (suc s) < raised.workshop_rank (suc c) x
        top_c = promote_top (flip M.paired) (flip Vs) M.workshop_tier O.workshop_rank full.workshops (suc c) (suc s) pair

    -- so nobody without this interview is sure of any matching
    pub undetermined : (μ : ℕ → ℕ)
        → StudentOptimal M O μ
        → Vs (suc s) (suc c) ≡ false
        → (μ (suc s) ≡ suc c → ⊥)
        → M.student_tier (suc s) (suc c) ≤ M.student_tier (suc s) (μ (suc s))
        → M.workshop_tier (suc c) (suc s) ≤ workshop_outside M (suc c)
        → Reachable M μ (suc s) (suc c)
        → (ν : ℕ → ℕ) → Determined M Vs O ν → ⊥
    undetermined μ best unmet apart fits outside room ν determined =
        let strict : StrictProfile M O = refining_strict M O full in
        let same : ν ≡ μ =
        fun_ext (optimal_unique M O strict ν μ (determined.optimal O (reveals_itself M O Vs strict (refining_tiers M O full))) best) in
        let stable : Stable M raised μ = rw same at (determined.optimal raised (raised_fits unmet)).stable in
        stable.unblocked (suc s) (suc c) (raised_blocks μ best.stable.matching apart fits outside room)
