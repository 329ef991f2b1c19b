-- Every strict profile that respects the tiers has a student-optimal matching: the one that the rule gives where all interviews are held, with the
-- scores that the profile gives.
use Prim.Native.Nat.{ℕ, ◌-◌, ◌≤◌, ◌<◌}
use mathlib.Core.Path.{◌≡◌, refl, ap}
use mathlib.Core.Logic.{◌⊎◌, inl, inr}
use mathlib.Core.Bool.{Bool, true}
use native.Mathlib.Omega.{arith}
use borrow.Author.Tests.{ltb-true, ltb-false}
use Rattle.base.proofs.Tests.{never}
use Rattle.lgs.specs.Market.{Market, Results}
use Rattle.lgs.specs.Profiles.{Profile, StrictProfile, RespectsTiers, StudentOptimal, outside_or, flip}
use Rattle.lgs.specs.Rule.{Step, going, stopped, finished, lazy_gale_shapley}
use Rattle.lgs.proofs.Valid.{WellFormed, Refining, Refines, refining, outscored_by, unparted}
use Rattle.lgs.proofs.Sides.{real}
use Rattle.lgs.proofs.Setting.{Setting}
use Rattle.lgs.proofs.Finished.{lgs_optimal}
use Rattle.lgs.proofs.Stopped.{lgs_stopped}
use Rattle.lgs.proofs.Ends.{run_answers}
use Rattle.lgs.proofs.Exists.{highest, at_most_highest}

-- different ranks, turned into scores, are different
apart : (option : ℕ → ℕ → Bool) (tier rank : ℕ → ℕ → ℕ) (n : ℕ) → Refines option tier rank → ((p x : ℕ) → option p x ≡ true → (1 ≤ x) × (x ≤ n))
    → (p x y : ℕ) → outside_or (option p) x ≡ true → outside_or (option p) y ≡ true → highest rank n p - rank p x ≡ highest rank n p - rank p y → x ≡ y
apart option tier rank n K inside p x y ox oy e =
    K.strict p x y ox oy (omega (arith, at_most_highest option rank n inside p x ox, at_most_highest option rank n inside p y oy))

module _ (M : Market) (wf : WellFormed M) (O : Profile) (strict : StrictProfile M O) (tiers : RespectsTiers M O) where
  -- all interviews held, with the scores that the profile gives
  abbrev told : Results
  told =
      record {
        met = λ s w. true;
        never = O.never;
        student_score = λ s x. highest O.student_rank M.workshops s - O.student_rank s x;
        workshop_score = λ w x. highest O.workshop_rank M.students w - O.workshop_rank w x;
      }

  full : Refining M O
  full = refining M O strict tiers

  workshop_apart : (w x y : ℕ) → outside_or (flip M.paired w) x ≡ true → outside_or (flip M.paired w) y ≡ true
      → told.workshop_score w x ≡ told.workshop_score w y → x ≡ y
  workshop_apart = apart (flip M.paired) M.workshop_tier O.workshop_rank M.students full.workshops (λ w s q. wf.student s w q)

  -- whoever comes below in these results comes below by score, as no two scores are equal
  told_higher : (w x y : ℕ) → outside_or (flip M.paired w) x ≡ true → outside_or (flip M.paired w) y ≡ true
      → (told.workshop_score w y < told.workshop_score w x) ⊎ ((told.workshop_score w y ≡ told.workshop_score w x) × (M.lot x < M.lot y))
      → O.workshop_rank w x < O.workshop_rank w y
  told_higher w x y ox oy (inl l) = omega arith
  told_higher w x y ox oy (inr r) = absurd (omega (arith, r.1, ap M.lot (workshop_apart w y x oy ox r.0)))

  told_setting : Setting M told O (λ s w. true)
  told_setting =
      record {
        wf = wf;
        distinct = record {
          students = record {
            apart = λ p x y ox oy mx my ok g e f.
                apart M.paired M.student_tier O.student_rank M.workshops full.students wf.workshop p x y ox oy
                (omega (arith, ltb-false (told.student_score p x) (told.student_score p y) e, ltb-false (told.student_score p y) (told.student_score p x) f));
          };
          workshops = record { apart = λ p x y ox oy mx my ok g e f. workshop_apart p x y ox oy (unparted M told p x y e f).0 };
          outside = λ s w q m e.
              let z : s ≡ 0 = workshop_apart w s 0 (real (flip M.paired w) s q) refl e in
              omega (arith, wf.student s w q, z);
        };
        full = full;
        results = record {
          students = record { higher = λ p x y ox oy mx my g l. omega (arith, ltb-true (told.student_score p y) (told.student_score p x) l) };
          workshops = record { higher = λ p x y ox oy mx my g l. told_higher p x y ox oy (outscored_by M told p y x l) };
        };
        never = record { same = λ s w p v. refl };
        known = λ s w v. v;
      }

  pub optimal_exists : (μ : ℕ → ℕ) × StudentOptimal M O μ
  optimal_exists = by_answer (lazy_gale_shapley M told) refl
    where
      by_answer : (x : Step) → lazy_gale_shapley M told ≡ x → (μ : ℕ → ℕ) × StudentOptimal M O μ
      by_answer (going τ) e = absurd (run_answers M told O told_setting τ e)
      by_answer (stopped s w vs) e = never refl (lgs_stopped M told O told_setting s w vs e).unanswered
      by_answer (finished p vs) e = (p, lgs_optimal M told p vs e O (λ s w. true) told_setting (λ t w v. refl))
