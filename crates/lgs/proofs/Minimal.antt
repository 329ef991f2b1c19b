-- The list of a finished run is smallest: its holder is sure of the matching, and with consistent stages every set that makes its holder sure,
-- and has the placed pairs, has the whole list. For each interview of it is `Needed`, and what is needed is not left out (`Undetermined`).
use Prim.Native.Nat.{ℕ, zero, suc, ◌≤◌, ◌<◌}
use mathlib.Core.Path.{◌≡◌, sym, subst, ap, ◌∙◌}
use mathlib.Core.Logic.{⊎_elim}
use mathlib.Core.Bool.{Bool, true, false}
use mathlib.Core.List.{List}
use native.Mathlib.Omega.{arith}
use Rattle.base.proofs.Tests.{never, bool_cases}
use Rattle.lgs.specs.Market.{Market, Results, ConsistentStages, workshop_outside}
use Rattle.lgs.specs.Profiles.{Profile, Fits, FitsRevealed, StudentOptimal, Determined, flip}
use Rattle.lgs.specs.Rule.{finished, Interview, interviewed, lazy_gale_shapley}
use Rattle.lgs.proofs.Valid.{WellFormed, Distinct}
use Rattle.lgs.proofs.Undetermined.{Reachable, undetermined}
use Rattle.lgs.proofs.Sides.{wider}
use Rattle.lgs.proofs.Setting.{Setting, fits_setting}
use Rattle.lgs.proofs.Invariant.{Seen}
use Rattle.lgs.proofs.Finished.{End, lgs_end, lgs_optimal, lgs_met}
use Rattle.lgs.proofs.Needed.{Needed, last_needed}

-- what is known of a listed interview when the run is over
record Kept (M : Market) (p : ℕ → ℕ) (s c : ℕ) : Type 0 where
  pair : M.paired s c ≡ true
  tier : M.student_tier s c ≤ M.student_tier s (p s)
  outside : M.workshop_tier c s ≤ workshop_outside M c
  room : Reachable M p s c

-- ---- the theorems, for any profile that fits the tiers and the book

module _ (M : Market) (B : Results) (O O' : Profile) (Vs : ℕ → ℕ → Bool) (known : (s w : ℕ) → Vs s w ≡ true → B.met s w ≡ true) where
  -- a profile that fits what is revealed fits the scores that revealed it
  pub revealed_fits : Fits M B B.met O → FitsRevealed M Vs O O' → Fits M B Vs O'
  revealed_fits fits F =
      record {
        strict = F.strict;
        tiers = F.tiers;
        scores = record {
          students = record {
            higher = λ s x y ox oy mx my g m.
                F.students.same s x y ox oy mx my
                (fits.scores.students.higher s x y ox oy (wider (Vs s) (B.met s) (known s) x mx) (wider (Vs s) (B.met s) (known s) y my) g m);
          };
          workshops = record {
            higher = λ w x y ox oy mx my g m.
                F.workshops.same w x y ox oy mx my
                (fits.scores.workshops.higher w x y ox oy (wider (flip Vs w) (flip B.met w) (λ s. known s w) x mx)
                (wider (flip Vs w) (flip B.met w) (λ s. known s w) y my) g m);
          };
        };
        never = record { same = λ s w p v. F.never.same s w p v ∙ fits.never.same s w p (known s w v) };
      }

module _ (M : Market) (wf : WellFormed M) (B : Results) (distinct : Distinct M B) (p : ℕ → ℕ) (vs : List Interview)
    (run : lazy_gale_shapley M B ≡ finished p vs) where
  met : (t w : ℕ) → interviewed vs t w ≡ true → B.met t w ≡ true
  met = lgs_met M B p vs run

  -- the matching is student-optimal under every profile that fits the scores of the listed interviews
  pub listed_optimal : (O : Profile) → Fits M B (interviewed vs) O → StudentOptimal M O p
  listed_optimal O fits = lgs_optimal M B p vs run O (interviewed vs) (fits_setting M B O (interviewed vs) wf distinct met fits) (λ t w v. v)

  module _ (O : Profile) (fits : Fits M B B.met O) where
    setting : Setting M B O B.met
    setting = fits_setting M B O B.met wf distinct (λ s w v. v) fits

    -- whoever holds the listed interviews is sure of it
    pub listed_determined : Determined M (interviewed vs) O p
    listed_determined = record { optimal = λ O' F. listed_optimal O' (revealed_fits M B O O' (interviewed vs) met fits F) }

    -- with consistent stages, whoever is sure, and has the placed pairs, has every listed interview
    pub listed_needed : ConsistentStages M M.stage → (Us : ℕ → ℕ → Bool) (ν : ℕ → ℕ)
        → Determined M Us O ν
        → ((s : ℕ) → 0 < p s → Us s (p s) ≡ true)
        → (s c : ℕ) → interviewed vs s c ≡ true → Us s c ≡ true
    listed_needed agree Us ν determined placed s c v =
        ⊎_elim (λ e. e) (λ e. absurd (missing s c e (at_end (lgs_end M B p vs run O B.met setting met) s c v))) (bool_cases (Us s c))
      where
        at_end : End M B p vs run O B.met → (s c : ℕ) → interviewed vs s c ≡ true → Kept M p s c
        at_end z s c v =
            let o : interviewed z.state.interviews s c ≡ true = rw z.interviews at v in
            let k : Seen M B.met z.state s c = z.inv.seen s c o in
            let r : (1 ≤ s) × (s ≤ M.students) = wf.student s c k.pair in
            let N : Needed M z.state = last_needed M B O B.met setting agree z.state z.reached (λ t w u. (z.inv.seen t w u).seen) in
            let e : p s ≡ z.state.held s = ap (λ (q : ℕ → ℕ). q s) z.matching in
            record {
              pair = k.pair;
              tier = omega (arith, k.tier, (z.chosen s r.0 r.1).tier, ap (M.student_tier s) e);
              outside = k.outside;
              room = subst (λ (q : ℕ → ℕ). Reachable M q s c) (sym z.matching) (N.room s c o);
            }

        missing : (s c : ℕ) → Us s c ≡ false → Kept M p s c → ⊥
        missing zero c e k = omega (arith, wf.student zero c k.pair)
        missing (suc s) zero e k = omega (arith, wf.workshop (suc s) zero k.pair)
        missing (suc s) (suc c) e k =
            undetermined M O setting.full Us s c k.pair p (lgs_optimal M B p vs run O B.met setting met) e
            (λ q. never (rw q at (placed (suc s) (rw q (omega arith)))) e) k.tier k.outside k.room ν determined
