-- The theorems on the answers of the staged rule, for every valid market and results: what a matching promises (`lgs_placed`), what a next
-- interview promises (`lgs_next`), and that there is always one of the two (`lgs_ends`).
use Prim.Native.Nat.{ℕ, zero, suc, ◌≤◌, ◌<◌}
use mathlib.Core.Path.{◌≡◌, sym, fun_ext, ◌∙◌}
use mathlib.Core.Logic.{⊎_elim}
use mathlib.Core.Bool.{Bool, true}
use mathlib.Core.List.{List, map}
use native.Mathlib.Omega.{arith}
use lib.ListN.{length, get_or, length-map, get_or-eq_default}
use Rattle.base.specs.Lists.{upto}
use Rattle.base.proofs.Tests.{less?}
use Rattle.base.proofs.Members.{upto_length, map_upto_at}
use Rattle.lgs.specs.Market.{Market, Results, ConsistentStages}
use Rattle.lgs.specs.Profiles.{Profile, Fits, StudentOptimal, Determined, outside_or, flip}
use Rattle.lgs.specs.Rule.{State, going, stopped, finished, Interview, interviewed, lazy_gale_shapley}
use Rattle.lgs.specs.Fares.{fares_of}
use Rattle.lgs.specs.Promises.{matching_of, pairs_in, SureSet, Listed, MinimalInterviews, Placed, Extends, NextInterview}
use Rattle.lgs.proofs.Valid.{WellFormed, Distinct}
use Rattle.lgs.proofs.Setting.{Setting, fits_setting}
use Rattle.lgs.proofs.Sides.{wider}
use Rattle.lgs.proofs.Optimal.{optimal_unique}
use Rattle.lgs.proofs.Undetermined.{reveals_itself}
use Rattle.lgs.proofs.Exists.{score_profile, score_fits}
use Rattle.lgs.proofs.Finished.{End, lgs_end, lgs_optimal, lgs_met, lgs_placed_listed}
use Rattle.lgs.proofs.Minimal.{listed_optimal, listed_determined, listed_needed}
use Rattle.lgs.proofs.Once.{last_once, listed_fits, listed_counted, fares_fit, fares_paid}
use Rattle.lgs.proofs.Stopped.{Stopped, lgs_stopped}
use Rattle.lgs.proofs.Ends.{run_answers}
use Rattle.lgs.proofs.Agreement.{AgreeOn, next_held}

-- the listed interviews are no more than the pair records
pub listed_length : (M : Market) → WellFormed M → (B : Results) (vs : List Interview) → Listed M B vs → length vs ≤ pairs_in M M.paired
listed_length M wf B vs L = listed_fits M wf vs L.once L.pair M.paired L.pair

module _ (M : Market) (wf : WellFormed M) (B : Results) (distinct : Distinct M B) where
  -- some profile fits the tiers and the book
  pub fits_exists : (O : Profile) × Fits M B B.met O
  fits_exists = (score_profile M wf B, score_fits M wf B B.met)

  setting : Setting M B (score_profile M wf B) B.met
  setting = fits_setting M B (score_profile M wf B) B.met wf distinct (λ s w v. v) (score_fits M wf B B.met)

  -- the rule always answers
  pub lgs_ends : (σ : State) → lazy_gale_shapley M B ≡ going σ → ⊥
  lgs_ends = run_answers M B (score_profile M wf B) setting

  module _ (p : ℕ → ℕ) (vs : List Interview) (run : lazy_gale_shapley M B ≡ finished p vs) where
    abbrev places : List ℕ
    places = map p (upto M.students)

    best : StudentOptimal M (score_profile M wf B) p
    best = lgs_optimal M B p vs run (score_profile M wf B) B.met setting (lgs_met M B p vs run)

    -- only students of the market are placed
    placed_student : (s : ℕ) → 0 < p s → (1 ≤ s) × (s ≤ M.students)
    placed_student s l = wf.student s (p s) (best.stable.matching.acceptable s l).pair

    unplaced : (s : ℕ) → ((1 ≤ s) × (s ≤ M.students) → ⊥) → p s ≡ 0
    unplaced s out = ⊎_elim (λ l. absurd (out (placed_student s l))) (λ le. omega arith) (less? 0 (p s))

    -- the places stand for the matching
    pub same_place : (s : ℕ) → matching_of (map p (upto M.students)) s ≡ p s
    same_place zero = sym (unplaced zero (λ r. omega arith))
    same_place (suc s) = ⊎_elim inside beyond (less? s M.students)
      where
        inside : s < M.students → get_or places s 0 ≡ p (suc s)
        inside l = map_upto_at p M.students s l

        beyond : M.students ≤ s → get_or places s 0 ≡ p (suc s)
        beyond le =
            get_or-eq_default places 0 (omega (arith, length-map (upto M.students) p, upto_length M.students))
            ∙ sym (unplaced (suc s) (λ r. omega arith))

    same_matching : matching_of places ≡ p
    same_matching = fun_ext same_place

    listed : Listed M B vs
    listed = at_end (lgs_end M B p vs run (score_profile M wf B) B.met setting (lgs_met M B p vs run))
      where
        at_end : End M B p vs run (score_profile M wf B) B.met → Listed M B vs
        at_end z =
            record {
              pair = λ s w v. (z.inv.seen s w (rw z.interviews at v)).pair;
              answered = lgs_met M B p vs run;
              once = rw z.interviews (last_once M B (score_profile M wf B) B.met setting z.state z.reached (λ s w v. (z.inv.seen s w v).seen));
            }

    -- with agreeing stages such a set has every listed interview
    holds_all : ConsistentStages M M.stage → (O : Profile) → Fits M B B.met O → (Vs : ℕ → ℕ → Bool) (μ : ℕ → ℕ) → SureSet M B places O Vs μ
        → (s w : ℕ) → interviewed vs s w ≡ true → Vs s w ≡ true
    holds_all agree O fits Vs μ set =
        listed_needed M wf B distinct p vs run O fits agree Vs μ set.sure (λ s l. rw (same_place s) at (set.holds s (rw (same_place s) l)))

    minimal : MinimalInterviews M B places vs (fares_of M vs)
    minimal =
        record {
          listed = listed;
          itself = λ O fits.
              record {
                sure = rw same_matching (listed_determined M wf B distinct p vs run O fits);
                holds = λ s l.
                    rw (same_place s)
                    (lgs_placed_listed M B p vs run (score_profile M wf B) B.met setting (lgs_met M B p vs run) s (rw (same_place s) at l));
              };
          counted = listed_counted M wf vs listed.once listed.pair;
          paid = fares_paid M wf vs listed.once listed.pair;
          minimal = λ agree O fits Vs μ set.
              let every : (s w : ℕ) → interviewed vs s w ≡ true → Vs s w ≡ true = holds_all agree O fits Vs μ set in
              (every, listed_fits M wf vs listed.once listed.pair Vs every);
          cheapest = λ agree O fits Vs μ set.
              fares_fit M wf vs listed.once listed.pair Vs (holds_all agree O fits Vs μ set);
        }

    -- an answer with a matching
    pub lgs_placed : Placed M B (map p (upto M.students)) vs
    lgs_placed =
        record {
          whole = length-map (upto M.students) p ∙ upto_length M.students;
          optimal = record { optimal = λ O fits. rw same_matching (listed_optimal M wf B distinct p vs run O fits) };
          minimal = minimal;
        }

  -- an answer with a next interview
  pub lgs_next : (s w : ℕ) (vs : List Interview) → lazy_gale_shapley M B ≡ stopped s w vs → NextInterview M B s w vs
  lgs_next s w vs run = by_stop (lgs_stopped M B (score_profile M wf B) setting s w vs run)
    where
      by_stop : Stopped M B s w vs → NextInterview M B s w vs
      by_stop k =
          record {
            pair = k.pair;
            unanswered = k.unanswered;
            listed = k.listed;
            unlisted = k.unlisted;
            first = λ B' X met. next_held M B B' s w vs run (agree B' X) met;
          }
        where
          agree : (B' : Results) → Extends B B' → AgreeOn (interviewed vs) B B'
          agree B' X =
              record {
                met = λ t d v. X.met t d (k.listed.answered t d v);
                never = λ t d v. X.never t d (k.listed.answered t d v);
                student = λ t d v. X.student t d (k.listed.answered t d v);
                workshop = λ t d v. X.workshop t d (k.listed.answered t d v);
                student_outside = X.student_outside;
                workshop_outside = X.workshop_outside;
              }

-- ---- what else a matching promises

module _ (M : Market) (B : Results) (places : List ℕ) (vs : List Interview) (P : Placed M B places vs) (O : Profile) (fits : Fits M B B.met O) where
  -- the listed interviews are in the book, so what fits the book fits them
  fewer : Fits M B (interviewed vs) O
  fewer =
      record {
        strict = fits.strict;
        tiers = fits.tiers;
        scores = record {
          students = record { higher = λ s x y ox oy mx my. fits.scores.students.higher s x y ox oy (student s x mx) (student s y my) };
          workshops = record { higher = λ w x y ox oy mx my. fits.scores.workshops.higher w x y ox oy (workshop w x mx) (workshop w y my) };
        };
        never = record { same = λ s w p v. fits.never.same s w p (P.minimal.listed.answered s w v) };
      }
    where
      student : (s x : ℕ) → outside_or (interviewed vs s) x ≡ true → outside_or (B.met s) x ≡ true
      student s = wider (interviewed vs s) (B.met s) (P.minimal.listed.answered s)

      workshop : (w x : ℕ) → outside_or (flip (interviewed vs) w) x ≡ true → outside_or (flip B.met w) x ≡ true
      workshop w = wider (flip (interviewed vs) w) (flip B.met w) (λ s. P.minimal.listed.answered s w)

  -- demand 2 in the words of document 01: under every profile that fits the tiers and the book
  pub placed_optimal : StudentOptimal M O (matching_of places)
  placed_optimal = P.optimal.optimal O fewer

  -- whoever is sure is sure of this matching
  pub determined_same : (Vs : ℕ → ℕ → Bool) (μ : ℕ → ℕ) → Determined M Vs O μ → (s : ℕ) → μ s ≡ matching_of places s
  determined_same Vs μ D =
      optimal_unique M O fits.strict μ (matching_of places) (D.optimal O (reveals_itself M O Vs fits.strict fits.tiers)) placed_optimal
