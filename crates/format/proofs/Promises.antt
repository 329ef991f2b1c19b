-- The three demands, and what shows that they are not empty, for every case and book in bytes and every room lent.
-- A refusal is the first cause found (Causes.antt), and any other answer has what the rule's theorems say of its run (Runs.antt).
use Prim.Native.Nat.{ℕ, ◌≤◌}
use mathlib.Core.Path.{◌≡◌, refl, sym, ap, ◌∙◌}
use mathlib.Core.Logic.{◌⊎◌, inl, inr, ⊎_elim}
use mathlib.Core.Bool.{true, false}
use Rattle.std.specs.Prelude.{Option, Some, None}
use mathlib.Core.List.{List}
use native.Mathlib.Omega.{arith}
use lib.ListN.{length}
use lib.Dec.{ltb}
use borrow.Author.Tests.{eq-eqb, le-ltb}
use Rattle.base.specs.Lists.{tally}
use Rattle.base.proofs.Tests.{and_make, or_right, is_false}
use Rattle.lgs.specs.Market.{Market, Results, outscored}
use Rattle.lgs.specs.Profiles.{Profile, StudentOptimal, Fits, flip}
use Rattle.lgs.specs.Rule.{Interview, Step, going, stopped, finished, interviewed, below}
use Rattle.lgs.specs.Fares.{fares_of}
use Rattle.lgs.specs.Promises.{Listed, Placed, NextInterview, interviews_in, matching_of}
use Rattle.lgs.proofs.Valid.{by_lower_score, by_higher_lot, outscored_apart}
use Rattle.lgs.proofs.Sides.{real}
use Rattle.lgs.proofs.Minimal.{revealed_fits}
use Rattle.lgs.proofs.Undetermined.{reveals_itself}
use Rattle.lgs.proofs.Agreement.{unlisted_finished, unlisted_stopped}
use Rattle.lgs.proofs.Optimal.{optimal_unique}
use Rattle.lgs.proofs.OptimalExists.{optimal_exists as optimal-for}
use Rattle.lgs.proofs.Settled.{earlier_settled}
use Rattle.lgs.proofs.Promises.{fits_exists, listed_length, same_place}
use Rattle.format.specs.Layout.{rows, row_at, results_of, of_kind}
use Rattle.format.specs.Refusals.{Room, refusal, needed}
use Rattle.format.specs.Engine.{placed, next, refused, engine, market_in, results_in, Outcome, outcome_of, rule_outcome, outcome_unless}
use Rattle.format.specs.Promises.{Valid, Refused, with_places, with_next, RunEnds, Demand1, FitsBook, interviews_of, ByRule, Demand2Placed}
use Rattle.format.specs.Promises.{Demand2Next, Demand2, Demand3, FitExists, OptimalExists, SameListed, UnlistedUnused, HeadsFit, Promised}
use Rattle.format.specs.Promises.{LotsDiffer, Preferred, LotsPart, SettledForGood}
use Rattle.format.proofs.Positions.{lot_at}
use Rattle.format.proofs.Lots.{lot_range, lots_apart}
use Rattle.format.proofs.Reading.{clean}
use Rattle.format.proofs.Causes.{refusal_some, refusal_none, passed}
use Rattle.format.proofs.Runs.{rule, wf, distinct, ends, engine_valid, Finished, Stopped, when_placed_lem, when_next_lem, placed_promise, next_promise}
use Rattle.format.proofs.Fares.{told}
use Rattle.format.proofs.Books.{extends, agree_listed}
use Rattle.format.proofs.PairCount.{pairs_within}

-- ---- demand 1
pub run_ends : RunEnds
run_ends = ends

pub demand1 : Demand1
unfolding engine outcome_unless rule_outcome outcome_of
demand1 case book room = by_refusal (refusal case book room) refl
  where
    answered : Valid case book room → (x : Step) → rule case book room ≡ x → ByRule case book (outcome_of (market_in case) x)
    answered valid (finished p vs) e = with_places p vs e
    answered valid (stopped s w vs) e = with_next s w vs e
    answered valid (going σ) e = absurd (run_ends case book room valid σ e)

    by_refusal : (r : Option (ℕ × ℕ))
        → refusal case book room ≡ r
        → (Valid case book room × ByRule case book (outcome_unless r (market_in case) (results_in book)))
        ⊎ ((k : ℕ) × (i : ℕ) × Refused case book room k i × (outcome_unless r (market_in case) (results_in book) ≡ refused k i))
    by_refusal (Some (k, i)) e = inr (k, i, refusal_some case book room k i e, refl)
    by_refusal None e =
        let valid : Valid case book room = refusal_none case book room e in
        inl (valid, answered valid (rule case book room) refl)

-- ---- demands 2 and 3

-- an order that fits the groups and the book fits the marks of the listed interviews
fits_listed : (case book : List ℕ) (O : Profile) (vs : List Interview)
    → ((s w : ℕ) → interviewed vs s w ≡ true → (results_in book).met s w ≡ true)
    → FitsBook case book O
    → Fits (market_in case) (results_in book) (interviewed vs) O
fits_listed case book O vs met F =
    revealed_fits (market_in case) (results_in book) O O (interviewed vs) met F (reveals_itself (market_in case) O (interviewed vs) F.strict F.tiers)

-- the interviews that an answer lists are those of the run
lists : (M : Market) (x : Step) → interviews_of (outcome_of M x) ≡ interviews_in x
unfolding outcome_of
lists M (finished p vs) = refl
lists M (stopped s w vs) = refl
lists M (going σ) = refl

module _ (case book : List ℕ) (room : Room) where
  placed_demand : (places : List ℕ) (vs : List Interview) (fares : ℕ) → Finished case book room places vs fares → Demand2Placed case book places vs
  placed_demand places vs fares f =
      let P : Placed (market_in case) (results_in book) places vs = placed_promise case book room places vs fares f in
      record {
        whole = P.whole;
        optimal = λ O F. P.optimal.optimal O (fits_listed case book O vs P.minimal.listed.answered F);
        unseen = P.optimal;
        rule = (f.matching, f.run, f.whole);
        listed = P.minimal.listed;
      }

  next_demand : (s w : ℕ) (vs : List Interview) (fares : ℕ) → Stopped case book room s w vs fares → Demand2Next case book room s w vs
  unfolding results_of
  next_demand s w vs fares f =
      let N : NextInterview (market_in case) (results_in book) s w vs = next_promise case book room s w vs fares f in
      record {
        rule = f.run;
        stops = N;
        first = λ book' valid' more met.
            rw (engine_valid case book' room valid', lists (market_in case) (rule case book' room))
            (N.first (results_in book') (extends case book book' (passed case book' room valid') more) met);
      }

pub demand2 : Demand2
demand2 =
    record {
      when_placed = λ case book room places vs fares e. placed_demand case book room places vs fares (when_placed_lem case book room places vs fares e);
      when_next = λ case book room s w vs fares e. next_demand case book room s w vs fares (when_next_lem case book room s w vs fares e);
    }

pub demand3 : Demand3
demand3 case book room places vs fares e =
    let f : Finished case book room places vs fares = when_placed_lem case book room places vs fares e in
    rw f.cost (placed_promise case book room places vs fares f).minimal

-- ---- the demands of one answer
pub promised : (case book : List ℕ) (room : Room) → Promised case book room (engine case book room)
promised case book room = by_answer (engine case book room) refl
  where
    not_answered : (k i : ℕ) (a : Outcome) → ByRule case book a → a ≡ refused k i → ⊥
    not_answered k i a (with_places p vs r) e = let z : ◌≡◌ {A = ℕ} 0 1 = cc in omega arith
    not_answered k i a (with_next s w vs r) e = let z : ◌≡◌ {A = ℕ} 0 1 = cc in omega arith

    when_refused : (k i : ℕ)
        → engine case book room ≡ refused k i
        → (Valid case book room × ByRule case book (engine case book room))
        ⊎ ((j : ℕ) × (l : ℕ) × Refused case book room j l × (engine case book room ≡ refused j l))
        → Refused case book room k i
    when_refused k i e (inl r) = absurd (not_answered k i (engine case book room) r.1 e)
    when_refused k i e (inr (j, l, r, f)) =
        let g : refused j l ≡ refused k i = sym f ∙ e in
        let same_number : j ≡ k = cc in
        let same_place : l ≡ i = cc in
        rw (same_number, same_place) at r

    by_answer : (a : Outcome) → engine case book room ≡ a → Promised case book room a
    by_answer (placed places vs fares) e = (
      (when_placed_lem case book room places vs fares e).valid,
      demand2.when_placed case book room places vs fares e,
      demand3 case book room places vs fares e,
      rw e at (told case book room),
    )
    by_answer (next s w vs fares) e =
        ((when_next_lem case book room s w vs fares e).valid, demand2.when_next case book room s w vs fares e, rw e at (told case book room))
    by_answer (refused k i) e = when_refused k i e (demand1 case book room)

-- ---- that these say something
pub fit_exists : FitExists
fit_exists case book room valid = fits_exists (market_in case) (wf case book room valid) (results_in book) (distinct case book room valid)

pub optimal_exists : OptimalExists
optimal_exists case book room valid O strict tiers =
    let r : (μ : ℕ → ℕ) × StudentOptimal (market_in case) O μ = optimal-for (market_in case) (wf case book room valid) O strict tiers in
    (r.0, r.1, λ ν best s. optimal_unique (market_in case) O strict ν r.0 best r.1 s)

module _ (case book book' : List ℕ) (room : Room) (valid' : Valid case book' room) where
  placed_again : (places : List ℕ) (vs : List Interview) (fares : ℕ) → Finished case book room places vs fares → SameListed vs book book'
      → engine case book' room ≡ placed places vs fares
  unfolding outcome_of
  placed_again places vs fares f same =
      let P : Placed (market_in case) (results_in book) places vs = placed_promise case book room places vs fares f in
      let run' : rule case book' room ≡ finished f.matching vs =
      unlisted_finished (market_in case) (results_in book) (results_in book') f.matching vs f.run
      (agree_listed case book book' (passed case book' room valid') vs P.minimal.listed.answered same) in
      rw (engine_valid case book' room valid', run') (rw f.cost (ap (λ l. placed l vs (fares_of (market_in case) vs)) (sym f.whole)))

  next_again : (s w : ℕ) (vs : List Interview) (fares : ℕ) → Stopped case book room s w vs fares → SameListed vs book book'
      → (results_in book').met s w ≡ false
      → engine case book' room ≡ next s w vs fares
  unfolding outcome_of
  next_again s w vs fares f same unmet =
      let N : NextInterview (market_in case) (results_in book) s w vs = next_promise case book room s w vs fares f in
      let run' : rule case book' room ≡ stopped s w vs =
      unlisted_stopped (market_in case) (results_in book) (results_in book') s w vs f.run
      (agree_listed case book book' (passed case book' room valid') vs N.listed.answered same) unmet in
      rw (engine_valid case book' room valid', run', f.cost)

pub unlisted_unused : UnlistedUnused
unfolding results_of
unlisted_unused =
    record {
      when_placed = λ case book book' room places vs fares e valid' same.
          placed_again case book book' room valid' places vs fares (when_placed_lem case book room places vs fares e) same;
      when_next = λ case book book' room s w vs fares e valid' same unmet.
          next_again case book book' room valid' s w vs fares (when_next_lem case book room s w vs fares e) same unmet;
    }

-- the matching of a placement, student by student
place_of : (case book : List ℕ) (room : Room) (places : List ℕ) (vs : List Interview) (fares : ℕ) (f : Finished case book room places vs fares) (t : ℕ)
    → matching_of places t ≡ f.matching t
place_of case book room places vs fares f t =
    rw f.whole (same_place (market_in case) (wf case book room f.valid) (results_in book) (distinct case book room f.valid) f.matching vs f.run t)

pub settled_for_good : SettledForGood
settled_for_good case book book' book'' room s w vs fares agree e more' more'' places' places'' vs' vs'' fares' fares'' e' e'' t l =
    let f : Stopped case book room s w vs fares = when_next_lem case book room s w vs fares e in
    let f' : Finished case book' room places' vs' fares' = when_placed_lem case book' room places' vs' fares' e' in
    let f'' : Finished case book'' room places'' vs'' fares'' = when_placed_lem case book'' room places'' vs'' fares'' e'' in
    let same : f'.matching t ≡ f''.matching t =
    earlier_settled (market_in case) agree (results_in book) s w vs f.run (results_in book') (results_in book'')
    (extends case book book' (passed case book' room f'.valid) more') (extends case book book'' (passed case book'' room f''.valid) more'')
    f'.matching f''.matching vs' vs'' f'.run f''.run t l in
    place_of case book' room places' vs' fares' f' t ∙ (same ∙ sym (place_of case book'' room places'' vs'' fares'' f'' t))

module _ (case book : List ℕ) (room : Room) where
  -- the listed interviews are no more than the pair records
  listed_within : Valid case book room → (vs : List Interview) → Listed (market_in case) (results_in book) vs → length vs ≤ tally (of_kind 3) (rows case)
  listed_within valid vs L = omega (arith, listed_length (market_in case) (wf case book room valid) (results_in book) vs L, pairs_within (rows case))

  answer_within : (a : Outcome) → engine case book room ≡ a → length (interviews_of a) ≤ tally (of_kind 3) (rows case)
  answer_within (placed places vs fares) e =
      let f : Finished case book room places vs fares = when_placed_lem case book room places vs fares e in
      listed_within f.valid vs (placed_promise case book room places vs fares f).minimal.listed
  answer_within (next s w vs fares) e =
      let f : Stopped case book room s w vs fares = when_next_lem case book room s w vs fares e in
      listed_within f.valid vs (next_promise case book room s w vs fares f).listed
  answer_within (refused k i) e = omega arith

pub heads_fit : HeadsFit
unfolding needed
heads_fit =
    record {
      when_placed = λ case book room places vs fares e.
          omega (arith, (placed_promise case book room places vs fares (when_placed_lem case book room places vs fares e)).whole);
      anyway = λ case book room. omega (arith, answer_within case book room (engine case book room) refl);
    }

-- ---- lots
pub lots_differ : LotsDiffer
unfolding row_at
lots_differ =
    record {
      bytes = λ case book room valid. lot_at case (clean case book (passed case book room valid));
      range = λ case book room valid. lot_range case (clean case book (passed case book room valid)) (passed case book room valid).lots;
      apart = λ case book room valid. lots_apart case (clean case book (passed case book room valid)) (passed case book room valid).lots;
    }

module _ (case book : List ℕ) (w s t : ℕ) (e : Preferred case book w s t) where
  abbrev M : Market
  M = market_in case

  abbrev B : Results
  B = results_in book

  comes_below : outscored M B w t s ≡ true
  comes_below = ⊎_elim (by_lower_score M B w t s) (λ r. by_higher_lot M B w t s (sym r.0) r.1) e.above

  not_above : outscored M B w s t ≡ true → ⊥
  not_above f = outscored_apart M B w s t f comes_below

pub lots_part : LotsPart
unfolding below
lots_part =
    record {
      rule = λ case book σ w s t e vs vt. (
        or_right (ltb ((market_in case).workshop_tier w s) ((market_in case).workshop_tier w t)) _
            (and_make (eq-eqb _ _ (sym e.tier)) (and_make vt (and_make vs (comes_below case book w s t e)))),
        rw (
          le-ltb ((market_in case).workshop_tier w t) ((market_in case).workshop_tier w s) (omega (arith, e.tier)),
          eq-eqb ((market_in case).workshop_tier w s) ((market_in case).workshop_tier w t) e.tier,
          vs,
          vt,
        ) (is_false (outscored (market_in case) (results_in book) w s t) (not_above case book w s t e)),
      );
      fits = λ case book O F w s t e.
          F.scores.workshops.higher w s t (real (flip (market_in case).paired w) s e.pair) (real (flip (market_in case).paired w) t e.pair')
          (real (flip (results_in book).met w) s e.met) (real (flip (results_in book).met w) t e.met') e.tier (comes_below case book w s t e);
    }
