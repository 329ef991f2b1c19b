-- An answer without a refusal is that of a run of the staged rule on a valid case and book, and the rule's theorems (crate lgs) speak of it.
-- A valid case and book give a well-formed market and distinct scores, which is all that these theorems ask.
use Prim.Native.Nat.{ℕ}
use mathlib.Core.Path.{◌≡◌, refl, sym, ap, ◌∙◌}
use Rattle.std.specs.Prelude.{Option, Some, None}
use mathlib.Core.List.{List, map}
use native.Mathlib.Omega.{arith}
use Rattle.base.specs.Lists.{upto}
use Rattle.lgs.specs.Rule.{Interview, State, Step, going, stopped, finished, lazy_gale_shapley}
use Rattle.lgs.specs.Fares.{fares_of}
use Rattle.lgs.specs.Promises.{Placed, NextInterview}
use Rattle.lgs.proofs.Valid.{WellFormed, Distinct}
use Rattle.lgs.proofs.Promises.{lgs_ends, lgs_placed, lgs_next}
use Rattle.format.specs.Refusals.{Room, refusal}
use Rattle.format.specs.Engine.{placed, next, refused, engine, market_in, results_in, Outcome, outcome_of, rule_outcome, outcome_unless}
use Rattle.format.specs.Promises.{Valid}
use Rattle.format.proofs.Reading.{market_wf, results_distinct}
use Rattle.format.proofs.Causes.{refusal_none, none_refusal, passed}

module _ (case book : List ℕ) (room : Room) where
  abbrev pub rule : Step
  rule = lazy_gale_shapley (market_in case) (results_in book)

  module _ (valid : Valid case book room) where
    pub wf : WellFormed (market_in case)
    wf = market_wf case book (passed case book room valid)

    pub distinct : Distinct (market_in case) (results_in book)
    distinct = results_distinct case book (passed case book room valid)

    pub ends : (σ : State) → rule ≡ going σ → ⊥
    ends = lgs_ends (market_in case) wf (results_in book) distinct

    pub engine_valid : engine case book room ≡ outcome_of (market_in case) rule
    unfolding engine outcome_unless rule_outcome
    engine_valid = rw (none_refusal case book room valid)

  -- a placement comes from a run that finished
  pub record Finished (places : List ℕ) (vs : List Interview) (fares : ℕ) : Type 0 where
    pub valid : Valid case book room
    pub matching : ℕ → ℕ
    pub run : rule ≡ finished matching vs
    pub whole : places ≡ map matching (upto (market_in case).students)
    pub cost : fares ≡ fares_of (market_in case) vs

  -- a next interview comes from a run that stopped
  pub record Stopped (s w : ℕ) (vs : List Interview) (fares : ℕ) : Type 0 where
    pub valid : Valid case book room
    pub run : rule ≡ stopped s w vs
    pub cost : fares ≡ fares_of (market_in case) vs

  answered : (a : Outcome) → ((k i : ℕ) → refused k i ≡ a → ⊥) → engine case book room ≡ a
      → Valid case book room × (outcome_of (market_in case) rule ≡ a)
  unfolding engine outcome_unless rule_outcome
  answered a nope e = by_refusal (refusal case book room) refl e
    where
      by_refusal : (r : Option (ℕ × ℕ)) → refusal case book room ≡ r → outcome_unless r (market_in case) (results_in book) ≡ a
          → Valid case book room × (outcome_of (market_in case) rule ≡ a)
      by_refusal (Some r) f q = absurd (nope r.0 r.1 q)
      by_refusal None f q = (refusal_none case book room f, q)

  pub when_placed_lem : (places : List ℕ) (vs : List Interview) (fares : ℕ) → engine case book room ≡ placed places vs fares → Finished places vs fares
  unfolding outcome_of
  when_placed_lem places vs fares e =
      let r : Valid case book room × (outcome_of (market_in case) rule ≡ placed places vs fares) =
      answered (placed places vs fares) (λ k i q. let z : ◌≡◌ {A = ℕ} 0 1 = cc in omega arith) e in
      by_run r.0 rule refl r.1
    where
      by_run : Valid case book room → (x : Step) → rule ≡ x → outcome_of (market_in case) x ≡ placed places vs fares → Finished places vs fares
      by_run valid (finished p us) run q =
          let same : us ≡ vs = cc in
          let same_fares : fares_of (market_in case) us ≡ fares = cc in
          record { valid = valid; matching = p; run = run ∙ ap (finished p) same; whole = cc; cost = sym same_fares ∙ ap (fares_of (market_in case)) same }
      by_run valid (stopped s w us) run q = let z : ◌≡◌ {A = ℕ} 0 1 = cc in absurd (omega arith)
      by_run valid (going σ) run q = absurd (ends valid σ run)

  pub when_next_lem : (s w : ℕ) (vs : List Interview) (fares : ℕ) → engine case book room ≡ next s w vs fares → Stopped s w vs fares
  unfolding outcome_of
  when_next_lem s w vs fares e =
      let r : Valid case book room × (outcome_of (market_in case) rule ≡ next s w vs fares) =
      answered (next s w vs fares) (λ k i q. let z : ◌≡◌ {A = ℕ} 0 1 = cc in omega arith) e in
      record { valid = r.0; run = (by_run rule r.1).0; cost = (by_run rule r.1).1 }
    where
      by_run : (x : Step) → outcome_of (market_in case) x ≡ next s w vs fares → (x ≡ stopped s w vs) × (fares ≡ fares_of (market_in case) vs)
      by_run (finished p us) q = let z : ◌≡◌ {A = ℕ} 0 1 = cc in absurd (omega arith)
      by_run (stopped t d us) q =
          let same_student : t ≡ s = cc in
          let same_workshop : d ≡ w = cc in
          let same_list : us ≡ vs = cc in
          let same_fares : fares_of (market_in case) us ≡ fares = cc in
          (rw (same_student, same_workshop, same_list), sym same_fares ∙ ap (fares_of (market_in case)) same_list)
      by_run (going σ) q = let z : ◌≡◌ {A = ℕ} 0 1 = cc in absurd (omega arith)

  -- what the rule's theorems say of the two
  pub placed_promise : (places : List ℕ) (vs : List Interview) (fares : ℕ) → Finished places vs fares → Placed (market_in case) (results_in book) places vs
  placed_promise places vs fares f =
      rw f.whole (lgs_placed (market_in case) (wf f.valid) (results_in book) (distinct f.valid) f.matching vs f.run)

  pub next_promise : (s w : ℕ) (vs : List Interview) (fares : ℕ) → Stopped s w vs fares → NextInterview (market_in case) (results_in book) s w vs
  next_promise s w vs fares f = lgs_next (market_in case) (wf f.valid) (results_in book) (distinct f.valid) s w vs f.run
