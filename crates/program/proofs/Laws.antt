-- The buffers that the engine leaves have the text of its answer.
use Prim.Native.Nat.{ℕ}
use mathlib.Core.Path.{◌≡◌, refl, sym, ◌∙◌}
use mathlib.Core.List.{List}
use native.Mathlib.Omega.{arith}
use lib.ListN.{length, drop, replicate, length-append}
use Rattle.std.specs.Prelude.{Result, Ok, Err}
use Rattle.format.specs.Refusals.{refusal}
use Rattle.format.specs.Engine.{placed, next, refused, engine, market_in}
use Rattle.format.specs.Engine.{Outcome}
use Rattle.format.specs.Buffers.{flat, places_after, visits_after}
use Rattle.format.specs.Printed.{printed}
use Rattle.format.specs.Promises.{Promised}
use Rattle.format.proofs.Buffers.{flat_length}
use Rattle.api.specs.declared.StudentState.{StudentState}
use Rattle.api.specs.declared.Answer.{Answer}
use Rattle.api.specs.declared.Refusal.{Refusal}
use Rattle.api.specs.Answers.{answer_for}
use Rattle.api.specs.Text.{text_of}
use Rattle.api.proofs.Causes.{engine_tabled}
use Rattle.api.proofs.Text.{PlacesOf, text_printed}
use Rattle.api.specs.Answered.{zero_state, lent, Answered}
use Rattle.case_tests.specs.declared.Counts.{Counts}
use Rattle.lookup.specs.Clean.{Clean}
use Rattle.case_tests.proofs.Cases.{as_clean}
use Rattle.answering.specs.Call.{TestedInput, Runnable, Ran}
use Rattle.answering.proofs.Composing.{answered_refused, cleaned, runnable, answered_ran}
use Rattle.printing.specs.Text.{TextFits}

-- the buffers after an answer have what it speaks of
fits_after : (a : Outcome) (n : ℕ) (places visits : List ℕ) → PlacesOf n a → TextFits (answer_for a) n (places_after a places) (visits_after a visits)
unfolding answer_for places_after visits_after
fits_after (placed ps vs fares) n places visits e = (
  omega (arith, length-append ps (drop (length ps) places)),
  omega (arith, length-append (flat vs) (drop (length (flat vs)) visits), flat_length vs),
)
fits_after (next s w vs fares) n places visits e = omega (arith, length-append (flat vs) (drop (length (flat vs)) visits), flat_length vs)
fits_after (refused k i) n places visits e = tt

module _ (case book places visits seats index : List ℕ) (states : List StudentState) (a : Result Answer Refusal) {places' visits' seats' index' : List ℕ}
    {states' : List StudentState} (A : Answered case book places visits seats index states a places' visits' seats' index' states') where
  abbrev told : Outcome
  told = engine case book (lent case book places visits seats index states)

  whole_places : (b : Outcome) → Promised case book (lent case book places visits seats index states) b → PlacesOf (market_in case).students b
  whole_places (placed ps vs fares) p = p.1.whole
  whole_places (next s w vs fares) p = tt
  whole_places (refused k i) p = tt

  answer_fits : TextFits a (market_in case).students places' visits'
  answer_fits = rw (A.answer, A.in_places, A.in_visits) (fits_after told (market_in case).students places visits (whole_places told A.promised))

  answer_text : text_of a (market_in case).students places' visits' ≡ printed told
  answer_text =
      rw (A.answer, A.in_places, A.in_visits)
      (text_printed told (market_in case).students places visits (whole_places told A.promised)
      (engine_tabled case book (lent case book places visits seats index states)))

-- the states of `run_alone`
abbrev alone : List StudentState
alone = replicate 512 zero_state

module _ (case book places visits seats index : List ℕ) (c : Result Counts Refusal) (seats₁ index₁ table₁ : List ℕ)
    (tested : TestedInput case book (lent case book places visits seats index alone) c seats₁ index₁ table₁) where
  abbrev full : Outcome
  full = engine case book (lent case book places visits seats index alone)

  -- a refusal, with whatever buffers
  pub refused_text : (r : Refusal) → c ≡ Err r → text_of (Err r) 0 places visits ≡ printed full
  unfolding text_of
  refused_text r e =
      answer_text case book places visits seats index alone (Err r)
      (answered_refused case book places visits seats index alone c seats₁ index₁ table₁ tested r e)

  module _ (n : Counts) (e : c ≡ Ok n) where
    pub tested_clean : Clean case book index₁ table₁ n.students n.workshops
    tested_clean = cleaned case book places visits seats index alone c seats₁ index₁ table₁ tested n e

    module _ (es : length seats₁ ≡ length seats) where
      pub ready : length index₁ ≡ length index → Runnable case book index₁ places visits seats₁ 512
      ready ei = (runnable case book places visits seats index alone c seats₁ index₁ table₁ tested n e es ei).1

      module _ (a : Answer) (places₃ visits₃ seats₃ : List ℕ) (ran : Ran case book places visits seats₁ a places₃ visits₃ seats₃) where
        whole : Answered case book places visits seats index alone (Ok a) places₃ visits₃ seats₃ (replicate (length index) 0)
            (replicate (length alone) zero_state)
        whole = answered_ran case book places visits seats index alone c seats₁ index₁ table₁ tested n e a places₃ visits₃ seats₃
            (replicate (length index) 0) es ran refl

        many : n.students ≡ (market_in case).students
        many = (as_clean case (refusal case book (lent case book places visits seats index alone)) n (sym e ∙ tested.answer)).1

        pub ran_fits : TextFits (Ok a) n.students places₃ visits₃
        ran_fits = rw many (answer_fits case book places visits seats index alone (Ok a) whole)

        pub ran_text : text_of (Ok a) n.students places₃ visits₃ ≡ printed full
        ran_text = rw many (answer_text case book places visits seats index alone (Ok a) whole)
