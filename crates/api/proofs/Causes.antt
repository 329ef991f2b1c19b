-- The numbers of the causes, and that the tables name no other.
use Prim.Native.Nat.{ℕ, zero, suc, ◌≤◌}
use mathlib.Core.Path.{◌≡◌, refl}
use mathlib.Core.Bool.{Bool, false}
use mathlib.Core.List.{List}
use native.Mathlib.Omega.{arith}
use Rattle.std.specs.Prelude.{not, eqb, Option, Some, None}
use Rattle.base.specs.Lists.{any}
use Rattle.base.specs.Below.{any_below}
use Rattle.base.proofs.Below.{any_fails}
use Rattle.format.specs.Causes.{first_cause}
use Rattle.format.specs.Causes.{Cause as Row}
use Rattle.format.specs.Refusals.{Room as Lengths}
use Rattle.format.specs.Refusals.{refusal, causes, case_causes, room_causes, book_causes}
use Rattle.format.specs.Engine.{Outcome, placed, next, refused, engine, outcome_of, outcome_unless, rule_outcome, market_in, results_in}
use Rattle.lgs.specs.Market.{Market}
use Rattle.lgs.specs.Rule.{Step, going, stopped, finished, lazy_gale_shapley}
use Rattle.format.proofs.Causes.{numbers, number_among}
use Rattle.api.specs.declared.Cause.{Cause}
use Rattle.api.specs.declared.Cause.TheVariants.{CaseLength, RecordForm, RecordOrder, Counts, Range, Room, BookLength, NoPair}
use Rattle.api.specs.declared.Cause.TheVariants.{Mark, Twice, EqualMarks, NoStages, Lot, LineForm, LineNames}
use Rattle.api.specs.Causes.{number_of, cause_of, Numbered, RefusalNumbers}
use borrow.Author.Tests.{eqb-true, not-false}

-- the number is not that of its cause
abbrev pub strays : ℕ → Bool
strays k = not (eqb (number_of (cause_of k)) k)

pub number_back : (k : ℕ) → strays k ≡ false → number_of (cause_of k) ≡ k
number_back k f = eqb-true _ _ (not-false _ f)

pub cause_back : (c : Cause) → cause_of (number_of c) ≡ c
cause_back CaseLength = refl
cause_back RecordForm = refl
cause_back RecordOrder = refl
cause_back Counts = refl
cause_back Range = refl
cause_back Room = refl
cause_back BookLength = refl
cause_back NoPair = refl
cause_back Mark = refl
cause_back Twice = refl
cause_back EqualMarks = refl
cause_back NoStages = refl
cause_back Lot = refl
cause_back LineForm = refl
cause_back LineNames = refl

by_table : (k : ℕ) → 1 ≤ k → k ≤ 15 → strays k ≡ false
unfolding any_below
by_table zero a b = absurd (omega arith)
by_table (suc k) a b = any_fails (λ i. strays (suc i)) 15 refl k (omega arith)

pub numbered : Numbered
numbered = record { number = λ k a b. number_back k (by_table k a b); cause = cause_back }

-- a refusal has a number of the tables
abbrev pub Tabled : Outcome → Type 0
Tabled (placed places vs fares) = Unit {0}
Tabled (next s w vs fares) = Unit {0}
Tabled (refused k i) = number_of (cause_of k) ≡ k

-- the refusal has a number of the tables where all causes that are tested have
pub number_tabled : (cs : List Row) (k i : ℕ) → any strays (numbers cs) ≡ false → first_cause cs ≡ Some (k, i) → number_of (cause_of k) ≡ k
number_tabled cs k i f e = number_back k (number_among strays cs k i f e)

-- the engine's causes
listed : (case book : List ℕ) (room : Lengths) → any strays (numbers (causes case book room)) ≡ false
unfolding any causes case_causes room_causes book_causes
listed case book room = refl

case_listed : (case : List ℕ) → any strays (numbers (case_causes case)) ≡ false
unfolding any case_causes
case_listed case = refl

book_listed : (case book : List ℕ) → any strays (numbers (book_causes case book)) ≡ false
unfolding any book_causes
book_listed case book = refl

pub refusal_numbers : RefusalNumbers
unfolding refusal
refusal_numbers =
    record {
      case = λ case k i. number_tabled (case_causes case) k i (case_listed case);
      book = λ case book k i. number_tabled (book_causes case book) k i (book_listed case book);
      engine = λ case book room k i. number_tabled (causes case book room) k i (listed case book room);
    }

rule_tabled : (M : Market) (s : Step) → Tabled (outcome_of M s)
unfolding outcome_of
rule_tabled M (finished p vs) = tt
rule_tabled M (stopped s w vs) = tt
rule_tabled M (going σ) = tt

tabled_unless : (case book : List ℕ) (room : Lengths) (o : Option (ℕ × ℕ)) → refusal case book room ≡ o
    → Tabled (outcome_unless o (market_in case) (results_in book))
unfolding refusal outcome_unless rule_outcome
tabled_unless case book room (Some r) e = number_tabled (causes case book room) r.0 r.1 (listed case book room) e
tabled_unless case book room None e = rule_tabled (market_in case) (lazy_gale_shapley (market_in case) (results_in book))

-- the engine's refusals have
pub engine_tabled : (case book : List ℕ) (room : Lengths) → Tabled (engine case book room)
unfolding engine
engine_tabled case book room = tabled_unless case book room (refusal case book room) refl
