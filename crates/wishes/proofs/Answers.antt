-- The values of the answer are those of the outcome, whose number is one of the tables.
use Prim.Native.Nat.{ℕ}
use mathlib.Core.Path.{◌≡◌, refl, ap}
use mathlib.Core.Bool.{false}
use mathlib.Core.List.{List, [], ◌∷◌}
use Rattle.base.specs.Lists.{any}
use Rattle.format.specs.Refusals.{case_causes}
use Rattle.format.proofs.Causes.{numbers}
use Rattle.api.specs.Causes.{number_of, cause_of}
use Rattle.api.specs.Parts.{part_values_of}
use Rattle.api.proofs.Causes.{strays}
use Rattle.wishes.specs.Outcome.{WishesOutcome, given, ungiven, lent_causes, wishes_values}
use Rattle.wishes.specs.Answered.{wishes_answer_for}

-- a refusal has a number of the tables
abbrev pub Tabled : WishesOutcome → Type 0
Tabled (given bytes) = Unit {0}
Tabled (ungiven k i) = number_of (cause_of k) ≡ k

pub wishes_values_lem : (o : WishesOutcome) → Tabled o → part_values_of (wishes_answer_for o) ≡ wishes_values o
unfolding part_values_of wishes_answer_for wishes_values
wishes_values_lem (given bytes) t = refl
wishes_values_lem (ungiven k i) t = ap (λ n. n ∷ i ∷ []) t

-- the causes before the lines have
pub lent_listed : (case : List ℕ) (needed room : ℕ) → any strays (numbers (lent_causes case needed room)) ≡ false
unfolding any lent_causes case_causes
lent_listed case needed room = refl
