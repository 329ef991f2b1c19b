-- The library's answer: the number and values of documents 01 and 02 for each case of the enum.
use Rattle.std.specs.Prelude.{ℕ, ◌≡◌, cond, ◌&&◌, List, [], ◌∷◌, length, eqb, leb, Option, Some, None, Result, Ok, Err}
use Rattle.format.specs.Engine.{Outcome, placed, next, refused}
use Rattle.api.specs.declared.Answer.{Answer}
use Rattle.api.specs.declared.Answer.TheVariants.{Placed, Next}
use Rattle.api.specs.declared.Refusal.{Refusal}
use Rattle.api.specs.declared.Report.{Report}
use Rattle.api.specs.Causes.{number_of, refusal_for}

-- the answer for an outcome: "the visit count", "the pair and the count of visits already done", of both what these visits cost; number and place
unfoldable pub answer_for : Outcome → Result Answer Refusal
answer_for (placed places vs fares) = Ok (Placed (length vs) fares)
answer_for (next s w vs fares) = Ok (Next s w (length vs) fares)
answer_for (refused k i) = Err (refusal_for k i)

-- the number and values of each case
unfoldable pub values_of : Result Answer Refusal → List ℕ
values_of (Ok (Placed count fares)) = count ∷ fares ∷ []
values_of (Ok (Next s w count fares)) = s ∷ w ∷ count ∷ fares ∷ []
values_of (Err r) = number_of r.cause ∷ r.place ∷ []

-- The answer in five numbers, for a host in another language.
-- Kind 0, a placement: the visit count and the fares. Kind 1, a next visit: student, workshop, the count and the fares. Kind 2, a refusal: number and place.
abbrev pub report_of : Result Answer Refusal → Report
report_of (Ok (Placed count fares)) = record { kind = 0; first = 0; second = 0; visits = count; fares = fares }
report_of (Ok (Next student workshop count fares)) = record { kind = 1; first = student; second = workshop; visits = count; fares = fares }
report_of (Err r) = record { kind = 2; first = number_of r.cause; second = r.place; visits = 0; fares = 0 }

-- what a host reads from the five numbers, by the kind; nothing where the kind is another, where no cause has the number, or where a
-- number that the kind does not name is not 0
unfoldable pub read_back : Report → Option (Result Answer Refusal)
read_back r =
    cond (eqb r.kind 0 && (eqb r.first 0 && eqb r.second 0))
    (Some (Ok (Placed r.visits r.fares)))
    (cond (eqb r.kind 1)
    (Some (Ok (Next r.first r.second r.visits r.fares)))
    (cond (eqb r.kind 2 && ((leb 1 r.first && leb r.first 15) && (eqb r.visits 0 && eqb r.fares 0))) (Some (Err (refusal_for r.first r.second))) None))

-- the five numbers give back the answer
abbrev pub Reported : Type 0
Reported = (a : Result Answer Refusal) → read_back (report_of a) ≡ Some a
