-- What a part answers (the stages, the wish lines): how many entries or bytes it gives, or a refusal; and the answer in three numbers, for a host in another
-- language. Kind 0, done: how many are given. Kind 2, a refusal: number and place. What is no value is 0.
use Rattle.std.specs.Prelude.{ℕ, not, cond, ◌&&◌, ◌||◌, List, [], ◌∷◌, eqb, ltb, take, drop, Option, Some, None, Result, Ok, Err, ◌≡◌}
use Rattle.base.specs.Lists.{any}
use Rattle.api.specs.declared.PartReport.{PartReport}
use Rattle.api.specs.declared.Refusal.{Refusal}
use Rattle.api.specs.Causes.{number_of}

-- the number and values of each case
unfoldable pub part_values_of : Result ℕ Refusal → List ℕ
part_values_of (Ok given) = given ∷ []
part_values_of (Err r) = number_of r.cause ∷ r.place ∷ []

-- kind 0 is done, 2 a refusal
unfoldable pub part_kind_of : Result ℕ Refusal → ℕ
part_kind_of (Ok given) = 0
part_kind_of (Err r) = 2

abbrev pub part_report_of : Result ℕ Refusal → PartReport
part_report_of (Ok given) = record { kind = 0; first = given; second = 0 }
part_report_of (Err r) = record { kind = 2; first = number_of r.cause; second = r.place }

-- what a host reads of a part with so many values: the kind and the values; nothing where the kind is another, or where a number that is no value is not 0
unfoldable pub read_part : ℕ → PartReport → Option (ℕ × List ℕ)
read_part count r =
    let named : ℕ = cond (eqb r.kind 0) count 2 in
    let numbers : List ℕ = r.first ∷ r.second ∷ [] in
    cond ((eqb r.kind 0 || eqb r.kind 2) && not (any (ltb 0) (drop named numbers))) (Some (r.kind, take named numbers)) None

-- the three numbers give back the kind and the values
abbrev pub PartReported : Type 0
PartReported = (a : Result ℕ Refusal) → read_part 1 (part_report_of a) ≡ Some (part_kind_of a, part_values_of a)
