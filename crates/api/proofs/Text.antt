-- What is printed from the buffers after an answer is the text of that answer.
-- The head of the visits, read back pair by pair, is the answer's list.
use Prim.Native.Nat.{ℕ, zero, suc, ◌+◌, ◌*◌, ◌<◌}
use mathlib.Core.Path.{◌≡◌, refl, ap, ◌∙◌}
use mathlib.Core.List.{List, [], ◌∷◌, ◌++◌}
use native.Mathlib.Omega.{arith}
use lib.ListN.{length, get_or, drop}
use lib.Seq.{take-append_seam, ext_get_or}
use Rattle.base.specs.Lists.{any, tabulate}
use Rattle.base.proofs.Below.{tabulate_length, tabulate_at}
use Rattle.lgs.specs.Rule.{Interview}
use Rattle.format.specs.Engine.{placed, next, refused, Outcome}
use Rattle.format.specs.Buffers.{flat, places_after, visits_after, values}
use Rattle.format.specs.Printed.{printed}
use Rattle.std.specs.Prelude.{Ok, Err, leb, ◌&&◌, true}
use Rattle.api.specs.declared.Cause.{Cause}
use Rattle.api.specs.declared.Cause.TheVariants.{CaseLength, RecordForm, RecordOrder, Counts, Range, Room, BookLength, NoPair, Mark, Twice, EqualMarks}
use Rattle.api.specs.declared.Cause.TheVariants.{NoStages, Lot, LineForm, LineNames}
use Rattle.api.specs.declared.Answer.TheVariants.{Placed, Next}
use Rattle.api.specs.Causes.{number_of}
use Rattle.api.specs.Answers.{answer_for, values_of, read_back, Reported}
use Rattle.api.specs.Parts.{part_values_of, part_kind_of, read_part, PartReported}
use Rattle.api.proofs.Causes.{Tabled, cause_back}
use Rattle.api.specs.Text.{interviews_at, text_of}

flat_first : (vs : List Interview) (rest : List ℕ) (i : ℕ) → i < length vs → get_or (flat vs ++ rest) (2 * i) 0 ≡ (get_or vs i (0, 0)).0
unfolding flat
flat_first [] rest i h = absurd (omega arith)
flat_first (v ∷ vs) rest zero h = refl
flat_first (v ∷ vs) rest (suc i) h =
    ap (λ (k : ℕ). get_or (v.0 ∷ v.1 ∷ flat vs ++ rest) k 0) (let e : 2 * suc i ≡ suc (suc (2 * i)) = omega arith in e)
    ∙ flat_first vs rest i (omega arith)

flat_second : (vs : List Interview) (rest : List ℕ) (i : ℕ) → i < length vs → get_or (flat vs ++ rest) (2 * i + 1) 0 ≡ (get_or vs i (0, 0)).1
unfolding flat
flat_second [] rest i h = absurd (omega arith)
flat_second (v ∷ vs) rest zero h = refl
flat_second (v ∷ vs) rest (suc i) h =
    ap (λ (k : ℕ). get_or (v.0 ∷ v.1 ∷ flat vs ++ rest) k 0) (let e : 2 * suc i + 1 ≡ suc (suc (2 * i + 1)) = omega arith in e)
    ∙ flat_second vs rest i (omega arith)

-- the list is read back from the buffer
pub interviews_back : (vs : List Interview) (rest : List ℕ) → interviews_at (length vs) (flat vs ++ rest) ≡ vs
unfolding interviews_at
interviews_back vs rest =
    let f : ℕ → Interview = λ i. (get_or (flat vs ++ rest) (2 * i) 0, get_or (flat vs ++ rest) (2 * i + 1) 0) in
    ext_get_or (0, 0) (tabulate f (length vs)) vs (tabulate_length f (length vs))
    (λ i l.
    let h : i < length vs = rw (tabulate_length f (length vs)) at l in
    tabulate_at f (length vs) i (0, 0) h ∙
    (ap (λ (a : ℕ). (a, (f i).1)) (flat_first vs rest i h) ∙ ap (λ (b : ℕ). ((get_or vs i (0, 0)).0, b)) (flat_second vs rest i h)))

-- an answer whose places are those of n students
abbrev pub PlacesOf : ℕ → Outcome → Type 0
PlacesOf n (placed places vs fares) = length places ≡ n
PlacesOf n (next s w vs fares) = Unit {0}
PlacesOf n (refused k i) = Unit {0}

-- the text from the buffers is the answer's text
pub text_printed : (a : Outcome) (n : ℕ) (places visits : List ℕ) → PlacesOf n a
    → Tabled a
    → text_of (answer_for a) n (places_after a places) (visits_after a visits) ≡ printed a
unfolding text_of answer_for places_after visits_after printed
text_printed (placed ps vs fares) n places visits e t =
    rw (interviews_back vs (drop (length (flat vs)) visits), ← e, take-append_seam ps (drop (length ps) places))
text_printed (next s w vs fares) n places visits e t = rw (interviews_back vs (drop (length (flat vs)) visits))
text_printed (refused k i) n places visits e t = rw t

-- the enum's values are those of the answer
pub values_same : (a : Outcome) → Tabled a → values_of (answer_for a) ≡ values a
unfolding values_of answer_for values
values_same (placed ps vs fares) t = refl
values_same (next s w vs fares) t = refl
values_same (refused k i) t = rw t

-- and a host reads the answer back
known : (c : Cause) → (leb 1 (number_of c) && leb (number_of c) 15) ≡ true
known CaseLength = refl
known RecordForm = refl
known RecordOrder = refl
known Counts = refl
known Range = refl
known Room = refl
known BookLength = refl
known NoPair = refl
known Mark = refl
known Twice = refl
known EqualMarks = refl
known NoStages = refl
known Lot = refl
known LineForm = refl
known LineNames = refl

pub reported : Reported
unfolding read_back
reported (Ok (Placed count fares)) = refl
reported (Ok (Next s w count fares)) = refl
reported (Err r) = rw (known r.cause, cause_back r.cause)

pub part_reported : PartReported
unfolding read_part part_kind_of part_values_of any
part_reported (Ok given) = refl
part_reported (Err r) = refl
