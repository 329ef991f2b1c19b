-- What an answer leaves in the lent buffers, and its values (document 01, "Buffers").
use Rattle.std.specs.Prelude.{ℕ, List, [], ◌∷◌, ◌++◌, length, drop, replicate}
use Rattle.lgs.specs.Rule.{Interview}
use Rattle.format.specs.Engine.{placed, next, refused, Outcome}

-- "used as student, workshop in the order visited"
unfoldable pub flat : List Interview → List ℕ
flat [] = []
flat (v ∷ vs) = v.0 ∷ v.1 ∷ flat vs

-- the list with its head replaced; "entries past the needed ones stay"
abbrev pub with_head : List ℕ → List ℕ → List ℕ
with_head new old = new ++ drop (length new) old

-- "A placement fills places"; a next visit "leaves the places", and a refusal too
unfoldable pub places_after : Outcome → List ℕ → List ℕ
places_after (placed places vs fares) old = with_head places old
places_after (next s w vs fares) old = old
places_after (refused k i) old = old

-- a placement fills "the used head of the visits", and so does a next visit; a refusal leaves them
unfoldable pub visits_after : Outcome → List ℕ → List ℕ
visits_after (placed places vs fares) old = with_head (flat vs) old
visits_after (next s w vs fares) old = with_head (flat vs) old
visits_after (refused k i) old = old

-- "After each answer all scratch is zero, over its whole lent length", whatever it held; `zero_entry` is the entry that is all zero
abbrev pub scratch_after : {A : Type 0} → A → List A → List A
scratch_after zero_entry old = replicate (length old) zero_entry

-- The values of an answer: of a placement "the visit count", of a next visit "the pair and the count of visits already done", of both what these visits
-- cost (document 02, Paper 4); of a refusal its number and place.
unfoldable pub values : Outcome → List ℕ
values (placed places vs fares) = length vs ∷ fares ∷ []
values (next s w vs fares) = s ∷ w ∷ length vs ∷ fares ∷ []
values (refused k i) = k ∷ i ∷ []
