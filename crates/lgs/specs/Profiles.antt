-- Preference profiles, stability, the student-optimal matching, and what it is to be determined (document 01, "Orders and stability" and
-- "The smallest list"; never: document 02, Paper 1).
use Rattle.std.specs.Prelude.{ℕ, zero, suc, ◌≤◌, ◌<◌, Bool, true, false, ◌≡◌, ◌⊎◌, eqb}
use Rattle.base.specs.Lists.{count}
use Rattle.lgs.specs.Market.{Market, Results, scored_lower, outscored}

-- the outside option (0), or whoever passes the test
abbrev pub outside_or : (ℕ → Bool) → ℕ → Bool
outside_or p zero = true
outside_or p (suc x) = p (suc x)

-- a relation between students and workshops, read from the workshop's side
abbrev pub flip : (ℕ → ℕ → Bool) → ℕ → ℕ → Bool
flip r w s = r s w

-- ---- One side of the market. `option p x`: x is an option of the person p, beside the outside option. A rank gives each person's options
-- numbers, and a lower one is better.

-- different options have different ranks
pub record Strict (option : ℕ → ℕ → Bool) (rank : ℕ → ℕ → ℕ) : Type 0 where
  pub apart : (p x y : ℕ)
      → outside_or (option p) x ≡ true
      → outside_or (option p) y ≡ true
      → rank p x ≡ rank p y
      → x ≡ y

-- an option of a better tier has a better rank
pub record KeepsTiers (option : ℕ → ℕ → Bool) (tier rank : ℕ → ℕ → ℕ) : Type 0 where
  pub better : (p x y : ℕ)
      → outside_or (option p) x ≡ true
      → outside_or (option p) y ≡ true
      → tier p x < tier p y
      → rank p x < rank p y

-- inside a tier, of those met and the outside option, whoever comes below (`lower p y x`: y below x) has the worse rank
pub record KeepsScores (option met : ℕ → ℕ → Bool) (tier : ℕ → ℕ → ℕ) (lower : ℕ → ℕ → ℕ → Bool) (rank : ℕ → ℕ → ℕ) : Type 0 where
  pub higher : (p x y : ℕ)
      → outside_or (option p) x ≡ true
      → outside_or (option p) y ≡ true
      → outside_or (met p) x ≡ true
      → outside_or (met p) y ≡ true
      → tier p x ≡ tier p y
      → lower p y x ≡ true
      → rank p x < rank p y

-- those met, and the outside option, compare by the second rank as by the first
pub record SameComparisons (option met : ℕ → ℕ → Bool) (rank rank' : ℕ → ℕ → ℕ) : Type 0 where
  pub same : (p x y : ℕ)
      → outside_or (option p) x ≡ true
      → outside_or (option p) y ≡ true
      → outside_or (met p) x ≡ true
      → outside_or (met p) y ≡ true
      → rank p x < rank p y
      → rank' p x < rank' p y

-- ---- Both sides.

-- A preference profile gives everybody's ranks: "for each student over none and the workshops she has a pair with, for each workshop over
-- none and the students it has a pair with". On finitely many options a strict order and an injective rank are the same thing.
-- "A full order also says which pairs are never"; "a never pair keeps its groups", so it has its ranks like any other.
pub record Profile : Type 0 where
  pub student_rank : ℕ → ℕ → ℕ  -- student, then a workshop or 0
  pub workshop_rank : ℕ → ℕ → ℕ  -- workshop, then a student or 0
  pub never : ℕ → ℕ → Bool  -- student, workshop

-- of the pairs met that have a pair record, the second says never exactly where the first does; "any other pair may be never or not"
pub record SameNever (paired met never never' : ℕ → ℕ → Bool) : Type 0 where
  pub same : (s w : ℕ) → paired s w ≡ true → met s w ≡ true → never' s w ≡ never s w

module _ (M : Market) where
  -- "a full order is a strict order for everybody"
  pub record StrictProfile (O : Profile) : Type 0 where
    pub students : Strict M.paired O.student_rank
    pub workshops : Strict (flip M.paired) O.workshop_rank

  -- it "keeps the groups, none in its line group"
  pub record RespectsTiers (O : Profile) : Type 0 where
    pub students : KeepsTiers M.paired M.student_tier O.student_rank
    pub workshops : KeepsTiers (flip M.paired) M.workshop_tier O.workshop_rank

  -- it keeps the order of the marks given in the interviews Vs, a workshop's equal ones by lot
  pub record RespectsScores (B : Results) (Vs : ℕ → ℕ → Bool) (O : Profile) : Type 0 where
    pub students : KeepsScores M.paired Vs M.student_tier (scored_lower B.student_score) O.student_rank
    pub workshops : KeepsScores (flip M.paired) (flip Vs) M.workshop_tier (outscored M B) O.workshop_rank

  -- a full order that fits the groups and the results of the interviews Vs; "the groups and the book" where Vs are all that the book has. It may
  -- "put any unvisited pair down as never, and a visited one exactly when" the interview ended so.
  pub record Fits (B : Results) (Vs : ℕ → ℕ → Bool) (O : Profile) : Type 0 where
    pub strict : StrictProfile O
    pub tiers : RespectsTiers O
    pub scores : RespectsScores B Vs O
    pub never : SameNever M.paired Vs B.never O.never

  -- The results of the set of interviews Vs under O (revealed comparisons) are "how that order ranks, for each person, those met in these
  -- visits against one another and against none", and they "tell" never "for the set's pairs". O' is a full order that "fits the case and such results".
  pub record FitsRevealed (Vs : ℕ → ℕ → Bool) (O O' : Profile) : Type 0 where
    pub strict : StrictProfile O'
    pub tiers : RespectsTiers O'
    pub never : SameNever M.paired Vs O.never O'.never
    pub students : SameComparisons M.paired Vs O.student_rank O'.student_rank
    pub workshops : SameComparisons (flip M.paired) (flip Vs) O.workshop_rank O'.workshop_rank

  -- how many students are at the workshop
  abbrev pub seated : (ℕ → ℕ) → ℕ → ℕ
  seated μ w = count (λ s. eqb (μ s) w) M.students

  module _ (O : Profile) where
    -- "acceptable to both": there is a pair record, each is above the other's none, and the pair is not never, which "is acceptable to neither"
    pub record Acceptable (s w : ℕ) : Type 0 where
      pub pair : M.paired s w ≡ true
      pub possible : O.never s w ≡ false
      pub student : O.student_rank s w < O.student_rank s 0
      pub workshop : O.workshop_rank w s < O.workshop_rank w 0

    -- A matching (document 01: placement) "gives each student one workshop or none" (0), "no workshop more than its quota, and every placed
    -- pair is acceptable to both". (Pair records name only students of the market, so nobody else has a place.)
    pub record Matching (μ : ℕ → ℕ) : Type 0 where
      pub acceptable : (s : ℕ) → 0 < μ s → Acceptable s (μ s)
      pub within : (w : ℕ) → 0 < w → seated μ w ≤ M.quota w

    -- a pair, "acceptable to both", whose "student prefers that workshop to what she has while it has a free seat or holds somebody it ranks
    -- lower"
    pub record Blocks (μ : ℕ → ℕ) (s w : ℕ) : Type 0 where
      pub acceptable : Acceptable s w
      pub prefers : O.student_rank s w < O.student_rank s (μ s)
      pub room : (seated μ w < M.quota w) ⊎ ((h : ℕ) × (μ h ≡ w) × (O.workshop_rank w s < O.workshop_rank w h))

    pub record Stable (μ : ℕ → ℕ) : Type 0 where
      pub matching : Matching μ
      pub unblocked : (s w : ℕ) → Blocks μ s w → ⊥

    -- "student-best": "stable under it", and "no student does better in any other placement stable under it"
    pub record StudentOptimal (μ : ℕ → ℕ) : Type 0 where
      pub stable : Stable μ
      pub best : (ν : ℕ → ℕ) → Stable ν → (s : ℕ) → O.student_rank s (μ s) ≤ O.student_rank s (ν s)

  -- Determined (document 01: sure). Whoever holds the case and the results of the interviews Vs under O is sure of the matching μ: it is
  -- student-optimal under every full order that fits them.
  pub record Determined (Vs : ℕ → ℕ → Bool) (O : Profile) (μ : ℕ → ℕ) : Type 0 where
    pub optimal : (O' : Profile) → FitsRevealed Vs O O' → StudentOptimal O' μ
