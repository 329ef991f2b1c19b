-- What the answers of the staged rule promise, for a market and the results of interviews: the statements of demands 2 and 3.
use Rattle.std.specs.Prelude.{ℕ, ◌≤◌, ◌<◌, Bool, true, false, ◌&&◌, ◌≡◌, List, [], ◌∷◌, ◌++◌, length}
use Rattle.base.specs.Lists.{count, total, entry_for}
use Rattle.lgs.specs.Market.{Market, Results, ConsistentStages}
use Rattle.lgs.specs.Profiles.{Profile, StrictProfile, RespectsTiers, Fits, StudentOptimal, Determined}
use Rattle.lgs.specs.Rule.{Interview, interviewed, Step, going, stopped, finished, lazy_gale_shapley}
use Rattle.lgs.specs.Fares.{fares_of, fares_in}

-- the matching that a list of places stands for: student s has entry s - 1, and nobody else has a place
abbrev pub matching_of : List ℕ → ℕ → ℕ
matching_of = entry_for

-- no interview is listed twice
abbrev pub NoRepeats : List Interview → Type 0
NoRepeats [] = Unit {0}
NoRepeats (v ∷ vs) = (interviewed vs v.0 v.1 ≡ false) × NoRepeats vs

-- how many pairs with a pair record the set has
unfoldable pub pairs_in : Market → (ℕ → ℕ → Bool) → ℕ
pairs_in M Vs = total (λ s. count (λ w. M.paired s w && Vs s w) M.workshops) M.students

-- the second list begins with the first
abbrev pub Begins : List Interview → List Interview → Type 0
Begins us vs = (rest : List Interview) × (vs ≡ us ++ rest)

-- the interviews that a run has held
abbrev pub interviews_in : Step → List Interview
interviews_in (going σ) = σ.interviews
interviews_in (stopped s w vs) = vs
interviews_in (finished p vs) = vs

module _ (M : Market) (B : Results) where
  -- the listed interviews have a pair record and a book record, and none is listed twice
  pub record Listed (vs : List Interview) : Type 0 where
    pub pair : (s w : ℕ) → interviewed vs s w ≡ true → M.paired s w ≡ true
    pub answered : (s w : ℕ) → interviewed vs s w ≡ true → B.met s w ≡ true
    pub once : NoRepeats vs

  -- Demand 2: the placement is "stable, and no student does better in any other stable placement, under every strict order that fits the
  -- groups and the book". More than that: under every order that fits the groups and the marks of the listed interviews alone.
  pub record OptimalWhateverUnseen (places : List ℕ) (vs : List Interview) : Type 0 where
    pub optimal : (O : Profile) → Fits M B (interviewed vs) O → StudentOptimal M O (matching_of places)

  -- "Such a set" of interviews, with results under O: it "makes its holder sure" of the matching μ, and it "holds every placed pair" of the places.
  pub record SureSet (places : List ℕ) (O : Profile) (Vs : ℕ → ℕ → Bool) (μ : ℕ → ℕ) : Type 0 where
    pub sure : Determined M Vs O μ
    pub holds : (s : ℕ) → 0 < matching_of places s → Vs s (matching_of places s) ≡ true

  -- The list is the smallest, with results from any full order that fits the groups and the book: every such set "holds every visit on our list", and so
  -- "has at least as many visits as the count we return".
  abbrev pub Smallest : List ℕ → List Interview → Type 0
  Smallest places vs =
      (O : Profile)
      → Fits M B B.met O
      → (Vs : ℕ → ℕ → Bool) (μ : ℕ → ℕ)
      → SureSet places O Vs μ
      → ((s w : ℕ) → interviewed vs s w ≡ true → Vs s w ≡ true) × (length vs ≤ pairs_in M Vs)

  -- "Nobody who is sure, and has visited all placed pairs, pays less" (document 02, Paper 4): every such set, with results from any full order that fits the
  -- groups and the book, costs at least these fares. Our list is such a set, and costs just these (`itself`, `paid`).
  abbrev pub Cheapest : List ℕ → ℕ → Type 0
  Cheapest places fares =
      (O : Profile)
      → Fits M B B.met O
      → (Vs : ℕ → ℕ → Bool) (μ : ℕ → ℕ)
      → SureSet places O Vs μ
      → fares ≤ fares_in M Vs

  -- Demand 3. "Let the results come from any full order that fits the groups and the book." `fares` is the total that comes with the list.
  pub record MinimalInterviews (places : List ℕ) (vs : List Interview) (fares : ℕ) : Type 0 where
    -- "Our list is itself such a set", and its holder is sure of this placement; it "names no pair twice", so it has as many pairs as it is long.
    -- This needs no agreeing stages.
    pub listed : Listed vs
    pub itself : (O : Profile) → Fits M B B.met O → SureSet places O (interviewed vs) (matching_of places)
    pub counted : pairs_in M (interviewed vs) ≡ length vs
    -- what the list costs as such a set is the total
    pub paid : fares_in M (interviewed vs) ≡ fares
    pub minimal : ConsistentStages M M.stage → Smallest places vs
    pub cheapest : ConsistentStages M M.stage → Cheapest places fares

  -- an answer with a placement (from bytes: `Demand2Placed` and `Demand3` of the crate format)
  pub record Placed (places : List ℕ) (vs : List Interview) : Type 0 where
    pub whole : length places ≡ M.students
    pub optimal : OptimalWhateverUnseen places vs
    pub minimal : MinimalInterviews places vs (fares_of M vs)

-- Whoever has not met a placed pair must reckon with never there. So whoever is sure of a matching has met its placed pairs: that such a set "holds
-- every placed pair" follows, and is asked because demand 3 has these words.
abbrev pub SureMeetsPlaced : Market → Type 0
SureMeetsPlaced M =
    (O : Profile)
    → StrictProfile M O
    → RespectsTiers M O
    → (Vs : ℕ → ℕ → Bool) (μ : ℕ → ℕ)
    → Determined M Vs O μ
    → (s : ℕ)
    → 0 < μ s
    → Vs s (μ s) ≡ true

-- B' has every record of B
pub record Extends (B B' : Results) : Type 0 where
  pub met : (s w : ℕ) → B.met s w ≡ true → B'.met s w ≡ true
  pub never : (s w : ℕ) → B.met s w ≡ true → B'.never s w ≡ B.never s w
  pub student : (s w : ℕ) → B.met s w ≡ true → B'.student_score s w ≡ B.student_score s w
  pub workshop : (s w : ℕ) → B.met s w ≡ true → B'.workshop_score w s ≡ B.workshop_score w s
  pub student_outside : (s : ℕ) → B'.student_score s 0 ≡ B.student_score s 0
  pub workshop_outside : (w : ℕ) → B'.workshop_score w 0 ≡ B.workshop_score w 0

-- an answer with a next interview (from bytes: `Demand2Next` of the crate format)
pub record NextInterview (M : Market) (B : Results) (s w : ℕ) (vs : List Interview) : Type 0 where
  pub pair : M.paired s w ≡ true
  pub unanswered : B.met s w ≡ false
  pub listed : Listed M B vs
  pub unlisted : interviewed vs s w ≡ false
  -- it is the first unanswered interview of the rule: with any fuller results that answer it, the rule holds the listed interviews, then it
  pub first : (B' : Results)
      → Extends B B'
      → B'.met s w ≡ true
      → Begins (vs ++ ((s, w) ∷ [])) (interviews_in (lazy_gale_shapley M B'))

-- Settled for good. Where the stages agree and the rule stops at an interview of student s, each student of an earlier stage has the same place in any
-- two finished runs with fuller results: nothing that the interviews to come may tell moves her. (From bytes: `SettledForGood` of the crate format.)
abbrev pub EarlierSettled : Market → Type 0
EarlierSettled M =
    ConsistentStages M M.stage
    → (B : Results) (s w : ℕ) (vs : List Interview)
    → lazy_gale_shapley M B ≡ stopped s w vs
    → (B' B'' : Results)
    → Extends B B'
    → Extends B B''
    → (p' p'' : ℕ → ℕ) (vs' vs'' : List Interview)
    → lazy_gale_shapley M B' ≡ finished p' vs'
    → lazy_gale_shapley M B'' ≡ finished p'' vs''
    → (t : ℕ)
    → M.stage t < M.stage s
    → p' t ≡ p'' t
