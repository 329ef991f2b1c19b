-- One workshop: what it asks of the students who matter to it, and what raising them to that leaves.
use Rattle.std.specs.Prelude.{ℕ, suc, ◌-◌, ◌≤◌, ◌<◌, max, ◌≡◌, ◌⊎◌, Bool, true, not, cond, ◌||◌, List, eqb, length, get_or}
use Rattle.base.specs.Below.{any_below}
use Rattle.base.specs.Bits.{member}
use Rattle.lgs.specs.Market.{Market, matters, Rivals, ConsistentStages, workshop_outside}
use Rattle.lgs.specs.Stages.{stage_of, FromOne}
use Rattle.format.specs.Engine.{market_in}
use Rattle.lookup.specs.Clean.{WorkshopAt, PairAt}

-- What the code needs of a case with n students and m workshops: true where the case's causes find nothing.
pub record Ready (case : List ℕ) (n m : ℕ) : Type 0 where
  pub students : (market_in case).students ≡ n
  pub workshops : (market_in case).workshops ≡ m
  pub some_students : 1 ≤ n
  pub many_students : n ≤ 512
  pub many_workshops : m ≤ 64
  pub workshop : (w : ℕ) → 1 ≤ w → w ≤ m → WorkshopAt case n w
  pub pair : (s w : ℕ) → (market_in case).paired s w ≡ true → PairAt case s w
  pub named : (s w : ℕ) → (market_in case).paired s w ≡ true → ((1 ≤ s) × (s ≤ n)) × ((1 ≤ w) × (w ≤ m))
  pub student_tier : (s w : ℕ) → (market_in case).paired s w ≡ true → 1 ≤ (market_in case).student_tier s w
  pub tier : (s w : ℕ) → (market_in case).paired s w ≡ true → (1 ≤ (market_in case).workshop_tier w s) × ((market_in case).workshop_tier w s ≤ 513)

module _ (M : Market) where
  -- how far the workshop's tiers reach: to its outside tier, and nowhere where it has no seats
  abbrev pub reach_of : ℕ → ℕ
  reach_of w = cond (eqb (M.quota w) 0) 0 (workshop_outside M w)

  -- the tier in which the student matters to the workshop, or 0
  abbrev pub tier_for : ℕ → ℕ → ℕ
  tier_for w s = cond (matters M w s) (M.workshop_tier w s) 0

  -- no assignment that agrees has an earlier stage for anybody
  pub record Below (own : List ℕ) : Type 0 where
    pub least : (stage : ℕ → ℕ) → FromOne M stage → ConsistentStages M stage → (s : ℕ) → 1 ≤ s → s ≤ M.students → stage_of own s ≤ stage s

  -- stages that agree can do with the numbers 1 to k
  pub record Enough (k : ℕ) : Type 0 where
    pub within : (stage : ℕ → ℕ) → ConsistentStages M stage
        → (stage' : ℕ → ℕ) × ConsistentStages M stage' × FromOne M stage' × ((s : ℕ) → 1 ≤ s → s ≤ M.students → stage' s ≤ k)

  -- the stages agree at workshop w
  pub record AgreesAt (own : List ℕ) (w : ℕ) : Type 0 where
    pub earlier : (s t : ℕ) → Rivals M w s t → M.workshop_tier w s < M.workshop_tier w t → stage_of own s < stage_of own t
    pub together : (s t : ℕ) → Rivals M w s t → M.workshop_tier w s ≡ M.workshop_tier w t → stage_of own s ≡ stage_of own t

-- the tiers (T) of students 1 to n, and the largest stage (x) in each tier
pub record Noted (T x : ℕ → ℕ) (n : ℕ) (tiers tops : List ℕ) : Type 0 where
  pub sized : length tiers ≡ 512
  pub sized_tops : length tops ≡ 514
  pub tier : (k : ℕ) → k < n → get_or tiers k 0 ≡ T (suc k)
  pub high : (k : ℕ) → k < n → x (suc k) ≤ get_or tops (T (suc k)) 0
  pub some : (g : ℕ) → 0 < get_or tops g 0 → (k : ℕ) × (k < n) × (T (suc k) ≡ g) × (x (suc k) ≡ get_or tops g 0)

-- the student stands for her tier (T): she is in none, or no earlier student is in it
abbrev pub stands_for : (ℕ → ℕ) → ℕ → Bool
stands_for T s = eqb (T s) 0 || not (any_below (λ k. eqb (T (suc k)) (T s)) (s - 1))

-- the list has an entry for each tier, none above 512
pub record Capped (tops : List ℕ) : Type 0 where
  pub sized : length tops ≡ 514
  pub small : (g : ℕ) → get_or tops g 0 ≤ 512

-- the numbers are no smaller than those of the tiers that have students, and rise over them
pub record Rises (tops : List ℕ) (f : ℕ → ℕ) : Type 0 where
  pub over : (g : ℕ) → 1 ≤ g → 0 < get_or tops g 0 → get_or tops g 0 ≤ f g
  pub rises : (g h : ℕ) → 1 ≤ g → g < h → 0 < get_or tops g 0 → 0 < get_or tops h 0 → f g < f h

-- `needs` are the least numbers that are so, and `top` is the largest of them
pub record Climbed (tops needs : List ℕ) (top : ℕ) : Type 0 where
  pub sized : length needs ≡ 514
  pub zero : get_or needs 0 0 ≡ 0
  pub all : Rises tops (λ g. get_or needs g 0)
  pub least : (f : ℕ → ℕ) → Rises tops f → (g : ℕ) → 1 ≤ g → 0 < get_or tops g 0 → get_or needs g 0 ≤ f g
  pub most : (g : ℕ) → get_or needs g 0 ≤ top
  pub some : 0 < top → (g : ℕ) × (1 ≤ g) × (0 < get_or tops g 0) × (get_or needs g 0 ≡ top)

-- students 1 to n are raised to what their tiers need, and `moved` has the workshops of those who were
pub record Lifted (M : Market) (tiers needs : List ℕ) (n : ℕ) (old new : List ℕ) (moved : ℕ) : Type 0 where
  pub sized : length new ≡ 512
  pub stage : (k : ℕ) → k < n → get_or new k 0 ≡ max (get_or old k 0) (get_or needs (get_or tiers k 0) 0)
  pub past : (k : ℕ) → n ≤ k → get_or new k 0 ≡ get_or old k 0
  pub noticed : (k v : ℕ) → get_or old k 0 < get_or new k 0 → M.paired (suc k) v ≡ true → member moved v ≡ true
  pub some : (moved ≡ 0) ⊎ ((k : ℕ) × (k < n) × (get_or old k 0 < get_or new k 0))

-- stages from 1 to 512, one for each of 512 students
pub record Fit (M : Market) (own : List ℕ) : Type 0 where
  pub sized : length own ≡ 512
  pub from_one : FromOne M (stage_of own)
  pub small : (s : ℕ) → stage_of own s ≤ 512

-- students 1 to n are raised to what workshop w asks; `moved` has the workshops of those raised, and `top` is the largest that it asks
pub record Raised (M : Market) (w n : ℕ) (old new : List ℕ) (moved top : ℕ) : Type 0 where
  pub sized : length new ≡ 512
  pub grows : (s : ℕ) → stage_of old s ≤ stage_of new s
  pub below : Below M old → Below M new
  pub agrees : AgreesAt M new w
  pub noticed : (s v : ℕ) → stage_of old s < stage_of new s → M.paired s v ≡ true → member moved v ≡ true
  pub some : (moved ≡ 0) ⊎ ((s : ℕ) × (1 ≤ s) × (s ≤ n) × (stage_of old s < stage_of new s))
  pub within : (k : ℕ) → top ≤ k → ((s : ℕ) → stage_of old s ≤ k) → (s : ℕ) → stage_of new s ≤ k
  pub tall : 0 < top → (s : ℕ) × (1 ≤ s) × (s ≤ n) × (stage_of new s ≡ top)
