-- The market that a case describes, and the results of the interviews that a book holds.
use Rattle.std.specs.Prelude.{ℕ, ◌-◌, ◌<◌, Bool, true, not, ◌&&◌, ◌||◌, ◌≡◌, ltb, eqb}
use Rattle.base.specs.Lists.{total}

-- The case, decoded: students 1 to `students`, workshops 1 to `workshops`. A tier is document 01's group, and a lower one is better.
-- Where an option is named, 0 is the outside option (document 01: none); its tier is the person's outside tier (the line group).
pub record Market : Type 0 where
  pub students : ℕ
  pub workshops : ℕ
  pub stage : ℕ → ℕ  -- of a student
  pub lot : ℕ → ℕ  -- of a student (document 02, Paper 3)
  pub quota : ℕ → ℕ  -- of a workshop
  pub paired : ℕ → ℕ → Bool  -- student, workshop: there is a pair record
  pub fare : ℕ → ℕ → ℕ  -- student, workshop: what the visit costs, in pence (document 02, Paper 4)
  pub student_tier : ℕ → ℕ → ℕ  -- student, then a workshop or 0
  pub workshop_tier : ℕ → ℕ → ℕ  -- workshop, then a student or 0

-- "line group": the tier in which none stands
abbrev pub student_outside : Market → ℕ → ℕ
student_outside M s = M.student_tier s 0

abbrev pub workshop_outside : Market → ℕ → ℕ
workshop_outside M w = M.workshop_tier w 0

-- ---- Seats. "A seat slice .. in which each workshop's seats are its own part."

-- how many seats the workshop's part has
unfoldable pub seats_of : Market → ℕ → ℕ
seats_of M w = M.quota w

-- where its part starts: the seats of the workshops before it
unfoldable pub seats_before : Market → ℕ → ℕ
seats_before M w = total (seats_of M) (w - 1)

-- "one 16-bit entry per seat of all quotas"
unfoldable pub all_seats : Market → ℕ
all_seats M = total (seats_of M) M.workshops

-- ---- Results.

-- The book, decoded: which interviews (document 01: visits) have a record, which of them ended in never, and the scores (marks) that they gave. A
-- score is stored 32768 above its value, so that the order is that of natural numbers; the outside option has the score of 0.
pub record Results : Type 0 where
  pub met : ℕ → ℕ → Bool  -- student, workshop: the book has a record of the interview
  -- student, workshop: the interview that they had showed "that the two cannot be placed together" (document 02, Paper 1)
  pub never : ℕ → ℕ → Bool
  pub student_score : ℕ → ℕ → ℕ  -- student, then a workshop or 0: what she gave
  pub workshop_score : ℕ → ℕ → ℕ  -- workshop, then a student or 0: what it gave

-- "inside one group a higher mark is better": the person gave x a lower score than y
abbrev pub scored_lower : (ℕ → ℕ → ℕ) → ℕ → ℕ → ℕ → Bool
scored_lower score p x y = ltb (score p x) (score p y)

-- How a workshop compares those of one tier whom it has interviewed, and the outside option: x comes below y where she has the lower score, or an equal
-- one and the higher lot: "a workshop's equal marks in one group are parted by the lower lot" (document 02, Paper 3). The outside option has no lot, and is
-- not asked for one: no mark is 0 (cause 9).
unfoldable pub outscored : Market → Results → ℕ → ℕ → ℕ → Bool
outscored M B w x y =
    scored_lower B.workshop_score w x y
    || (eqb (B.workshop_score w x) (B.workshop_score w y) && ltb (M.lot y) (M.lot x))

-- ---- Stages.

module _ (M : Market) where
  -- the student matters to the workshop: it has seats, they have a pair, and she is not beyond its outside tier
  unfoldable pub matters : ℕ → ℕ → Bool
  matters w s = ltb 0 (M.quota w) && (M.paired s w && not (ltb (workshop_outside M w) (M.workshop_tier w s)))

  -- two students of whom the stages must tell: both matter to the workshop
  pub record Rivals (w s t : ℕ) : Type 0 where
    pub first : matters w s ≡ true
    pub second : matters w t ≡ true

  -- "The stages agree" (a student's stage is `stage s`): of two such students the one in the better tier has the earlier stage, and equal tiers have
  -- equal stages.
  pub record ConsistentStages (stage : ℕ → ℕ) : Type 0 where
    pub earlier : (w s t : ℕ) → Rivals w s t → M.workshop_tier w s < M.workshop_tier w t → stage s < stage t
    pub together : (w s t : ℕ) → Rivals w s t → M.workshop_tier w s ≡ M.workshop_tier w t → stage s ≡ stage t
