-- The staged rule (document 01, "The staged rule"): lazy Gale-Shapley, as a machine that takes one small step at a time.
use Rattle.std.specs.Prelude.{ℕ, zero, suc, ◌+◌, Bool, true, false, not, cond, ◌&&◌, ◌||◌, List, [], ◌∷◌, ◌++◌, ltb, eqb}
use Rattle.base.specs.Lists.{count, total, upto, keep, any, pick, update, cons_if}
use Rattle.lgs.specs.Market.{Market, Results, student_outside, workshop_outside, scored_lower, outscored}

-- an interview (document 01: visit): student, workshop
abbrev pub Interview : Type 0
Interview = ℕ × ℕ

-- the list has the interview of the student with the workshop
unfoldable pub interviewed : List Interview → ℕ → ℕ → Bool
interviewed vs s w = any (λ (v : Interview). eqb v.0 s && eqb v.1 w) vs

pub record State : Type 0 where
  pub waiting : List ℕ  -- students to come, the student in hand first
  pub reached : ℕ → ℕ  -- the tier that a student has reached, 0 before the first
  pub held : ℕ → ℕ  -- the workshop that holds the student, or 0
  pub deleted : ℕ → ℕ → Bool  -- student, workshop: the pair is deleted
  pub interviews : List Interview  -- in the order held

-- what a step leads to
pub data Step : Type 0 where
  going : State → Step  -- more steps are to come
  stopped : ℕ → ℕ → List Interview → Step  -- the next interview: student, workshop; the interviews done
  finished : (ℕ → ℕ) → List Interview → Step  -- the matching, 0 for no place; the interviews done

-- "Stages run in rising number, students inside one in rising number": s comes before the first student of a later stage
unfoldable pub insert : (ℕ → ℕ) → ℕ → List ℕ → List ℕ
insert stage s [] = s ∷ []
insert stage s (t ∷ ts) = cond (ltb (stage s) (stage t)) (s ∷ t ∷ ts) (t ∷ insert stage s ts)

-- students 1 to n in that order
unfoldable pub by_stage : (ℕ → ℕ) → ℕ → List ℕ
by_stage stage zero = []
by_stage stage (suc n) = insert stage (suc n) (by_stage stage n)

module _ (M : Market) (B : Results) where
  -- "delete every pair whose workshop has quota 0 or puts the student in a group above its line group number"
  unfoldable pub start : State
  start =
      record {
        waiting = by_stage M.stage M.students;
        reached = λ s. 0;
        held = λ s. 0;
        deleted = λ s w. eqb (M.quota w) 0 || ltb (workshop_outside M w) (M.workshop_tier w s);
        interviews = [];
      }

  -- "she is in that workshop's line group with a negative mark"
  unfoldable pub declined : ℕ → ℕ → Bool
  declined s w = eqb (M.workshop_tier w s) (workshop_outside M w) && scored_lower B.workshop_score w s 0

  -- the interview opens nothing: she was declined ("each is then open, unless"), or it ended in never ("such a visit opens nothing": document 02, Paper 1)
  unfoldable pub unopened : ℕ → ℕ → Bool
  unopened s w = B.never s w || declined s w

  -- the best of these choices: all are in the tier reached, so their scores tell
  unfoldable pub best : ℕ → ℕ → List ℕ → ℕ
  best s x xs = pick (λ y z. scored_lower B.student_score s z y) x xs

  module _ (σ : State) where
    -- the workshop is open to the student: interviewed, in the tier that she has reached, and neither deleted nor left unopened by the interview
    unfoldable pub open? : ℕ → ℕ → Bool
    open? s w =
        interviewed σ.interviews s w
        && (eqb (M.student_tier s w) (σ.reached s) && (not (σ.deleted s w) && not (unopened s w)))

    -- what is open to the student; "in her line group, none is open too": 0, which stands first
    unfoldable pub choices : ℕ → List ℕ
    choices s = cons_if (eqb (student_outside M s) (σ.reached s)) 0 (keep (open? s) (upto M.workshops))

    -- the undeleted workshops of the student's next tier, in rising number
    unfoldable pub due : ℕ → List ℕ
    due s =
        keep (λ w. M.paired s w && (eqb (M.student_tier s w) (suc (σ.reached s)) && not (σ.deleted s w)))
        (upto M.workshops)

    -- the students that the workshop holds
    unfoldable pub holders : ℕ → List ℕ
    holders w = keep (λ s. eqb (σ.held s) w) (upto M.students)

    -- the workshop ranks x strictly below y, "by group, or by mark in the same group where both have visited", equal marks by lot
    unfoldable pub below : ℕ → ℕ → ℕ → Bool
    below w x y =
        ltb (M.workshop_tier w y) (M.workshop_tier w x)
        || (eqb (M.workshop_tier w x) (M.workshop_tier w y)
        && (interviewed σ.interviews x w
        && (interviewed σ.interviews y w && outscored M B w x y)))

    -- the lowest of these students; a workshop that has just been applied to holds somebody, so the list is not empty where this is used
    unfoldable pub lowest_of : ℕ → List ℕ → ℕ
    lowest_of w [] = 0
    lowest_of w (x ∷ xs) = pick (below w) x xs

  -- Step 1: go to the next tier. Counting up by one gives the same as "her next group that has pairs or her line": a number with neither
  -- has no interview and opens nothing, so the next step counts on.
  abbrev pub advance : State → ℕ → State
  advance σ s =
      record {
        waiting = σ.waiting;
        reached = update σ.reached s (suc (σ.reached s));
        held = σ.held;
        deleted = σ.deleted;
        interviews = σ.interviews;
      }

  -- the interview is done
  abbrev pub add_interview : State → ℕ → ℕ → State
  add_interview σ s w =
      record {
        waiting = σ.waiting;
        reached = σ.reached;
        held = σ.held;
        deleted = σ.deleted;
        interviews = σ.interviews ++ ((s, w) ∷ []);
      }

  -- Step 1: visit each workshop of the list. "A visit of a pair with no book record stops the run, and that pair is the next visit."
  unfoldable pub interview_all : ℕ → List ℕ → State → Step
  interview_all s [] σ = going σ
  interview_all s (w ∷ ws) σ =
      cond (B.met s w) (interview_all s ws (add_interview σ s w)) (stopped s w σ.interviews)

  -- Step 4: "if it holds exactly its quota, it is deleted for each student strictly below its lowest holder"
  unfoldable pub close : State → ℕ → State
  close σ c =
      record {
        waiting = σ.waiting;
        reached = σ.reached;
        held = σ.held;
        deleted = cond (eqb (count (λ s. eqb (σ.held s) c) M.students) (M.quota c))
            (λ s w. σ.deleted s w || (eqb w c && below σ c s (lowest_of σ c (holders σ c))))
            σ.deleted;
        interviews = σ.interviews;
      }

  -- Step 5: the students `next` are to come, the first of them in hand, and h says who is held where
  abbrev pub hand_on : State → List ℕ → (ℕ → ℕ) → State
  hand_on σ next h =
      record { waiting = next; reached = σ.reached; held = h; deleted = σ.deleted; interviews = σ.interviews }

  -- Step 3: "if the workshop now holds more than its quota, it drops its lowest"; step 5: she "is in hand next"
  unfoldable pub settle : State → ℕ → List ℕ → Bool → State
  settle σ c rest true =
      let x = lowest_of σ c (holders σ c) in
      hand_on σ (x ∷ rest) (update σ.held x 0)
  settle σ c rest false = σ

  -- Step 2: "if none is the best of what is open, she is done without a place. Otherwise she applies to the best"
  unfoldable pub apply : State → ℕ → List ℕ → ℕ → Step
  apply σ s rest zero = going (hand_on σ rest σ.held)
  apply σ s rest (suc c) =
      let σ' = hand_on σ rest (update σ.held s (suc c)) in
      let over = ltb (M.quota (suc c)) (count (λ t. eqb (σ'.held t) (suc c)) M.students) in
      going (close (settle σ' (suc c) rest over) (suc c))

  -- the student in hand: "while she has nothing open" step 1, and else steps 2 to 5
  unfoldable pub turn : State → ℕ → List ℕ → List ℕ → Step
  turn σ s rest [] = interview_all s (due σ s) (advance σ s)
  turn σ s rest (x ∷ xs) = apply σ s rest (best s x xs)

  unfoldable pub step : State → List ℕ → Step
  step σ [] = finished σ.held σ.interviews
  step σ (s ∷ rest) = turn σ s rest (choices σ s)

  -- at most so many steps
  unfoldable pub run : ℕ → Step → Step
  run zero x = x
  run (suc k) (going σ) = run k (step σ σ.waiting)
  run (suc k) (stopped s w vs) = stopped s w vs
  run (suc k) (finished p vs) = finished p vs

  -- Enough steps: each raises a student's tier, or is an application or her end, and an application that is not her last is followed by the
  -- deletion of that workshop for her. (That the steps never run out is a theorem: `RunEnds` of the crate format.)
  unfoldable pub fuel : ℕ
  fuel = suc (total (λ s. 2 + student_outside M s + M.workshops) M.students)

  -- the staged rule, from before stage 1 to its end
  unfoldable pub lazy_gale_shapley : Step
  lazy_gale_shapley = run fuel (going start)
