-- The engine's run on sets and lists: no stored deletion; each turn reads and writes one student's state and one workshop's seats.
use Rattle.std.specs.Prelude.{ℕ, zero, suc, ◌-◌, Bool, false, not, cond, ◌&&◌, ◌||◌, List, [], ◌∷◌, ◌++◌, ltb, eqb, get_or}
use Rattle.base.specs.Lists.{upto, keep, update, cons_if}
use Rattle.lgs.specs.Market.{Market, Results, seats_of, outscored, student_outside, workshop_outside}
use Rattle.lgs.specs.Rule.{Interview, Step, going, stopped, finished, start, by_stage, unopened, best, fuel}

abbrev pub set_bit : ℕ → (ℕ → Bool) → ℕ → Bool
set_bit w b x = eqb x w || b x

abbrev pub clear_bit : ℕ → (ℕ → Bool) → ℕ → Bool
clear_bit w b x = not (eqb x w) && b x

-- a student's state: the tier reached, the workshop held, and the open workshops
pub record Card : Type 0 where
  pub reached : ℕ
  pub held : ℕ
  pub bits : ℕ → Bool

pub record Machine : Type 0 where
  pub cards : ℕ → Card  -- of a student
  pub seats : ℕ → List ℕ  -- of a workshop: its holders, best first
  pub interviews : List Interview
  pub waiting : List ℕ  -- students to come, the student in hand first
  pub lost : ℕ  -- the workshop that has just dropped the student in hand, or 0

-- what a turn leads to
pub data Turn : Type 0 where
  on : Machine → Turn
  lacks : ℕ → ℕ → List Interview → Turn
  done : (ℕ → ℕ) → List Interview → Turn

-- what the interviews of a tier lead to: the interviews held and the bits, or the workshop of the missing interview
pub data Round : Type 0 where
  held : List Interview → (ℕ → Bool) → Round
  missing : ℕ → List Interview → Round

-- the state of a student whom the workshop has dropped
abbrev pub told : ℕ → Card → Card
told zero k = k
told (suc w) k = record { reached = k.reached; held = 0; bits = clear_bit (suc w) k.bits }

abbrev pub holding : Card → ℕ → Card
holding k c = record { reached = k.reached; held = c; bits = k.bits }

module _ (M : Market) (B : Results) where
  unfoldable pub begin : Machine
  begin =
      record {
        cards = λ s. record { reached = 0; held = 0; bits = λ w. false };
        seats = λ w. [];
        interviews = [];
        waiting = by_stage M.stage M.students;
        lost = 0;
      }

  -- the workshop ranks x before y
  unfoldable pub before : ℕ → ℕ → ℕ → Bool
  before w x y =
      ltb (M.workshop_tier w x) (M.workshop_tier w y)
      || (eqb (M.workshop_tier w x) (M.workshop_tier w y) && outscored M B w y x)

  -- x takes her place among at most q seats; whoever has no seat left, or 0
  unfoldable pub push : ℕ → ℕ → ℕ → List ℕ → List ℕ × ℕ
  push w zero x ys = ([], x)
  push w (suc q) x [] = (x ∷ [], 0)
  push w (suc q) x (y ∷ ys) =
      let a = push w q y ys in
      let b = push w q x ys in
      cond (before w x y) (x ∷ a.0, a.1) (y ∷ b.0, b.1)

  -- the last seat is taken, by somebody in a better tier than s
  unfoldable pub full_above : ℕ → ℕ → ℕ → Bool
  full_above w s l = ltb 0 l && ltb (M.workshop_tier w l) (M.workshop_tier w s)

  -- the workshop is not to be interviewed: it has no seats, she is beyond its outside tier, or it is full above her; l is who has its last seat, or 0
  unfoldable pub shut_by : ℕ → ℕ → ℕ → Bool
  shut_by l s w = eqb (seats_of M w) 0 || (ltb (workshop_outside M w) (M.workshop_tier w s) || full_above w s l)

  abbrev pub last_seat : (ℕ → List ℕ) → ℕ → ℕ
  last_seat seats w = get_or (seats w) (seats_of M w - 1) 0

  unfoldable pub due_now : (ℕ → List ℕ) → Card → ℕ → List ℕ
  due_now seats k s =
      keep (λ w. M.paired s w && (eqb (M.student_tier s w) (suc k.reached) && not (shut_by (last_seat seats w) s w)))
      (upto M.workshops)

  -- what the student may choose from, the outside option (0) first if she has reached its tier
  unfoldable pub options : Card → ℕ → List ℕ
  options k s = cons_if (eqb (student_outside M s) k.reached) 0 (keep k.bits (upto M.workshops))

  unfoldable pub round : ℕ → List ℕ → List Interview → (ℕ → Bool) → Round
  round s [] vs b = held vs b
  round s (w ∷ ws) vs b =
      cond (B.met s w) (round s ws (vs ++ ((s, w) ∷ [])) (cond (unopened M B s w) b (set_bit w b))) (missing w vs)

  -- the student in hand goes to her next tier
  unfoldable pub opens : Machine → ℕ → List ℕ → Card → Round → Turn
  opens m s rest k (held vs b) =
      on
      (record {
        cards = update m.cards s (record { reached = suc k.reached; held = k.held; bits = b });
        seats = m.seats;
        interviews = vs;
        waiting = s ∷ rest;
        lost = 0;
      })
  opens m s rest k (missing w vs) = lacks s w vs

  -- the workshop answers her application
  unfoldable pub answers : Machine → ℕ → List ℕ → Card → ℕ → List ℕ → ℕ → Turn
  answers m s rest k c l zero =
      on
      (record {
        cards = update m.cards s (holding k c);
        seats = update m.seats c l;
        interviews = m.interviews;
        waiting = rest;
        lost = 0;
      })
  answers m s rest k c l (suc x) =
      on
      (record {
        cards = update m.cards s (holding k c);
        seats = update m.seats c l;
        interviews = m.interviews;
        waiting = suc x ∷ rest;
        lost = c;
      })

  unfoldable pub applies : Machine → ℕ → List ℕ → Card → ℕ → Turn
  applies m s rest k zero =
      on
      (record { cards = update m.cards s k; seats = m.seats; interviews = m.interviews; waiting = rest; lost = 0 })
  applies m s rest k (suc c) =
      let r = push (suc c) (seats_of M (suc c)) s (m.seats (suc c)) in
      answers m s rest k (suc c) r.0 r.1

  unfoldable pub acts : Machine → ℕ → List ℕ → Card → List ℕ → Turn
  acts m s rest k [] = opens m s rest k (round s (due_now m.seats k s) m.interviews k.bits)
  acts m s rest k (x ∷ xs) = applies m s rest k (best M B s x xs)

  unfoldable pub take_turn : Machine → List ℕ → Turn
  take_turn m [] = done (λ s. (m.cards s).held) m.interviews
  take_turn m (s ∷ rest) = acts m s rest (told m.lost (m.cards s)) (options (told m.lost (m.cards s)) s)

  unfoldable pub turns : ℕ → Turn → Turn
  turns zero x = x
  turns (suc k) (on m) = turns k (take_turn m m.waiting)
  turns (suc k) (lacks s w vs) = lacks s w vs
  turns (suc k) (done p vs) = done p vs

  unfoldable pub machine : Turn
  machine = turns (fuel M B) (on begin)

  -- the rule's word for where the machine stands
  unfoldable pub step_of : Turn → Step
  step_of (on m) = going (start M B)
  step_of (lacks s w vs) = stopped s w vs
  step_of (done p vs) = finished p vs
