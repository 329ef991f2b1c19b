-- The engine's turn on the buffers, as the code makes it: each function of the code equals one of these.
use Rattle.std.specs.Prelude.{ℕ, zero, suc, ◌+◌, ◌*◌, ◌-◌, ◌^◌, Bool, not, cond, ◌&&◌, List, [], ◌∷◌, ◌++◌, eqb, length, get_or, set, take, drop}
use Rattle.std.specs.Int.Bits.{bit_or, bit_and}
use Rattle.base.specs.Lists.{cons_if}
use Rattle.base.specs.Bits.{members}
use Rattle.lgs.specs.Market.{Market, Results, student_outside}
use Rattle.lgs.specs.Rule.{Interview, unopened, best}
use Rattle.lgs.specs.Fares.{fares_of}
use Rattle.format.specs.Buffers.{flat}
use Rattle.api.specs.declared.StudentState.{StudentState}
use Rattle.api.specs.Answered.{zero_state}
use Rattle.model.specs.declared.Run.{Run}
use Rattle.model.specs.declared.Turned.{Turned}
use Rattle.model.specs.Model.{shut_by}
use Rattle.model.specs.Store.{next_in, push_padded, part, put_part, last_of}

-- the set with workshop w, and without it
unfoldable pub with_member : ℕ → ℕ → ℕ
with_member n w = bit_or n (2 ^ (w - 1))

unfoldable pub without_member : ℕ → ℕ → ℕ
without_member n w = bit_and n (2 ^ 64 - 1 - 2 ^ (w - 1))

-- the state of a student whom the workshop has dropped (0: nobody has)
unfoldable pub told_state : ℕ → StudentState → StudentState
told_state lost k =
    cond (eqb lost 0) k (record { reached = k.reached; held = 0; openings = without_member k.openings lost })

-- a round of interviews so far: those held, the open set, and the workshop of a missing interview or 0
pub record RoundSoFar : Type 0 where
  pub interviews : List Interview
  pub openings : ℕ
  pub missing : ℕ

-- the list with new at place i
abbrev pub put_at : ℕ → List ℕ → List ℕ → List ℕ
put_at i new old = take i old ++ (new ++ drop (i + length new) old)

module _ (M : Market) (B : Results) where
  -- workshop w is of tier t for the student, and to be interviewed
  unfoldable pub due_at : List ℕ → ℕ → ℕ → ℕ → Bool
  due_at seats s t w = M.paired s w && (eqb (M.student_tier s w) t && not (shut_by M B (last_of M seats w) s w))

  -- the student comes to workshop w
  unfoldable pub round_at : ℕ → ℕ → RoundSoFar → RoundSoFar
  round_at s w r =
      cond (B.met s w)
      (record {
        interviews = r.interviews ++ ((s, w) ∷ []);
        openings = cond (unopened M B s w) r.openings (with_member r.openings w);
        missing = 0;
      })
      (record { interviews = r.interviews; openings = r.openings; missing = w })

  -- the round over workshops 1 to w of tier t, which stops at a missing interview
  unfoldable pub round_to : List ℕ → ℕ → ℕ → ℕ → ℕ → RoundSoFar
  round_to seats s t bits zero = record { interviews = []; openings = bits; missing = 0 }
  round_to seats s t bits (suc w) =
      let r = round_to seats s t bits w in
      cond (eqb r.missing 0 && due_at seats s t (suc w)) (round_at s (suc w) r) r

  -- the best of the open set, and of the outside option if it is open; 0 also where nothing is open
  unfoldable pub favourite_in : ℕ → Bool → ℕ → ℕ
  favourite_in s outside bits = best_of (cons_if outside 0 (members bits))
    where
      best_of : List ℕ → ℕ
      best_of [] = 0
      best_of (x ∷ xs) = best M B s x xs

  -- the student in hand is done: the next in the order of stages is in hand
  abbrev pub next_run : Run → Run
  next_run r =
      let h = next_in M.stage r.last M.students in
      record { hand = h; last = h; lost = 0; count = r.count; student = 0; workshop = 0; fares = r.fares }

  -- the run after a round of the student in hand
  unfoldable pub after_round : Run → RoundSoFar → Run
  after_round r o =
      let n = r.count + length o.interviews in
      let cost = r.fares + fares_of M o.interviews in
      cond (eqb o.missing 0)
      (record { hand = r.hand; last = r.last; lost = 0; count = n; student = 0; workshop = 0; fares = cost })
      (record { hand = 0; last = r.last; lost = 0; count = n; student = r.hand; workshop = o.missing; fares = cost })

  -- the run after workshop c has taken the student in hand and has dropped x (0: nobody)
  unfoldable pub after_seating : Run → ℕ → ℕ → Run
  after_seating r c x =
      cond (eqb x 0)
      (next_run r)
      (record { hand = x; last = r.last; lost = c; count = r.count; student = 0; workshop = 0; fares = r.fares })

  -- what a turn leaves: the student's state and the run, the visits and the seats
  pub record Left : Type 0 where
    pub turned : Turned
    pub visits : List ℕ
    pub seats : List ℕ

  -- step 1: she goes to her next tier
  unfoldable pub open_tier : List ℕ → List ℕ → StudentState → Run → Left
  open_tier visits seats k r =
      let o = round_to seats r.hand (suc k.reached) k.openings M.workshops in
      record {
        turned = record {
          state = record { reached = suc k.reached; held = k.held; openings = o.openings };
          run = after_round r o;
        };
        visits = put_at (2 * r.count) (flat o.interviews) visits;
        seats = seats;
      }

  -- steps 2 to 5: she is done without a place, or applies to workshop c
  unfoldable pub apply_to : List ℕ → List ℕ → StudentState → Run → ℕ → Left
  apply_to visits seats k r zero = record { turned = record { state = k; run = next_run r }; visits = visits; seats = seats }
  apply_to visits seats k r (suc c) =
      let p = push_padded M B (suc c) r.hand (part M seats (suc c)) in
      record {
        turned = record {
          state = record { reached = k.reached; held = suc c; openings = k.openings };
          run = after_seating r (suc c) p.1;
        };
        visits = visits;
        seats = put_part M seats (suc c) p.0;
      }

  -- a turn of the student in hand, whose state is k
  unfoldable pub turn_of : List ℕ → List ℕ → StudentState → Run → Left
  turn_of visits seats k r =
      let t = told_state r.lost k in
      let outside = eqb (student_outside M r.hand) t.reached in
      cond (eqb t.openings 0 && not outside)
      (open_tier visits seats t r)
      (apply_to visits seats t r (favourite_in r.hand outside t.openings))

  -- the run's beginning: the first student of the first stage
  unfoldable pub begin_run : Run
  begin_run =
      let h = next_in M.stage 0 M.students in
      record { hand = h; last = h; lost = 0; count = 0; student = 0; workshop = 0; fares = 0 }

  -- the buffers, the students' states and the run after k turns at most: once no student is in hand nothing changes
  unfoldable pub run_of : ℕ → List ℕ → List ℕ → List StudentState → Run → List ℕ × (List ℕ × (List StudentState × Run))
  run_of zero visits seats states r = (visits, (seats, (states, r)))
  run_of (suc k) visits seats states r =
      let o = turn_of visits seats (get_or states (r.hand - 1) zero_state) r in
      cond (eqb r.hand 0)
      (visits, (seats, (states, r)))
      (run_of k o.visits o.seats (set states (r.hand - 1) o.turned.state) o.turned.run)
