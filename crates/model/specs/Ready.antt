-- What the code of one turn needs of the case, the book and the buffers. It holds at each turn of a run (`run_ready`).
use Rattle.std.specs.Prelude.{ℕ, suc, ◌+◌, ◌*◌, ◌^◌, ◌≤◌, ◌<◌, ◌≡◌, true, List, length, get_or}
use Rattle.base.specs.Lists.{count}
use Rattle.base.specs.Bits.{member}
use Rattle.lgs.specs.Market.{Market, Results, student_outside, seats_of, all_seats}
use Rattle.api.specs.declared.StudentState.{StudentState}
use Rattle.model.specs.declared.Run.{Run}
use Rattle.model.specs.Model.{before}
use Rattle.model.specs.Store.{part}
use Rattle.model.specs.Turn.{told_state, due_at}

-- a pair whose interview has a record in the book
pub record Booked (M : Market) (B : Results) (s w : ℕ) : Type 0 where
  pub student : (1 ≤ s) × (s ≤ M.students)
  pub workshop : (1 ≤ w) × (w ≤ M.workshops)
  pub pair : M.paired s w ≡ true
  pub met : B.met s w ≡ true

-- seats of workshop w in order: best first, and the free ones last
abbrev pub InOrder : Market → Results → ℕ → List ℕ → Type 0
InOrder M B w l = (i j : ℕ) → i < j → 0 < get_or l j 0 → (0 < get_or l i 0) × (before M B w (get_or l i 0) (get_or l j 0) ≡ true)

-- before a turn of the student in hand, whose state is k
pub record Ready (M : Market) (B : Results) (visits seats : List ℕ) (k : StudentState) (r : Run) : Type 0 where
  pub hand : (1 ≤ r.hand) × (r.hand ≤ M.students)
  pub last : r.last ≤ M.students
  pub lost : r.lost ≤ M.workshops
  pub reached : k.reached ≤ student_outside M r.hand
  pub openings : k.openings < 2 ^ 64
  -- each open workshop, after the one that has just dropped her is taken out
  pub opened : (w : ℕ) → member (told_state r.lost k).openings w ≡ true → Booked M B r.hand w
  -- all seats are there, whoever has one is booked, and the seats of a workshop are in order
  pub long : all_seats M ≤ length seats
  pub seated : (w : ℕ) → 1 ≤ w → w ≤ M.workshops → (i : ℕ) → i < seats_of M w → 0 < get_or (part M seats w) i 0 → Booked M B (get_or (part M seats w) i 0) w
  pub ordered : (w : ℕ) → 1 ≤ w → w ≤ M.workshops → InOrder M B w (part M seats w)
  -- there is room for the interviews of her next tier
  pub room : 2 * (r.count + count (due_at M B seats r.hand (suc k.reached)) M.workshops) ≤ length visits
  -- the interviews held have cost at most the largest fare each, and there are at most as many as pairs of 512 students and 64 workshops
  pub paid : r.fares ≤ 32768 * 65535
