-- Laws of where the seats are stored: all that is known of `seats_of`, `seats_before` and `all_seats`.
--     seats_of_lem        a workshop has as many seats as its quota
--     before_first    the first part starts at 0
--     before_on       the next part starts where a part ends
--     part_within     a part ends where a later one starts, or before
--     part_inside     each part ends within all seats
use Prim.Native.Nat.{ℕ, zero, suc, ◌+◌, ◌-◌, ◌≤◌, ◌<◌}
use mathlib.Core.Path.{◌≡◌, refl, sym, ap, ◌∙◌}
use native.Mathlib.Omega.{arith}
use Rattle.base.specs.Lists.{total}
use Rattle.lgs.specs.Market.{Market, seats_of, seats_before, all_seats}
use Rattle.base.proofs.Counting.{total_grows}

module _ (M : Market) where
  pub seats_of_lem : (w : ℕ) → seats_of M w ≡ M.quota w
  unfolding seats_of
  seats_of_lem w = refl

  -- the seats of workshops 1 to w
  ends : (w : ℕ) → 1 ≤ w → seats_before M w + seats_of M w ≡ total (seats_of M) w
  unfolding seats_before total
  ends zero l = absurd (omega arith)
  ends (suc k) l = omega (arith, ap (total (seats_of M)) less_one)
    where
      less_one : suc k - 1 ≡ k
      less_one = omega arith

  pub before_first : seats_before M 1 ≡ 0
  unfolding seats_before total
  before_first = refl

  pub before_on : (w : ℕ) → 1 ≤ w → seats_before M (w + 1) ≡ seats_before M w + seats_of M w
  unfolding seats_before
  before_on w l = let e : w + 1 - 1 ≡ w = omega arith in ap (total (seats_of M)) e ∙ sym (ends w l)

  pub part_within : (d w : ℕ) → 1 ≤ d → d < w → seats_before M d + seats_of M d ≤ seats_before M w
  unfolding seats_before
  part_within d w l less = omega (arith, ends d l, total_grows (seats_of M) d (w - 1) (omega arith))

  pub part_inside : (w : ℕ) → 1 ≤ w → w ≤ M.workshops → seats_before M w + seats_of M w ≤ all_seats M
  unfolding all_seats
  part_inside w l u = omega (arith, ends w l, total_grows (seats_of M) w M.workshops u)
