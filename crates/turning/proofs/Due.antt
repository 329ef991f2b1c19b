-- Which workshops a student is to be interviewed by, test by test.
use Prim.Native.Nat.{ℕ, zero, suc, ◌+◌, ◌-◌, ◌≤◌, ◌<◌}
use mathlib.Core.Path.{◌≡◌, refl, sym, ap, ◌∙◌}
use mathlib.Core.Bool.{Bool, true, not, ◌&&◌}
use mathlib.Core.List.{List}
use native.Mathlib.Omega.{arith}
use lib.Dec.{eqb, ltb}
use borrow.Author.Tests.{eq-eqb, ne_eqb, lt-ltb, le-ltb}
use Rattle.base.proofs.Tests.{and_left, and_right, and_make}
use Rattle.base.proofs.Search.{some_by, first_passes}
use Rattle.lgs.specs.Market.{Market, Results, workshop_outside, seats_of}
use Rattle.format.specs.Layout.{row_at, row_count, entry_at, is_pair, ends_in_never}
use Rattle.format.specs.Engine.{market_in}
use Rattle.format.proofs.Positions.{pair_says}
use Rattle.records.specs.Records.{pair_place, entry_of}
use Rattle.model.specs.Model.{shut_by, full_above}
use Rattle.model.specs.Store.{last_of}
use Rattle.model.specs.Turn.{due_at}
use Rattle.tables.specs.Table.{workshop_in, Stretch}
use Rattle.lookup.specs.Clean.{PairAt, EntryAt, entry_in}
use Rattle.lookup.proofs.Laws.{paired_place}
use Rattle.std.specs.Prelude.{Some, None}
use Rattle.records.specs.declared.Entry.{Entry}
use Rattle.turning.specs.Round.{in_tier, Says}

-- t is the workshop's tier for the student, and l has its last seat
module _ (M : Market) (B : Results) (w s l t : ℕ) (e : t ≡ M.workshop_tier w s) where
  pub shut_empty : seats_of M w ≡ 0 → true ≡ shut_by M B l s w
  unfolding shut_by
  shut_empty z = sym (rw (eq-eqb (seats_of M w) 0 z))

  module _ (seats : seats_of M w ≡ 0 → ⊥) where
    pub shut_beyond : workshop_outside M w < t → true ≡ shut_by M B l s w
    unfolding shut_by
    shut_beyond h = sym (rw (ne_eqb (seats_of M w) 0 seats, lt-ltb (M.workshop_tier w 0) (M.workshop_tier w s) (omega arith)))

    pub shut_full : t ≤ workshop_outside M w → (b : Bool) → b ≡ (ltb 0 l && ltb (M.workshop_tier w l) t) → b ≡ shut_by M B l s w
    unfolding shut_by full_above
    shut_full h b q = q ∙ sym (rw (ne_eqb (seats_of M w) 0 seats, le-ltb (M.workshop_tier w 0) (M.workshop_tier w s) (omega arith), e))

-- whoever is to be interviewed is of the tier, and of the tier whoever is not shut is to be interviewed
module _ (M : Market) (B : Results) (seats : List ℕ) (s t w : ℕ) where
  pub due_tier : due_at M B seats s t w ≡ true → in_tier M s t w ≡ true
  unfolding due_at in_tier
  due_tier d = and_make (and_left (M.paired s w) _ d) (and_left (eqb (M.student_tier s w) t) _ (and_right (M.paired s w) _ d))

  pub tier_pair : in_tier M s t w ≡ true → M.paired s w ≡ true
  unfolding in_tier
  tier_pair i = and_left (M.paired s w) _ i

  pub tier_due : in_tier M s t w ≡ true → (b : Bool) → shut_by M B (last_of M seats w) s w ≡ b → due_at M B seats s t w ≡ not b
  unfolding due_at in_tier
  tier_due i b q = rw (and_left (M.paired s w) _ i, and_right (M.paired s w) _ i, q)

-- `pair` is the record of one of her pairs, and the pair that of the workshop that stands there
module _ (case : List ℕ) (s first many : ℕ) (S : Stretch case s first many) (pair : ℕ) (f : first ≤ pair) (l : pair < first + many) where
  here : first + (pair - first) ≡ pair
  here = omega arith

  pub here_inside : pair < row_count case
  here_inside = rw here at (S.inside (pair - first) (omega arith))

  pub here_paired : (market_in case).paired s (workshop_in case pair) ≡ true
  here_paired = rw here at (S.paired (pair - first) (omega arith))

  pub here_place : pair_place case s (workshop_in case pair) ≡ pair
  here_place = rw here at (S.place (pair - first) (omega arith))

-- p is the place of the pair's record, or how many records there are
module _ (case : List ℕ) (s w t p : ℕ) (e : p ≡ pair_place case s w) where
  module _ (l : p < row_count case) where
    pair_there : (market_in case).paired s w ≡ true
    pair_there = paired_place case s w ∙ lt-ltb (pair_place case s w) (row_count case) (omega arith)

    pub tier_paired : ((market_in case).paired s w ≡ true → PairAt case s w) → in_tier (market_in case) s t w ≡ eqb (row_at case p).third t
    unfolding in_tier
    tier_paired k = let q : (market_in case).student_tier s w ≡ (row_at case p).third = (k pair_there).student_tier ∙ sym (rw e) in rw (pair_there, q)

    -- the record has the workshop's number
    pub pair_second : (row_at case p).second ≡ w
    pair_second =
        (pair_says s w (row_at case p) (first_passes (λ i. is_pair s w (row_at case i)) (row_count case) p
        (some_by (λ i. is_pair s w (row_at case i)) (row_count case) p e l))).2

-- the workshop's tier, from the pair's record
pub tier_at_lem : (case : List ℕ) (s w p t : ℕ) → PairAt case s w → p ≡ pair_place case s w → t ≡ (row_at case p).fourth
    → t ≡ (market_in case).workshop_tier w s
tier_at_lem case s w p t k q r = r ∙ rw q (sym k.workshop_tier)

-- the fare, from the pair's record
pub fare_at_lem : (case : List ℕ) (s w p x : ℕ) → PairAt case s w → p ≡ pair_place case s w → x ≡ (row_at case p).fifth → x ≡ (market_in case).fare s w
fare_at_lem case s w p x k q r = r ∙ rw q (sym k.fare)

-- ---- the interview's record in the book
pub entry_none : (x : ℕ) → entry_in x ≡ None → x ≡ 0
entry_none zero h = refl
entry_none (suc x) h = absurd (cc)

pub entry_some : (x e : ℕ) → entry_in x ≡ Some e → x ≡ suc e
entry_some zero e h = absurd (cc)
entry_some (suc x) e h = cc

pub says_by : (book : List ℕ) (s w e : ℕ) (entry : Entry) → EntryAt book s w (suc e) → entry_of entry ≡ entry_at book e → Says book s w entry
says_by book s w e entry k q =
    let d : suc e - 1 ≡ e = omega arith in
    let f : entry_of entry ≡ entry_at book (suc e - 1) = rw d q in
    record { never = k.never ∙ ap ends_in_never (sym f); mark = k.workshop_score ∙ ap (λ r. r.workshop_score) (sym f) }
