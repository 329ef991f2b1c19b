-- A student's workshops by tier: the sets after some of her pairs, and after all of them.
use Prim.Native.Nat.{ℕ, zero, suc, ◌+◌, ◌-◌, ◌≤◌, ◌<◌, max}
use mathlib.Core.Path.{◌≡◌, refl, sym, ap, ◌∙◌}
use mathlib.Core.Logic.{⊎_elim}
use mathlib.Core.Bool.{Bool, true, false, ◌&&◌, ◌||◌}
use mathlib.Core.List.{List}
use Rattle.std.specs.Prelude.{None}
use native.Mathlib.Omega.{arith}
use native.Mathlib.Nat.{le-max_left, le-max_right}
use borrow.Author.Tests.{eq-eqb, ne_eqb, eqb-true}
use lib.Dec.{eqb}
use lib.ListN.{length, get_or, set, length-set}
use lib.Seq.{get_or-set_same, get_or-set_other}
use Rattle.base.specs.Below.{any_below}
use Rattle.base.specs.Bits.{member}
use Rattle.base.proofs.Tests.{and_left, and_right, and_make, or_none, eq?}
use Rattle.base.proofs.Below.{any_on, any_found, any_first}
use Rattle.base.proofs.Digits.{bit_zero}
use Rattle.base.proofs.Search.{none_fails}
use Rattle.format.specs.Layout.{row_at, row_count, rows, is_pair}
use Rattle.format.specs.Refusals.{bad_range}
use Rattle.format.specs.Engine.{market_in}
use Rattle.format.proofs.Positions.{pair_says, student_tier_at}
use Rattle.format.proofs.Reading.{tiers_range}
use Rattle.records.specs.Records.{pair_place}
use Rattle.tables.specs.Table.{Tabled, Stretch}
use Rattle.tables.proofs.Reading.{pair_there}
use Rattle.case_tests.specs.Checked.{CleanCase, case_refusal}
use Rattle.case_tests.proofs.Cases.{clean, none_clean}
use Rattle.line_writer.specs.Groups.{Empty, EmptyAbove, Gathered}

-- record first + k is of a pair with workshop w in tier t
abbrev pub is_of : List ℕ → ℕ → ℕ → ℕ → ℕ → Bool
is_of case first t w k = eqb (row_at case (first + k)).third t && eqb (row_at case (first + k)).second w

-- the sets have the workshops of the first k of the records
pub record Gathering (case : List ℕ) (first k : ℕ) (sets : List ℕ) : Type 0 where
  pub sized : length sets ≡ 66
  pub set : (t w : ℕ) → member (get_or sets t 0) w ≡ any_below (is_of case first t w) k

no_member : (w : ℕ) → member 0 w ≡ false
unfolding member
no_member zero = refl
no_member (suc i) = bit_zero i

or_swap : (a b : Bool) → (a || b) ≡ (b || a)
or_swap true true = refl
or_swap true false = refl
or_swap false true = refl
or_swap false false = refl

same_truth : (a b : Bool) → (a ≡ true → b ≡ true) → (b ≡ true → a ≡ true) → a ≡ b
same_truth true b f g = sym (f refl)
same_truth false true f g = g refl
same_truth false false f g = refl

module _ (case : List ℕ) (first : ℕ) where
  pub gathering_none : (sets : List ℕ) → Empty sets → Gathering case first 0 sets
  unfolding any_below
  gathering_none sets e = record { sized = e.sized; set = λ t w. ap (λ n. member n w) (e.zero t) ∙ no_member w }

  -- one record more
  pub gathering_more : (sets : List ℕ) (k tier w v : ℕ)
      → Gathering case first k sets
      → w ≡ (row_at case (first + k)).second
      → tier ≡ (row_at case (first + k)).third
      → tier < 66
      → ((x : ℕ) → member v x ≡ (eqb x w || member (get_or sets tier 0) x))
      → Gathering case first (k + 1) (set sets tier v)
  gathering_more sets k tier w v I p q l f = record { sized = length-set sets tier v ∙ I.sized; set = now }
    where
      at : (x : ℕ) → member v x ≡ any_below (is_of case first tier x) (k + 1)
      at x =
          f x
          ∙ (ap (λ b. eqb x w || b) (I.set tier x)
          ∙ (or_swap (eqb x w) (any_below (is_of case first tier x) k)
          ∙ (ap (λ b. any_below (is_of case first tier x) k || b)
          (same_truth (eqb x w) (is_of case first tier x k)
          (λ e. and_make (eq-eqb _ _ (sym q)) (eq-eqb _ _ (sym p ∙ sym (eqb-true x w e))))
          (λ e. eq-eqb x w (sym (eqb-true _ _ (and_right (eqb (row_at case (first + k)).third tier) _ e)) ∙ sym p)))
          ∙ sym (any_on (is_of case first tier x) k))))

      now : (t x : ℕ) → member (get_or (set sets tier v) t 0) x ≡ any_below (is_of case first t x) (k + 1)
      now t x =
          ⊎_elim
          (λ (e : tier ≡ t).
          rw (← e) (ap (λ n. member n x) (get_or-set_same sets tier v 0 (omega (arith, I.sized))) ∙ at x))
          (λ (d : tier ≡ t → ⊥).
          ap (λ n. member n x) (get_or-set_other sets tier t v 0 (λ e. d (sym e)))
          ∙ (I.set t x
          ∙ (sym (or_none (any_below (is_of case first t x) k))
          ∙ (ap (λ b. any_below (is_of case first t x) k || b) (sym (rw (ne_eqb (row_at case (first + k)).third t (λ e. d (q ∙ e)))))
          ∙ sym (any_on (is_of case first t x) k)))))
          (eq? tier t)

-- no workshops above the larger of two tiers
pub above_larger : (sets : List ℕ) (last tier : ℕ) → EmptyAbove last sets → EmptyAbove (max last tier) sets
above_larger sets last tier E = record { zero = λ t l. E.zero t (omega (arith, le-max_left last tier)) }

-- a set changes
pub above_set : (sets : List ℕ) (last tier v : ℕ) → EmptyAbove last sets → EmptyAbove (max last tier) (set sets tier v)
above_set sets last tier v E =
    record { zero = λ t l. get_or-set_other sets tier t v 0 (λ e. omega (arith, le-max_right last tier)) ∙ (above_larger sets last tier E).zero t l }

module _ (case : List ℕ) (e : case_refusal case ≡ None) (s first many : ℕ) (S : Stretch case s first many) where
  sound : CleanCase case (market_in case).students (market_in case).workshops
  sound = none_clean case e

  pub tier_small : (k : ℕ) → k < many → (row_at case (first + k)).third < 66
  tier_small k l =
      let i = first + k in
      let inside = S.inside k l in
      omega (arith, (tiers_range case i inside (none_fails (bad_range (rows case)) (row_count case) sound.range i inside) (S.each k l).0).0)

  pub workshop_named : (table : List ℕ) → Tabled case table → (k : ℕ) → k < many
      → (1 ≤ (row_at case (first + k)).second) × ((row_at case (first + k)).second ≤ 64)
  workshop_named table T k l = (T.named s (row_at case (first + k)).second (S.paired k l)).1

  -- her tier for a workshop is that of the record
  tier_is : (w i : ℕ) → i < row_count case → is_pair s w (row_at case i) ≡ true → (market_in case).student_tier s w ≡ (row_at case i).third
  tier_is w i l p = student_tier_at case (clean case _ _ sound) s w i l p

  all_of : (t w : ℕ) → any_below (is_of case first t w) many ≡ ((market_in case).paired s w && eqb ((market_in case).student_tier s w) t)
  all_of t w = same_truth _ _ there back
    where
      there : any_below (is_of case first t w) many ≡ true → ((market_in case).paired s w && eqb ((market_in case).student_tier s w) t) ≡ true
      there a = go (any_first (is_of case first t w) many a)
        where
          go : (k : ℕ) × (k < many) × (is_of case first t w k ≡ true) × ((j : ℕ) → j < k → is_of case first t w j ≡ false)
              → ((market_in case).paired s w && eqb ((market_in case).student_tier s w) t) ≡ true
          go (k, l, p, f) =
              let third : (row_at case (first + k)).third ≡ t = eqb-true _ _ (and_left (eqb (row_at case (first + k)).third t) _ p) in
              let second : (row_at case (first + k)).second ≡ w = eqb-true _ _ (and_right (eqb (row_at case (first + k)).third t) _ p) in
              let pair = and_make (eq-eqb _ _ (S.each k l).0) (and_make (eq-eqb _ _ (S.each k l).1) (eq-eqb _ _ second)) in
              and_make (rw second at (S.paired k l)) (eq-eqb _ _ (tier_is w (first + k) (S.inside k l) pair ∙ third))

      back : ((market_in case).paired s w && eqb ((market_in case).student_tier s w) t) ≡ true → any_below (is_of case first t w) many ≡ true
      back a =
          let paired : (market_in case).paired s w ≡ true = and_left ((market_in case).paired s w) _ a in
          let tier : (market_in case).student_tier s w ≡ t = eqb-true _ _ (and_right ((market_in case).paired s w) _ a) in
          let place = pair_there case s w paired in
          let within = S.all w paired in
          let here : pair_place case s w ≡ first + (pair_place case s w - first) = omega (arith, within) in
          let third : (row_at case (pair_place case s w)).third ≡ t = sym (tier_is w (pair_place case s w) place.0 place.1) ∙ tier in
          let second : (row_at case (pair_place case s w)).second ≡ w = (pair_says s w (row_at case (pair_place case s w)) place.1).2 in
          any_found (is_of case first t w) (pair_place case s w - first) many (omega (arith, within))
          (and_make (eq-eqb _ _ (ap (λ i. (row_at case i).third) (sym here) ∙ third)) (eq-eqb _ _ (ap (λ i. (row_at case i).second) (sym here) ∙ second)))

  pub gathered : (sets : List ℕ) → Gathering case first many sets → Gathered (market_in case) s sets
  gathered sets I = record { sized = I.sized; set = λ t w. I.set t w ∙ all_of t w }

-- the workshops of the student's records before `next` are in the sets; `stop` is behind her last
pub record GatheringTo (case : List ℕ) (s next stop : ℕ) (sets : List ℕ) : Type 0 where
  pub first : ℕ
  pub stretch : Stretch case s first (stop - first)
  pub order : (first ≤ next) × (next ≤ stop)
  pub gathering : Gathering case first (next - first) sets

pub to_none : (case : List ℕ) (s first stop : ℕ) (sets : List ℕ) → Stretch case s first (stop - first) → first ≤ stop → Empty sets
    → GatheringTo case s first stop sets
to_none case s first stop sets S l e =
    let none : 0 ≡ first - first = omega arith in
    record { first = first; stretch = S; order = (omega arith, l); gathering = rw none at (gathering_none case first sets e) }

module _ (case : List ℕ) (e : case_refusal case ≡ None) (s next stop : ℕ) (sets : List ℕ) (I : GatheringTo case s next stop sets) where
  here : I.first + (next - I.first) ≡ next
  here = omega (arith, I.order)

  pub next_tier : next < stop → (row_at case next).third < 66
  next_tier l = rw here at (tier_small case e s I.first (stop - I.first) I.stretch (next - I.first) (omega (arith, I.order)))

  pub next_workshop : (table : List ℕ) → Tabled case table → next < stop → (1 ≤ (row_at case next).second) × ((row_at case next).second ≤ 64)
  next_workshop table T l = rw here at (workshop_named case e s I.first (stop - I.first) I.stretch table T (next - I.first) (omega (arith, I.order)))

  pub to_more : (next' stop' tier w v : ℕ)
      → next < stop
      → next' ≡ next + 1
      → stop' ≡ stop
      → w ≡ (row_at case next).second
      → tier ≡ (row_at case next).third
      → ((x : ℕ) → member v x ≡ (eqb x w || member (get_or sets tier 0) x))
      → GatheringTo case s next' stop' (set sets tier v)
  to_more next' stop' tier w v l n m p q f =
      let more : next - I.first + 1 ≡ next' - I.first = omega (arith, I.order) in
      record {
        first = I.first;
        stretch = rw m I.stretch;
        order = omega (arith, I.order);
        gathering = rw more at
            (gathering_more case I.first sets (next - I.first) tier w v I.gathering (rw here p) (rw here q) (omega (arith, next_tier l)) f);
      }

  pub to_all : stop - next ≡ 0 → Gathered (market_in case) s sets
  to_all l =
      let whole : next - I.first ≡ stop - I.first = omega (arith, I.order) in
      gathered case e s I.first (stop - I.first) I.stretch sets (rw whole at I.gathering)
