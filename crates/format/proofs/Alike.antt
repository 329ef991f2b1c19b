-- Two lists of records that are alike: those of students may have other stages, or those of pairs other fares. The causes are the same, but for that of a
-- student's ranges, and so is the market but for the stages or the fares.
use Prim.Native.Nat.{ℕ, zero, suc, ◌-◌, ◌%◌}
use mathlib.Core.Path.{◌≡◌, refl, ap, ◌∙◌, fun_ext}
use mathlib.Core.Logic.{⊎_elim}
use mathlib.Core.Bool.{Bool, true, false, not, ◌&&◌, ◌||◌}
use mathlib.Core.List.{List, [], ◌∷◌, ◌++◌}
use native.Mathlib.Omega.{arith}
use lib.Dec.{eqb, ltb}
use lib.ListN.{length, get_or, take}
use borrow.Author.Tests.{eqb-true}
use Rattle.base.specs.Lists.{any, tally, find}
use Rattle.base.proofs.Tests.{bool_cases, and_left}
use Rattle.lgs.specs.Market.{all_seats, seats_of}
use Rattle.lgs.proofs.Unpriced.{altered, priced}
use Rattle.format.specs.Layout.{Row, Entry, rows, row_count, entries, no_row, with_second, of_kind, unnamed, is_student, is_workshop, is_pair}
use Rattle.format.specs.Layout.{outside_else, has_lot, market_of}
use Rattle.format.specs.Causes.{Cause, whole, each}
use Rattle.format.specs.Refusals.{not_within, bad_form, kind_falls, bad_number, not_rising, names_nobody, bad_order, bad_counts, bad_student, bad_workshop}
use Rattle.format.specs.Refusals.{bad_tiers, bad_range, bad_lot, Room, needed, bad_room, bad_pair, bad_scores, bad_repeat, student_ties, bad_tie}
use Rattle.format.specs.Refusals.{case_causes, room_causes, book_causes}

-- a record's fifth field replaced
abbrev pub with_fifth : Row → ℕ → Row
with_fifth r x =
    record {
      kind = r.kind;
      pad = r.pad;
      first = r.first;
      second = r.second;
      third = r.third;
      fourth = r.fourth;
      fifth = x;
      sixth = r.sixth;
      seventh = r.seventh;
    }

-- the same record, or, where records of kind k may differ, a student's with another stage or a pair's with another fare
pub data Alike (k : ℕ) (r : Row) : Row → Type 0 where
  same : Alike k r r
  other_stage : (x : ℕ) → k ≡ 1 → r.kind ≡ 1 → Alike k r (with_second r x)
  other_fare : (x : ℕ) → k ≡ 3 → r.kind ≡ 3 → Alike k r (with_fifth r x)

pub data Alikes (k : ℕ) : List Row → List Row → Type 0 where
  empty : Alikes k [] []
  more : {r q : Row} {rs qs : List Row} → Alike k r q → Alikes k rs qs → Alikes k (r ∷ rs) (q ∷ qs)

-- ---- two records

-- f does not see the difference
abbrev Unseen : {B : Type 0} → ℕ → (Row → B) → Type 0
Unseen k f = (r q : Row) → Alike k r q → f q ≡ f r

-- as where it depends neither on a student's stage nor on a pair's fare
kept : {k : ℕ} {B : Type 0} (f : Row → B)
    → ((r : Row) (x : ℕ) → r.kind ≡ 1 → f (with_second r x) ≡ f r)
    → ((r : Row) (x : ℕ) → r.kind ≡ 3 → f (with_fifth r x) ≡ f r)
    → Unseen k f
kept f g h r q same = refl
kept f g h r q (other_stage x e k) = g r x k
kept f g h r q (other_fare x e k) = h r x k

stage_kept : Unseen 3 (λ r. r.second)
stage_kept r q same = refl
stage_kept r q (other_stage x e k) = absurd (omega arith)
stage_kept r q (other_fare x e k) = refl

fare_kept : Unseen 1 (λ r. r.fifth)
fare_kept r q same = refl
fare_kept r q (other_stage x e k) = refl
fare_kept r q (other_fare x e k) = absurd (omega arith)

module _ {k : ℕ} where
  pub kind_kept : Unseen k (λ r. r.kind)
  kind_kept = kept (λ r. r.kind) (λ r x e. refl) (λ r x e. refl)

  first_kept : Unseen k (λ r. r.first)
  first_kept = kept (λ r. r.first) (λ r x e. refl) (λ r x e. refl)

  pub third_kept : Unseen k (λ r. r.third)
  third_kept = kept (λ r. r.third) (λ r x e. refl) (λ r x e. refl)

  fourth_kept : Unseen k (λ r. r.fourth)
  fourth_kept = kept (λ r. r.fourth) (λ r x e. refl) (λ r x e. refl)

  kinds_kept : (j : ℕ) → Unseen k (of_kind j)
  kinds_kept j = kept (of_kind j) (λ r x e. refl) (λ r x e. refl)

  lot_kept : (l : ℕ) → Unseen k (has_lot l)
  lot_kept l = kept (has_lot l) (λ r x e. refl) (λ r x e. refl)

  pub student_kept : (s : ℕ) → Unseen k (is_student s)
  student_kept s = kept (is_student s) (λ r x e. refl) (λ r x e. refl)

  workshop_kept : (w : ℕ) → Unseen k (is_workshop w)
  workshop_kept w = kept (is_workshop w) (λ r x e. refl) (λ r x e. refl)

  pair_kept : (s w : ℕ) → Unseen k (is_pair s w)
  pair_kept s w = kept (is_pair s w) (λ r x e. rw e) (λ r x e. refl)

-- ---- two lists
module _ {k : ℕ} where
  take_alike : {rs qs : List Row} → Alikes k rs qs → (i : ℕ) → Alikes k (take i rs) (take i qs)
  take_alike like zero = empty
  take_alike empty (suc i) = empty
  take_alike (more a like) (suc i) = more a (take_alike like i)

  module _ {B : Type 0} (f : Row → B) (unseen : Unseen k f) where
    at : {rs qs : List Row} → Alikes k rs qs → (i : ℕ) → f (get_or qs i no_row) ≡ f (get_or rs i no_row)
    at empty i = refl
    at (more {r} {q} a like) zero = unseen r q a
    at (more a like) (suc i) = at like i

  -- by a test that does not see the difference
  module _ (p : Row → Bool) (unseen : Unseen k p) where
    tally_alike : {rs qs : List Row} → Alikes k rs qs → tally p qs ≡ tally p rs
    unfolding tally
    tally_alike empty = refl
    tally_alike (more {r} {q} a like) = rw (unseen r q a, tally_alike like)

    any_alike : {rs qs : List Row} → Alikes k rs qs → any p qs ≡ any p rs
    unfolding any
    any_alike empty = refl
    any_alike (more {r} {q} a like) = rw (unseen r q a, any_alike like)

    -- what is the same in any two records that pass is the same in those found
    find_alike : {rs qs : List Row} (f : Row → ℕ) → ((r q : Row) → p r ≡ true → Alike k r q → f q ≡ f r) → Alikes k rs qs
        → f (find p no_row qs) ≡ f (find p no_row rs)
    unfolding find
    find_alike f h empty = refl
    find_alike f h (more {r} {q} a like) =
        rw (unseen r q a) (⊎_elim (λ (e : p r ≡ true). rw e (h r q e a)) (λ (e : p r ≡ false). rw e (find_alike f h like)) (bool_cases (p r)))

-- ---- the tests
module _ {k : ℕ} {rs qs : List Row} (like : Alikes k rs qs) where
  kinds_same : (j : ℕ) → tally (of_kind j) qs ≡ tally (of_kind j) rs
  kinds_same j = tally_alike (of_kind j) (kinds_kept j) like

  form_same : (i : ℕ) → bad_form qs i ≡ bad_form rs i
  unfolding bad_form unnamed
  form_same = at test (kept test (λ r x e. refl) (λ r x e. rw e)) like
    where
      test : Row → Bool
      test r = not_within 1 3 r.kind || any (λ x. not (eqb x 0)) (unnamed r)

  falls_same : (i : ℕ) → kind_falls qs i ≡ kind_falls rs i
  unfolding kind_falls
  falls_same i = rw (at _ kind_kept like i, at _ kind_kept like (i - 1))

  number_same : (i : ℕ) → bad_number qs i ≡ bad_number rs i
  unfolding bad_number
  number_same i =
      rw (
        at _ kind_kept like i,
        at _ first_kept like i,
        tally_alike (of_kind (get_or rs i no_row).kind) (kinds_kept (get_or rs i no_row).kind) (take_alike like i),
      )

  rising_same : (i : ℕ) → not_rising qs i ≡ not_rising rs i
  unfolding not_rising
  rising_same i =
      at (test (get_or qs (i - 1) no_row)) (kept (test (get_or qs (i - 1) no_row)) (λ r x e. rw e) (λ r x e. refl)) like i
      ∙ at (λ q. test q (get_or rs i no_row)) (kept (λ q. test q (get_or rs i no_row)) (λ q x e. earlier x (get_or rs i no_row) q e) (λ r x e. refl)) like (i - 1)
    where
      test : Row → Row → Bool
      test q r =
          (eqb r.kind 3 && eqb q.kind 3)
          && not (ltb q.first r.first || (eqb q.first r.first && ltb q.second r.second))

      earlier : (x : ℕ) (r q : Row) → q.kind ≡ 1 → test (with_second q x) r ≡ test q r
      earlier x r q e = ⊎_elim (λ (a : eqb r.kind 3 ≡ true). rw (a, e)) (λ (a : eqb r.kind 3 ≡ false). rw a) (bool_cases (eqb r.kind 3))

  names_same : (i : ℕ) → names_nobody qs i ≡ names_nobody rs i
  unfolding names_nobody
  names_same i =
      at test (kept test (λ r x e. rw e) (λ r x e. refl)) like i
      ∙ rw (
        any_alike (is_student (get_or rs i no_row).first) (student_kept (get_or rs i no_row).first) (take_alike like i),
        any_alike (is_workshop (get_or rs i no_row).second) (workshop_kept (get_or rs i no_row).second) (take_alike like i),
      )
    where
      test : Row → Bool
      test r = eqb r.kind 3 && (not (any (is_student r.first) (take i qs)) || not (any (is_workshop r.second) (take i qs)))

  order_same : (i : ℕ) → bad_order qs i ≡ bad_order rs i
  unfolding bad_order
  order_same i = rw (falls_same i, number_same i, rising_same i, names_same i)

  counts_same : bad_counts qs ≡ bad_counts rs
  unfolding bad_counts
  counts_same = rw (kinds_same 1, kinds_same 2)

  pub workshop_same : (i : ℕ) → bad_workshop qs i ≡ bad_workshop rs i
  unfolding bad_workshop
  workshop_same = at test (kept test (λ r x e. rw e) (λ r x e. refl)) like
    where
      test : Row → Bool
      test r = eqb r.kind 2 && (not_within 0 512 r.second || not_within 1 513 r.third)

  pub tiers_same : (i : ℕ) → bad_tiers qs i ≡ bad_tiers rs i
  unfolding bad_tiers
  tiers_same i = rw (at _ kind_kept like i, at _ third_kept like i, at _ fourth_kept like i)

  lot_same : (i : ℕ) → bad_lot qs i ≡ bad_lot rs i
  unfolding bad_lot
  lot_same i =
      rw (
        at _ kind_kept like i,
        at _ fourth_kept like i,
        any_alike (has_lot (get_or rs i no_row).fourth) (lot_kept (get_or rs i no_row).fourth) (take_alike like i),
      )

  pair_same : (es : List Entry) (i : ℕ) → bad_pair qs es i ≡ bad_pair rs es i
  unfolding bad_pair
  pair_same es i = ap not (any_alike (is_pair _ _) (pair_kept _ _) like)

  -- ---- the market but for the stages and the fares
  student_same : (f : Row → ℕ) → Unseen k f → (s : ℕ) → f (find (is_student s) no_row qs) ≡ f (find (is_student s) no_row rs)
  student_same f h s = find_alike (is_student s) (student_kept s) f (λ r q e. h r q) like

  found_pair : (f : Row → ℕ) → Unseen k f → (s w : ℕ) → f (find (is_pair s w) no_row qs) ≡ f (find (is_pair s w) no_row rs)
  found_pair f h s w = find_alike (is_pair s w) (pair_kept s w) f (λ r q e. h r q) like

  quota_same : (w : ℕ) → (find (is_workshop w) no_row qs).second ≡ (find (is_workshop w) no_row rs).second
  quota_same w = find_alike (is_workshop w) (workshop_kept w) (λ r. r.second) second like
    where
      second : (r q : Row) → is_workshop w r ≡ true → Alike k r q → q.second ≡ r.second
      second r q e same = refl
      second r q e (other_stage x l j) = absurd (omega (arith, eqb-true r.kind 2 (and_left (eqb r.kind 2) _ e)))
      second r q e (other_fare x l j) = refl

  student_tiers : (s x : ℕ)
      → outside_else (find (is_student s) no_row qs).third (λ w. (find (is_pair s w) no_row qs).third) x
      ≡ outside_else (find (is_student s) no_row rs).third (λ w. (find (is_pair s w) no_row rs).third) x
  student_tiers s zero = student_same (λ r. r.third) third_kept s
  student_tiers s (suc w) = found_pair (λ r. r.third) third_kept s (suc w)

  workshop_tiers : (w x : ℕ)
      → outside_else (find (is_workshop w) no_row qs).third (λ s. (find (is_pair s w) no_row qs).fourth) x
      ≡ outside_else (find (is_workshop w) no_row rs).third (λ s. (find (is_pair s w) no_row rs).fourth) x
  workshop_tiers w zero = find_alike (is_workshop w) (workshop_kept w) (λ r. r.third) (λ r q e. third_kept r q) like
  workshop_tiers w (suc s) = found_pair (λ r. r.fourth) fourth_kept (suc s) w

  market_same : market_of qs ≡ altered (market_of rs) (market_of qs).stage (market_of qs).fare
  unfolding market_of
  market_same = λ i.
      record {
        students = kinds_same 1 i;
        workshops = kinds_same 2 i;
        stage = λ s. (find (is_student s) no_row qs).second;
        lot = λ s. student_same (λ r. r.fourth) fourth_kept s i;
        quota = λ w. quota_same w i;
        paired = λ s w. any_alike (is_pair s w) (pair_kept s w) like i;
        fare = λ s w. (find (is_pair s w) no_row qs).fifth;
        student_tier = λ s x. student_tiers s x i;
        workshop_tier = λ w x. workshop_tiers w x i;
      }

  -- ---- what goes by the market
  seats_same : all_seats (market_of qs) ≡ all_seats (market_of rs)
  unfolding all_seats seats_of
  seats_same = rw market_same

  room_same : (room : Room) → bad_room qs room ≡ bad_room rs room
  unfolding bad_room needed
  room_same room = rw (seats_same, kinds_same 3, ap (λ M. M.students) market_same)

  ties_same : (es : List Entry) (e f : Entry) → student_ties qs es e f ≡ student_ties rs es e f
  unfolding student_ties
  ties_same es e f = rw market_same

  tie_same : (es : List Entry) (i : ℕ) → bad_tie qs es i ≡ bad_tie rs es i
  unfolding bad_tie
  tie_same es i = rw (fun_ext (λ e. fun_ext (ties_same es e)))

-- ---- other fares
module _ {rs qs : List Row} (like : Alikes 3 rs qs) where
  pub range_same : (i : ℕ) → bad_range qs i ≡ bad_range rs i
  unfolding bad_range bad_student
  range_same i = rw (at _ kind_kept like i, at _ stage_kept like i, at _ third_kept like i, workshop_same like i, tiers_same like i)

  pub market_priced : market_of qs ≡ priced (market_of rs) (market_of qs).fare
  unfolding market_of
  market_priced =
      market_same like
      ∙ ap (λ stage. altered (market_of rs) stage (market_of qs).fare) (fun_ext (student_same like (λ r. r.second) stage_kept))

-- ---- other stages
pub market_staged : {rs qs : List Row} → Alikes 1 rs qs → market_of qs ≡ altered (market_of rs) (market_of qs).stage (market_of rs).fare
unfolding market_of
market_staged {rs} {qs} like =
    market_same like
    ∙ ap (λ fare. altered (market_of rs) (market_of qs).stage fare) (fun_ext (λ s. fun_ext (found_pair like (λ r. r.fifth) fare_kept s)))

-- ---- two cases with such records

-- the causes of a case before and after that of the ranges
abbrev pub before : List ℕ → List Cause
before case =
    (1, whole (not (eqb (length case % 16) 0)))
    ∷ (2, each (row_count case) (bad_form (rows case)))
    ∷ (3, each (row_count case) (bad_order (rows case)))
    ∷ (4, whole (bad_counts (rows case)))
    ∷ []

abbrev pub after : List ℕ → List Cause
after case = (13, each (row_count case) (bad_lot (rows case))) ∷ []

module _ {k : ℕ} (case case' : List ℕ) (like : Alikes k (rows case) (rows case')) where
  pub case_same : length case' ≡ length case → case_causes case' ≡ before case ++ ((5, each (row_count case) (bad_range (rows case'))) ∷ after case)
  unfolding case_causes
  case_same long = rw (long, fun_ext (form_same like), fun_ext (order_same like), counts_same like, fun_ext (lot_same like))

  pub rest_same : (book : List ℕ) (lent : Room) → room_causes case' lent ++ book_causes case' book ≡ room_causes case lent ++ book_causes case book
  unfolding room_causes book_causes bad_scores bad_repeat
  rest_same book lent = rw (room_same like lent, fun_ext (pair_same like (entries book)), fun_ext (tie_same like (entries book)))
