-- The copy of a case with the groups of lines has these groups, and the rest as it was.
use Prim.Native.Nat.{ℕ, zero, suc, ◌-◌, ◌≤◌}
use mathlib.Core.Path.{◌≡◌, refl, ap, ◌∙◌}
use mathlib.Core.Logic.{◌⊎◌, inl, inr, ⊎_elim}
use mathlib.Core.Bool.{Bool, true, false}
use mathlib.Core.List.{List, [], ◌∷◌, map}
use lib.Dec.{eqb}
use borrow.Author.Tests.{eqb-true}
use Rattle.base.specs.Lists.{any, tally, find}
use Rattle.base.proofs.Tests.{bool_cases, and_left}
use Rattle.base.proofs.Below.{find_map}
use Rattle.format.specs.Layout.{Row, row_at, rows, no_row, of_kind, is_student, is_workshop, is_pair, market_of}
use Rattle.format.specs.Causes.{NothingFound}
use Rattle.format.specs.Refusals.{case_causes}
use Rattle.format.specs.Engine.{market_in}
use Rattle.format.proofs.Positions.{PairAt, pair_record, pair_says, student_found}
use Rattle.format.proofs.Cases.{case_clean}
use Rattle.format.proofs.Encoding.{round_trip}
use Rattle.wish_lines.specs.Lines.{Line, position}
use Rattle.wish_lines.specs.Wishes.{Option?}
use Rattle.wish_lines.proofs.Ranged.{student_row}
use Rattle.wishes.specs.Copy.{groups_in, with_third, with_wish, wished}
use Rattle.wishes.specs.Promises.{SameRest}

module _ (ls : List Line) where
  abbrev new : Row → Row
  new = with_wish ls

  pub wish_cases : (r : Row) → ((x : ℕ) × ((r.kind ≡ 1) ⊎ (r.kind ≡ 3)) × (new r ≡ with_third r x)) ⊎ (new r ≡ r)
  unfolding with_wish
  wish_cases r =
      ⊎_elim (λ (e : of_kind 1 r ≡ true). inl (position (groups_in ls r.first) 0, inl (eqb-true r.kind 1 e), rw e))
      (λ (e : of_kind 1 r ≡ false).
      ⊎_elim (λ (d : of_kind 3 r ≡ true). inl (position (groups_in ls r.first) r.second, inr (eqb-true r.kind 3 d), rw (e, d)))
      (λ (d : of_kind 3 r ≡ false). inr (rw (e, d)))
      (bool_cases (of_kind 3 r)))
      (bool_cases (of_kind 1 r))

  -- what does not see the third field is kept
  pub unseen : {B : Type 0} (f : Row → B) → ((r : Row) (x : ℕ) → f (with_third r x) ≡ f r) → (r : Row) → f (new r) ≡ f r
  unseen f h r = ⊎_elim (λ c. ap f c.2 ∙ h r c.0) (λ c. ap f c) (wish_cases r)

  pub no_row_lem : new no_row ≡ no_row
  unfolding with_wish
  no_row_lem = refl

  pub student_third : (r : Row) (s : ℕ) → r.kind ≡ 1 → r.first ≡ s → (new r).third ≡ position (groups_in ls s) 0
  unfolding with_wish
  student_third r s k e = rw (k, e)

  pub pair_third : (r : Row) (s w : ℕ) → r.kind ≡ 3 → r.first ≡ s → r.second ≡ w → (new r).third ≡ position (groups_in ls s) w
  unfolding with_wish
  pair_third r s w k e f = rw (k, e, f)

  pub any_new : (p : Row → Bool) → ((r : Row) → p (new r) ≡ p r) → (rs : List Row) → any p (map new rs) ≡ any p rs
  unfolding any
  any_new p h [] = refl
  any_new p h (r ∷ rs) = rw (h r, any_new p h rs)

  pub tally_new : (p : Row → Bool) → ((r : Row) → p (new r) ≡ p r) → (rs : List Row) → tally p (map new rs) ≡ tally p rs
  unfolding tally
  tally_new p h [] = refl
  tally_new p h (r ∷ rs) = rw (h r, tally_new p h rs)

  -- a search for records that are as they were
  find_same : (p : Row → Bool) → ((r : Row) → p (new r) ≡ p r) → ((r : Row) → p r ≡ true → new r ≡ r) → (rs : List Row)
      → find p no_row (map new rs) ≡ find p no_row rs
  unfolding find
  find_same p h k [] = refl
  find_same p h k (r ∷ rs) =
      rw (h r) (⊎_elim (λ (e : p r ≡ true). rw (e, k r e)) (λ (e : p r ≡ false). rw e (find_same p h k rs)) (bool_cases (p r)))

  module _ (rs : List Row) where
    find_new : (p : Row → Bool) → ((r : Row) → p (new r) ≡ p r) → find p no_row (map new rs) ≡ new (find p no_row rs)
    find_new p h = find_map new p h no_row no_row_lem rs

    workshop_row : (w : ℕ) (r : Row) → is_workshop w r ≡ true → new r ≡ r
    unfolding with_wish
    workshop_row w r e = rw (eqb-true r.kind 2 (and_left (eqb r.kind 2) _ e))

    workshop_tier_lem : (w x : ℕ) → (market_of (map new rs)).workshop_tier w x ≡ (market_of rs).workshop_tier w x
    unfolding market_of
    workshop_tier_lem w zero = ap (λ r. r.third) (find_same (is_workshop w) (unseen (is_workshop w) (λ r x. refl)) (workshop_row w) rs)
    workshop_tier_lem w (suc s) =
        ap (λ r. r.fourth) (find_new (is_pair (suc s) w) (unseen (is_pair (suc s) w) (λ r x. refl))) ∙ unseen (λ r. r.fourth) (λ r x. refl) _

    rest_kept : SameRest (market_of (map new rs)) (market_of rs)
    unfolding market_of
    rest_kept =
        record {
          students = tally_new (of_kind 1) (unseen (of_kind 1) (λ r x. refl)) rs;
          workshops = tally_new (of_kind 2) (unseen (of_kind 2) (λ r x. refl)) rs;
          stage = λ s. ap (λ r. r.second) (find_new (is_student s) (unseen (is_student s) (λ r x. refl))) ∙ unseen (λ r. r.second) (λ r x. refl) _;
          lot = λ s. ap (λ r. r.fourth) (find_new (is_student s) (unseen (is_student s) (λ r x. refl))) ∙ unseen (λ r. r.fourth) (λ r x. refl) _;
          quota = λ w. ap (λ r. r.second) (find_new (is_workshop w) (unseen (is_workshop w) (λ r x. refl))) ∙ unseen (λ r. r.second) (λ r x. refl) _;
          paired = λ s w. any_new (is_pair s w) (unseen (is_pair s w) (λ r x. refl)) rs;
          fare = λ s w. ap (λ r. r.fifth) (find_new (is_pair s w) (unseen (is_pair s w) (λ r x. refl))) ∙ unseen (λ r. r.fifth) (λ r x. refl) _;
          workshop_tier = workshop_tier_lem;
        }

module _ (ls : List Line) (case : List ℕ) (nothing : NothingFound (case_causes case)) where
  pub new_rows : rows (wished ls case) ≡ map (with_wish ls) (rows case)
  unfolding wished
  new_rows = round_trip.case (map (with_wish ls) (rows case))

  pub copy_rest : SameRest (market_in (wished ls case)) (market_in case)
  copy_rest = rw new_rows (rest_kept ls (rows case))

  -- the groups of the copy are the positions in the lines
  pub copy_tier : (s x : ℕ) → 1 ≤ s → s ≤ (market_in case).students → Option? (market_in case) s x
      → (market_in (wished ls case)).student_tier s x ≡ position (groups_in ls s) x
  unfolding market_of
  copy_tier s zero l u e =
      let r = student_row case nothing s l u in
      rw (new_rows, find_new ls (rows case) (is_student s) (unseen ls (is_student s) (λ r x. refl)), student_found case (case_clean case nothing) s l u)
      (student_third ls (row_at case (s - 1)) s r.1 r.2)
  copy_tier s (suc w) l u e =
      let k : (i : ℕ) × PairAt case s (suc w) i = pair_record case s (suc w) e in
      let f = pair_says s (suc w) (row_at case k.0) k.1.pair in
      rw (new_rows, find_new ls (rows case) (is_pair s (suc w)) (unseen ls (is_pair s (suc w)) (λ r x. refl)), k.1.found)
      (pair_third ls (row_at case k.0) s (suc w) f.0 f.1 f.2)
