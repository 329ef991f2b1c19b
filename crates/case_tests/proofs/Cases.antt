-- The table of causes in its parts, and what a clean case has.
use Prim.Native.Nat.{ℕ, ◌+◌, ◌-◌, ◌%◌, ◌≤◌}
use mathlib.Core.Path.{◌≡◌, refl, ap, ◌∙◌}
use mathlib.Core.Bool.{Bool, true, false, not, ◌||◌}
use mathlib.Core.List.{List, [], ◌∷◌}
use Rattle.std.specs.Prelude.{Option, Some, None, Result, Ok, Err}
use native.Mathlib.Omega.{arith}
use lib.ListN.{length}
use lib.Dec.{eqb}
use borrow.Author.Tests.{eq-eqb, ne_eqb}
use Rattle.base.specs.Lists.{tally}
use Rattle.base.specs.Search.{first_bad, some_if}
use Rattle.base.proofs.Tests.{or_false}
use Rattle.base.proofs.Below.{tabulate_take}
use Rattle.format.specs.Layout.{rows, row_count, row_at, of_kind, market_of}
use Rattle.format.specs.Refusals.{not_within, bad_form, bad_order, bad_counts, bad_range, bad_lot, case_causes}
use Rattle.format.specs.Causes.{Cause, finds, first_cause}
use Rattle.format.specs.Engine.{market_in}
use Rattle.format.proofs.Positions.{clean_all, within, Sorted, places}
use Rattle.format.proofs.Positions.{Clean as CleanTo}
use Rattle.case_tests.specs.Order.{Counted}
use Rattle.case_tests.specs.Checked.{CleanCase, checked_of, pair_count, case_refusal}
use Rattle.api.specs.declared.Refusal.{Refusal}
use Rattle.api.specs.Causes.{refusal_for}
use Rattle.case_tests.specs.declared.Counts.{Counts}

pub whole_none : (n : ℕ) → n ≡ 0 → some_if (not (eqb n 0)) 0 ≡ None
whole_none n e = rw (eq-eqb n 0 e)

pub whole_some : (n : ℕ) → (n ≡ 0 → ⊥) → some_if (not (eqb n 0)) 0 ≡ Some 0
whole_some n f = rw (ne_eqb n 0 f)

-- ---- where a cause finds something, and those before it nothing
module _ (case : List ℕ) where
  pub case_1 : some_if (not (eqb (length case % 16) 0)) 0 ≡ Some 0 → case_refusal case ≡ Some (1, 0)
  unfolding case_causes
  case_1 e = rw (e, first_cause)

  module _ (whole : some_if (not (eqb (length case % 16) 0)) 0 ≡ None) where
    pub case_2 : (i : ℕ) → first_bad (bad_form (rows case)) (row_count case) ≡ Some i → case_refusal case ≡ Some (2, i)
    unfolding case_causes
    case_2 i e = rw (whole, e, first_cause)

    module _ (form : first_bad (bad_form (rows case)) (row_count case) ≡ None) where
      pub case_3 : (i : ℕ) → first_bad (bad_order (rows case)) (row_count case) ≡ Some i → case_refusal case ≡ Some (3, i)
      unfolding case_causes
      case_3 i e = rw (whole, form, e, first_cause)

      module _ (order : first_bad (bad_order (rows case)) (row_count case) ≡ None) where
        pub case_4 : bad_counts (rows case) ≡ true → case_refusal case ≡ Some (4, 0)
        unfolding case_causes
        case_4 e = rw (whole, form, order, e, first_cause)

        module _ (counts : bad_counts (rows case) ≡ false) where
          pub case_5 : (i : ℕ) → first_bad (bad_range (rows case)) (row_count case) ≡ Some i → case_refusal case ≡ Some (5, i)
          unfolding case_causes
          case_5 i e = rw (whole, form, order, counts, e, first_cause)

    -- after 5
    module _ {n m : ℕ} (c : CleanCase case n m) where
      pub case_13 : (i : ℕ) → first_bad (bad_lot (rows case)) (row_count case) ≡ Some i → case_refusal case ≡ Some (13, i)
      unfolding case_causes
      case_13 i e = rw (whole, c.form, c.order, c.counts, c.range, e, first_cause)

      pub case_clean : first_bad (bad_lot (rows case)) (row_count case) ≡ None → case_refusal case ≡ None
      unfolding case_causes
      case_clean e = rw (whole, c.form, c.order, c.counts, c.range, e, first_cause)

-- ---- a clean case
pub counts_within : (n m : ℕ) → (not_within 1 512 n || not_within 1 64 m) ≡ false → ((1 ≤ n) × (n ≤ 512)) × ((1 ≤ m) × (m ≤ 64))
counts_within n m e =
    let r : (not_within 1 512 n ≡ false) × (not_within 1 64 m ≡ false) = or_false (not_within 1 512 n) _ e in
    (within 1 512 n r.0, within 1 64 m r.1)

module _ (case : List ℕ) (n m : ℕ) (c : CleanCase case n m) where
  pub clean : CleanTo case (row_count case)
  clean = clean_all case c.form c.order

  pub few : ((1 ≤ n) × (n ≤ 512)) × ((1 ≤ m) × (m ≤ 64))
  unfolding bad_counts market_of
  few = rw (c.students, c.workshops) (counts_within (market_in case).students (market_in case).workshops c.counts)

  -- the same by the market's counts
  pub sound : CleanCase case (market_in case).students (market_in case).workshops
  sound = record { form = c.form; order = c.order; counts = c.counts; range = c.range; students = refl; workshops = refl }

  pub all_pairs : (n + m ≤ row_count case) × (row_count case - n - m ≡ pair_count case)
  all_pairs =
      let s : Sorted case (row_count case) (market_in case).students (market_in case).workshops (pair_count case) = places case clean in
      (omega (arith, s.whole, c.students, c.workshops), omega (arith, s.whole, c.students, c.workshops))

-- ---- answers
pub refused_as : (case : List ℕ) (o : Option (ℕ × ℕ)) (k i : ℕ) (r : Refusal) → r ≡ refusal_for k i → o ≡ Some (k, i) → Err r ≡ checked_of o case
unfolding checked_of
refused_as case o k i r q e = rw (e, q)

pub clean_as : (case : List ℕ) (o : Option (ℕ × ℕ)) (n m p : ℕ) → o ≡ None → n ≡ (market_in case).students → m ≡ (market_in case).workshops
    → p ≡ pair_count case → checked_of o case ≡ Ok (record { students = n; workshops = m; pairs = p })
unfolding checked_of
clean_as case o n m p e a b d = rw (e, a, b, d)

-- what the order's scan counts in all
module _ (case : List ℕ) (n m : ℕ) (c : Counted case (row_count case) n m) where
  pub all_students : n ≡ (market_in case).students
  unfolding market_of rows
  all_students = c.students ∙ ap (tally (of_kind 1)) (tabulate_take (row_at case) (row_count case) (row_count case) (omega arith))

  pub all_workshops : m ≡ (market_in case).workshops
  unfolding market_of rows
  all_workshops = c.workshops ∙ ap (tally (of_kind 2)) (tabulate_take (row_at case) (row_count case) (row_count case) (omega arith))

  pub counts_same : bad_counts (rows case) ≡ (not_within 1 512 n || not_within 1 64 m)
  unfolding bad_counts market_of
  counts_same = rw (all_students, all_workshops)

-- what is refused is not clean
pub refused_none : {A : Type 0} (o : Option (ℕ × ℕ)) (k i : ℕ) → o ≡ Some (k, i) → o ≡ None → A
refused_none o k i e n = let z : ◌≡◌ {A = ℕ} 0 1 = cc in absurd (omega arith)

-- ---- what an answer says

-- none of the causes finds anything
abbrev AllNone : List Cause → Type 0
AllNone [] = Unit {0}
AllNone (c ∷ cs) = (finds c.1 ≡ None) × AllNone cs

all_none : (cs : List Cause) → first_cause cs ≡ None → AllNone cs
all_none [] e = tt
all_none ((k, t) ∷ cs) e = go (finds t) refl (all_none cs)
  where
    go : (o : Option ℕ) → finds t ≡ o → (first_cause cs ≡ None → AllNone cs) → (finds t ≡ None) × AllNone cs
    go None f rest = (f, rest (rw (f, first_cause) at e))
    go (Some i) f rest = let g : ◌≡◌ {A = Option (ℕ × ℕ)} (Some (k, i)) None = rw (f, first_cause) at e in let z : ◌≡◌ {A = ℕ} 0 1 = cc in absurd (omega arith)

-- ---- what the answer for the case says
module _ (case : List ℕ) where
  pub as_refused : (o : Option (ℕ × ℕ)) (r : Refusal) → Err r ≡ checked_of o case → (q : ℕ × ℕ) × (o ≡ Some q) × (r ≡ refusal_for q.0 q.1)
  unfolding checked_of
  as_refused None r e = absurd (apart r _ e)
    where
      apart : (r : Refusal) (c : Counts) → ◌≡◌ {A = Result Counts Refusal} (Err r) (Ok c) → ⊥
      apart r c e = cc
  as_refused (Some q) r e = (q, refl, cc)

  pub as_clean : (o : Option (ℕ × ℕ)) (c : Counts) → Ok c ≡ checked_of o case → (o ≡ None) × (c.students ≡ (market_in case).students) ×
      (c.workshops ≡ (market_in case).workshops) × (c.pairs ≡ pair_count case)
  unfolding checked_of
  as_clean None c e =
      let f : c ≡ record { students = (market_in case).students; workshops = (market_in case).workshops; pairs = pair_count case } = cc in
      rw f (refl, refl, refl, refl)
  as_clean (Some r) c e = let z : ◌≡◌ {A = ℕ} 0 1 = cc in absurd (omega arith)

  pub none_clean : case_refusal case ≡ None → CleanCase case (market_in case).students (market_in case).workshops
  unfolding case_causes
  none_clean e =
      let r : AllNone (case_causes case) = all_none (case_causes case) e in
      record {
        form = r.1.0;
        order = r.1.1.0;
        counts = flag (bad_counts (rows case))
            r.1.1.1.0;
        range = r.1.1.1.1.0;
        students = refl;
        workshops = refl;
      }
    where
      flag : (b : Bool) → some_if b 0 ≡ None → b ≡ false
      flag true e = let z : ◌≡◌ {A = ℕ} 0 1 = cc in absurd (omega arith)
      flag false e = refl
