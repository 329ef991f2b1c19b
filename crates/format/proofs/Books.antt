-- Two books that share records: the results agree on these.
-- The record found in one is in the other, and there no second one is of the same pair.
use Prim.Native.Nat.{ℕ, zero, suc, ◌<◌}
use mathlib.Core.Path.{◌≡◌, refl, sym, ap, ◌∙◌}
use mathlib.Core.Bool.{true}
use mathlib.Core.List.{List}
use mathlib.Core.List.{Memᴰ as Mem}
use Rattle.base.specs.Lists.{find}
use Rattle.base.proofs.Below.{any_at, tabulate_in, in_tabulate}
use Rattle.lgs.specs.Rule.{Interview, interviewed}
use Rattle.lgs.specs.Promises.{Extends}
use Rattle.lgs.proofs.Agreement.{AgreeOn}
use Rattle.format.specs.Layout.{Entry, entry_at, entry_count, entries, no_entry, is_interview, ends_in_never, results_of}
use Rattle.format.specs.Engine.{results_in}
use Rattle.format.specs.Promises.{ExtendsBook, SameListed}
use Rattle.format.proofs.Reading.{Passed, EntryAt, entry_record, interview_is, entry_found}

-- the results have the interview, with never and the scores of the others
record Same (B B' : List ℕ) (s w : ℕ) : Type 0 where
  met : (results_in B').met s w ≡ true
  never : (results_in B').never s w ≡ (results_in B).never s w
  student : (results_in B').student_score s w ≡ (results_in B).student_score s w
  workshop : (results_in B').workshop_score w s ≡ (results_in B).workshop_score w s

module _ (case book book' : List ℕ) (t : Passed case book') where
  kept : (s w : ℕ)
      → (results_in book).met s w ≡ true
      → ((e : Entry) → e.student ≡ s → e.workshop ≡ w → Mem e (entries book) → Mem e (entries book'))
      → Same book book' s w
  unfolding entries results_of
  kept s w m stays =
      let k : (i : ℕ) × EntryAt book s w i = entry_record book s w m in
      let r : (j : ℕ) × (j < entry_count book') × (entry_at book k.0 ≡ entry_at book' j) =
      tabulate_in (entry_at book') (entry_count book') (entry_at book k.0)
      (stays (entry_at book k.0) k.1.student k.1.workshop (in_tabulate (entry_at book) (entry_count book) k.0 k.1.inside)) in
      let there : is_interview s w (entry_at book' r.0) ≡ true =
      interview_is s w (entry_at book' r.0) (ap (λ e. e.student) (sym r.2) ∙ k.1.student) (ap (λ e. e.workshop) (sym r.2) ∙ k.1.workshop) in
      same (any_at (entry_at book') (is_interview s w) (entry_count book') r.0 r.1 there)
      (entry_found case book' t s w r.0 r.1 there ∙ (sym r.2 ∙ sym k.1.found))
    where
      student : (w : ℕ) → find (is_interview s w) no_entry (entries book') ≡ find (is_interview s w) no_entry (entries book)
          → (results_in book').student_score s w ≡ (results_in book).student_score s w
      student zero e = refl
      student (suc w) e = ap (λ e. e.student_score) e

      workshop : (s : ℕ) → find (is_interview s w) no_entry (entries book') ≡ find (is_interview s w) no_entry (entries book)
          → (results_in book').workshop_score w s ≡ (results_in book).workshop_score w s
      workshop zero e = refl
      workshop (suc s) e = ap (λ e. e.workshop_score) e

      same : (results_in book').met s w ≡ true → find (is_interview s w) no_entry (entries book') ≡ find (is_interview s w) no_entry (entries book)
          → Same book book' s w
      same m e = record { met = m; never = ap ends_in_never e; student = student w e; workshop = workshop s e }

  pub extends : ExtendsBook book book' → Extends (results_in book) (results_in book')
  unfolding results_of
  extends more =
      record {
        met = λ s w m. (all s w m).met;
        never = λ s w m. (all s w m).never;
        student = λ s w m. (all s w m).student;
        workshop = λ s w m. (all s w m).workshop;
        student_outside = λ s. refl;
        workshop_outside = λ w. refl;
      }
    where
      all : (s w : ℕ) → (results_in book).met s w ≡ true → Same book book' s w
      all s w m = kept s w m (λ e p q. more e)

  pub agree_listed : (vs : List Interview)
      → ((s w : ℕ) → interviewed vs s w ≡ true → (results_in book).met s w ≡ true)
      → SameListed vs book book'
      → AgreeOn (interviewed vs) (results_in book) (results_in book')
  unfolding results_of
  agree_listed vs answered same =
      record {
        met = λ s w v. (all s w v).met;
        never = λ s w v. (all s w v).never;
        student = λ s w v. (all s w v).student;
        workshop = λ s w v. (all s w v).workshop;
        student_outside = λ s. refl;
        workshop_outside = λ w. refl;
      }
    where
      all : (s w : ℕ) → interviewed vs s w ≡ true → Same book book' s w
      all s w v = kept s w (answered s w v) (λ e p q. same e (rw (p, q) v))
