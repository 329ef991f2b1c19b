-- From what the code has found to the answers of the two parts.
use Prim.Native.Nat.{ℕ, ◌+◌, ◌*◌, ◌≤◌, ◌<◌}
use mathlib.Core.Path.{◌≡◌, refl, sym, ap, ◌∙◌}
use mathlib.Core.List.{List}
use Rattle.std.specs.Prelude.{Some, None, Ok, Err}
use native.Mathlib.Omega.{arith}
use lib.ListN.{length}
use Rattle.format.specs.Layout.{row_count}
use Rattle.format.specs.Causes.{first_cause, NothingFound}
use Rattle.format.specs.Refusals.{case_causes}
use Rattle.format.specs.Engine.{market_in}
use Rattle.format.specs.Buffers.{with_head}
use Rattle.format.proofs.Causes.{table_none}
use Rattle.format.proofs.Cases.{case_counts}
use Rattle.case_tests.specs.Checked.{case_refusal, pair_count}
use Rattle.wish_lines.specs.Reading.{read, refused, read_lines}
use Rattle.wish_lines.specs.Lines.{Line}
use Rattle.wish_lines.specs.Wishes.{wish_text}
use Rattle.wishes.specs.Copy.{wished}
use Rattle.wishes.specs.Outcome.{WishesOutcome, given, ungiven, text_room, write_causes, read_causes, copy_for, write_wishes, read_wishes, wishes_after}
use Rattle.api.specs.declared.Refusal.{Refusal}
use Rattle.api.specs.Causes.{number_of, cause_of, refusal_for}
use Rattle.api.proofs.Causes.{number_tabled, cause_back}
use Rattle.wishes.specs.Answered.{wishes_answer_for, Gives, WriteAnswered, ReadAnswered}
use Rattle.wishes.proofs.Answers.{wishes_values_lem, lent_listed}
use Rattle.wishes.proofs.Promises.{first_case, first_room, first_none, write_found, write_given}
use Rattle.wishes.proofs.Promises.{read_found, read_worked, write_promised, read_promised, few_pairs}

-- ---- an outcome as answer and buffer

gives_bytes : (o : WishesOutcome) (bytes out : List ℕ) → o ≡ given bytes → Gives o out (Ok (length bytes)) (with_head bytes out)
unfolding wishes_answer_for wishes_after
gives_bytes o bytes out e = record { answer = rw e; values = rw e (wishes_values_lem (given bytes) tt); in_buffer = rw e }

gives_refusal : (o : WishesOutcome) (k i : ℕ) (r : Refusal) (out : List ℕ) → r ≡ refusal_for k i → number_of (cause_of k) ≡ k → o ≡ ungiven k i
    → Gives o out (Err r) out
unfolding wishes_answer_for wishes_after
gives_refusal o k i r out q t e = rw (q, e) (record { answer = refl; values = wishes_values_lem (ungiven k i) t; in_buffer = refl })

-- ---- the part that writes
module _ (case text : List ℕ) where
  write_refused : (k i : ℕ) (r : Refusal) → r ≡ refusal_for k i → first_cause (write_causes case (length text)) ≡ Some (k, i)
      → WriteAnswered case text (Err r) text
  unfolding write_causes
  write_refused k i r q e =
      record {
        gives = gives_refusal (write_wishes case (length text)) k i r text q
            (number_tabled (write_causes case (length text)) k i (lent_listed case (text_room case) (length text)) e)
            (write_found case (length text) k i e);
        promised = write_promised case (length text);
      }

  pub write_by_case : (k i : ℕ) (r : Refusal) → r ≡ refusal_for k i → case_refusal case ≡ Some (k, i) → WriteAnswered case text (Err r) text
  unfolding write_causes
  write_by_case k i r q e = write_refused k i r q (first_case case (text_room case) (length text) k i e)

  module _ (e : case_refusal case ≡ None) where
    pub write_by_room : (r : Refusal) → r ≡ refusal_for 6 0 → length text < 8 * (market_in case).students + 4 * pair_count case
        → WriteAnswered case text (Err r) text
    unfolding write_causes text_room
    write_by_room r q l = write_refused 6 0 r q (first_room case (text_room case) (length text) e l)

    pub write_done : 8 * (market_in case).students + 4 * pair_count case ≤ length text → (n : ℕ) (text' : List ℕ) → n ≡ length (wish_text (market_in case))
        → text' ≡ with_head (wish_text (market_in case)) text
        → WriteAnswered case text (Ok n) text'
    unfolding write_causes text_room
    write_done l n text' a b =
        rw (a, b)
        (record {
          gives = gives_bytes (write_wishes case (length text)) (wish_text (market_in case)) text
              (write_given case (length text) (first_none case (text_room case) (length text) e l));
          promised = write_promised case (length text);
        })

-- ---- the part that reads
module _ (case text copy : List ℕ) where
  read_refused : (k i : ℕ) (r : Refusal) → r ≡ refusal_for k i → number_of (cause_of k) ≡ k → read_wishes case text (length copy) ≡ ungiven k i
      → ReadAnswered case text copy (Err r) copy
  read_refused k i r q t e =
      record { gives = gives_refusal (read_wishes case text (length copy)) k i r copy q t e; promised = read_promised case text (length copy) }

  read_before : (k i : ℕ) (r : Refusal) → r ≡ refusal_for k i → first_cause (read_causes case (length copy)) ≡ Some (k, i)
      → ReadAnswered case text copy (Err r) copy
  unfolding read_causes
  read_before k i r q e =
      read_refused k i r q (number_tabled (read_causes case (length copy)) k i (lent_listed case (length case) (length copy)) e)
      (read_found case (length copy) text k i e)

  pub read_by_case : (k i : ℕ) (r : Refusal) → r ≡ refusal_for k i → case_refusal case ≡ Some (k, i) → ReadAnswered case text copy (Err r) copy
  unfolding read_causes
  read_by_case k i r q e = read_before k i r q (first_case case (length case) (length copy) k i e)

  module _ (e : case_refusal case ≡ None) where
    pub read_by_room : (r : Refusal) → r ≡ refusal_for 6 0 → length copy < length case → ReadAnswered case text copy (Err r) copy
    unfolding read_causes
    read_by_room r q l = read_before 6 0 r q (first_room case (length case) (length copy) e l)

    module _ (l : length case ≤ length copy) where
      pub read_by_line : (r : Refusal) → read_lines (market_in case) text ≡ refused (number_of r.cause) r.place → ReadAnswered case text copy (Err r) copy
      unfolding read_causes copy_for
      read_by_line r f =
          read_refused (number_of r.cause) r.place r (ap (λ c. record { cause = c; place = r.place }) (sym (cause_back r.cause)))
          (ap number_of (cause_back r.cause))
          (read_worked case (length copy) text (first_none case (length case) (length copy) e l) ∙ ap (copy_for case) f)

      pub read_done : (ls : List Line) (n : ℕ) (copy' : List ℕ) → read_lines (market_in case) text ≡ read ls → n ≡ length (wished ls case)
          → copy' ≡ with_head (wished ls case) copy
          → ReadAnswered case text copy (Ok n) copy'
      unfolding read_causes copy_for
      read_done ls n copy' f a b =
          rw (a, b)
          (record {
            gives = gives_bytes (read_wishes case text (length copy)) (wished ls case) copy
                (read_worked case (length copy) text (first_none case (length case) (length copy) e l) ∙ ap (copy_for case) f);
            promised = read_promised case text (length copy);
          })

-- ---- counts

pub few : (case : List ℕ) → case_refusal case ≡ None
    → ((1 ≤ (market_in case).students) × ((market_in case).students ≤ 512)) × ((1 ≤ (market_in case).workshops) × ((market_in case).workshops ≤ 64))
few case e = case_counts case (table_none (case_causes case) e)

pub passed : (case : List ℕ) → case_refusal case ≡ None → NothingFound (case_causes case)
passed case e = table_none (case_causes case) e

-- the noted groups of n lines are within those of 512
pub parts_within : (case : List ℕ) → case_refusal case ≡ None → (n : ℕ) → n ≡ (market_in case).students → 65 * n ≤ 33280
parts_within case e n q = omega (arith, few case e)

-- the noted groups of line k are within those of 512
pub part_within : (case : List ℕ) → case_refusal case ≡ None → (k n : ℕ) → n ≡ (market_in case).students → k < n → 65 * k + 65 ≤ 33280
part_within case e k n q l = omega (arith, few case e)

pub few_records : (case : List ℕ) → pair_count case ≤ row_count case
few_records = few_pairs
