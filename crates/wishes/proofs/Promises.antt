-- What is promised of the two parts for wish lines. An answer comes about in one of three ways: by the case's causes, by the room, or by the part's own work.
use Prim.Native.Nat.{ℕ, ◌≤◌, ◌<◌}
use mathlib.Core.Path.{◌≡◌, refl, sym, ap, ◌∙◌}
use mathlib.Core.Logic.{inl, inr, ⊎_elim}
use mathlib.Core.List.{List, [], ◌++◌}
use mathlib.Core.List.Memᴰ.{append_left as in_left}
use mathlib.Core.List.Memᴰ.{append_right as in_right}
use mathlib.Core.List.Memᴰ.{head as here}
use Rattle.std.specs.Prelude.{Option, Some, None}
use native.Mathlib.Omega.{arith}
use lib.ListN.{length, drop}
use lib.Seq.{take-append_seam}
use borrow.Author.Tests.{lt-ltb, le-ltb}
use Rattle.base.specs.Lists.{any, tally}
use Rattle.base.proofs.Tests.{less?}
use Rattle.base.proofs.Below.{tabulate_length, tally_le}
use Rattle.lgs.specs.Market.{Market}
use Rattle.format.specs.Layout.{row_at, rows, row_count, of_kind}
use Rattle.format.specs.Causes.{Cause, first_cause, NothingFound}
use Rattle.format.specs.Refusals.{case_causes}
use Rattle.format.specs.Engine.{market_in}
use Rattle.format.proofs.Causes.{table_none, none_table, table_some, first_left, first_right, other_number}
use Rattle.format.proofs.Buffers.{head_length, past_head}
use Rattle.format.proofs.Cases.{case_counts}
use Rattle.wish_lines.specs.Lines.{Line, lines_text}
use Rattle.wish_lines.specs.Reading.{Reading, read, refused, read_lines, Fault, departs, left_over, names, FirstFault}
use Rattle.wish_lines.specs.Wishes.{lines_of, wish_text, SameWishes}
use Rattle.wish_lines.proofs.Written.{written_order, read_back_lem}
use Rattle.wish_lines.proofs.Rising.{lines_rise}
use Rattle.wish_lines.proofs.Equal.{equal_lines}
use Rattle.wish_lines.proofs.Ranged.{ranged, text_room_lem}
use Rattle.wish_lines.proofs.Causes.{read_exactly, refused_exactly}
use Rattle.wish_lines.proofs.Naming.{named_exactly}
use Rattle.wish_lines.proofs.SamePairs.{read_too}
use Rattle.wishes.specs.Copy.{wished}
use Rattle.wishes.specs.Outcome.{WishesOutcome, given, ungiven, text_room, lent_causes}
use Rattle.wishes.specs.Outcome.{write_causes, read_causes, unless_found, copy_for, write_wishes, read_wishes}
use Rattle.wishes.specs.Outcome.{wishes_after}
use Rattle.wishes.specs.Promises.{IsLines, CopyOf, WritePromised, ReadPromised, WriteThenRead, EqualLines, ReadExactly, LinesRefused, NamedOnce, AnyOrder}
use Rattle.wishes.specs.Promises.{ReadIntoAnother, WrittenRising, WishesSix, SevenCauses, BufferKept, WishesKept}
use Rattle.wishes.proofs.Case.{unseen, tally_new, new_rows}
use Rattle.wishes.proofs.Copy.{own_groups, written_copy}
use Rattle.wishes.proofs.Valid.{copy_length}
use Rattle.wishes.proofs.Kept.{copy_of}
use Rattle.wishes.proofs.Reordered.{read_alike}

-- ---- the causes of the case and the room

pub seven_causes : SevenCauses
unfolding write_causes read_causes lent_causes case_causes
seven_causes case room = (refl, refl)

module _ (case : List ℕ) (needed room : ℕ) where
  abbrev tested : List Cause
  tested = lent_causes case needed room

  pub first_case : (k i : ℕ) → first_cause (case_causes case) ≡ Some (k, i) → first_cause tested ≡ Some (k, i)
  unfolding lent_causes
  first_case k i e = first_left (case_causes case) _ (k, i) e

  pub first_room : first_cause (case_causes case) ≡ None → room < needed → first_cause tested ≡ Some (6, 0)
  unfolding lent_causes
  first_room e l = first_right (case_causes case) _ e ∙ rw (lt-ltb room needed l)

  pub first_none : first_cause (case_causes case) ≡ None → needed ≤ room → first_cause tested ≡ None
  unfolding lent_causes
  first_none e l = first_right (case_causes case) _ e ∙ rw (le-ltb room needed l)

  -- what the first cause says
  data Way : Option (ℕ × ℕ) → Type 0 where
    by_case : (k i : ℕ) → first_cause (case_causes case) ≡ Some (k, i) → Way (Some (k, i))
    by_room : first_cause (case_causes case) ≡ None → room < needed → Way (Some (6, 0))
    by_work : first_cause (case_causes case) ≡ None → needed ≤ room → Way None

  way : Way (first_cause tested)
  way = by_case_lem (first_cause (case_causes case)) refl
    where
      by_case_lem : (o : Option (ℕ × ℕ)) → first_cause (case_causes case) ≡ o → Way (first_cause tested)
      by_case_lem (Some (k, i)) e = rw (first_case k i e) (by_case k i e)
      by_case_lem None e = ⊎_elim (λ l. rw (first_room e l) (by_room e l)) (λ u. rw (first_none e u) (by_work e u)) (less? room needed)

  case_none : NothingFound tested → NothingFound (case_causes case)
  unfolding lent_causes
  case_none nothing c m = nothing c (in_left _ m)

  room_enough : NothingFound tested → needed ≤ room
  unfolding lent_causes
  room_enough nothing =
      ⊎_elim (λ (l : room < needed). absurd (nothing _ (in_right (case_causes case) (here refl)) 0 (lt-ltb room needed l, refl))) (λ u. u) (less? room needed)

  -- 6 comes from the room alone
  six : (i : ℕ) (o : Option (ℕ × ℕ)) → Way o → o ≡ Some (6, i) → (i ≡ 0) × NothingFound (case_causes case) × (room < needed)
  unfolding case_causes any
  six i o (by_case k j e) q =
      let z : ◌≡◌ {A = ℕ × ℕ} (k, j) (6, i) = cc in
      absurd (other_number 6 (case_causes case) k j refl e (ap (λ p. p.0) z))
  six i o (by_room e l) q = let z : ◌≡◌ {A = ℕ × ℕ} (6, 0) (6, i) = cc in (sym (ap (λ p. p.1) z), table_none (case_causes case) e, l)
  six i o (by_work e u) q = let z : ◌≡◌ {A = ℕ} 0 1 = cc in absurd (omega arith)

-- ---- the answers

module _ (case : List ℕ) (room : ℕ) where
  pub write_found : (k i : ℕ) → first_cause (write_causes case room) ≡ Some (k, i) → write_wishes case room ≡ ungiven k i
  unfolding write_wishes unless_found
  write_found k i e = rw e

  pub write_given : first_cause (write_causes case room) ≡ None → write_wishes case room ≡ given (wish_text (market_in case))
  unfolding write_wishes unless_found
  write_given e = rw e

  module _ (text : List ℕ) where
    pub read_found : (k i : ℕ) → first_cause (read_causes case room) ≡ Some (k, i) → read_wishes case text room ≡ ungiven k i
    unfolding read_wishes unless_found
    read_found k i e = rw e

    pub read_worked : first_cause (read_causes case room) ≡ None → read_wishes case text room ≡ copy_for case (read_lines (market_in case) text)
    unfolding read_wishes unless_found
    read_worked e = rw e

-- what is written fits
pub text_fits : (case : List ℕ) → NothingFound (case_causes case) → length (wish_text (market_in case)) ≤ text_room case
unfolding text_room
text_fits = text_room_lem

-- the case's own causes
write_case : (case : List ℕ) (room : ℕ) → NothingFound (write_causes case room) → NothingFound (case_causes case)
unfolding write_causes
write_case case room = case_none case (text_room case) room

read_case : (case : List ℕ) (room : ℕ) → NothingFound (read_causes case room) → NothingFound (case_causes case)
unfolding read_causes
read_case case room = case_none case (length case) room

pub write_promised : (case : List ℕ) (room : ℕ) → WritePromised case room (write_wishes case room)
write_promised case room = go (first_cause (write_causes case room)) refl
  where
    go : (o : Option (ℕ × ℕ)) → first_cause (write_causes case room) ≡ o → WritePromised case room (write_wishes case room)
    go (Some (k, i)) e = rw (write_found case room k i e) (table_some (write_causes case room) k i e)
    go None e =
        let nothing : NothingFound (write_causes case room) = table_none (write_causes case room) e in
        rw (write_given case room e) (nothing, refl, text_fits case (write_case case room nothing))

-- ---- reading

is_lines : (M : Market) (text : List ℕ) (ls : List Line) → read_lines M text ≡ read ls → IsLines M text ls
is_lines M text ls e = let r = (read_exactly M text ls).0 e in record { whole = r.0; many = r.1; fit = r.2 }

lines_are : (M : Market) (text : List ℕ) (ls : List Line) → IsLines M text ls → read_lines M text ≡ read ls
lines_are M text ls i = (read_exactly M text ls).1 (i.whole, i.many, i.fit)

pub read_promised : (case text : List ℕ) (room : ℕ) → ReadPromised case text room (read_wishes case text room)
unfolding copy_for
read_promised case text room = go (first_cause (read_causes case room)) refl
  where
    by_lines : NothingFound (read_causes case room) → (r : Reading) → read_lines (market_in case) text ≡ r → ReadPromised case text room (copy_for case r)
    by_lines nothing (read ls) e = (nothing, (ls, is_lines (market_in case) text ls e, copy_of case (read_case case room nothing) text ls e))
    by_lines nothing (refused k i) e = inr (nothing, (refused_exactly (market_in case) text k i).0 e)

    go : (o : Option (ℕ × ℕ)) → first_cause (read_causes case room) ≡ o → ReadPromised case text room (read_wishes case text room)
    go (Some (k, i)) e = rw (read_found case room text k i e) (inl (table_some (read_causes case room) k i e))
    go None e = rw (read_worked case room text e) (by_lines (table_none (read_causes case room) e) (read_lines (market_in case) text) refl)

-- ---- the promises of their own

given_same : (a b : List ℕ) → given a ≡ given b → a ≡ b
given_same a b e = ap bytes e
  where
    bytes : WishesOutcome → List ℕ
    bytes (given t) = t
    bytes (ungiven k i) = []

-- an answer with a text is that of a case that passes
written : (case text : List ℕ) (room : ℕ) → write_wishes case room ≡ given text → NothingFound (write_causes case room) × (text ≡ wish_text (market_in case))
written case text room e = go (first_cause (write_causes case room)) refl
  where
    go : (o : Option (ℕ × ℕ)) → first_cause (write_causes case room) ≡ o → NothingFound (write_causes case room) × (text ≡ wish_text (market_in case))
    go (Some (k, i)) f = let z : ungiven k i ≡ given text = sym (write_found case room k i f) ∙ e in let y : ◌≡◌ {A = ℕ} 0 1 = cc in absurd (omega arith)
    go None f = (table_none (write_causes case room) f, given_same text _ (sym e ∙ write_given case room f))

-- the copy of a case needs as much room for its lines
room_copied : (case : List ℕ) (ls : List Line) → NothingFound (case_causes case) → (market_in (wished ls case)).students ≡ (market_in case).students
    → text_room (wished ls case) ≡ text_room case
unfolding text_room
room_copied case ls nothing same =
    omega (arith, same, ap (tally (of_kind 3)) (new_rows ls case nothing) ∙ tally_new ls (of_kind 3) (unseen ls (of_kind 3) (λ r x. refl)) (rows case))

pub read_into_another : ReadIntoAnother
unfolding write_causes read_causes copy_for
read_into_another case case' text room copy_room again e nothing' students pairs enough =
    let w = written case text room e in
    let N : NothingFound (case_causes case) = write_case case room w.0 in
    let N' : NothingFound (case_causes case') = read_case case' copy_room nothing' in
    let M : Market = market_in case in
    let ls : List Line = lines_of M in
    let copy : List ℕ = wished ls case' in
    let back : read_lines (market_in case') text ≡ read ls =
    read_too M (market_in case') (ranged case N) (ranged case' N') students pairs text ls (ap (read_lines M) w.1 ∙ read_back_lem M (ranged case N)) in
    let kept : CopyOf case' copy ls = copy_of case' N' text ls back in
    let same : SameWishes M (market_in copy) = written_copy case N case' N' students pairs in
    let first : first_cause (write_causes copy again) ≡ None =
    first_none copy (text_room copy) again (none_table (case_causes copy) kept.valid) (omega (arith, room_copied case' ls N' kept.rest.students)) in
    let lines : wish_text M ≡ wish_text (market_in copy) = (equal_lines M (market_in copy) (ranged case N) (ranged copy kept.valid)).1 same in (
      copy,
      read_worked case' copy_room text (none_table (read_causes case' copy_room) nothing') ∙ ap (copy_for case') back,
      kept,
      same,
      write_given copy again first ∙ ap given (sym lines ∙ sym w.1),
    )

pub write_then_read : WriteThenRead
unfolding write_causes read_causes
write_then_read case text room copy_room e enough =
    let w = written case text room e in
    let first : first_cause (read_causes case copy_room) ≡ None =
    first_none case (length case) copy_room (none_table (case_causes case) (write_case case room w.0)) enough in
    read_into_another case case text room copy_room room e (table_none (read_causes case copy_room) first) refl (λ s v. refl)
    (room_enough case (text_room case) room w.0)

pub written_rising : WrittenRising
written_rising case text room e =
    let w = written case text room e in
    let nothing : NothingFound (case_causes case) = write_case case room w.0 in
    let M : Market = market_in case in (
      lines_of M,
      is_lines M text (lines_of M) (ap (read_lines M) w.1 ∙ read_back_lem M (ranged case nothing)),
      lines_rise M,
      λ s x y l u p q. rw (own_groups case nothing s l u) (written_order M (ranged case nothing) s l u x y p q).0,
    )

pub equal_written : EqualLines
equal_written case case' text text' room room' e e' =
    let w = written case text room e in
    let w' = written case' text' room' e' in
    rw (w.1, w'.1)
    (equal_lines (market_in case) (market_in case') (ranged case (write_case case room w.0)) (ranged case' (write_case case' room' w'.0)))

pub read_lines_exactly : ReadExactly
unfolding copy_for
read_lines_exactly case text copy room nothing =
    let worked = read_worked case room text (none_table (read_causes case room) nothing) in (
      λ e. by_lines (read_lines (market_in case) text) refl (sym worked ∙ e),
      λ r. worked ∙ (ap (copy_for case) (lines_are (market_in case) text r.0 r.1) ∙ ap given (sym r.2)),
    )
  where
    by_lines : (r : Reading) → read_lines (market_in case) text ≡ r → copy_for case r ≡ given copy
        → (ls : List Line) × IsLines (market_in case) text ls × (copy ≡ wished ls case)
    by_lines (read ls) e f = (ls, is_lines (market_in case) text ls e, sym (given_same (wished ls case) copy f))
    by_lines (refused k i) e f = let y : ◌≡◌ {A = ℕ} 0 1 = cc in absurd (omega arith)

pub lines_refused : LinesRefused
unfolding copy_for
lines_refused case text room k i nothing =
    let worked = read_worked case room text (none_table (read_causes case room) nothing) in (
      λ e. by_lines (read_lines (market_in case) text) refl (sym worked ∙ e),
      λ r. worked ∙ ap (copy_for case) ((refused_exactly (market_in case) text k i).1 r),
    )
  where
    by_lines : (r : Reading) → read_lines (market_in case) text ≡ r → copy_for case r ≡ ungiven k i → FirstFault (market_in case)
        (market_in case).students 0 text k i
    by_lines (read ls) e f = let y : ◌≡◌ {A = ℕ} 0 1 = cc in absurd (omega arith)
    by_lines (refused c j) e f =
        let p : c ≡ k = cc in
        let q : j ≡ i = cc in
        (refused_exactly (market_in case) text k i).0 (e ∙ (ap (λ x. refused x j) p ∙ ap (refused k) q))

pub named_once : NamedOnce
named_once case l nothing = named_exactly (market_in case) (ranged case nothing) l

pub any_order : AnyOrder
any_order case rest room ls ls' f o = go (first_cause (read_causes case room)) refl
  where
    go : (r : Option (ℕ × ℕ)) → first_cause (read_causes case room) ≡ r
        → read_wishes case (lines_text ls ++ rest) room ≡ read_wishes case (lines_text ls' ++ rest) room
    go (Some (k, i)) e = read_found case room (lines_text ls ++ rest) k i e ∙ sym (read_found case room (lines_text ls' ++ rest) k i e)
    go None e =
        let R = ranged case (read_case case room (table_none (read_causes case room) e)) in
        read_worked case room (lines_text ls ++ rest) e ∙ (read_alike case rest R ls ls' f o ∙ sym (read_worked case room (lines_text ls' ++ rest) e))

-- ---- room and buffers

-- a line's refusal is 14 or 15
line_number : {M : Market} {n k : ℕ} {t : List ℕ} {c : ℕ} → Fault M n k t c → c ≡ 6 → ⊥
line_number (departs l h) e = omega arith
line_number (left_over l h) e = omega arith
line_number (names l k t f s q d) e = omega arith

pub few_pairs : (case : List ℕ) → tally (of_kind 3) (rows case) ≤ row_count case
unfolding rows
few_pairs case = omega (arith, tally_le (of_kind 3) (rows case), tabulate_length (row_at case) (row_count case))

pub wishes_six : WishesSix
unfolding write_causes read_causes text_room
wishes_six =
    record {
      write = λ case room i. (
        six_written case room i,
        λ r. rw r.0 (write_found case room 6 0
            (first_room case (text_room case) room (none_table (case_causes case) r.1) r.2)),
      );
      read = λ case text room i. (
        six_read case text room i,
        λ r. rw r.0 (read_found case room text 6 0
            (first_room case (length case) room (none_table (case_causes case) r.1) r.2)),
      );
      enough = λ case nothing. omega (arith, few_pairs case, (case_counts case nothing).0.1);
    }
  where
    number : WishesOutcome → ℕ × ℕ
    number (given t) = (0, 0)
    number (ungiven k i) = (k, i)

    six_written : (case : List ℕ) (room i : ℕ) → write_wishes case room ≡ ungiven 6 i → (i ≡ 0) × NothingFound (case_causes case) × (room < text_room case)
    six_written case room i e = go (first_cause (write_causes case room)) refl
      where
        go : (o : Option (ℕ × ℕ)) → first_cause (write_causes case room) ≡ o → (i ≡ 0) × NothingFound (case_causes case) × (room < text_room case)
        go (Some (k, j)) f =
            let z : ◌≡◌ {A = ℕ × ℕ} (k, j) (6, i) = ap number (sym (write_found case room k j f) ∙ e) in
            six case (text_room case) room i (first_cause (write_causes case room)) (way case (text_room case) room) (f ∙ ap Some z)
        go None f = let z : given _ ≡ ungiven 6 i = sym (write_given case room f) ∙ e in let y : ◌≡◌ {A = ℕ} 0 1 = cc in absurd (omega arith)

    six_read : (case text : List ℕ) (room i : ℕ) → read_wishes case text room ≡ ungiven 6 i → (i ≡ 0) × NothingFound (case_causes case) × (room < length case)
    six_read case text room i e = go (first_cause (read_causes case room)) refl
      where
        go : (o : Option (ℕ × ℕ)) → first_cause (read_causes case room) ≡ o → (i ≡ 0) × NothingFound (case_causes case) × (room < length case)
        go (Some (k, j)) f =
            let z : ◌≡◌ {A = ℕ × ℕ} (k, j) (6, i) = ap number (sym (read_found case room text k j f) ∙ e) in
            six case (length case) room i (first_cause (read_causes case room)) (way case (length case) room) (f ∙ ap Some z)
        go None f = absurd (line_number ((lines_refused case text room 6 i (table_none (read_causes case room) f)).0 e).fault refl)

-- a buffer with these bytes at its head
kept : (o : WishesOutcome) (out : List ℕ) → ((t : List ℕ) → o ≡ given t → length t ≤ length out) → BufferKept o out
unfolding wishes_after
kept (given t) out h =
    record {
      long = head_length t out (h t refl);
      head = λ bytes e. let q : t ≡ bytes = given_same t bytes e in rw (← q) (take-append_seam t (drop (length t) out));
      past = λ bytes e i u. past_head t out i (omega (arith, ap length (given_same t bytes e)));
      as_found = λ k i e. let y : ◌≡◌ {A = ℕ} 0 1 = cc in absurd (omega arith);
    }
kept (ungiven k i) out h =
    record {
      long = refl;
      head = λ bytes e. let y : ◌≡◌ {A = ℕ} 0 1 = cc in absurd (omega arith);
      past = λ bytes e i u. refl;
      as_found = λ k i e. refl;
    }

pub wishes_kept : WishesKept
unfolding write_causes read_causes
wishes_kept = record {
  write = λ case text. kept (write_wishes case (length text)) text (λ t e. by_write case text t e);
  read =
      λ case text copy. kept (read_wishes case text (length copy)) copy (λ t e. by_read case text copy t e);
}
  where
    by_write : (case text t : List ℕ) → write_wishes case (length text) ≡ given t → length t ≤ length text
    by_write case text t e =
        let w = written case t (length text) e in
        omega (arith, ap length w.1, text_fits case (write_case case (length text) w.0), room_enough case (text_room case) (length text) w.0)

    by_read : (case text copy t : List ℕ) → read_wishes case text (length copy) ≡ given t → length t ≤ length copy
    by_read case text copy t e = go (first_cause (read_causes case (length copy))) refl
      where
        go : (o : Option (ℕ × ℕ)) → first_cause (read_causes case (length copy)) ≡ o → length t ≤ length copy
        go (Some (k, j)) f = let z : ungiven k j ≡ given t = sym (read_found case (length copy) text k j f) ∙ e in let y : ◌≡◌ {A = ℕ} 0 1 = cc in absurd
            (omega arith)
        go None f =
            let nothing : NothingFound (read_causes case (length copy)) = table_none (read_causes case (length copy)) f in
            let r = (read_lines_exactly case text t (length copy) nothing).0 e in
            let long = copy_length case (read_case case (length copy) nothing) text r.0 (lines_are (market_in case) text r.0 r.1) in
            omega (arith, ap length r.2, long, room_enough case (length case) (length copy) nothing)
