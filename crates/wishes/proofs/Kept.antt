-- What holds of the copy of a case with the groups of a text that is read.
use Prim.Native.Nat.{ℕ, zero, suc, ◌+◌, ◌-◌, ◌*◌, ◌/◌, ◌%◌, ◌≤◌, ◌<◌}
use mathlib.Core.Path.{◌≡◌, refl, sym, ap, ◌∙◌, subst, fun_ext}
use mathlib.Core.Logic.{◌⊎◌, inl, inr, ⊎_elim}
use mathlib.Core.List.{List, [], ◌∷◌, ◌++◌, map}
use mathlib.Core.List.Memᴰ.{cases_cons}
use mathlib.Core.List.Memᴰ.{head as here}
use mathlib.Core.List.Memᴰ.{not-nil}
use mathlib.Core.List.Memᴰ.{tail as later}
use mathlib.Core.List.{Memᴰ as Mem}
use mathlib.Core.List.Memᴰ.{append_left as in_left}
use mathlib.Core.List.Memᴰ.{append_right as in_right}
use mathlib.Core.List.Memᴰ.{of_map}
use Rattle.std.specs.Prelude.{Option, Some, None}
use Rattle.std.proofs.lemmas.Option.{same_Some}
use native.Mathlib.Omega.{arith}
use lib.ListN.{length, get_or, take, length-map, get_or-eq_default}
use Rattle.base.specs.Lists.{tally, total}
use Rattle.base.proofs.Tests.{eq?, less?}
use Rattle.base.proofs.Below.{tabulate_length, tabulate_in}
use Rattle.lgs.specs.Market.{Market, all_seats, seats_of}
use Rattle.format.specs.Layout.{Row, Entry, row_at, rows, row_count, of_kind, is_pair, entries, entry_count}
use Rattle.format.specs.Encoding.{row_bytes, Bytes, RowFits}
use Rattle.format.specs.Causes.{Cause, each, finds, first_cause, NothingFound, FoundFirst}
use Rattle.format.specs.Refusals.{Room, needed, bad_room, bad_pair, bad_scores, bad_repeat, bad_tie, case_causes, room_causes, book_causes, causes}
use Rattle.format.specs.Engine.{market_in}
use Rattle.format.specs.Promises.{Valid}
use Rattle.format.proofs.Encoding.{round_trip, row_fits}
use Rattle.format.proofs.Sorted.{row_at_lem}
use Rattle.format.proofs.Causes.{nothing_more, nothing_both, none_table, some_table, first_right}
use Rattle.format.proofs.Cases.{case_whole}
use Rattle.wish_lines.specs.Lines.{Line, position}
use Rattle.wish_lines.specs.Reading.{read, read_lines, FitLine}
use Rattle.wish_lines.specs.Wishes.{Option?}
use Rattle.wish_lines.proofs.Causes.{read_exactly}
use Rattle.wish_lines.proofs.Counted.{each_counted}
use Rattle.wish_lines.proofs.Ranged.{ranged}
use Rattle.wishes.specs.Copy.{with_wish, wished}
use Rattle.wishes.specs.Promises.{SameRest, CopyOf}
use Rattle.wishes.proofs.Case.{unseen, any_new, tally_new, wish_cases, new_rows, copy_rest, copy_tier}
use Rattle.wishes.proofs.Copy.{fit_at, line_range}
use Rattle.wishes.proofs.Valid.{new_at, copy_length, her_range, pair_range, keep_third, copy_nothing}
use Rattle.wishes.proofs.Fields.{byte_at, byte_other, read_byte}

in_take : {A : Type 0} (n : ℕ) (xs : List A) (x : A) → Mem x (take n xs) → Mem x xs
in_take zero xs x m = absurd (not-nil m)
in_take (suc n) [] x m = absurd (not-nil m)
in_take (suc n) (y ∷ xs) x m = ⊎_elim (λ e. here e) (λ k. later (in_take n xs x k)) (cases_cons m)

-- where one cause is left, its number is given
only_last : (c : Cause) (k i : ℕ) → first_cause (c ∷ []) ≡ Some (k, i) → k ≡ c.0
only_last c k i e = go (finds c.1) refl
  where
    go : (o : Option ℕ) → finds c.1 ≡ o → k ≡ c.0
    go None f = let z : ◌≡◌ {A = Option (ℕ × ℕ)} None (Some (k, i)) = rw (f, first_cause) at e in let y : ◌≡◌ {A = ℕ} 0 1 = cc in absurd (omega arith)
    go (Some h) f =
        let z : ◌≡◌ {A = Option (ℕ × ℕ)} (Some (c.0, h)) (Some (k, i)) = rw (f, first_cause) at e in
        let p : ◌≡◌ {A = ℕ × ℕ} (c.0, h) (k, i) = same_Some (c.0, h) (k, i) z in
        sym (ap (λ q. q.0) p)

-- what goes by all seats
seats_same : (M N : Market) → SameRest M N → all_seats M ≡ all_seats N
unfolding all_seats seats_of
seats_same M N r = ap (λ n. total M.quota n) r.workshops ∙ ap (λ q. total q N.workshops) (fun_ext r.quota)

module _ (case : List ℕ) (nothing : NothingFound (case_causes case)) (text : List ℕ) (ls : List Line) (e : read_lines (market_in case) text ≡ read ls) where
  abbrev copy : List ℕ
  copy = wished ls case

  many : length (rows case) ≡ row_count case
  unfolding rows
  many = tabulate_length (row_at case) (row_count case)

  -- ---- its bytes

  third_small : Bytes case → (i : ℕ) → i < row_count case → (with_wish ls (row_at case i)).third < 65536
  third_small b i l =
      ⊎_elim (λ (k : (row_at case i).kind ≡ 1). omega (arith, (her_range case nothing text ls e i l k).1))
      (λ (n : (row_at case i).kind ≡ 1 → ⊥).
      ⊎_elim (λ (k : (row_at case i).kind ≡ 3). omega (arith, (pair_range case nothing text ls e i l k).1))
      (λ (m : (row_at case i).kind ≡ 3 → ⊥). rw (keep_third case nothing text ls e i l n m) (row_fits case i b).third)
      (eq? (row_at case i).kind 3))
      (eq? (row_at case i).kind 1)

  fits_kept : (r : Row) → RowFits r → (with_wish ls r).third < 65536 → RowFits (with_wish ls r)
  fits_kept r f small =
      ⊎_elim
      (λ c.
      rw c.2
      (record {
        kind = f.kind;
        pad = f.pad;
        first = f.first;
        second = f.second;
        third = omega (arith, small, ap (λ q. q.third) c.2);
        fourth = f.fourth;
        fifth = f.fifth;
        sixth = f.sixth;
        seventh = f.seventh;
      }))
      (λ c. rw c f)
      (wish_cases ls r)

  new_bytes : Bytes case → Bytes copy
  unfolding wished rows
  new_bytes b =
      round_trip.case_is_bytes (map (with_wish ls) (rows case))
      (λ r m.
      let x : (q : Row) × Mem q (rows case) × (with_wish ls q ≡ r) = of_map (with_wish ls) (rows case) m in
      let k : (i : ℕ) × (i < row_count case) × (x.0 ≡ row_at case i) = tabulate_in (row_at case) (row_count case) x.0 x.1 in
      subst RowFits (ap (with_wish ls) (sym k.2) ∙ x.2) (fits_kept (row_at case k.0) (row_fits case k.0 b) (third_small b k.0 k.1)))

  new_byte : (i k : ℕ) → i < row_count case → ((k ≡ 6) ⊎ (k ≡ 7) → get_or case (16 * i) 0 ≡ 2)
      → get_or (row_bytes (with_wish ls (row_at case i))) k 0 ≡ get_or (row_bytes (row_at case i)) k 0
  unfolding row_at
  new_byte i k l two = ⊎_elim (λ e. stays (two (inl e))) (λ (a : k ≡ 6 → ⊥). ⊎_elim (λ e. stays (two (inr e))) (other a) (eq? k 7)) (eq? k 6)
    where
      stays : (row_at case i).kind ≡ 2 → get_or (row_bytes (with_wish ls (row_at case i))) k 0 ≡ get_or (row_bytes (row_at case i)) k 0
      stays q = ap (λ r. get_or (row_bytes r) k 0) (keep_third case nothing text ls e i l (λ a. omega (arith, q)) (λ b. omega (arith, q)))

      other : (k ≡ 6 → ⊥) → (k ≡ 7 → ⊥) → get_or (row_bytes (with_wish ls (row_at case i))) k 0 ≡ get_or (row_bytes (row_at case i)) k 0
      other a b =
          ⊎_elim (λ c. ap (λ r. get_or (row_bytes r) k 0) c.2 ∙ byte_other (row_at case i) c.0 k a b) (λ c. ap (λ r. get_or (row_bytes r) k 0) c)
          (wish_cases ls (row_at case i))

  others : Bytes case → (i : ℕ) → ((i % 16 ≡ 6) ⊎ (i % 16 ≡ 7) → get_or case (16 * (i / 16)) 0 ≡ 2) → get_or copy i 0 ≡ get_or case i 0
  unfolding wished
  others b i two = ⊎_elim inside (λ (l : length case ≤ i). get_or-eq_default copy 0 (omega (arith, copy_length case nothing text ls e)) ∙ sym
      (get_or-eq_default case 0 l)) (less? i (length case))
    where
      inside : i < length case → get_or copy i 0 ≡ get_or case i 0
      inside l =
          let at : i ≡ 16 * (i / 16) + i % 16 = omega arith in
          let row : i / 16 < row_count case = omega (arith, case_whole case nothing) in
          let long : length (map (with_wish ls) (rows case)) ≡ row_count case = length-map (rows case) (with_wish ls) ∙ many in
          ap (λ j. get_or copy j 0) at
          ∙ (byte_at (map (with_wish ls) (rows case)) (i / 16) (i % 16) (omega (arith, long)) (omega arith)
          ∙ (ap (λ r. get_or (row_bytes r) (i % 16) 0) (new_at ls (rows case) (i / 16) ∙ ap (with_wish ls) (row_at_lem case (i / 16) row))
          ∙ (new_byte (i / 16) (i % 16) row two
          ∙ (read_byte case b (i / 16) (i % 16) (omega arith) ∙ ap (λ j. get_or case j 0) (sym at)))))

  -- ---- its groups

  counted : (s x k : ℕ) → 1 ≤ s → s ≤ (market_in case).students → Option? (market_in case) s x → 1 ≤ k → k ≤ (market_in copy).student_tier s x
      → (y : ℕ) × Option? (market_in case) s y × ((market_in copy).student_tier s y ≡ k)
  counted s x k l u o low up =
      let d : Line = record { student = 0; groups = [] } in
      let h : Line = get_or ls (s - 1) d in
      let fit = (read_exactly (market_in case) text ls).0 e in
      let f : FitLine (market_in case) (0 + (s - 1)) h = fit_at (market_in case) 0 ls fit.2 (s - 1) d (omega (arith, fit.1)) in
      let n : h.student ≡ s = f.number ∙ omega arith in
      let q : k ≤ position h.groups x = omega (arith, up, copy_tier ls case nothing s x l u o) in
      let r : (y : ℕ) × Option? (market_in case) h.student y × (position h.groups y ≡ k) =
      each_counted (market_in case) (ranged case nothing) h f.formed f.names x k (subst (λ j. Option? (market_in case) j x) (sym n) o) low q in
      let o' : Option? (market_in case) s r.0 = subst (λ j. Option? (market_in case) j r.0) n r.1 in
      (r.0, o', copy_tier ls case nothing s r.0 l u o' ∙ r.2)

  -- ---- the engine's causes but 11

  rest : SameRest (market_in copy) (market_in case)
  rest = copy_rest ls case nothing

  room_same : (lent : Room) → room_causes copy lent ≡ room_causes case lent
  unfolding room_causes bad_room needed
  room_same lent =
      rw (
        seats_same (market_in copy) (market_in case) rest,
        rest.students,
        ap (tally (of_kind 3)) (new_rows ls case nothing) ∙ tally_new ls (of_kind 3) (unseen ls (of_kind 3) (λ r x. refl)) (rows case),
      )

  pair_same : (es : List Entry) → bad_pair (rows copy) es ≡ bad_pair (rows case) es
  unfolding bad_pair
  pair_same es =
      fun_ext (λ i.
      rw (
        new_rows ls case nothing,
        any_new ls (is_pair (get_or es i _).student (get_or es i _).workshop)
            (unseen ls (is_pair (get_or es i _).student (get_or es i _).workshop) (λ r x. refl))
            (rows case),
      ))

  book_same : (book : List ℕ) → take 4 (book_causes copy book) ≡ take 4 (book_causes case book)
  unfolding book_causes bad_scores bad_repeat
  book_same book = rw (pair_same (entries book))

  -- all but 11
  abbrev others_of : List ℕ → Room → List Cause
  others_of book lent = case_causes copy ++ (room_causes copy lent ++ take 4 (book_causes copy book))

  abbrev last_of_lem : List ℕ → Cause
  last_of_lem book = (11, each (entry_count book) (bad_tie (rows copy) (entries book)))

  split : (book : List ℕ) (lent : Room) → causes copy book lent ≡ others_of book lent ++ (last_of_lem book ∷ [])
  unfolding causes case_causes room_causes book_causes
  split book lent = refl

  but_last : (book : List ℕ) (lent : Room) → Valid case book lent → NothingFound (others_of book lent)
  unfolding causes
  but_last book lent valid =
      nothing_both (case_causes copy) _ (copy_nothing case nothing text ls e)
      (nothing_both (room_causes copy lent) _
      (subst NothingFound (sym (room_same lent)) (λ c m. valid c (in_right (case_causes case) (in_left (book_causes case book) m))))
      (subst NothingFound (sym (book_same book))
      (λ c m. valid c (in_right (case_causes case) (in_right (room_causes case lent) (in_take 4 (book_causes case book) c m))))))

  engine : (book : List ℕ) (lent : Room) → Valid case book lent → (k i : ℕ) → FoundFirst (causes copy book lent) k i → k ≡ 11
  engine book lent valid k i found =
      only_last (last_of_lem book) k i
      (sym (first_right (others_of book lent) (last_of_lem book ∷ []) (none_table (others_of book lent) (but_last book lent valid)))
      ∙ (ap first_cause (sym (split book lent)) ∙ some_table (causes copy book lent) k i found))

  unvisited : (lent : Room) → Valid case [] lent → Valid copy [] lent
  unvisited lent valid =
      subst NothingFound (sym (split [] lent))
      (nothing_both (others_of [] lent) (last_of_lem [] ∷ []) (but_last [] lent valid)
      (nothing_more (last_of_lem []) [] (λ i f. omega (arith, f.within)) (λ c m. absurd (not-nil m))))

  pub copy_of : CopyOf case copy ls
  copy_of =
      record {
        copied = refl;
        long = copy_length case nothing text ls e;
        bytes = new_bytes;
        records = new_rows ls case nothing;
        others = others;
        rest = rest;
        groups = λ s x l u o.
            let t = copy_tier ls case nothing s x l u o in
            let r = line_range case nothing text ls e s x l u o in
            (t, rw t r.0, rw t r.1);
        counted = counted;
        valid = copy_nothing case nothing text ls e;
        unvisited = unvisited;
        engine = engine;
      }
