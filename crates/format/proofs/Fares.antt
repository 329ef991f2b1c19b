-- The total of an answer is the sum of the fares in the pair records whose pair is listed, and fits 32 bits.
use Prim.Native.Nat.{ℕ, suc, ◌+◌, ◌*◌, ◌≤◌, ◌<◌}
use mathlib.Core.Path.{◌≡◌, refl, sym, ◌∙◌}
use mathlib.Core.Logic.{⊎_elim}
use mathlib.Core.Bool.{Bool, true, false, cond, ◌&&◌, ◌||◌}
use mathlib.Core.List.{List, [], ◌∷◌}
use native.Mathlib.Omega.{arith}
use lib.Dec.{eqb}
use lib.ListN.{get_or}
use borrow.Author.Tests.{eqb-true, eq-eqb}
use Rattle.base.specs.Lists.{count, any, sum_of}
use Rattle.base.specs.Words.{word}
use Rattle.base.proofs.Tests.{bool_cases, and_left, and_right, and_make, is_false}
use Rattle.base.proofs.Counting.{count_le, total_within}
use Rattle.base.proofs.Below.{find_none}
use Rattle.base.proofs.Grid.{cond_either}
use Rattle.base.proofs.Sums.{sum_zero, sum_both, sum_only}
use Rattle.lgs.specs.Market.{Market}
use Rattle.lgs.specs.Rule.{Interview, interviewed}
use Rattle.lgs.specs.Fares.{fares_of}
use Rattle.lgs.specs.Promises.{NoRepeats, Listed, pairs_in}
use Rattle.lgs.proofs.Fares.{fares_within}
use Rattle.lgs.proofs.Once.{interviewed_head, interviewed_later, head_apart}
use Rattle.lgs.proofs.Promises.{listed_length}
use Rattle.format.specs.Layout.{Row, row_at, row_count, rows, no_row, of_kind, is_pair, market_of}
use Rattle.format.specs.Refusals.{Room, bad_counts}
use Rattle.format.specs.Engine.{placed, next, refused, engine, market_in, results_in, Outcome}
use Rattle.format.specs.Promises.{Valid, interviews_of, fares_read, fares_told, FaresExactly}
use Rattle.format.proofs.Positions.{Clean, PairAt, pair_record, pair_only, pair_says, fare_at_lem}
use Rattle.format.proofs.Reading.{clean, counts_range}
use Rattle.format.proofs.Causes.{passed, counts_pass}
use Rattle.format.proofs.Unpriced.{untold_same}
use Rattle.format.proofs.Runs.{wf, Finished, Stopped, when_placed_lem, when_next_lem, placed_promise, next_promise}

-- what a record adds, where these are the pairs that count
abbrev fare_if : (ℕ → ℕ → Bool) → Row → ℕ
fare_if counts r = cond (of_kind 3 r && counts r.first r.second) r.fifth 0

nothing_listed : (rs : List Row) → fares_read rs [] ≡ 0
unfolding fares_read interviewed any
nothing_listed rs = sum_zero (fare_if (λ s w. false)) (λ r. none (of_kind 3 r) r.fifth) rs
  where
    none : (a : Bool) (k : ℕ) → cond (a && false) k 0 ≡ 0
    none true k = refl
    none false k = refl

module _ (case : List ℕ) (c : Clean case (row_count case)) where
  -- the record of one pair
  one_read : (s w : ℕ) → (market_in case).paired s w ≡ true → sum_of (fare_if (λ a b. eqb s a && eqb w b)) (rows case) ≡ (market_in case).fare s w
  unfolding rows
  one_read s w e =
      let r : (i : ℕ) × PairAt case s w i = pair_record case s w e in
      sum_only (row_at case) (λ (x : Row). of_kind 3 x && (eqb s x.first && eqb w x.second)) (λ (x : Row). x.fifth) (row_count case) r.0
      r.1.inside (to_test (row_at case r.0) r.1.pair)
      (λ j l b. pair_only case c s w j r.0 l r.1.inside (from_test (row_at case j) b) r.1.pair)
      ∙ sym (fare_at_lem case c s w r.0 r.1.inside r.1.pair)
    where
      to_test : (x : Row) → is_pair s w x ≡ true → (of_kind 3 x && (eqb s x.first && eqb w x.second)) ≡ true
      to_test x e =
          let p : (x.kind ≡ 3) × (x.first ≡ s) × (x.second ≡ w) = pair_says s w x e in
          and_make (eq-eqb _ _ p.0) (and_make (eq-eqb _ _ (sym p.1)) (eq-eqb _ _ (sym p.2)))

      from_test : (x : Row) → (of_kind 3 x && (eqb s x.first && eqb w x.second)) ≡ true → is_pair s w x ≡ true
      from_test x e =
          let q : (eqb s x.first && eqb w x.second) ≡ true = and_right (of_kind 3 x) _ e in
          and_make (and_left (of_kind 3 x) _ e)
          (and_make (eq-eqb _ _ (sym (eqb-true s x.first (and_left (eqb s x.first) _ q))))
          (eq-eqb _ _ (sym (eqb-true w x.second (and_right (eqb s x.first) _ q)))))

  -- the records of the listed pairs
  listed_read : (vs : List Interview) → NoRepeats vs → ((s w : ℕ) → interviewed vs s w ≡ true → (market_in case).paired s w ≡ true)
      → fares_of (market_in case) vs ≡ fares_read (rows case) vs
  unfolding fares_of fares_read interviewed any sum_of
  listed_read [] d pair = sym (nothing_listed (rows case))
  listed_read (v ∷ vs) d pair =
      omega (
        arith,
        listed_read vs d.1 (λ s w e. pair s w (interviewed_later v vs s w e)),
        one_read v.0 v.1 (pair v.0 v.1 (interviewed_head v vs)),
        sum_both (fare_if (λ s w. (eqb v.0 s && eqb v.1 w) || interviewed vs s w)) (fare_if (λ s w. eqb v.0 s && eqb v.1 w))
            (fare_if (interviewed vs))
            (λ r. each (of_kind 3 r) (eqb v.0 r.first && eqb v.1 r.second) _ r.fifth (head_apart v vs d r.first r.second))
            (rows case),
      )
    where
      each : (k a b : Bool) (x : ℕ) → (a ≡ true → b ≡ false) → cond (k && (a || b)) x 0 ≡ cond (k && a) x 0 + cond (k && b) x 0
      each true a b x h = cond_either a b x h
      each false a b x h = refl

-- ---- how many pairs there can be
pub pairs_few : (M : Market) → M.students ≤ 512 → M.workshops ≤ 64 → pairs_in M M.paired ≤ 32768
unfolding pairs_in
pairs_few M n m =
    omega (
      arith,
      total_within (λ s. count (λ w. M.paired s w && M.paired s w) M.workshops) M.students 64
          (λ s l u. omega (arith, count_le (λ w. M.paired s w && M.paired s w) M.workshops)),
    )

-- ---- a fare is a 16-bit number
pub fare_small : (case : List ℕ) → ((k : ℕ) → get_or case k 0 < 256) → (s w : ℕ) → (market_in case).fare s w ≤ 65535
unfolding market_of row_at word
fare_small case bytes s w =
    ⊎_elim
    (λ (e : (market_in case).paired s w ≡ true).
    let r : (i : ℕ) × PairAt case s w i = pair_record case s w e in
    rw r.1.found (omega (arith, bytes (16 * r.0 + 10), bytes (suc (16 * r.0 + 10)))))
    (λ (e : (market_in case).paired s w ≡ false). rw (find_none (is_pair s w) no_row (rows case) e) (omega arith))
    (bool_cases ((market_in case).paired s w))

-- ---- every answer
module _ (case book : List ℕ) (room : Room) where
  -- what the interviews cost that are listed
  module _ (valid : Valid case book room) (vs : List Interview) (L : Listed (market_in case) (results_in book) vs) where
    total_read : fares_of (market_in case) vs ≡ fares_read (rows case) vs
    total_read = listed_read case (clean case book (passed case book room valid)) vs L.once L.pair

    total_fits : ((k : ℕ) → get_or case k 0 < 256) → fares_of (market_in case) vs ≤ 32768 * 65535
    total_fits bytes =
        omega (
          arith,
          fares_within (market_in case) (fare_small case bytes) vs,
          listed_length (market_in case) (wf case book room valid) (results_in book) vs L,
          pairs_few (market_in case) counts.0.1 counts.1.1,
        )
      where
        counts : ((1 ≤ (market_in case).students) × ((market_in case).students ≤ 512)) × ((1 ≤ (market_in case).workshops) × ((market_in case).workshops ≤ 64))
        counts = counts_range case (is_false (bad_counts (rows case)) (counts_pass case book room valid))

  -- a total is that of interviews that are listed, or a refusal's
  record Told (a : Outcome) : Type 0 where
    read : fares_told a ≡ fares_read (rows case) (interviews_of a)
    small : ((k : ℕ) → get_or case k 0 < 256) → fares_told a ≤ 32768 * 65535

  listed_told : (a : Outcome) → Valid case book room → Listed (market_in case) (results_in book) (interviews_of a)
      → fares_told a ≡ fares_of (market_in case) (interviews_of a)
      → Told a
  listed_told a valid L cost =
      record { read = cost ∙ total_read valid (interviews_of a) L; small = λ bytes. omega (arith, cost, total_fits valid (interviews_of a) L bytes) }

  answer_told : (a : Outcome) → engine case book room ≡ a → Told a
  answer_told (placed places vs fares) e =
      let f : Finished case book room places vs fares = when_placed_lem case book room places vs fares e in
      listed_told (placed places vs fares) f.valid (placed_promise case book room places vs fares f).minimal.listed f.cost
  answer_told (next s w vs fares) e =
      let f : Stopped case book room s w vs fares = when_next_lem case book room s w vs fares e in
      listed_told (next s w vs fares) f.valid (next_promise case book room s w vs fares f).listed f.cost
  answer_told (refused k i) e = record { read = sym (nothing_listed (rows case)); small = λ bytes. omega arith }

  pub told : fares_told (engine case book room) ≡ fares_read (rows case) (interviews_of (engine case book room))
  told = (answer_told (engine case book room) refl).read

pub fares_exactly : FaresExactly
unfolding row_at
fares_exactly =
    record {
      bytes = λ case book room valid i l e.
          fare_at_lem case (clean case book (passed case book room valid)) _ _ i l
          (and_make e (and_make (eq-eqb (row_at case i).first _ refl) (eq-eqb (row_at case i).second _ refl)));
      total = told;
      free = λ case case' book room other. untold_same case case' other book room;
      fits = λ case book room bytes. (answer_told case book room (engine case book room) refl).small bytes.below;
    }
