-- With other fares in a case its causes find the same, its market is the same but for them, and the engine's answer is the same but for the total.
use Prim.Native.Nat.{ℕ, zero, suc, ◌+◌, ◌*◌, ◌/◌, ◌%◌, ◌<◌}
use mathlib.Core.Path.{◌≡◌, refl, ◌∙◌, fun_ext}
use mathlib.Core.Logic.{⊎_elim}
use mathlib.Core.Bool.{Bool, true, false, ◌&&◌}
use mathlib.Core.List.{List, [], ◌∷◌, ◌++◌}
use Rattle.std.specs.Prelude.{Option, Some, None}
use native.Mathlib.Omega.{arith}
use lib.Dec.{eqb}
use lib.ListN.{get_or}
use borrow.Author.Tests.{eqb-true, ne_eqb}
use Rattle.base.specs.Lists.{tabulate}
use Rattle.base.specs.Words.{word}
use Rattle.base.proofs.Tests.{bool_cases}
use Rattle.lgs.specs.Market.{Market, Results}
use Rattle.lgs.specs.Rule.{Step, going, stopped, finished, lazy_gale_shapley}
use Rattle.lgs.proofs.Unpriced.{priced, rule_same}
use Rattle.format.specs.Layout.{Row, row_at, row_count, rows, of_kind}
use Rattle.format.specs.Refusals.{Room, case_causes, causes, refusal}
use Rattle.format.specs.Engine.{outcome_of, market_in, results_in, rule_outcome, outcome_unless, engine}
use Rattle.format.specs.Promises.{OtherFares, untold}
use Rattle.format.proofs.Alike.{with_fifth, Alike, same, other_fare, Alikes, empty, more, range_same, market_priced, case_same, rest_same}

-- ---- lists of records that are alike at each place
alike_on : {k : ℕ} {rs qs : List Row} {r q : Row} → Alikes k rs qs → Alike k r q → Alikes k (rs ++ (r ∷ [])) (qs ++ (q ∷ []))
alike_on empty a = more a empty
alike_on (more b like) a = more b (alike_on like a)

tabulate_alike : {k : ℕ} (f g : ℕ → Row) → ((i : ℕ) → Alike k (f i) (g i)) → (n : ℕ) → Alikes k (tabulate f n) (tabulate g n)
unfolding tabulate
tabulate_alike f g h zero = empty
tabulate_alike f g h (suc n) = alike_on (tabulate_alike f g h n) (h n)

-- ---- an outcome on a market with other fares
module _ (M : Market) (fare : ℕ → ℕ → ℕ) (B : Results) where
  untold_step : (x : Step) → untold (outcome_of (priced M fare) x) ≡ untold (outcome_of M x)
  unfolding outcome_of
  untold_step (finished p vs) = refl
  untold_step (stopped s w vs) = refl
  untold_step (going σ) = refl

  untold_priced : (o : Option (ℕ × ℕ)) → untold (outcome_unless o (priced M fare) B) ≡ untold (outcome_unless o M B)
  unfolding outcome_unless rule_outcome
  untold_priced (Some r) = refl
  untold_priced None = rw (rule_same M fare B) (untold_step (lazy_gale_shapley M B))

module _ (case case' : List ℕ) (other : OtherFares case case') where
  -- ---- the records

  -- a byte at another place of its record
  elsewhere : (k : ℕ) → (k % 16 ≡ 10 → ⊥) → (k % 16 ≡ 11 → ⊥) → get_or case' k 0 ≡ get_or case k 0
  elsewhere k e f = other.bytes k (rw (ne_eqb (k % 16) 10 e, ne_eqb (k % 16) 11 f) (neither (eqb (get_or case (16 * (k / 16)) 0) 3)))
    where
      neither : (a : Bool) → (a && false) ≡ false
      neither true = refl
      neither false = refl

  -- a byte of a record that is not a pair's
  unpaired : (i k : ℕ) → k / 16 ≡ i → of_kind 3 (row_at case i) ≡ false → get_or case' k 0 ≡ get_or case k 0
  unfolding row_at
  unpaired i k e b = other.bytes k (rw (e, b))

  -- a 16-bit field but the fifth
  field : (i j : ℕ) → j < 8 → (j ≡ 5 → ⊥) → word case' (16 * i + 2 * j) ≡ word case (16 * i + 2 * j)
  unfolding word
  field i j l ne =
      let at : (16 * i + 2 * j) % 16 ≡ 2 * j = omega arith in
      let after : suc (16 * i + 2 * j) % 16 ≡ suc (2 * j) = omega arith in
      rw (
        elsewhere (16 * i + 2 * j) (λ e. ne (omega arith)) (λ e. omega arith),
        elsewhere (suc (16 * i + 2 * j)) (λ e. omega arith) (λ e. ne (omega arith)),
      )

  but_fifth : (i : ℕ) → row_at case' i ≡ with_fifth (row_at case i) (row_at case' i).fifth
  unfolding row_at
  but_fifth i = λ x.
      record {
        kind = elsewhere (16 * i) (λ e. omega arith) (λ e. omega arith) x;
        pad = elsewhere (16 * i + 1) (λ e. omega arith) (λ e. omega arith) x;
        first = field i 1 (omega arith) (λ e. omega arith) x;
        second = field i 2 (omega arith) (λ e. omega arith) x;
        third = field i 3 (omega arith) (λ e. omega arith) x;
        fourth = field i 4 (omega arith) (λ e. omega arith) x;
        fifth = word case' (16 * i + 10);
        sixth = field i 6 (omega arith) (λ e. omega arith) x;
        seventh = field i 7 (omega arith) (λ e. omega arith) x;
      }

  fifth_same : (i : ℕ) → of_kind 3 (row_at case i) ≡ false → (row_at case' i).fifth ≡ (row_at case i).fifth
  unfolding row_at word
  fifth_same i b = rw (unpaired i (16 * i + 10) (omega arith) b, unpaired i (suc (16 * i + 10)) (omega arith) b)

  records : Alikes 3 (rows case) (rows case')
  unfolding rows
  records = rw other.long (tabulate_alike (row_at case) (row_at case') each_alike (row_count case))
    where
      each_alike : (i : ℕ) → Alike 3 (row_at case i) (row_at case' i)
      each_alike i =
          rw (but_fifth i)
          (⊎_elim (λ (e : of_kind 3 (row_at case i) ≡ true). other_fare (row_at case' i).fifth refl (eqb-true _ _ e))
          (λ (e : of_kind 3 (row_at case i) ≡ false). rw (fifth_same i e) same) (bool_cases (of_kind 3 (row_at case i))))

  -- ---- the causes and the market
  pub same_case : case_causes case' ≡ case_causes case
  unfolding case_causes
  same_case = case_same case case' records other.long ∙ rw (fun_ext (range_same records))

  pub same_market : market_in case' ≡ priced (market_in case) (market_in case').fare
  same_market = market_priced records

  -- ---- the engine
  module _ (book : List ℕ) (room : Room) where
    same_refusal : refusal case' book room ≡ refusal case book room
    unfolding refusal causes
    same_refusal = rw (same_case, rest_same case case' records book room)

    pub untold_same : untold (engine case' book room) ≡ untold (engine case book room)
    unfolding engine
    untold_same = rw (same_refusal, same_market) (untold_priced (market_in case) (market_in case').fare (results_in book) (refusal case book room))
