-- What a clean case and book say of a pair, by the numbers that the code has found.
use Prim.Native.Nat.{ℕ, ◌+◌, ◌-◌, ◌≤◌, ◌<◌}
use mathlib.Core.Path.{◌≡◌, sym, ◌∙◌}
use mathlib.Core.Logic.{⊎_elim}
use mathlib.Core.Bool.{true, false}
use mathlib.Core.List.{List}
use native.Mathlib.Omega.{arith}
use lib.ListN.{length, get_or}
use lib.Dec.{ltb}
use Rattle.base.proofs.Tests.{bool_cases, is_false}
use Rattle.format.specs.Layout.{row_at, row_count, market_of}
use Rattle.format.specs.Engine.{market_in, results_in}
use Rattle.records.specs.Records.{pair_place}
use Rattle.records.proofs.Laws.{pair_any}
use Rattle.model.specs.Ready.{Booked}
use Rattle.lookup.specs.Clean.{PairAt, EntryAt, Clean, index_at}

module _ {case book index table : List ℕ} {n m : ℕ} (k : Clean case book index table n m) {s w : ℕ} (b : Booked (market_in case) (results_in book) s w) where
  -- the pair's record
  pub pair_known : PairAt case s w
  pair_known = k.pair s w b.pair

  pub index_known : (n + m ≤ pair_place case s w) × (pair_place case s w - (n + m) < length index)
  index_known = k.indexed s w b.pair

  pub tier_known : (p t : ℕ) → p ≡ pair_place case s w → t ≡ (row_at case p).fourth → t ≡ (market_in case).workshop_tier w s
  tier_known p t q r = r ∙ rw q (sym pair_known.workshop_tier)

  -- its book record, by what the index has
  pub entry_known : (p e : ℕ) → p ≡ pair_place case s w → e ≡ get_or index (p - (n + m)) 0 → EntryAt book s w e
  entry_known p e q r = rw (r, q) (k.met s w b.met)

-- a pair's interview is held where the index has an entry for it
module _ {case book index table : List ℕ} {n m : ℕ} (k : Clean case book index table n m) (s w : ℕ) (b : (market_in case).paired s w ≡ true) (p e : ℕ)
    (q : p ≡ pair_place case s w) (r : e ≡ get_or index (p - (n + m)) 0) where
  same_entry : e ≡ index_at case index n m s w
  same_entry = r ∙ rw q

  pub met_by : (e ≡ 0 → ⊥) → (results_in book).met s w ≡ true
  met_by z = ⊎_elim (λ (h : (results_in book).met s w ≡ true). h) (λ (h : (results_in book).met s w ≡ false). absurd (z (same_entry ∙ k.unmet s w b h)))
      (bool_cases ((results_in book).met s w))

  pub unmet_by : e ≡ 0 → (results_in book).met s w ≡ false
  unmet_by z = is_false ((results_in book).met s w) (λ h. let f : EntryAt book s w (index_at case index n m s w) = k.met s w h in omega (arith, same_entry))

-- a pair has a record where the search finds one
pub paired_place : (case : List ℕ) (s w : ℕ) → (market_in case).paired s w ≡ ltb (pair_place case s w) (row_count case)
unfolding market_of
paired_place case s w = pair_any case s w
