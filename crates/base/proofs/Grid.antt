-- Over the pairs of 1 to n and 1 to m: counting those that a list of things names (each thing that names one pair at most adds one at most), and adding
-- numbers over those of a set.
use Prim.Native.Nat.{ℕ, zero, suc, ◌+◌, ◌≤◌, ◌<◌}
use mathlib.Core.Path.{◌≡◌, refl}
use mathlib.Core.Logic.{⊎_elim}
use mathlib.Core.Bool.{Bool, true, false, cond, ◌&&◌, ◌||◌}
use mathlib.Core.List.{List, [], ◌∷◌}
use native.Mathlib.Omega.{arith}
use lib.Dec.{eqb}
use native.Mathlib.Nat.{eq-or-lt_of_le}
use borrow.Author.Tests.{eqb-true, eq-eqb, ne_eqb}
use Rattle.base.specs.Lists.{one, count, total, any, tally}
use Rattle.base.proofs.Tests.{bool_cases}
use Rattle.base.proofs.Counting.{count_none, total_le}

-- ---- sums over 1 to n
total_zero : (f : ℕ → ℕ) (n : ℕ) → ((s : ℕ) → f s ≡ 0) → total f n ≡ 0
unfolding total
total_zero f zero z = refl
total_zero f (suc n) z = omega (arith, z (suc n), total_zero f n z)

total_both : (f g : ℕ → ℕ) (n : ℕ) → total (λ s. f s + g s) n ≡ total f n + total g n
unfolding total
total_both f g zero = refl
total_both f g (suc n) = omega (arith, total_both f g n)

pub total_count : (p : ℕ → Bool) (n : ℕ) → total (λ s. one (p s)) n ≡ count p n
unfolding total count
total_count p zero = refl
total_count p (suc n) = omega (arith, total_count p n)

count_either : (p q : ℕ → Bool) (n : ℕ) → count (λ w. p w || q w) n ≤ count p n + count q n
unfolding count
count_either p q zero = omega arith
count_either p q (suc n) = omega (arith, either (p (suc n)) (q (suc n)), count_either p q n)
  where
    either : (a b : Bool) → one (a || b) ≤ one a + one b
    either true b = omega arith
    either false b = omega arith

-- one number is equal to a at most
count_equal : (a n : ℕ) → count (λ w. eqb a w) n ≤ 1
unfolding count
count_equal a zero = omega arith
count_equal a (suc n) =
    ⊎_elim
    (λ (e : eqb a (suc n) ≡ true).
    rw e (omega (arith, count_none (λ w. eqb a w) n (λ t l u. ne_eqb a t (λ q. omega (arith, eqb-true a (suc n) e))))))
    (λ (e : eqb a (suc n) ≡ false). rw e (omega (arith, count_equal a n)))
    (bool_cases (eqb a (suc n)))

-- ---- pairs
module _ (n m : ℕ) where
  none_named : total (λ s. count (λ w. false) m) n ≡ 0
  none_named = total_zero (λ s. count (λ w. false) m) n (λ s. count_none (λ w. false) m (λ t l u. refl))

  -- one pair
  one_named : (a b : ℕ) → total (λ s. count (λ w. eqb a s && eqb b w) m) n ≤ 1
  one_named a b =
      omega (
        arith,
        total_le (λ s. count (λ w. eqb a s && eqb b w) m) (λ s. one (eqb a s)) n of_first,
        total_count (λ s. eqb a s) n,
        count_equal a n,
      )
    where
      of_first : (s : ℕ) → count (λ w. eqb a s && eqb b w) m ≤ one (eqb a s)
      of_first s =
          ⊎_elim (λ (e : eqb a s ≡ true). rw e (count_equal b m))
          (λ (e : eqb a s ≡ false). rw e (omega (arith, count_none (λ w. false) m (λ t l u. refl))))
          (bool_cases (eqb a s))

  module _ {A : Type 0} (counts : A → Bool) (first second : A → ℕ) where
    -- the pairs that x names: one where it counts, and else none
    of_one : (x : A) → total (λ s. count (λ w. counts x && (eqb (first x) s && eqb (second x) w)) m) n ≤ one (counts x)
    of_one x =
        ⊎_elim (λ (k : counts x ≡ true). rw k (one_named (first x) (second x)))
        (λ (k : counts x ≡ false). rw k (omega (arith, none_named)))
        (bool_cases (counts x))

    pub named_within : (xs : List A)
        → total (λ s. count (λ w. any (λ x. counts x && (eqb (first x) s && eqb (second x) w)) xs) m) n ≤ tally counts xs
    unfolding any tally
    named_within [] = omega (arith, none_named)
    named_within (x ∷ xs) =
        let by : ℕ → ℕ → Bool = λ s w. counts x && (eqb (first x) s && eqb (second x) w) in
        let rest : ℕ → ℕ → Bool = λ s w. any (λ y. counts y && (eqb (first y) s && eqb (second y) w)) xs in
        omega (
          arith,
          total_le (λ s. count (λ w. by s w || rest s w) m) (λ s. count (by s) m + count (rest s) m) n (λ s. count_either (by s) (rest s) m),
          total_both (λ s. count (by s) m) (λ s. count (rest s) m) n,
          of_one x,
          named_within xs,
        )

-- ---- sums over a set of pairs

total_same : (f g : ℕ → ℕ) (n : ℕ) → ((s : ℕ) → f s ≡ g s) → total f n ≡ total g n
unfolding total
total_same f g zero same = refl
total_same f g (suc n) same = omega (arith, same (suc n), total_same f g n same)

-- of the numbers that are equal to a there is one
total_at : (f : ℕ → ℕ) (n a : ℕ) → 1 ≤ a → a ≤ n → total (λ s. cond (eqb a s) (f s) 0) n ≡ f a
unfolding total
total_at f zero a l u = absurd (omega arith)
total_at f (suc n) a l u =
    ⊎_elim (λ (e : a ≡ suc n). let less : n < a = omega arith in rw (e, eq-eqb (suc n) (suc n) refl) (omega (arith, others a n less)))
    (λ (less : a < suc n). rw (ne_eqb a (suc n) (λ e. omega arith)) (omega (arith, total_at f n a l (omega arith))))
    (eq-or-lt_of_le u)
  where
    others : (b k : ℕ) → k < b → total (λ s. cond (eqb b s) (f s) 0) k ≡ 0
    others b zero less = refl
    others b (suc k) less = rw (ne_eqb b (suc k) (λ e. omega arith)) (omega (arith, others b k (omega arith)))

-- of two tests at most one passes
pub cond_either : (a b : Bool) (k : ℕ) → (a ≡ true → b ≡ false) → cond (a || b) k 0 ≡ cond a k 0 + cond b k 0
cond_either true b k h = rw (h refl) (omega arith)
cond_either false b k h = omega arith

module _ (n m : ℕ) (f : ℕ → ℕ → ℕ) where
  -- f added over the pairs of the set
  abbrev pub over : (ℕ → ℕ → Bool) → ℕ
  over U = total (λ s. total (λ w. cond (U s w) (f s w) 0) m) n

  -- a set with more pairs has no less
  pub over_mono : (U W : ℕ → ℕ → Bool) → ((s w : ℕ) → U s w ≡ true → W s w ≡ true) → over U ≤ over W
  over_mono U W more =
      total_le (λ s. total (λ w. cond (U s w) (f s w) 0) m) (λ s. total (λ w. cond (W s w) (f s w) 0) m) n
      (λ s. total_le (λ w. cond (U s w) (f s w) 0) (λ w. cond (W s w) (f s w) 0) m (λ w. each (U s w) (W s w) (f s w) (more s w)))
    where
      each : (a b : Bool) (k : ℕ) → (a ≡ true → b ≡ true) → cond a k 0 ≤ cond b k 0
      each true b k h = rw (h refl) (omega arith)
      each false b k h = omega arith

  -- two sets without a common pair
  pub over_either : (U W : ℕ → ℕ → Bool) → ((s w : ℕ) → U s w ≡ true → W s w ≡ false) → over (λ s w. U s w || W s w) ≡ over U + over W
  over_either U W apart =
      omega (
        arith,
        total_same (λ s. total (λ w. cond (U s w || W s w) (f s w) 0) m)
            (λ s. total (λ w. cond (U s w) (f s w) 0) m + total (λ w. cond (W s w) (f s w) 0) m) n
            (λ s.
            omega (
              arith,
              total_same (λ w. cond (U s w || W s w) (f s w) 0) (λ w. cond (U s w) (f s w) 0 + cond (W s w) (f s w) 0) m
                  (λ w. cond_either (U s w) (W s w) (f s w) (apart s w)),
              total_both (λ w. cond (U s w) (f s w) 0) (λ w. cond (W s w) (f s w) 0) m,
            )),
        total_both (λ s. total (λ w. cond (U s w) (f s w) 0) m) (λ s. total (λ w. cond (W s w) (f s w) 0) m) n,
      )

  -- the set without pairs, and that of one pair
  pub over_none : over (λ s w. false) ≡ 0
  over_none = total_zero (λ s. total (λ w. 0) m) n (λ s. total_zero (λ w. 0) m (λ w. refl))

  pub over_one : (a b : ℕ) → 1 ≤ a → a ≤ n → 1 ≤ b → b ≤ m → over (λ s w. eqb a s && eqb b w) ≡ f a b
  over_one a b la ua lb ub =
      omega (
        arith,
        total_same (λ s. total (λ w. cond (eqb a s && eqb b w) (f s w) 0) m) (λ s. cond (eqb a s) (f s b) 0) n (λ s. of_first s (eqb a s)),
        total_at (λ s. f s b) n a la ua,
      )
    where
      of_first : (s : ℕ) (e : Bool) → total (λ w. cond (e && eqb b w) (f s w) 0) m ≡ cond e (f s b) 0
      of_first s true = total_at (f s) m b lb ub
      of_first s false = total_zero (λ w. 0) m (λ w. refl)

-- one for each pair: how many there are
pub over_count : (n m : ℕ) (U : ℕ → ℕ → Bool) → over n m (λ s w. 1) U ≡ total (λ s. count (U s) m) n
over_count n m U =
    total_same (λ s. total (λ w. cond (U s w) 1 0) m) (λ s. count (U s) m) n
    (λ s. omega (arith, total_same (λ w. cond (U s w) 1 0) (λ w. one (U s w)) m (λ w. each (U s w)), total_count (U s) m))
  where
    each : (a : Bool) → cond a 1 0 ≡ one a
    each true = refl
    each false = refl
