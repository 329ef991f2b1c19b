-- Counting over 1 to n: search, inclusion, and the exchange (pigeonhole) that stability arguments use; sums, and the largest.
use Prim.Native.Nat.{ℕ, zero, suc, ◌+◌, ◌*◌, ◌≤◌, ◌<◌}
use mathlib.Core.Path.{◌≡◌, refl, ap}
use mathlib.Core.Logic.{◌⊎◌, inl, inr, ⊎_elim}
use mathlib.Core.Bool.{Bool, true, false, not, ◌&&◌}
use native.Mathlib.Omega.{arith}
use borrow.Author.Tests.{not-true, not-false}
use native.Mathlib.Nat.{eq-or-lt_of_le}
use Rattle.base.specs.Lists.{one, count, total, largest}
use Rattle.base.proofs.Tests.{bool_cases, and_left, and_right}

-- some number of 1 to n passes, or none does
pub find? : (p : ℕ → Bool) (n : ℕ) → ((h : ℕ) × (1 ≤ h) × (h ≤ n) × (p h ≡ true)) ⊎ ((h : ℕ) → 1 ≤ h → h ≤ n → p h ≡ false)
find? p zero = inr (λ h l u. absurd (omega arith))
find? p (suc n) =
    ⊎_elim (λ e. inl (suc n, omega arith, omega arith, e))
    (λ e.
    ⊎_elim (λ f. inl (f.0, f.1, omega arith, f.3))
    (λ none. inr (λ h l u. ⊎_elim (λ q. rw q e) (λ less. none h l (omega arith)) (eq-or-lt_of_le u)))
    (find? p n))
    (bool_cases (p (suc n)))

one_mono : (a b : Bool) → (a ≡ true → b ≡ true) → one a ≤ one b
one_mono true b h = rw (h refl) (omega arith)
one_mono false b h = omega arith

module _ (H N : ℕ → Bool) where
  pub count_mono : (n : ℕ) → ((h : ℕ) → 1 ≤ h → h ≤ n → H h ≡ true → N h ≡ true) → count H n ≤ count N n
  unfolding count
  count_mono zero sub = omega arith
  count_mono (suc n) sub =
      omega (arith, one_mono (H (suc n)) (N (suc n)) (sub (suc n) (omega arith) (omega arith)), count_mono n (λ h l u. sub h l (omega arith)))

  pub count_less : (n x : ℕ) → ((h : ℕ) → 1 ≤ h → h ≤ n → H h ≡ true → N h ≡ true) → 1 ≤ x → x ≤ n → N x ≡ true → H x ≡ false → count H n < count N n
  unfolding count
  count_less zero x sub l u e f = absurd (omega arith)
  count_less (suc n) x sub l u e f =
      ⊎_elim
      (λ (q : x ≡ suc n).
      let e' : N (suc n) ≡ true = rw q at e in
      let f' : H (suc n) ≡ false = rw q at f in
      rw (e', f') (omega (arith, count_mono n (λ h l u. sub h l (omega arith)))))
      (λ (less : x < suc n).
      omega (
        arith,
        one_mono (H (suc n)) (N (suc n)) (sub (suc n) (omega arith) (omega arith)),
        count_less n x (λ h l u. sub h l (omega arith)) l
            (omega arith) e f,
      ))
      (eq-or-lt_of_le u)

  -- where N is no larger than H and has an x that H has not, H has one that N has not
  pub exchange : (n x : ℕ) → count N n ≤ count H n → 1 ≤ x → x ≤ n → N x ≡ true → H x ≡ false → (h : ℕ) × (H h ≡ true) × (N h ≡ false)
  exchange n x le l u e f =
      ⊎_elim (λ found. (found.0, and_left _ _ found.3, not-true _ (and_right (H found.0) _ found.3)))
      (λ none. absurd (omega (arith, count_less n x (λ h l' u' e'. outside h e' (none h l' u')) l u e f)))
      (find? (λ h. H h && not (N h)) n)
    where
      outside : (h : ℕ) → H h ≡ true → (H h && not (N h)) ≡ false → N h ≡ true
      outside h p q = not-false (N h) (rw p at q)

module _ (p q : ℕ → Bool) where
  pub count_same : (n : ℕ) → ((t : ℕ) → t ≤ n → p t ≡ q t) → count p n ≡ count q n
  unfolding count
  count_same zero same = refl
  count_same (suc n) same = rw (same (suc n) (omega arith), count_same n (λ t u. same t (omega arith)))

  -- q passes at k, p does not, and elsewhere they agree
  pub count_more : (n k : ℕ) → 1 ≤ k → k ≤ n → p k ≡ false → q k ≡ true → ((t : ℕ) → (t ≡ k → ⊥) → p t ≡ q t) → count q n ≡ suc (count p n)
  unfolding count
  count_more zero k l u e f same = absurd (omega arith)
  count_more (suc n) k l u e f same =
      ⊎_elim
      (λ (r : k ≡ suc n).
      let e' : p (suc n) ≡ false = rw r at e in
      let f' : q (suc n) ≡ true = rw r at f in
      rw (e', f') (omega (arith, count_same n (λ t u. same t (λ c. omega arith)))))
      (λ (less : k < suc n). rw (same (suc n) (λ c. omega arith)) (omega (arith, count_more n k l (omega arith) e f same)))
      (eq-or-lt_of_le u)

module _ (p : ℕ → Bool) where
  pub count_some : (n k : ℕ) → 1 ≤ k → k ≤ n → p k ≡ true → 1 ≤ count p n
  unfolding count
  count_some zero k l u e = absurd (omega arith)
  count_some (suc n) k l u e =
      ⊎_elim (λ (r : k ≡ suc n). let e' : p (suc n) ≡ true = rw r at e in rw e' (omega arith))
      (λ (less : k < suc n). omega (arith, count_some n k l (omega arith) e))
      (eq-or-lt_of_le u)

  pub count_none : (n : ℕ) → ((t : ℕ) → 1 ≤ t → t ≤ n → p t ≡ false) → count p n ≡ 0
  unfolding count
  count_none zero nope = refl
  count_none (suc n) nope = rw (nope (suc n) (omega arith) (omega arith)) (omega (arith, count_none n (λ t l u. nope t l (omega arith))))

  -- a positive count has somebody
  pub somebody : (n : ℕ) → 1 ≤ count p n → (k : ℕ) × (1 ≤ k) × (k ≤ n) × (p k ≡ true)
  somebody n l = ⊎_elim (λ f. f) (λ nope. absurd (omega (arith, count_none n nope))) (find? p n)

pub count_le : (p : ℕ → Bool) (n : ℕ) → count p n ≤ n
unfolding count
count_le p zero = omega arith
count_le p (suc n) = ⊎_elim (λ e. rw e (omega (arith, count_le p n))) (λ e. rw e (omega (arith, count_le p n))) (bool_cases (p (suc n)))

module _ (f g : ℕ → ℕ) where
  pub total_le : (n : ℕ) → ((s : ℕ) → f s ≤ g s) → total f n ≤ total g n
  unfolding total
  total_le zero le = omega arith
  total_le (suc n) le = omega (arith, le (suc n), total_le n le)

  pub total_less : (n k : ℕ) → 1 ≤ k → k ≤ n → ((s : ℕ) → f s ≤ g s) → f k < g k → total f n < total g n
  unfolding total
  total_less zero k l u le less = absurd (omega arith)
  total_less (suc n) k l u le less =
      ⊎_elim (λ (e : k ≡ suc n). let less' : f (suc n) < g (suc n) = rw e at less in omega (arith, total_le n le))
      (λ (k_less : k < suc n). omega (arith, le (suc n), total_less n k l (omega arith) le less))
      (eq-or-lt_of_le u)

  pub total_apart : (n : ℕ) → ((s : ℕ) → suc (f s) ≤ g s) → total f n + n ≤ total g n
  unfolding total
  total_apart zero le = omega arith
  total_apart (suc n) le = omega (arith, le (suc n), total_apart n le)

-- a part is no more than the whole
pub total_part : (f : ℕ → ℕ) (n k : ℕ) → 1 ≤ k → k ≤ n → f k ≤ total f n
unfolding total
total_part f zero k l u = absurd (omega arith)
total_part f (suc n) k l u =
    ⊎_elim (λ (e : k ≡ suc n). rw e (omega arith)) (λ (less : k < suc n). omega (arith, total_part f n k l (omega arith))) (eq-or-lt_of_le u)

pub total_grows : (f : ℕ → ℕ) (i j : ℕ) → i ≤ j → total f i ≤ total f j
unfolding total
total_grows f i zero l = let e : i ≡ 0 = omega arith in omega (arith, ap (total f) e)
total_grows f i (suc j) l =
    ⊎_elim (λ (e : i ≡ suc j). omega (arith, ap (total f) e)) (λ (less : i < suc j). omega (arith, total_grows f i j (omega arith))) (eq-or-lt_of_le l)

-- n parts of at most m each
pub total_within : (f : ℕ → ℕ) (n m : ℕ) → ((k : ℕ) → 1 ≤ k → k ≤ n → f k ≤ m) → total f n ≤ n * m
unfolding total
total_within f zero m le = omega arith
total_within f (suc n) m le = omega (arith, le (suc n) (omega arith) (omega arith), total_within f n m (λ k l u. le k l (omega arith)))

module _ (f : ℕ → ℕ) where
  -- the largest is no more than what no part is more than
  pub largest_le : (n m : ℕ) → ((k : ℕ) → 1 ≤ k → k ≤ n → f k ≤ m) → largest f n ≤ m
  unfolding largest
  largest_le zero m le = omega arith
  largest_le (suc n) m le = omega (arith, le (suc n) (omega arith) (omega arith), largest_le n m (λ k l u. le k l (omega arith)))

  pub largest_part : (n k : ℕ) → 1 ≤ k → k ≤ n → f k ≤ largest f n
  unfolding largest
  largest_part zero k l u = absurd (omega arith)
  largest_part (suc n) k l u =
      ⊎_elim (λ (e : k ≡ suc n). rw e (omega arith)) (λ (less : k < suc n). omega (arith, largest_part n k l (omega arith))) (eq-or-lt_of_le u)
