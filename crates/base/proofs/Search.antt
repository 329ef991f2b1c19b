-- A scan from the front finds what `first_bad` finds.
use Prim.Native.Nat.{ℕ, zero, suc, ◌+◌, ◌≤◌, ◌<◌}
use mathlib.Core.Path.{◌≡◌, refl, sym, ap, ◌∙◌}
use mathlib.Core.Logic.{◌⊎◌, inl, inr, ⊎_elim}
use mathlib.Core.Bool.{Bool, true, false}
use Rattle.std.specs.Prelude.{Option, Some, None}
use native.Mathlib.Omega.{arith}
use native.Mathlib.Numerals.{add-one}
use Rattle.base.specs.Search.{first_bad, some_if, or_else, or_end}
use Rattle.base.specs.Below.{any_below}
use Rattle.base.proofs.Tests.{less?, is_false}
use Rattle.base.proofs.Below.{any_found, any_none}
use lib.Dec.{ltb}
use borrow.Author.Tests.{lt-ltb, le-ltb}

module _ (bad : ℕ → Bool) where
  -- none below i, and none at i
  pub scan_on : (i : ℕ) → first_bad bad i ≡ None → bad i ≡ false → first_bad bad (i + 1) ≡ None
  unfolding first_bad
  scan_on i e b = rw (add-one, e, b)

  -- none at i: what is found below i
  pub scan_skip : (i : ℕ) → bad i ≡ false → first_bad bad (i + 1) ≡ first_bad bad i
  unfolding first_bad
  scan_skip i b = rw (add-one, b) (stays (first_bad bad i))
    where
      stays : (o : Option ℕ) → or_else o None ≡ o
      stays None = refl
      stays (Some k) = refl

  -- none below i, and one at i
  pub scan_found : (i n : ℕ) → first_bad bad i ≡ None → bad i ≡ true → i < n → first_bad bad n ≡ Some i
  unfolding first_bad
  scan_found i zero e b l = absurd (omega arith)
  scan_found i (suc n) e b l = ⊎_elim (λ (q : i < n). rw (scan_found i n e b q)) (λ (q : n ≤ i). let s : i ≡ n = omega arith in rw (sym s, e, b)) (less? i n)

  -- all below i pass
  pub scan_none : (i : ℕ) → ((k : ℕ) → k < i → bad k ≡ false) → first_bad bad i ≡ None
  unfolding first_bad
  scan_none zero f = refl
  scan_none (suc i) f = rw (scan_none i (λ k l. f k (omega arith)), f i (omega arith))

  -- what is found stays found
  pub first_more : (m n i : ℕ) → m ≤ n → first_bad bad m ≡ Some i → first_bad bad n ≡ Some i
  unfolding first_bad
  first_more m zero i l e = let q : m ≡ 0 = omega arith in rw q at e
  first_more m (suc n) i l e =
      ⊎_elim (λ (q : m < suc n). rw (first_more m n i (omega arith) e)) (λ (q : suc n ≤ m). let s : m ≡ suc n = omega arith in rw s at e) (less? m (suc n))

-- two tests that agree below n find the same
pub scan_same : (p q : ℕ → Bool) (n : ℕ) → ((k : ℕ) → k < n → p k ≡ q k) → first_bad p n ≡ first_bad q n
unfolding first_bad
scan_same p q zero f = refl
scan_same p q (suc n) f = rw (scan_same p q n (λ k l. f k (omega arith)), f n (omega arith))

-- ---- from the code's number back to the option
option_cases : (o : Option ℕ) → (o ≡ None) ⊎ ((i : ℕ) × (o ≡ Some i))
option_cases None = inl refl
option_cases (Some i) = inr (i, refl)

pub first_below : (p : ℕ → Bool) (n i : ℕ) → first_bad p n ≡ Some i → i < n
unfolding first_bad
first_below p zero i e = let z : ◌≡◌ {A = ℕ} 0 1 = cc in absurd (omega arith)
first_below p (suc n) i e =
    ⊎_elim (λ (q : first_bad p n ≡ None). last (p n) (rw q at e))
    (λ q. let s : Some q.0 ≡ Some i = rw q.1 at e in let t : q.0 ≡ i = cc in omega (arith, first_below p n q.0 q.1))
    (option_cases (first_bad p n))
  where
    last : (b : Bool) → some_if b n ≡ Some i → i < suc n
    last true s = let t : n ≡ i = cc in omega arith
    last false s = let z : ◌≡◌ {A = ℕ} 0 1 = cc in absurd (omega arith)

pub first_passes : (p : ℕ → Bool) (n i : ℕ) → first_bad p n ≡ Some i → p i ≡ true
unfolding first_bad
first_passes p zero i e = let z : ◌≡◌ {A = ℕ} 0 1 = cc in absurd (omega arith)
first_passes p (suc n) i e =
    ⊎_elim (λ (q : first_bad p n ≡ None). last (p n) refl (rw q at e))
    (λ q. let s : Some q.0 ≡ Some i = rw q.1 at e in first_passes p n i (q.1 ∙ s))
    (option_cases (first_bad p n))
  where
    last : (b : Bool) → p n ≡ b → some_if b n ≡ Some i → p i ≡ true
    last true b s = let t : n ≡ i = cc in rw (← t) b
    last false b s = let z : ◌≡◌ {A = ℕ} 0 1 = cc in absurd (omega arith)

-- nothing is found where all fail, and before the place found all fail
pub none_fails : (p : ℕ → Bool) (n : ℕ) → first_bad p n ≡ None → (k : ℕ) → k < n → p k ≡ false
none_fails p n e k l =
    is_false (p k)
    (λ (b : p k ≡ true).
    ⊎_elim (λ (q : first_bad p k ≡ None). let z : None ≡ Some k = sym e ∙ scan_found p k n q b l in let y : ◌≡◌ {A = ℕ} 0 1 = cc in omega arith)
    (λ q. let z : None ≡ Some q.0 = sym e ∙ first_more p k n q.0 (omega arith) q.1 in let y : ◌≡◌ {A = ℕ} 0 1 = cc in omega arith)
    (option_cases (first_bad p k)))

pub first_fails : (p : ℕ → Bool) (n i : ℕ) → first_bad p n ≡ Some i → (k : ℕ) → k < i → p k ≡ false
first_fails p n i e k l =
    none_fails p i
    (⊎_elim (λ (q : first_bad p i ≡ None). q)
    (λ q.
    let s : Some q.0 ≡ Some i = sym (first_more p i n q.0 (omega (arith, first_below p n i e)) q.1) ∙ e in
    let t : q.0 ≡ i = cc in
    absurd (omega (arith, first_below p i q.0 q.1)))
    (option_cases (first_bad p i)))
    k
    l

module _ (p : ℕ → Bool) (n : ℕ) where
  pub end_some : or_end n (first_bad p n) < n → first_bad p n ≡ Some (or_end n (first_bad p n))
  end_some l = ⊎_elim (λ (q : first_bad p n ≡ None). let m : n < n = rw q at l in absurd (omega arith)) (λ q. rw q.1) (option_cases (first_bad p n))

  pub end_none : n ≤ or_end n (first_bad p n) → first_bad p n ≡ None
  end_none l = ⊎_elim (λ (q : first_bad p n ≡ None). q)
      (λ q. let m : n ≤ q.0 = rw q.1 at l in absurd (omega (arith, first_below p n q.0 q.1))) (option_cases (first_bad p n))

  -- the same of a result r of the code
  pub some_by : (r : ℕ) → r ≡ or_end n (first_bad p n) → r < n → first_bad p n ≡ Some r
  some_by r e l = end_some (omega arith) ∙ ap Some (sym e)

  pub none_by : (r : ℕ) → r ≡ or_end n (first_bad p n) → n ≤ r → first_bad p n ≡ None
  none_by r e l = end_none (omega arith)

  -- some place passes where one is found
  pub end_any : any_below p n ≡ ltb (or_end n (first_bad p n)) n
  end_any =
      ⊎_elim (λ (q : first_bad p n ≡ None). any_none p n (none_fails p n q) ∙ sym (rw q (le-ltb n n (omega arith))))
      (λ q. any_found p q.0 n (first_below p n q.0 q.1) (first_passes p n q.0 q.1) ∙ sym
      (rw q.1 (lt-ltb q.0 n (first_below p n q.0 q.1))))
      (option_cases (first_bad p n))
