-- Three tests in one search: what the joined search says of the search for each.
use Prim.Native.Nat.{ℕ}
use mathlib.Core.Path.{◌≡◌}
use mathlib.Core.Logic.{⊎_elim}
use mathlib.Core.Bool.{Bool, true, false, ◌||◌}
use Rattle.std.specs.Prelude.{Some, None}
use Rattle.base.specs.Search.{first_bad}
use Rattle.base.proofs.Tests.{never, or_true, or_false}
use Rattle.base.proofs.Search.{scan_none, scan_found, none_fails, first_below, first_passes, first_fails}

module _ (a b d : ℕ → Bool) where
  abbrev pub joined : ℕ → Bool
  joined i = a i || (b i || d i)

  -- a place fails all three
  all_fail : (i : ℕ) → joined i ≡ false → (a i ≡ false) × (b i ≡ false) × (d i ≡ false)
  all_fail i e =
      let r = or_false (a i) (b i || d i) e in
      let s = or_false (b i) (d i) r.1 in
      (r.0, s.0, s.1)

  -- nothing is found by any of the three where all together find nothing
  module _ (n : ℕ) (e : first_bad joined n ≡ None) where
    pub none_first : first_bad a n ≡ None
    none_first = scan_none a n (λ k l. (all_fail k (none_fails joined n e k l)).0)

    pub none_second : first_bad b n ≡ None
    none_second = scan_none b n (λ k l. (all_fail k (none_fails joined n e k l)).1)

    pub none_third : first_bad d n ≡ None
    none_third = scan_none d n (λ k l. (all_fail k (none_fails joined n e k l)).2)

  -- what all together find is what the third finds, where the first and the second find nothing
  pub some_third : (n i : ℕ) → first_bad joined n ≡ Some i → first_bad a n ≡ None → first_bad b n ≡ None → first_bad d n ≡ Some i
  some_third n i e p q =
      let l = first_below joined n i e in
      scan_found d i n (scan_none d i (λ k m. (all_fail k (first_fails joined n i e k m)).2))
      (third (first_passes joined n i e) (none_fails a n p i l) (none_fails b n q i l)) l
    where
      third : joined i ≡ true → a i ≡ false → b i ≡ false → d i ≡ true
      third t f g = ⊎_elim (λ u. never u f) (λ u. ⊎_elim (λ v. never v g) (λ v. v) (or_true (b i) (d i) u)) (or_true (a i) (b i || d i) t)
