-- A workshop's seats as a list, best first: what `push` does to it, by induction on the list, with an order's ranks for the comparisons; and
-- entries of such lists.
use Prim.Native.Nat.{ℕ, zero, suc, ◌≤◌, ◌<◌}
use mathlib.Core.Path.{◌≡◌, refl, sym, ap}
use mathlib.Core.Logic.{◌⊎◌, inl, inr, ⊎_elim}
use mathlib.Core.Bool.{Bool, true, false, cond, ◌&&◌}
use mathlib.Core.List.{List, [], ◌∷◌}
use mathlib.Core.List.Memᴰ.{cases_cons}
use mathlib.Core.List.Memᴰ.{head as here}
use mathlib.Core.List.Memᴰ.{not-nil}
use mathlib.Core.List.Memᴰ.{tail as later}
use mathlib.Core.List.{Memᴰ as Mem}
use native.Mathlib.Omega.{arith}
use native.Mathlib.Nat.{eq-or-lt_of_le}
use lib.Dec.{eqb, ltb}
use lib.ListN.{length, get_or}
use borrow.Author.Tests.{eqb-true, ltb-true, ltb-false, eq-eqb}
use Rattle.lgs.specs.Market.{Market, Results, outscored}
use Rattle.lgs.specs.Profiles.{Profile, flip}
use Rattle.model.specs.Model.{before, push}
use Rattle.base.proofs.Tests.{bool_cases, and_left, and_right, or_true, or_false, less?}
use Rattle.lgs.proofs.Sides.{Known}
use Rattle.lgs.proofs.Setting.{Setting}
use Rattle.lgs.proofs.Invariant.{workshop_by_score}

-- strictly rising ranks
abbrev pub Ranked : (ℕ → ℕ) → List ℕ → Type 0
Ranked rank [] = Unit {0}
Ranked rank (x ∷ xs) = ((y : ℕ) → Mem y xs → rank x < rank y) × Ranked rank xs

-- x has taken her place among at most q seats, held by ys before, and out has no seat
pub record Pushed (rank : ℕ → ℕ) (q x : ℕ) (ys zs : List ℕ) (out : ℕ) : Type 0 where
  pub ranked : Ranked rank zs
  pub inside : (y : ℕ) → Mem y zs → (y ≡ x) ⊎ Mem y ys
  pub kept : (y : ℕ) → (y ≡ x) ⊎ Mem y ys → Mem y zs ⊎ (y ≡ out)
  pub room : length ys < q → (out ≡ 0) × (length zs ≡ suc (length ys))
  pub full : q ≤ length ys → ((out ≡ x) ⊎ Mem out ys) × (length zs ≡ q) × ((y : ℕ) → Mem y zs → rank y < rank out)

-- a goes first, b goes on
pushed_on : (rank : ℕ → ℕ) (q x y a b : ℕ) (ys zs : List ℕ) (out : ℕ)
    → ((z : ℕ) → (z ≡ x) ⊎ (z ≡ y) → (z ≡ a) ⊎ (z ≡ b)) → ((z : ℕ) → (z ≡ a) ⊎ (z ≡ b) → (z ≡ x) ⊎ (z ≡ y))
    → rank a < rank b → ((z : ℕ) → Mem z ys → rank a < rank z) → Pushed rank q b ys zs out → Pushed rank (suc q) x (y ∷ ys) (a ∷ zs) out
pushed_on rank q x y a b ys zs out to from ab ays P =
    record {
      ranked = (λ z m. above z (P.inside z m), P.ranked);
      inside = λ z m. ⊎_elim (λ e. back z (inl e)) (λ k. ⊎_elim (λ e. back z (inr e)) (λ n. inr (later n)) (P.inside z k)) (cases_cons m);
      kept = λ z m. ⊎_elim (λ e. forth z (to z (inl e))) (λ k. ⊎_elim (λ e. forth z (to z (inr e))) (λ n. goes_on z (inr n)) (cases_cons k)) m;
      room = λ l. let r : (out ≡ 0) × (length zs ≡ suc (length ys)) = P.room (omega arith) in (r.0, ap suc r.1);
      full = λ l. lasts (P.full (omega arith));
    }
  where
    above : (z : ℕ) → (z ≡ b) ⊎ Mem z ys → rank a < rank z
    above z m = ⊎_elim (λ (e : z ≡ b). rw e ab) (ays z) m

    back : (z : ℕ) → (z ≡ a) ⊎ (z ≡ b) → (z ≡ x) ⊎ Mem z (y ∷ ys)
    back z e = ⊎_elim inl (λ q. inr (here q)) (from z e)

    goes_on : (z : ℕ) → (z ≡ b) ⊎ Mem z ys → Mem z (a ∷ zs) ⊎ (z ≡ out)
    goes_on z m = ⊎_elim (λ k. inl (later k)) inr (P.kept z m)

    forth : (z : ℕ) → (z ≡ a) ⊎ (z ≡ b) → Mem z (a ∷ zs) ⊎ (z ≡ out)
    forth z e = ⊎_elim (λ q. inl (here q)) (λ q. goes_on z (inl q)) e

    lasts : ((out ≡ b) ⊎ Mem out ys) × (length zs ≡ q) × ((z : ℕ) → Mem z zs → rank z < rank out)
        → ((out ≡ x) ⊎ Mem out (y ∷ ys)) × (length (a ∷ zs) ≡ suc q) × ((z : ℕ) → Mem z (a ∷ zs) → rank z < rank out)
    lasts r = (
      ⊎_elim (λ e. back out (inr e)) (λ n. inr (later n)) r.0,
      ap suc r.1,
      λ z m. ⊎_elim (λ (e : z ≡ a). rw e (above out r.0)) (r.2 z) (cases_cons m),
    )

module _ (M : Market) (B : Results) (w : ℕ) (rank : ℕ → ℕ) (P : ℕ → Type 0)
    (wins : (x y : ℕ) → P x → P y → before M B w x y ≡ true → rank x < rank y)
    (loses : (x y : ℕ) → P x → P y → before M B w x y ≡ false → rank y ≤ rank x) where
  pub pushed : (q x : ℕ) (ys : List ℕ) → length ys ≤ q → P x → ((y : ℕ) → Mem y ys → P y) → ((y : ℕ) → Mem y ys → rank x ≡ rank y → ⊥) → Ranked rank ys
      → Pushed rank q x ys (push M B w q x ys).0 (push M B w q x ys).1
  unfolding push
  pushed zero x [] l px pys apart r =
      record {
        ranked = tt;
        inside = λ y m. absurd (not-nil m);
        kept = λ y m. ⊎_elim inr (λ k. absurd (not-nil k)) m;
        room = λ l'. absurd (omega arith);
        full = λ l'. (inl refl, refl, λ y m. absurd (not-nil m));
      }
  pushed zero x (y ∷ ys) l px pys apart r = absurd (omega arith)
  pushed (suc q) x [] l px pys apart r =
      record {
        ranked = (λ y m. absurd (not-nil m), tt);
        inside = λ y m. cases_cons m;
        kept = λ y m. inl (⊎_elim here later m);
        room = λ l'. (refl, refl);
        full = λ l'. absurd (omega arith);
      }
  pushed (suc q) x (y ∷ ys) l px pys apart r =
      ⊎_elim
      (λ (e : before M B w x y ≡ true).
      let xy : rank x < rank y = wins x y px (pys y (here refl)) e in
      rw e (pushed_on rank q x y x y ys _ _ (λ z k. k) (λ z k. k) xy (λ z m. omega (arith, r.0 z m))
      (pushed q y ys (omega arith) (pys y (here refl)) (λ z m. pys z (later m)) (λ z m q. omega (arith, r.0 z m)) r.1)))
      (λ (e : before M B w x y ≡ false).
      let le : rank y ≤ rank x = loses x y px (pys y (here refl)) e in
      let yx : rank y < rank x = ⊎_elim (λ q. absurd (apart y (here refl) (sym q))) (λ (k : rank y < rank x). k) (eq-or-lt_of_le le) in
      rw e (pushed_on rank q x y y x ys _ _ (λ z k. ⊎_elim inr inl k) (λ z k. ⊎_elim inr inl k) yx (λ z m. r.0 z m)
      (pushed q x ys (omega arith) px (λ z m. pys z (later m)) (λ z m. apart z (later m)) r.1)))
      (bool_cases (before M B w x y))

module _ (M : Market) (B : Results) (O : Profile) (Vs : ℕ → ℕ → Bool) (E : Setting M B O Vs) (w x y : ℕ)
    (kx : Known (flip M.paired) (flip Vs) w x) (ky : Known (flip M.paired) (flip Vs) w y) where
  pub before_rank : before M B w x y ≡ true → O.workshop_rank w x < O.workshop_rank w y
  unfolding before
  before_rank e =
      ⊎_elim (λ f. E.full.workshops.keeps w x y kx.option ky.option (ltb-true _ _ f))
      (λ f.
      E.results.workshops.higher w x y kx.option ky.option kx.seen ky.seen
      (eqb-true _ _ (and_left (eqb (M.workshop_tier w x) (M.workshop_tier w y)) _ f))
      (and_right (eqb (M.workshop_tier w x) (M.workshop_tier w y)) _ f))
      (or_true (ltb (M.workshop_tier w x) (M.workshop_tier w y)) _ e)

  pub not_before_rank : B.never y w ≡ false → before M B w x y ≡ false → O.workshop_rank w y ≤ O.workshop_rank w x
  unfolding before
  not_before_rank ok e =
      ⊎_elim (λ l. omega (arith, E.full.workshops.keeps w y x ky.option kx.option l))
      (λ (le : M.workshop_tier w x ≤ M.workshop_tier w y).
      let g : M.workshop_tier w x ≡ M.workshop_tier w y = omega (arith, ltb-false (M.workshop_tier w x) (M.workshop_tier w y) parts.0) in
      workshop_by_score M B O Vs E w y x ky kx (λ l. ok) (sym g) (rw (eq-eqb _ _ g) at parts.1))
      (less? (M.workshop_tier w y) (M.workshop_tier w x))
    where
      parts : (ltb (M.workshop_tier w x) (M.workshop_tier w y) ≡ false)
          × ((eqb (M.workshop_tier w x) (M.workshop_tier w y) && outscored M B w y x) ≡ false)
      parts = or_false (ltb (M.workshop_tier w x) (M.workshop_tier w y)) _ e

-- the last of a full list is behind everybody
pub last_in : (rank : ℕ → ℕ) (q : ℕ) (ys : List ℕ) → Ranked rank ys → length ys ≡ suc q → Mem (get_or ys q 0) ys ×
    ((y : ℕ) → Mem y ys → rank y ≤ rank (get_or ys q 0))
last_in rank q [] r l = absurd (omega arith)
last_in rank zero (y ∷ []) r l = (here refl, λ z m. ⊎_elim (λ (e : z ≡ y). omega (arith, ap rank e)) (λ k. absurd (not-nil k)) (cases_cons m))
last_in rank zero (y ∷ x ∷ ys) r l = absurd (omega arith)
last_in rank (suc q) (y ∷ ys) r l =
    let k : Mem (get_or ys q 0) ys × ((z : ℕ) → Mem z ys → rank z ≤ rank (get_or ys q 0)) = last_in rank q ys r.1 (omega arith) in
    (later k.0, λ z m. ⊎_elim (λ (e : z ≡ y). omega (arith, ap rank e, r.0 (get_or ys q 0) k.0)) (k.1 z) (cases_cons m))

-- there are no more than q seats afterwards
pub push_fits : (M : Market) (B : Results) (w q x : ℕ) (ys : List ℕ) → length (push M B w q x ys).0 ≤ q
unfolding push
push_fits M B w zero x ys = omega arith
push_fits M B w (suc q) x [] = omega arith
push_fits M B w (suc q) x (y ∷ ys) = by_before (before M B w x y) (push_fits M B w q y ys) (push_fits M B w q x ys)
  where
    by_before : (b : Bool) → length (push M B w q y ys).0 ≤ q → length (push M B w q x ys).0 ≤ q
        → length (cond {A = List ℕ × ℕ} b (x ∷ (push M B w q y ys).0, (push M B w q y ys).1) (y ∷ (push M B w q x ys).0, (push M B w q x ys).1)).0 ≤ suc q
    by_before true a b = omega arith
    by_before false a b = omega arith

-- ---- entries of a list of seats

-- one that is not zero is in the list
pub seat_in : (ys : List ℕ) (i : ℕ) → 0 < get_or ys i 0 → Mem (get_or ys i 0) ys
seat_in [] i p = absurd (omega arith)
seat_in (y ∷ ys) zero p = here refl
seat_in (y ∷ ys) (suc i) p = later (seat_in ys i p)

-- of two entries of ranked seats, the front one has the lower rank
pub ranked_at : (rank : ℕ → ℕ) (ys : List ℕ) → Ranked rank ys → (i j : ℕ) → i < j → 0 < get_or ys j 0
    → Mem (get_or ys i 0) ys × (rank (get_or ys i 0) < rank (get_or ys j 0))
ranked_at rank [] r i j l p = absurd (omega arith)
ranked_at rank (y ∷ ys) r i zero l p = absurd (omega arith)
ranked_at rank (y ∷ ys) r zero (suc j) l p = (here refl, r.0 (get_or ys j 0) (seat_in ys j p))
ranked_at rank (y ∷ ys) r (suc i) (suc j) l p =
    let k : Mem (get_or ys i 0) ys × (rank (get_or ys i 0) < rank (get_or ys j 0)) = ranked_at rank ys r.1 i j (omega arith) p in
    (later k.0, k.1)
