-- "Items in braces are written rising, with `-` first": in the lines of a case every group rises, and none is 0.
use Prim.Native.Nat.{ℕ, zero, suc, ◌<◌}
use mathlib.Core.Path.{◌≡◌, refl}
use mathlib.Core.Logic.{◌⊎◌, inr, ⊎_elim}
use mathlib.Core.Bool.{Bool, true, false}
use mathlib.Core.List.{List, [], ◌∷◌, ◌++◌}
use mathlib.Core.List.Memᴰ.{cases_cons}
use mathlib.Core.List.Memᴰ.{head as here}
use mathlib.Core.List.Memᴰ.{not-nil}
use mathlib.Core.List.Memᴰ.{tail as later}
use mathlib.Core.List.{Memᴰ as Mem}
use mathlib.Core.List.Memᴰ.{append_cases}
use mathlib.Core.List.Memᴰ.{eq_of_singleton}
use native.Mathlib.Omega.{arith}
use lib.Dec.{eqb}
use lib.ListN.{length, get_or}
use Rattle.base.specs.Lists.{upto, keep, cons_if}
use Rattle.base.proofs.Members.{upto_in, keep_in}
use Rattle.lgs.specs.Market.{Market}
use Rattle.lgs.specs.Profiles.{outside_or}
use Rattle.wish_lines.specs.Lines.{Line}
use Rattle.wish_lines.specs.Wishes.{options_of, at_tier, cons_group, groups_from, line_of, lines_from, lines_of, Rising}

-- every item is below those behind it
abbrev Climbs : List ℕ → Type 0
Climbs [] = Unit {0}
Climbs (x ∷ xs) = ((y : ℕ) → Mem y xs → x < y) × Climbs xs

at_in : (xs : List ℕ) (i : ℕ) → i < length xs → Mem (get_or xs i 0) xs
at_in [] i l = absurd (omega arith)
at_in (x ∷ xs) zero l = here refl
at_in (x ∷ xs) (suc i) l = later (at_in xs i (omega arith))

climbs_rising : (xs : List ℕ) → Climbs xs → Rising xs
climbs_rising [] c i j l u = absurd (omega arith)
climbs_rising (x ∷ xs) c i zero l u = absurd (omega arith)
climbs_rising (x ∷ xs) c zero (suc j) l u = c.0 (get_or xs j 0) (at_in xs j (omega arith))
climbs_rising (x ∷ xs) c (suc i) (suc j) l u = climbs_rising xs c.1 i j (omega arith) (omega arith)

-- ---- a student's options

one_last : (xs : List ℕ) (x : ℕ) → Climbs xs → ((y : ℕ) → Mem y xs → y < x) → Climbs (xs ++ (x ∷ []))
one_last [] x c h = (λ y m. absurd (not-nil m), tt)
one_last (z ∷ xs) x c h = (
  λ y m. ⊎_elim (λ n. c.0 y n) (λ n. let e : y ≡ x = eq_of_singleton n in rw e (h z (here refl))) (append_cases xs m),
  one_last xs x c.1 (λ y m. h y (later m)),
)

upto_climbs : (n : ℕ) → Climbs (upto n)
unfolding upto
upto_climbs zero = tt
upto_climbs (suc n) = one_last (upto n) (suc n) (upto_climbs n) (λ y m. omega (arith, upto_in n y m))

cons_if_climbs : (b : Bool) (x : ℕ) (xs : List ℕ) → ((y : ℕ) → Mem y xs → x < y) → Climbs xs → Climbs (cons_if b x xs)
cons_if_climbs true x xs h c = (h, c)
cons_if_climbs false x xs h c = c

keep_climbs : (p : ℕ → Bool) (xs : List ℕ) → Climbs xs → Climbs (keep p xs)
unfolding keep
keep_climbs p [] c = tt
keep_climbs p (x ∷ xs) c = cons_if_climbs (p x) x (keep p xs) (λ y m. c.0 y (keep_in p xs y m).1) (keep_climbs p xs c.1)

-- ---- her groups

in_group : (h : List ℕ) (gs : List (List ℕ)) (g : List ℕ) → Mem g (cons_group h gs) → (g ≡ h) ⊎ Mem g gs
in_group [] gs g m = inr m
in_group (x ∷ xs) gs g m = cases_cons m

module _ (tier : ℕ → ℕ) (xs : List ℕ) (c : Climbs xs) where
  groups_climb : (k t : ℕ) (g : List ℕ) → Mem g (groups_from tier xs k t) → Climbs g
  unfolding groups_from at_tier
  groups_climb zero t g m = absurd (not-nil m)
  groups_climb (suc k) t g m =
      ⊎_elim (λ (e : g ≡ at_tier tier xs t). rw e (keep_climbs (λ x. eqb (tier x) t) xs c)) (λ n. groups_climb k (suc t) g n)
      (in_group (at_tier tier xs t) (groups_from tier xs k (suc t)) g m)

module _ (M : Market) where
  options_climb : (s : ℕ) → Climbs (options_of M s)
  unfolding options_of
  options_climb s =
      keep_climbs (outside_or (M.paired s)) (0 ∷ upto M.workshops) (λ y m. omega (arith, upto_in M.workshops y m), upto_climbs M.workshops)

  line_rises : (s : ℕ) (g : List ℕ) → Mem g (line_of M s).groups → Rising g
  unfolding line_of
  line_rises s g m = climbs_rising g (groups_climb (M.student_tier s) (options_of M s) (options_climb s) 65 1 g m)

  from_rise : (n k : ℕ) (l : Line) → Mem l (lines_from M n k) → (g : List ℕ) → Mem g l.groups → Rising g
  unfolding lines_from
  from_rise zero k l m = absurd (not-nil m)
  from_rise (suc n) k l m = ⊎_elim (λ (e : l ≡ line_of M (suc k)). rw e (line_rises (suc k))) (λ r. from_rise n (suc k) l r) (cases_cons m)

  pub lines_rise : (l : Line) → Mem l (lines_of M) → (g : List ℕ) → Mem g l.groups → Rising g
  unfolding lines_of
  lines_rise = from_rise M.students 0
