-- "Groups counted from 1": in a line that fits each number from 1 to that of the last group is the position of some item.
use Prim.Native.Nat.{ℕ, zero, suc, ◌≤◌}
use mathlib.Core.Path.{◌≡◌, refl, ap, ◌∙◌}
use mathlib.Core.Logic.{⊎_elim}
use mathlib.Core.Bool.{Bool, true, false}
use mathlib.Core.List.{List, [], ◌∷◌, flatten}
use mathlib.Core.List.Memᴰ.{head as here}
use mathlib.Core.List.Memᴰ.{tail as later}
use mathlib.Core.List.{Memᴰ as Mem}
use mathlib.Core.List.Memᴰ.{append_right as in_right}
use native.Mathlib.Omega.{arith}
use lib.Dec.{eqb}
use lib.ListN.{length}
use Rattle.base.specs.Lists.{one, any, tally}
use Rattle.base.proofs.Tests.{bool_cases, is_false}
use Rattle.base.proofs.Below.{tally_append}
use Rattle.lgs.specs.Market.{Market}
use Rattle.wish_lines.specs.Lines.{Line, times, Formed, position}
use Rattle.wish_lines.specs.Reading.{misnamed}
use Rattle.wish_lines.specs.Wishes.{Option?, Ranged}
use Rattle.wish_lines.proofs.Groups.{has_in, in_has}
use Rattle.wish_lines.proofs.Written.{tally_in}
use Rattle.wish_lines.proofs.Naming.{named_exactly, within, once}

-- each group has an item, and no item is in two
item_of : (gs : List (List ℕ)) (k : ℕ) → ((g : List ℕ) → Mem g gs → 1 ≤ length g) → ((y : ℕ) → tally (eqb y) (flatten gs) ≤ 1) → 1 ≤ k → k ≤ length gs
    → (y : ℕ) × Mem y (flatten gs) × (position gs y ≡ k)
unfolding flatten position
item_of [] k some lone l u = absurd (omega arith)
item_of (g ∷ gs) zero some lone l u = absurd (omega arith)
item_of ([] ∷ gs) (suc k) some lone l u = absurd (omega (arith, some [] (here refl)))
item_of ((x ∷ g) ∷ gs) (suc zero) some lone l u = (x, here refl, rw (in_has x (x ∷ g) (here refl)))
item_of ((x ∷ g) ∷ gs) (suc (suc k)) some lone l u =
    let r : (y : ℕ) × Mem y (flatten gs) × (position gs y ≡ suc k) =
    item_of gs (suc k) (λ h m. some h (later m)) (λ y. omega (arith, lone y, tally_append (eqb y) (x ∷ g) (flatten gs))) (omega arith) (omega arith) in
    let twice = tally_append (eqb r.0) (x ∷ g) (flatten gs) in
    let absent : any (eqb r.0) (x ∷ g) ≡ false =
    is_false _ (λ e. omega (arith, lone r.0, twice, tally_in r.0 (flatten gs) r.1, tally_in r.0 (x ∷ g) (has_in r.0 (x ∷ g) e))) in
    (r.0, in_right (x ∷ g) r.1, rw absent (ap suc r.2))

one_most : (b : Bool) → one b ≤ 1
one_most true = omega arith
one_most false = omega arith

module _ (M : Market) (R : Ranged M) (l : Line) (f : Formed l) (e : misnamed M l ≡ false) where
  lone : (y : ℕ) → times y l ≤ 1
  lone zero = omega (arith, f.none)
  lone (suc w) = omega (arith, (named_exactly M R l).0 e (suc w) (omega arith), one_most (M.paired l.student (suc w)))

  is_option : (y : ℕ) → 1 ≤ times y l → Option? M l.student y
  is_option zero n = refl
  is_option (suc w) n =
      ⊎_elim (λ (p : M.paired l.student (suc w) ≡ true). p)
      (λ (p : M.paired l.student (suc w) ≡ false). absurd (omega (arith, (named_exactly M R l).0 e (suc w) (omega arith) ∙ ap one p)))
      (bool_cases (M.paired l.student (suc w)))

  pub each_counted : (x k : ℕ) → Option? M l.student x → 1 ≤ k → k ≤ position l.groups x
      → (y : ℕ) × Option? M l.student y × (position l.groups y ≡ k)
  unfolding times
  each_counted x k o low up =
      let r = item_of l.groups k f.groups lone low (omega (arith, within M R l f e l.groups x (once M R l f e x o))) in
      (r.0, is_option r.0 (tally_in r.0 (flatten l.groups) r.1), r.2)
