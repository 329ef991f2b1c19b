-- Slots: one more is met, and a key whose slot was not met is new.
use Prim.Native.Nat.{ℕ, ◌≤◌, ◌<◌}
use mathlib.Core.Path.{◌≡◌, sym, ap, ◌∙◌}
use mathlib.Core.Logic.{⊎_elim}
use mathlib.Core.Bool.{Bool, true, false}
use mathlib.Core.List.{List, [], ◌∷◌, ◌++◌}
use native.Mathlib.Omega.{arith}
use lib.ListN.{length, get_or}
use Rattle.base.specs.Bits.{met_in, Met}
use Rattle.base.proofs.Tests.{less?, never}
use Rattle.bits.proofs.Slots.{met_kept}
use Rattle.ties.specs.declared.Keyed.{Keyed}
use Rattle.ties.specs.Ties.{blank}
use Rattle.ties.specs.Seen.{Marked}
use Rattle.ties.proofs.Lowering.{at_old, at_new}

module _ (slot : ℕ → ℕ) where
  pub marked_none : (seen : List ℕ) → Marked slot [] seen
  marked_none seen = record { marked = λ j l. absurd (omega arith) }

  module _ {noted : List Keyed} {seen after : List ℕ} (h : Marked slot noted seen) (one : Keyed) where
    pub marked_on : {r : Bool} → Met seen after (slot one.key) r → Marked slot (noted ++ one ∷ []) after
    marked_on t = record { marked = go }
      where
        go : (j : ℕ) → j < length (noted ++ one ∷ []) → met_in after (slot (get_or (noted ++ one ∷ []) j blank).key) ≡ true
        go j u =
            ⊎_elim (λ (q : j < length noted). rw (at_old noted one j q) (met_kept t _ (h.marked j q)))
            (λ (q : length noted ≤ j). rw (at_new noted one j q u) t.there)
            (less? j (length noted))

    pub unmet_new : Met seen after (slot one.key) false → (j : ℕ) → j < length noted → (get_or noted j blank).key ≡ one.key → ⊥
    unmet_new t j l e = never (ap (λ x. met_in seen (slot x)) (sym e) ∙ h.marked j l) (sym t.was)
