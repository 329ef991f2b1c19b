-- Two clauses of a contract: `Denote/Triple/Walked.antt`'s `says`, of two facts.
--     says2        a goal P ∗ (⌜φ⌝ ∗ ⌜ψ⌝): the facts are shown, and P is left
-- Assumes `Logic`.
use mathlib.Core.List.{List}
use seplogic.Ra.Ura.{Ura}
use base.Logic.{SProp, ent, sep, emp, via, emp∗, mono_l, comm∗}
use types.Logic.{Logic}
use types.Kit.{Item, prop, Step, step}
use contract.Monad.{fact, fact_i}

module _ {M : Type 1} (𝓤 : Ura M) where
  -- a fact is had beside anything
  beside : (φ : Type 0) (P : SProp 𝓤) → φ → ent 𝓤 P (sep 𝓤 (fact 𝓤 φ) P)
  beside φ P x = via 𝓤 (sep 𝓤 (emp 𝓤) P) (emp∗ 𝓤 P) (mono_l 𝓤 P (fact_i 𝓤 φ (emp 𝓤) x))

  after : (P Q : SProp 𝓤) → ent 𝓤 (emp 𝓤) Q → ent 𝓤 P (sep 𝓤 P Q)
  after P Q h = via 𝓤 (sep 𝓤 (emp 𝓤) P) (emp∗ 𝓤 P) (via 𝓤 (sep 𝓤 Q P) (mono_l 𝓤 P h) (comm∗ 𝓤 Q P))

module _ {M : Type 1} {𝓤 : Ura M} {𝓛 : Logic 𝓤} {K : Type 0} {Γ : List (Item 𝓤)} where
  pub says2 : K → {φ ψ : Type 0} {P : SProp 𝓤} → φ → ψ → Step K 𝓛 Γ (prop P) Γ (prop (sep 𝓤 P (sep 𝓤 (fact 𝓤 φ) (fact 𝓤 ψ))))
  says2 t {φ} {ψ} {P} x y = step (λ s. record {
    prf = via 𝓤 P s.prf
        (after 𝓤 P (sep 𝓤 (fact 𝓤 φ) (fact 𝓤 ψ)) (via 𝓤 (fact 𝓤 ψ) (fact_i 𝓤 ψ (emp 𝓤) y) (beside 𝓤 φ (fact 𝓤 ψ) x)));
  })
