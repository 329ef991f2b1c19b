-- The call rule in one step, for a callee whose result is plain data: what the caller has afterwards is the fact that the callee ensures of the
-- result, and the result's machine value written out.
--     calls_plain      the callee borrows nothing: what it asks is had for nothing, `emp ⊢ pre`, and nothing comes back but the result.
--     calls_out        what the callee asks stands at the head of the context (`pre`), and what `fin` says of the last values and the tokens comes back there
-- Assumes `Logic`, and that the table of calls is monotone under a frame.
use mathlib.Core.Path.{sym, ap, subst}
use mathlib.Core.List.{List, [], ◌∷◌}
use seplogic.Ra.Ura.{Ura}
use mir.Syntax.{Callee, Place, Opd as Operand, Body, seq, call}
use mir.Val.{Val}
use base.Logic.{ent, emp, id⊢}
use prog.Wp.{Env, Calls, Loops}
use types.Logic.{Logic}
use sound.WpLaws.{FmC}
use types.Kit.{Item, mean, ‵, raw, ◌⊛◌, some, later, ◌$◌, move, drop, use0, use1, split, pick, await, Post, lands, runs, Seq}
use types.Run.{Opds}
use contract.Lifetimes.{Lfts}
use contract.Monad.{fact}
use denote.Laws.{Is, Tells, shows}
use denote.RattleType.{RattleType}
use denote.Signature.{Signature, type_at}
use denote.Steps.{only, peeks, heard}
use denote.Triple.Call.{calls_at}
use denote.Triple.Entry.{alive}
use denote.Triple.Spec.{Spec, triple_of}
use denote.Triple.Statement.{Triple}

-- the result's type
abbrev pub Out : (S : Signature) → Lfts S.lifetimes → RattleType
Out S κs = type_at S.result κs

module _ {M : Type 1} {𝓤 : Ura M} {𝓛 : Logic 𝓤} {K : Type 0} {Γ : List (Item 𝓤)} {E : Env 𝓤 𝓛.H} {C : Calls 𝓤 𝓛.H}
    {Λ : Loops 𝓤 𝓛.H} {q : Post 𝓤 𝓛.H} {f : Callee} {xs : List Operand} {d : Place} {rest : Body} where
  -- what the callee asks stands at the head; what is made of its `ensures` at the result r is `fin r`
  open 𝓛 use {H}

  pub calls_out : K → FmC 𝓤 H 𝓛.laws C → (S : Signature) (s : Spec 𝓤 S) → Triple 𝓤 (C f) (triple_of 𝓛 S s) → (x : (triple_of 𝓛 S s).Ghost)
      → (fin : (Out S x.0.0).Denot → Item 𝓤) → ((r : (Out S x.0.0).Denot) → ent 𝓤 ((s x.0.0 x.0.3).ensures x.1 r) (mean 𝓛 (fin r)))
      → (val : (Out S x.0.0).Denot → Val) → Tells (Out S x.0.0) (Is (Out S x.0.0)) (λ r. val r ∷ [])
      → Opds K 𝓛 (raw ((triple_of 𝓛 S s).pre x) ∷ Γ) E xs ((triple_of 𝓛 S s).args x)
      → ((r : (Out S x.0.0).Denot) → Is (Out S x.0.0) r (val r ∷ []) → Seq K 𝓛 (fin r ∷ raw (alive 𝓛 S x.0.0 x.0.1) ∷ Γ)
      (lands C Λ E d (val r) rest q))
      → Seq K 𝓛 (raw ((triple_of 𝓛 S s).pre x) ∷ Γ) (runs C Λ E (seq (call f xs d) rest) q)
  calls_out t fm S s known x fin ens val tl os k =
      calls_at t fm (triple_of 𝓛 S s) known x os (λ v.
      use1 𝓛 (later (some (λ (r : (Out S x.0.0).Denot). (raw (alive 𝓛 S x.0.0 x.0.1) ⊛ ‵ ((Out S x.0.0).own_val r (v ∷ []))) ⊛ raw ((s x.0.0
      x.0.3).ensures x.1 r)))) (id⊢ 𝓤 _) $ await t tt $ pick t (λ r. split t $ split t $ move t (1 ∷ 2 ∷ []) $
      peeks t (Out S x.0.0) (Is (Out S x.0.0)) (shows 𝓛 (Out S x.0.0)) r (v ∷ []) (λ is. drop t $ use1 𝓛 (fin r) (ens r) $
      subst (λ (u : Val). Seq K 𝓛 (fin r ∷ raw (alive 𝓛 S x.0.0 x.0.1) ∷ Γ) (lands C Λ E d u rest q)) (sym (ap only (tl r (v ∷ []) is)))
      (k r (subst (Is (Out S x.0.0) r) (tl r (v ∷ []) is) is)))))

  -- nothing is borrowed
  pub calls_plain : K → FmC 𝓤 H 𝓛.laws C → (S : Signature) (s : Spec 𝓤 S) → Triple 𝓤 (C f) (triple_of 𝓛 S s) → (x : (triple_of 𝓛 S s).Ghost)
      → (φ : (Out S x.0.0).Denot → Type 0) → ((r : (Out S x.0.0).Denot) → ent 𝓤 ((s x.0.0 x.0.3).ensures x.1 r) (fact 𝓤 (φ r)))
      → (val : (Out S x.0.0).Denot → Val) → Tells (Out S x.0.0) (Is (Out S x.0.0)) (λ r. val r ∷ [])
      → ent 𝓤 (emp 𝓤) ((triple_of 𝓛 S s).pre x)
      → Opds K 𝓛 (raw ((triple_of 𝓛 S s).pre x) ∷ Γ) E xs ((triple_of 𝓛 S s).args x)
      → ((r : (Out S x.0.0).Denot) → φ r → Is (Out S x.0.0) r (val r ∷ []) → Seq K 𝓛 Γ (lands C Λ E d (val r) rest q))
      → Seq K 𝓛 Γ (runs C Λ E (seq (call f xs d) rest) q)
  calls_plain t fm S s known x φ ens val tl asks os k =
      use0 𝓛 (raw ((triple_of 𝓛 S s).pre x)) asks $
      calls_out t fm S s known x (λ r. raw (fact 𝓤 (φ r))) ens val tl os (λ r is. heard t (φ r) (λ e. drop t $ k r e is))
