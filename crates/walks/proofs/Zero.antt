-- The call of a function that is lent one slice and leaves zeros in it, as one step of a walk.
--     ZeroOf           its contract, for elements T with this zero
--     calls_zero       the slice is lent again for the call, and comes back with zeros
-- Assumes `Logic`, and that the callee meets the contract.
use mathlib.Core.Path.{◌≡◌, refl, ◌∙◌}
use mathlib.Core.List.{List, [], ◌∷◌}
use lib.ListN.{length, replicate}
use seplogic.Ra.Ura.{Ura}
use base.Fraction.{full_share}
use mir.Syntax.{Callee, Place, Opd as Operand, Body, Lifetime, named, seq, call}
use mir.Val.{vunit}
use base.Logic.{ent, emp, id⊢}
use base.Fml.{ftrue}
use prog.Wp.{Env, Calls, Loops}
use types.Logic.{Logic}
use contract.Monad.{fact}
use types.Kit.{Item, ‵, raw, some, ◌⊛◌, ⋆, ◌$◌, ◌∵◌, !, qed, move, drop, use1, group, split, join, pick, rewrite, fsplit, fjoin, feq_l, frame, done}
use types.Kit.{Post, lands, runs, Step, step}
use types.Run.{Opds}
use sound.WpLaws.{FmC}
use denote.RattleType.{RattleType}
use denote.Exit.{yes}
use denote.Plain.{Nothing-Tells}
use denote.Builtin.{unit}
use denote.Signature.{Signature, plain, mut_slice_of}
use denote.Slice.{Room}
use denote.Steps.{nothing, heard}
use denote.Triple.Clauses.{Ended, Lasts, lasts}
use denote.Triple.Spec.{Spec, exits, triple_of}
use denote.Triple.Statement.{Contract, Triple}
use Rattle.walks.proofs.Slices.{Slice, Loan, ref_of, val_of}
use Rattle.walks.proofs.Spell.{exc, life, on_loan, now_at_lem, kept, lends, backs}
use Rattle.walks.proofs.Calls.{calls_out}

module _ (R : RattleType) (zero : R.Denot) where
  abbrev signature : Signature
  signature = record { lifetimes = 1; outlives = []; params = mut_slice_of (0 ∷ []) tt (plain (λ _. R)) ∷ []; result = plain (λ _. unit) }

  abbrev ended : Ended
  ended = record { signature = signature; kept = (yes, tt) }

  -- as many zeros as the list has elements
  abbrev pub zeros : List R.Denot → List R.Denot
  zeros l = replicate (length l) zero

  module _ {M : Type 1} {𝓤 : Ura M} (𝓛 : Logic 𝓤) where
    abbrev spec : Spec 𝓤 signature
    spec κs a = record {
      ghost = Unit {0};
      requires = λ _. emp 𝓤;
      ensures = λ _ r. exits 𝓛 signature (yes, tt) κs a (λ end. fact 𝓤 (end.0.now ≡ zeros a.0.now));
    }

    abbrev pub ZeroOf : Contract 𝓤
    ZeroOf = triple_of 𝓛 signature spec

  module _ (s : Slice R.Denot) (ℓ : Lifetime) where
    module _ {M : Type 1} {𝓤 : Ura M} (𝓛 : Logic 𝓤) where
      abbrev pub to : Loan → (ZeroOf 𝓛).Ghost
      to a = (((a.ν ∷ [], tt), (full_share, tt), tt, (ref_of (on_loan s a), tt), (val_of s ∷ [], tt)), tt)

      goes : (a : Loan) → ent 𝓤 (⋆ 𝓛 (‵ (exc (named 0) R (on_loan s a)) ∷ ‵ (life (on_loan s a)) ∷ [])) ((ZeroOf 𝓛).pre (to a))
      goes a = qed 𝓛 (‵ (exc (named 0) R (on_loan s a)) ∷ ‵ (life (on_loan s a)) ∷ []) ∵ nothing ! $ move ! (1 ∷ 0 ∷ []) $ fjoin ! $ nothing ! $
          move ! (2 ∷ 0 ∷ []) $ join ! $ join ! $ frame ! $ done !

      abbrev Fin : Loan → Unit {0} → Item 𝓤
      Fin a _ = some (λ (ws : Lasts ended (a.ν ∷ [], tt) (ref_of (on_loan s a), tt)). ‵ (lasts ended (a.ν ∷ [], tt) (ref_of (on_loan s a), tt) ws)
          ⊛ raw (fact 𝓤 (ws.0 ≡ zeros s.now)))

    module _ {M : Type 1} {𝓤 : Ura M} {𝓛 : Logic 𝓤} {K : Type 0} {Γ : List (Item 𝓤)} {E : Env 𝓤 𝓛.H} {C : Calls 𝓤 𝓛.H} {Λ : Loops 𝓤
        𝓛.H}
        {q : Post 𝓤 𝓛.H} {f : Callee} {xs : List Operand} {d : Place} {rest : Body} where
      open 𝓛 use {H}

      pub calls_zero : K → FmC 𝓤 H 𝓛.laws C → Triple 𝓤 (C f) (ZeroOf 𝓛) → Room R s.count → length s.now ≡ s.count
          → ((a : Loan) → Opds K 𝓛 (raw ((ZeroOf 𝓛).pre (to 𝓛 a)) ∷ ‵ (kept R s a) ∷ Γ) E xs (val_of s ∷ []))
          → Step K 𝓛 (‵ (exc ℓ R (now_at_lem s (zeros s.now))) ∷ ‵ (life s) ∷ Γ) (lands C Λ E d vunit rest q)
          (‵ (exc ℓ R s) ∷ ‵ (life s) ∷ Γ) (runs C Λ E (seq (call f xs d) rest) q)
      calls_zero t fm known room long os = step (λ k.
          lends t tt R ℓ (named 0) s long (λ a. group t 2 $ use1 𝓛 (raw ((ZeroOf 𝓛).pre (to 𝓛 a))) (goes 𝓛 a) $
          calls_out t fm signature (spec 𝓛) known (to 𝓛 a) (Fin 𝓛 a) (λ _. id⊢ 𝓤 _) (λ _. vunit) Nothing-Tells (os a) (λ _ _.
          pick t (λ ws. split t $ move t (1 ∷ []) $ heard t (ws.0 ≡ zeros s.now) (λ e.
          fsplit t $ move t (1 ∷ []) $ drop t $ fsplit t $ move t (1 ∷ []) $ drop t $ fsplit t $ move t (1 ∷ []) $ feq_l t (λ e'. move t (1 ∷ []) $
          use1 𝓛 (‵ (life (on_loan s a)) ⊛ ‵ ftrue) (id⊢ 𝓤 _) $ split t $ move t (1 ∷ []) $ drop t $
          move t (0 ∷ 2 ∷ 1 ∷ []) $ backs t tt R ℓ s a ws.0 room long (e' ∙ long) $
          rewrite t 0 (λ (l : List R.Denot). ‵ (exc ℓ R (now_at_lem s l))) e refl $ k))))))
