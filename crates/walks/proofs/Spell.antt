-- Short forms of the kit's steps, for a walk that lends slices.
--     val              a local is read whole
--     ◌▸◌              an operand, and then the others
--     sets, lands_at   a local that is room is written: by an assignment, by a call's result
--     rooms, holds     locals, the last one first, all of them room; a local that has a value
--     had, had_shr     a slice as a parameter gives it, a `&mut` or a `&`
--     shr, exc, life   what is owned of a slice that is shared, of one that is had alone; the token of its lifetime
--     on_loan,         a slice while it is lent for a call, as a `&mut`, as a `&`
--     on_loan_shr
--     now_at_lem       a slice at another list
--     copies           a `&` slice twice, for elements with `RowLaws`
--     lends, backs     a `&mut` slice is lent again for a call, and comes back: `Again`'s `lends_on` and `back_on`; `kept` is what its holder keeps
--     lends_shr,       the same of a `&mut` slice that is lent as a `&`, for elements as `Row`'s `lends_row` asks: `lends_read` and `read_back_lem`;
--     backs_shr        `kept_shr` is what its holder keeps
-- Assumes `Logic`.
use mathlib.Core.Path.{◌≡◌}
use Prim.Native.Nat.{ℕ, ◌<◌, ◌^◌}
use mathlib.Core.List.{List, [], ◌∷◌}
use lib.Dec.{T}
use lib.ListN.{length}
use seplogic.Ra.Ura.{Ura}
use base.Fraction.{full_share}
use mir.Syntax.{Ty, Lifetime, w64, place, copy, Opd as Operand, Rv as RValue, Body, assign, seq}
use mir.Val.{Val, WT, Fits, has_ty}
use base.Fml.{Lft, Share, Fml, fat, froom, fdies, flft}
use prog.Wp.{Env, Calls, Loops, spot_of}
use types.Logic.{Logic}
use types.Kit.{Goal, Soaks, Item, ‵, ◌⊛◌, nth, put, Seq, Step, step, Post, runs, lands, Go, !, ◌$◌, use1, split}
use types.Run.{Opd, Opds, Rv, look, init, stop, from, load, and_then, assigns, land}
use denote.RattleType.{RattleType, RowLaws}
use denote.Ref.{Bor, MutBor}
use denote.Shares.{Shares}
use denote.Slice.{MutSlice, ShrSlice, Room, finally, shr_slice_copy}
use Rattle.walks.proofs.Slices.{Slice, Loan, spot_of_lem, shr_spot_of, ref_of, shr_of, val_of}
use Rattle.walks.proofs.Again.{LentAgain, LentRead, lends_on, back_on, lends_read, read_back_lem}

module _ {M : Type 1} {𝓤 : Ura M} {𝓛 : Logic 𝓤} {Γ : List (Item 𝓤)} {E : Env 𝓤 𝓛.H} where
  open 𝓛 use {H}

  infixr 4 ◌▸◌
  pub ◌▸◌ : {x : Operand} {xs : List Operand} {v : Val} {vs : List Val} → Opd (Go {0}) 𝓛 Γ E x v → Opds (Go {0}) 𝓛 Γ E xs vs → Opds (Go {0}) 𝓛 Γ E (x ∷ xs)
      (v ∷ vs)
  a ▸ b = and_then ! a b

  module _ {K : Type 0} where
    pub val : K → (n : ℕ) {i : ℕ} {q : Share} {v : Val} → nth 𝓛 n Γ ≡ ‵ (fat q (spot_of 𝓤 H E i).0 (spot_of 𝓤 H E i).1 0 v) → Opd K 𝓛 Γ E (copy (place i
        [])) v
    val t n e = load t (from t (stop t)) (look t n e)

    module _ {C : Calls 𝓤 H} {Λ : Loops 𝓤 H} {q : Post 𝓤 H} where
      pub sets : K → {i : ℕ} {r : RValue} {rest : Body} {v : Val} → Rv K 𝓛 Γ E r v → (n : ℕ)
          → nth 𝓛 n Γ ≡ ‵ (froom (spot_of 𝓤 H E i).0 (spot_of 𝓤 H E i).1 0) → T (has_ty (spot_of 𝓤 H E i).0 v) × WT v
          → Step K 𝓛 (put 𝓛 n (‵ (fat full_share (spot_of 𝓤 H E i).0 (spot_of 𝓤 H E i).1 0 v)) Γ) (runs C Λ E rest q) Γ (runs C Λ E (seq (assign (place i
          []) r) rest) q)
      sets t r n e wt = assigns t r (from t (stop t)) (init t n e wt)

      pub lands_at : K → {i : ℕ} {rest : Body} {v : Val} (n : ℕ)
          → nth 𝓛 n Γ ≡ ‵ (froom (spot_of 𝓤 H E i).0 (spot_of 𝓤 H E i).1 0) → T (has_ty (spot_of 𝓤 H E i).0 v) × WT v
          → Step K 𝓛 (put 𝓛 n (‵ (fat full_share (spot_of 𝓤 H E i).0 (spot_of 𝓤 H E i).1 0 v)) Γ) (runs C Λ E rest q) Γ (lands C Λ E (place i []) v rest q)
      lands_at t n e wt = land t (from t (stop t)) (init t n e wt)

abbrev pub had : {X : Type 0} → Lft → Share → MutBor (List X) → Slice X
had κ q r = record { κ = κ; q = q; p = spot_of_lem r; now = r.now; count = length r.now }

abbrev pub had_shr : {X : Type 0} → Lft → Share → Bor (List X) → Slice X
had_shr κ q r = record { κ = κ; q = q; p = shr_spot_of r; now = r.now; count = length r.now }

abbrev pub shr : (ℓ : Lifetime) (R : RattleType) → Slice R.Denot → Fml
shr ℓ R s = (ShrSlice ℓ s.κ R).own_val (shr_of s) (val_of s ∷ [])

abbrev pub exc : (ℓ : Lifetime) (R : RattleType) → Slice R.Denot → Fml
exc ℓ R s = (MutSlice ℓ s.κ R).own_val (ref_of s) (val_of s ∷ [])

abbrev pub life : {X : Type 0} → Slice X → Fml
life s = flft s.κ s.q

abbrev pub on_loan : {X : Type 0} → Slice X → Loan → Slice X
on_loan s a = record { κ = a.ν ∷ []; q = full_share; p = record { b = s.p.b; o = s.p.o; γ = a.δ }; now = s.now; count = s.count }

abbrev pub on_loan_shr : {X : Type 0} → Slice X → ℕ → Slice X
on_loan_shr s ν = record { κ = ν ∷ []; q = full_share; p = s.p; now = s.now; count = s.count }

abbrev pub now_at_lem : {X : Type 0} → Slice X → List X → Slice X
now_at_lem s l = record { κ = s.κ; q = s.q; p = s.p; now = l; count = s.count }

-- what is kept of a slice while it is lent
abbrev pub kept : (R : RattleType) → Slice R.Denot → Loan → Fml
kept R s a = LentAgain R s.κ (a.ν ∷ []) s.q s.p.γ s.p.b s.p.o a.δ s.now

-- the same where it is lent as a `&`
abbrev pub kept_shr : (R : RattleType) → Slice R.Denot → ℕ → Fml
kept_shr R s ν = LentRead R s.κ ν s.q s.p.γ s.p.b s.p.o s.now

abbrev pub rooms : {M : Type 1} {𝓤 : Ura M} → List (Ty × ℕ) → List (Item 𝓤) → List (Item 𝓤)
rooms [] Γ = Γ
rooms (l ∷ ls) Γ = rooms ls (‵ (froom l.0 l.1 0) ∷ ‵ (fdies l.0 l.1) ∷ Γ)

abbrev pub holds : {M : Type 1} {𝓤 : Ura M} → Ty → ℕ → Val → List (Item 𝓤) → List (Item 𝓤)
holds τ l v Γ = ‵ (fat full_share τ l 0 v) ∷ ‵ (fdies τ l) ∷ Γ

-- a slice's machine value has a slice's type
abbrev pub slice_fits : {n : ℕ} → n < 2 ^ 64 → Unit {0} × (Unit {0} × (Fits w64 n × Unit {0}))
slice_fits p = (tt, (tt, (record { fits = p }, tt)))

module _ {M : Type 1} {𝓤 : Ura M} {𝓛 : Logic 𝓤} {K : Type 0} {Γ : List (Item 𝓤)} {G : Goal 𝓤 𝓛.H} where
  pub copies : K → (ℓ : Lifetime) (R : RattleType) → RowLaws R → (s : Slice R.Denot)
      → Step K 𝓛 (‵ (shr ℓ R s) ∷ ‵ (shr ℓ R s) ∷ Γ) G (‵ (shr ℓ R s) ∷ Γ) G
  copies t ℓ R L s = step (λ c. use1 𝓛 (‵ (shr ℓ R s) ⊛ ‵ (shr ℓ R s)) ((shr_slice_copy 𝓛 ℓ s.κ R L).twice (shr_of s) (val_of s ∷ [])) $ split t $ c)

  pub lends : K → Soaks G → (R : RattleType) (ℓ ℓ' : Lifetime) (s : Slice R.Denot) → length s.now ≡ s.count
      → ((a : Loan) → Seq K 𝓛 (‵ (exc ℓ' R (on_loan s a)) ∷ ‵ (life (on_loan s a)) ∷ ‵ (kept R s a) ∷ Γ) G) → Seq K 𝓛 (‵ (exc ℓ R s) ∷ ‵ (life s) ∷ Γ) G
  lends t z R ℓ ℓ' s e k =
      lends_on t z R ℓ ℓ' s.κ s.q s.p.γ s.p.b s.p.o s.count s.now e (λ ν δ. k (record { ν = ν; δ = δ }))

  pub backs : K → Soaks G → (R : RattleType) (ℓ : Lifetime) (s : Slice R.Denot) (a : Loan) (zs : List R.Denot) → Room R s.count
      → length s.now ≡ s.count → length zs ≡ s.count
      → Step K 𝓛 (‵ (exc ℓ R (now_at_lem s zs)) ∷ ‵ (life s) ∷ Γ) G (‵ (life (on_loan s a)) ∷ ‵ (kept R s a) ∷ ‵ (finally R a.δ zs) ∷ Γ) G
  backs t z R ℓ s a zs room e e' = back_on t z R ℓ s.κ s.q s.p.γ s.p.b s.p.o s.count a.ν a.δ s.now zs room e e'

  pub lends_shr : K → Soaks G → (R : RattleType) → Shares 𝓛 R [] → (ℓ ℓ' : Lifetime) (s : Slice R.Denot) → Room R s.count → length s.now ≡ s.count
      → ((ν : ℕ) → Seq K 𝓛 (‵ (shr ℓ' R (on_loan_shr s ν)) ∷ ‵ (life (on_loan_shr s ν)) ∷ ‵ (kept_shr R s ν) ∷ Γ) G)
      → Seq K 𝓛 (‵ (exc ℓ R s) ∷ ‵ (life s) ∷ Γ) G
  lends_shr t z R sh ℓ ℓ' s room e k = lends_read t z R sh ℓ ℓ' s.κ s.q s.p.γ s.p.b s.p.o s.count s.now room e k

  pub backs_shr : K → Soaks G → (R : RattleType) (ℓ : Lifetime) (s : Slice R.Denot) (ν : ℕ) → Room R s.count → length s.now ≡ s.count
      → Step K 𝓛 (‵ (exc ℓ R s) ∷ ‵ (life s) ∷ Γ) G (‵ (life (on_loan_shr s ν)) ∷ ‵ (kept_shr R s ν) ∷ Γ) G
  backs_shr t z R ℓ s ν room e = read_back_lem t z R ℓ s.κ s.q s.p.γ s.p.b s.p.o s.count ν s.now room e
