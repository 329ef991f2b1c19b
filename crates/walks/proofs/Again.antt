-- A `&κ mut [T]` that is lent again for a lifetime κ' of a call, and comes back: `Denote/Lend.antt`'s `lends_again` and `comes_back`, of a slice.
-- LentAgain        what the holder keeps while the slice is lent again under the name γ₁: the lender's part at κ', and its own borrow at κ, open,
-- with both halves of its ghost variable
--     lends_again      own (the `&κ mut [T]` ((b, o), γ, ys)) ∗ [κ]_q  ⊢ ⇛ ∃ γ₁. own (the `&κ' mut [T]` ((b, o), γ₁, ys)) ∗ LentAgain γ₁
--     comes_back       given `Room` and that zs is as long as ys:  [†κ'] ∗ LentAgain γ₁ ∗ finally γ₁ zs  ⊢ ⇛ (own (the `&κ mut [T]` ((b, o), γ, zs)) ∗ [κ]_q)
-- The same as steps of `Types/Kit.antt`'s calculus, for a slice of m elements, whose machine value `slice_val (b, o) m` stays as the list changes:
-- what a loop needs, which lends the slice again in each turn.
-- lends_on         own (the `&κ mut [T]` ((b, o), γ, us)) ∗ [κ]_q   becomes, at a new lifetime ν and some name δ,   own (the `&ν mut [T]` ((b, o), δ,
-- us)) ∗ [ν]_1 ∗ LentAgain δ us
--     back_on          [ν]_1 ∗ LentAgain δ us ∗ finally δ zs   becomes   own (the `&κ mut [T]` ((b, o), γ, zs)) ∗ [κ]_q.        The lifetime ν is ended
-- The same for a `&` of it:
-- lends_read       own (the `&κ mut [T]` ((b, o), γ, us)) ∗ [κ]_q   becomes, at a new lifetime ν,   own (the `&ν [T]` ((b, o), us)) ∗ [ν]_1 ∗ LentRead us,
-- for T as `Row`'s `lends_row` asks
--     read_back_lem    [ν]_1 ∗ LentRead us   becomes   own (the `&κ mut [T]` ((b, o), γ, us)) ∗ [κ]_q.        The lifetime ν is ended
-- Assumes `Logic`.
use mathlib.Core.Path.{◌≡◌, refl, sym, ◌∙◌, ap, subst}
use Prim.Native.Nat.{ℕ}
use mathlib.Core.List.{List, [], ◌∷◌}
use lib.ListN.{length}
use seplogic.Ra.Ura.{Ura}
use base.Fraction.{full_share}
use mir.Syntax.{Lifetime}
use mir.Val.{Val}
use base.Logic.{ent, sep, ex}
use base.Fml.{Lft, GName, Share, Fml, fsep, flft, fdead, fobs, fauth, flent, fobor}
use types.Logic.{Logic, sem}
use types.Kit.{Goal, Soaks, Item, Seq, Step, step, rewrite, use2, ‵, ◌⊛◌, some, later, ◌$◌, ◌∵◌, !, qed, move, use1, use3, drop, split, pick}
use types.Kit.{fsplit, fjoin, frame, await, updating, now as at_once, show, done}
use types.Tokens.{lft_new, lft_end}
use types.SemTy.{cells, Arr}
use denote.RattleType.{RattleType}
use denote.Shadow.{pure_l, pure_i}
use types.Share.{arr_parts}
use denote.Memory.{mem, shares}
use denote.Ref.{MutBor}
use denote.Shares.{Shares}
use denote.Slice.{slice_val, MutSlice, ShrSlice, heres, Room, finally, mut_slice_at, coded_holeys}
use denote.Lend.{Held, lends_slice, slice_back}
use denote.Index.{row, whole_out, whole_in, opens_slice, closes_slice}
use Rattle.walks.proofs.Row.{Opened, opens_row, closes_row, lends_row, row_back}

module _ (R : RattleType) (κ κ' : Lft) (q : Share) (γ : GName) (b o : ℕ) where
  abbrev at_list : GName → List R.Denot → MutBor (List R.Denot)
  at_list δ ys = record { ref_ptr = (b, o); ghost_name = δ; now = ys }

  abbrev pub LentAgain : GName → List R.Denot → Fml
  LentAgain γ₁ ys = fsep (flent κ' (Held R (length ys) b o γ₁)) (fsep (fobor κ q (Held R (length ys) b o γ))
      (fsep (fobs γ ((coded_holeys R).code (heres R ys))) (fauth γ ((coded_holeys R).code (heres R ys)))))

  module _ {M : Type 1} {𝓤 : Ura M} (𝓛 : Logic 𝓤) (ℓ ℓ' : Lifetime) (ys : List R.Denot) where
    open 𝓛 use {H, A}

    abbrev vals : List Val
    vals = slice_val (b, o) (length ys) ∷ []

    pub lends_again : ent 𝓤 (sep 𝓤 (sem 𝓛 ((MutSlice ℓ κ R).own_val (at_list γ ys) vals)) (A.lft κ q))
        (H.⇛ (ex 𝓤 (λ (γ₁ : GName). sep 𝓤 (sem 𝓛 ((MutSlice ℓ' κ' R).own_val (at_list γ₁ ys) vals)) (sem 𝓛 (LentAgain γ₁ ys)))))
    lends_again =
        qed 𝓛 (‵ ((MutSlice ℓ κ R).own_val (at_list γ ys) vals) ∷ ‵ (flft κ q) ∷ []) ∵ updating ! $ fsplit ! $ pure_l ! (mut_slice_at R (at_list γ ys) vals)
        (λ p. fsplit ! $
        opens_slice ! tt R ys b o $
        use1 𝓛 (‵ (cells (mem R) ys b o)) (whole_in 𝓛 R ys b o) $
        use1 𝓛 (later (some (λ (γ₁ : GName). ‵ ((MutSlice ℓ' κ' R).own_val (at_list γ₁ ys) vals) ⊛ ‵ (flent κ' (Held R (length ys) b o γ₁)))))
        (lends_slice 𝓛 R ℓ' κ' ys b o p.1) $ await ! tt $ pick ! (λ γ₁. split ! $
        -- [the new slice; the lender's part at κ'; the open borrow at κ; obs γ; auth γ]
        at_once ! $ show ! (λ (γ' : GName). sep 𝓤 (sem 𝓛 ((MutSlice ℓ' κ' R).own_val (at_list γ' ys) vals)) (sem 𝓛 (LentAgain γ' ys))) γ₁ $ frame ! $
        move ! (2 ∷ 3 ∷ []) $ fjoin ! $ move ! (2 ∷ 0 ∷ []) $ fjoin ! $ move ! (1 ∷ 0 ∷ []) $ fjoin ! $ done !))

    pub comes_back : (γ₁ : GName) (zs : List R.Denot) → Room R (length ys) → length zs ≡ length ys
        → ent 𝓤 (sep 𝓤 (A.dead κ') (sep 𝓤 (sem 𝓛 (LentAgain γ₁ ys)) (sem 𝓛 (finally R γ₁ zs))))
        (H.⇛ (sep 𝓤 (sem 𝓛 ((MutSlice ℓ κ R).own_val (at_list γ zs) vals)) (A.lft κ q)))
    comes_back γ₁ zs room e =
        qed 𝓛 (‵ (fdead κ') ∷ ‵ (LentAgain γ₁ ys) ∷ ‵ (finally R γ₁ zs) ∷ []) ∵ updating ! $ move ! (1 ∷ []) $ fsplit ! $ move ! (2 ∷ 0 ∷ 3 ∷ []) $
        use3 𝓛 (later (‵ ((Arr (mem R) (length ys)).own_at zs b o))) (slice_back 𝓛 R κ' γ₁ zs (length ys) b o) $ await ! tt $ fsplit ! $ drop ! $
        use1 𝓛 (‵ (row R full_share zs b o)) (whole_out 𝓛 R zs b o) $
        move ! (1 ∷ []) $ fsplit ! $ move ! (1 ∷ []) $ fsplit ! $ move ! (3 ∷ 2 ∷ 0 ∷ 1 ∷ []) $ closes_slice ! tt R ys zs e b o $ at_once ! $
        fjoin ! $ pure_i ! (mut_slice_at R (at_list γ zs) vals) (tt, (tt, tt))
        (ap (λ (m : ℕ). slice_val (b, o) m ∷ []) (sym e), subst (Room R) (sym e) room) $ fjoin ! $
        done !

module _ {M : Type 1} {𝓤 : Ura M} {𝓛 : Logic 𝓤} {K : Type 0} {Γ : List (Item 𝓤)} {G : Goal 𝓤 𝓛.H} where
  pub lends_on : K → Soaks G → (R : RattleType) (ℓ ℓ' : Lifetime) (κ : Lft) (q : Share) (γ : GName) (b o m : ℕ) (us : List R.Denot) → length us ≡ m
      → ((ν : ℕ) (δ : GName) → Seq K 𝓛 (‵ ((MutSlice ℓ' (ν ∷ []) R).own_val (record { ref_ptr = (b, o); ghost_name = δ; now = us }) (slice_val (b, o) m ∷ []))
      ∷ ‵ (flft (ν ∷ []) full_share) ∷ ‵ (LentAgain R κ (ν ∷ []) q γ b o δ us) ∷ Γ) G)
      → Seq K 𝓛 (‵ ((MutSlice ℓ κ R).own_val (record { ref_ptr = (b, o); ghost_name = γ; now = us }) (slice_val (b, o) m ∷ [])) ∷ ‵ (flft κ q) ∷ Γ) G
  lends_on t z R ℓ ℓ' κ q γ b o m us e k =
      rewrite t 0 (λ (j : ℕ). ‵ ((MutSlice ℓ κ R).own_val (record { ref_ptr = (b, o); ghost_name = γ; now = us }) (slice_val (b, o) j ∷ []))) (sym e) refl $
      lft_new t z (λ ν. move t (1 ∷ 2 ∷ []) $
      use2 𝓛 (later (some (λ (δ : GName). ‵ ((MutSlice ℓ' (ν ∷ []) R).own_val (record { ref_ptr = (b, o); ghost_name = δ; now = us })
      (slice_val (b, o) (length us) ∷ [])) ⊛ ‵ (LentAgain R κ (ν ∷ []) q γ b o δ us)))) (lends_again R κ (ν ∷ []) q γ b o 𝓛 ℓ ℓ' us) $
      await t z $ pick t (λ δ. split t $ rewrite t 0 (λ (j : ℕ). ‵ ((MutSlice ℓ' (ν ∷ []) R).own_val (record { ref_ptr = (b, o); ghost_name = δ; now = us })
      (slice_val (b, o) j ∷ []))) e refl $ move t (0 ∷ 2 ∷ 1 ∷ []) $ k ν δ))

  pub back_on : K → Soaks G → (R : RattleType) (ℓ : Lifetime) (κ : Lft) (q : Share) (γ : GName) (b o m : ℕ) (ν : ℕ) (δ : GName)
      (us zs : List R.Denot) → Room R m
      → length us ≡ m → length zs ≡ m
      → Step K 𝓛 (‵ ((MutSlice ℓ κ R).own_val (record { ref_ptr = (b, o); ghost_name = γ; now = zs }) (slice_val (b, o) m ∷ [])) ∷ ‵ (flft κ q) ∷ Γ) G
      (‵ (flft (ν ∷ []) full_share) ∷ ‵ (LentAgain R κ (ν ∷ []) q γ b o δ us) ∷ ‵ (finally R δ zs) ∷ Γ) G
  back_on t z R ℓ κ q γ b o m ν δ us zs room e e' = step (λ s. lft_end t z $
      use3 𝓛 (later (‵ ((MutSlice ℓ κ R).own_val (record { ref_ptr = (b, o); ghost_name = γ; now = zs }) (slice_val (b, o) (length us) ∷ [])) ⊛ ‵ (flft κ q)))
      (comes_back R κ (ν ∷ []) q γ b o 𝓛 ℓ ℓ us δ zs (subst (Room R) (sym e) room) (e' ∙ sym e)) $ await t z $ split t $
      rewrite t 0 (λ (j : ℕ). ‵ ((MutSlice ℓ κ R).own_val (record { ref_ptr = (b, o); ghost_name = γ; now = zs }) (slice_val (b, o) j ∷ []))) e refl $ s)

abbrev pub LentRead : (R : RattleType) (κ : Lft) (ν : ℕ) (q : Share) (γ : GName) (b o : ℕ) → List R.Denot → Fml
LentRead R κ ν q γ b o us = fsep (flent (ν ∷ []) ((arr_parts (shares R) (length us)).part full_share us b o)) (Opened R κ q γ b o us)

module _ {M : Type 1} {𝓤 : Ura M} {𝓛 : Logic 𝓤} {K : Type 0} {Γ : List (Item 𝓤)} {G : Goal 𝓤 𝓛.H} where
  pub lends_read : K → Soaks G → (R : RattleType) → Shares 𝓛 R [] → (ℓ ℓ' : Lifetime) (κ : Lft) (q : Share) (γ : GName) (b o m : ℕ) (us : List R.Denot)
      → Room R m → length us ≡ m
      → ((ν : ℕ) → Seq K 𝓛 (‵ ((ShrSlice ℓ' (ν ∷ []) R).own_val (record { ref_ptr = (b, o); now = us }) (slice_val (b, o) m ∷ []))
      ∷ ‵ (flft (ν ∷ []) full_share) ∷ ‵ (LentRead R κ ν q γ b o us) ∷ Γ) G)
      → Seq K 𝓛 (‵ ((MutSlice ℓ κ R).own_val (record { ref_ptr = (b, o); ghost_name = γ; now = us }) (slice_val (b, o) m ∷ [])) ∷ ‵ (flft κ q) ∷ Γ) G
  lends_read t z R sh ℓ ℓ' κ q γ b o m us room e k =
      opens_row t z R ℓ κ q γ b o us $ lends_row t z R sh ℓ' b o us (subst (Room R) (sym e) room) (λ ν.
      rewrite t 0 (λ (j : ℕ). ‵ ((ShrSlice ℓ' (ν ∷ []) R).own_val (record { ref_ptr = (b, o); now = us }) (slice_val (b, o) j ∷ []))) e refl $
      move t (2 ∷ 3 ∷ []) $ fjoin t $ move t (1 ∷ 2 ∷ 0 ∷ []) $ k ν)

  pub read_back_lem : K → Soaks G → (R : RattleType) (ℓ : Lifetime) (κ : Lft) (q : Share) (γ : GName) (b o m ν : ℕ) (us : List R.Denot) → Room R m
      → length us ≡ m
      → Step K 𝓛 (‵ ((MutSlice ℓ κ R).own_val (record { ref_ptr = (b, o); ghost_name = γ; now = us }) (slice_val (b, o) m ∷ [])) ∷ ‵ (flft κ q) ∷ Γ) G
      (‵ (flft (ν ∷ []) full_share) ∷ ‵ (LentRead R κ ν q γ b o us) ∷ Γ) G
  read_back_lem t z R ℓ κ q γ b o m ν us room e = step (λ s. move t (1 ∷ []) $ fsplit t $ move t (2 ∷ 0 ∷ []) $ row_back t z R b o ν us $
      closes_row t z R ℓ κ q γ b o us us (subst (Room R) (sym e) room) refl $
      rewrite t 0 (λ (j : ℕ). ‵ ((MutSlice ℓ κ R).own_val (record { ref_ptr = (b, o); ghost_name = γ; now = us }) (slice_val (b, o) j ∷ []))) e refl $ s)
