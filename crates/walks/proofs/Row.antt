-- A `&κ mut [T]` opened for a while, as a row of elements, for an element type T of plain data: its machine value is written out, and what it owns is
-- had for nothing.
-- Kind R           what is asked of T: `val` spells the machine value, `tells` that the relation tells it, and `makes` that the relation makes what T
-- owns. `kind_of` has it for a declared struct of plain data
--     Opened           what is left of the reference while its row is out: the open borrow, with both halves of its ghost variable
--     opens_row        own (the `&κ mut [T]` ((b, o), γ, ys)) ∗ [κ]_q   becomes   the row ys ∗ Opened ys
-- closes_row       the row zs ∗ Opened ys   becomes   own (the `&κ mut [T]` ((b, o), γ, zs)) ∗ [κ]_q,   for zs as long as ys. The machine value has
-- the count that it had
--     lends_row        the row zs   becomes, at a new lifetime ν,   own (the `&ν [T]` ((b, o), zs)) ∗ [ν]_1 ∗ the lender's part,   where T is shared out
-- with no token but that of the `&`: `Denote/Shares.antt`'s law at `'static`, as plain data has it (`Denote/Copied.antt`'s `shares`)
--     row_back         [ν]_1 ∗ the lender's part   becomes   the row zs.        The lifetime ν is ended
--     takes_elem       the row ys   becomes   the cell of ys[i] ∗ the others, and that ys[i] is a T is learned
--     puts_elem        the cell with y ∗ the others   becomes   the row ys with y at i
--     puts_back        the cell of ys[i], which was only read, ∗ the others   becomes   the row ys
-- Definitions assume nothing. The steps assume `Logic`.
use mathlib.Core.Path.{◌≡◌, refl, sym, ap, subst}
use Prim.Native.Nat.{ℕ, ◌<◌}
use mathlib.Core.List.{List, [], ◌∷◌}
use lib.ListN.{length, get_or, set}
use seplogic.Ra.Ura.{Ura}
use base.Fraction.{full_share}
use mir.Syntax.{Lifetime}
use mir.Val.{Val}
use base.Fml.{Lft, GName, Share, Fml, Incl-refl, fsep, flft, flent, fobs, fauth, fobor}
use types.Logic.{Logic}
use types.Kit.{Item, ‵, ◌⊛◌, later, ◌$◌, Step, step, Seq, Goal, Soaks, move, drop, use2, split, await, fsplit, fjoin, feq_i}
use types.Share.{arr_parts}
use types.Tokens.{lft_new, lft_end, lent_back}
use contract.BorrowLft.{⊑_static}
use denote.RattleType.{RattleType}
use denote.Shadow.{pure_i}
use denote.Laws.{Is, Tells, Makes, shows}
use denote.Memory.{cell_at, mem, shares}
use denote.Ref.{MutBor}
use denote.Slice.{slice_val, MutSlice, ShrSlice, Room, heres, coded_holeys, mut_slice_at}
use denote.Lend.{Held, lends_shr_slice}
use denote.Index.{row, place, others, elem_out, elem_put, elem_back, opens_slice, closes_slice}
use denote.Shares.{Shares}
use denote.Steps.{owned}
use denote.Struct.Declared.{Declared}
use denote.Struct.Declared as D
use denote.Struct.Struct.{Plains}
use denote.Struct.Laws as LL

pub record Kind (R : RattleType) : Type 2 where
  pub val : R.Denot → Val
  pub tells : Tells R (Is R) (λ r. val r ∷ [])
  pub makes : {M : Type 1} {𝓤 : Ura M} (𝓛 : Logic 𝓤) → Makes 𝓛 R (Is R)

-- a declared struct of plain data, at the laws that Rattle makes of it: `kind_of T.the_type T'.lowers T'.the_plain`
abbrev pub kind_of : (T : Declared) → LL.Lowered T → Plains (D.fields T) → Kind (D.row T)
kind_of T L P = record { val = L.lowered; tells = L.val_is; makes = LL.makes T P }

module _ (R : RattleType) (κ : Lft) (q : Share) (γ : GName) (b o : ℕ) where
  abbrev pub at_list : List R.Denot → MutBor (List R.Denot)
  at_list ys = record { ref_ptr = (b, o); ghost_name = γ; now = ys }

  abbrev pub Opened : List R.Denot → Fml
  Opened ys = fsep (fobor κ q (Held R (length ys) b o γ)) (fsep (fobs γ ((coded_holeys R).code (heres R ys))) (fauth γ ((coded_holeys R).code (heres R ys))))

module _ {M : Type 1} {𝓤 : Ura M} {𝓛 : Logic 𝓤} {K : Type 0} {Γ : List (Item 𝓤)} {G : Goal 𝓤 𝓛.H} where
  pub opens_row : K → Soaks G → (R : RattleType) (ℓ : Lifetime) (κ : Lft) (q : Share) (γ : GName) (b o : ℕ) (ys : List R.Denot) {vs : List Val}
      → Step K 𝓛 (‵ (row R full_share ys b o) ∷ ‵ (Opened R κ q γ b o ys) ∷ Γ) G (‵ ((MutSlice ℓ κ R).own_val (at_list R κ q γ b o ys) vs) ∷ ‵ (flft κ q) ∷ Γ) G
  opens_row t z R ℓ κ q γ b o ys = step (λ s. fsplit t $ drop t $ fsplit t $ opens_slice t z R ys b o $ move t (2 ∷ 3 ∷ []) $ fjoin t $ move t (2 ∷ 0 ∷ []) $
      fjoin t $ move t (1 ∷ 0 ∷ []) $ s)

  pub closes_row : K → Soaks G → (R : RattleType) (ℓ : Lifetime) (κ : Lft) (q : Share) (γ : GName) (b o : ℕ) (ys zs : List R.Denot) → Room R (length ys)
      → length zs ≡ length ys
      → Step K 𝓛 (‵ ((MutSlice ℓ κ R).own_val (at_list R κ q γ b o zs) (slice_val (b, o) (length ys) ∷ [])) ∷ ‵ (flft κ q) ∷ Γ) G (‵ (row R full_share zs b o)
      ∷ ‵ (Opened R κ q γ b o ys) ∷ Γ) G
  closes_row t z R ℓ κ q γ b o ys zs room e = step (λ s. move t (1 ∷ []) $ fsplit t $ move t (1 ∷ []) $ fsplit t $ move t (3 ∷ 2 ∷ 0 ∷ 1 ∷ []) $
      closes_slice t z R ys zs e b o $
      fjoin t $ pure_i t (mut_slice_at R (at_list R κ q γ b o zs) (slice_val (b, o) (length ys) ∷ [])) (tt, (tt, tt))
      (ap (λ (m : ℕ). slice_val (b, o) m ∷ []) (sym e), subst (Room R) (sym e) room) $ fjoin t $ s)

  pub lends_row : K → Soaks G → (R : RattleType) → Shares 𝓛 R [] → (ℓ : Lifetime) (b o : ℕ) (zs : List R.Denot) → Room R (length zs)
      → ((ν : ℕ) → Seq K 𝓛 (‵ ((ShrSlice ℓ (ν ∷ []) R).own_val (record { ref_ptr = (b, o); now = zs }) (slice_val (b, o) (length zs) ∷ []))
      ∷ ‵ (flft (ν ∷ []) full_share) ∷ ‵ (flent (ν ∷ []) ((arr_parts (shares R) (length zs)).part full_share zs b o)) ∷ Γ) G)
      → Seq K 𝓛 (‵ (row R full_share zs b o) ∷ Γ) G
  lends_row t z R sh ℓ b o zs room c =
      feq_i t ℕ (length zs) (length zs) refl $ fjoin t $ lft_new t z (λ ν. move t (1 ∷ 0 ∷ []) $
      use2 𝓛 (later ((‵ ((ShrSlice ℓ (ν ∷ []) R).own_val (record { ref_ptr = (b, o); now = zs }) (slice_val (b, o) (length zs) ∷ []))
      ⊛ ‵ (flent (ν ∷ []) ((arr_parts (shares R) (length zs)).part full_share zs b o))) ⊛ ‵ (flft (ν ∷ []) full_share)))
      (lends_shr_slice 𝓛 R ℓ (ν ∷ []) full_share zs b o room [] sh ((ν ∷ [], full_share) ∷ []) (⊑_static (ν ∷ [])) (Incl-refl (ν ∷ []))) $
      await t z $ split t $ split t $ move t (0 ∷ 2 ∷ 1 ∷ []) $ c ν)

  pub row_back : K → Soaks G → (R : RattleType) (b o ν : ℕ) (zs : List R.Denot)
      → Step K 𝓛 (‵ (row R full_share zs b o) ∷ Γ) G (‵ (flft (ν ∷ []) full_share)
      ∷ ‵ (flent (ν ∷ []) ((arr_parts (shares R) (length zs)).part full_share zs b o)) ∷ Γ) G
  row_back t z R b o ν zs = step (λ s. lft_end t z $ lent_back t z $ fsplit t $ drop t $ s)

  pub takes_elem : K → (R : RattleType) (k : Kind R) (q : Share) (ys : List R.Denot) (i : ℕ) (d : R.Denot) (b o : ℕ) → i < length ys
      → (Is R (get_or ys i d) (k.val (get_or ys i d) ∷ []) → Seq K 𝓛 (‵ (cell_at q R.mir (k.val (get_or ys i d) ∷ []) b (place (mem R).size o i))
      ∷ ‵ (others (shares R) q ys i b o) ∷ Γ) G)
      → Seq K 𝓛 (‵ (row R q ys b o) ∷ Γ) G
  takes_elem t R k q ys i d b o l c = elem_out t R (Is R) (shows 𝓛 R) (λ r. k.val r ∷ []) k.tells q ys i d b o l (λ is. move t (1 ∷ []) $ drop t $ c is)

  pub puts_elem : K → (R : RattleType) (k : Kind R) (ys : List R.Denot) (i : ℕ) (y : R.Denot) (b o : ℕ) → i < length ys → Is R y (k.val y ∷ [])
      → Step K 𝓛 (‵ (row R full_share (set ys i y) b o) ∷ Γ) G (‵ (cell_at full_share R.mir (k.val y ∷ []) b (place (mem R).size o i))
      ∷ ‵ (others (shares R) full_share ys i b o) ∷ Γ) G
  puts_elem t R k ys i y b o l is = step (λ s. owned t R (Is R) (k.makes 𝓛) y (k.val y ∷ []) is $ move t (1 ∷ 0 ∷ []) $
      elem_put t R full_share ys i y (k.val y ∷ []) b o l $ s)

  pub puts_back : K → (R : RattleType) (k : Kind R) (q : Share) (ys : List R.Denot) (i : ℕ) (d : R.Denot) (b o : ℕ) → i < length ys
      → Is R (get_or ys i d) (k.val (get_or ys i d) ∷ [])
      → Step K 𝓛 (‵ (row R q ys b o) ∷ Γ) G (‵ (cell_at q R.mir (k.val (get_or ys i d) ∷ []) b (place (mem R).size o i))
      ∷ ‵ (others (shares R) q ys i b o) ∷ Γ) G
  puts_back t R k q ys i d b o l is = step (λ s. owned t R (Is R) (k.makes 𝓛) (get_or ys i d) (k.val (get_or ys i d) ∷ []) is $ move t (1 ∷ 0 ∷ []) $
      elem_back t R q ys i d (k.val (get_or ys i d) ∷ []) b o l $ s)
