-- A local array of plain data, lent as a slice and taken back.
--     array_in     a local that holds `[x; n]` is n elements in memory, side by side.        array_out    and n elements are a local that holds some array
--     is_repeat    n times x is an array of T, where x is a T
--     lends_local  the local becomes, at a new lifetime ν and some name δ,   own (the `&ν mut [T]` ((l, 0), δ, n times x)) ∗ [ν]_1 ∗ the lender's part
--     cells_back   [ν]_1 ∗ the lender's part ∗ finally δ zs   becomes   the elements zs in memory.        The lifetime ν is ended
--     local_out    the elements zs in memory are the local, at some value: enough to free it
--     local_back   both
--     lends_cells  the elements zs in memory become, at a new lifetime ν,   own (the `&ν [T]` ((l, 0), zs)) ∗ [ν]_1 ∗ the lender's part,   for T as `Row`'s
-- `lends_row` asks
--     shared_back  [ν]_1 ∗ the lender's part   becomes   the elements zs in memory.        The lifetime ν is ended
--     long_kind, long_shares    what is asked of T, for `u64`
-- Assumes `Logic`, and that T is Copy.
use mathlib.Core.Path.{◌≡◌, refl}
use Prim.Native.Nat.{ℕ, zero, suc}
use mathlib.Core.List.{List, [], ◌∷◌, map}
use lib.ListN.{length, replicate, length-replicate}
use seplogic.Ra.Ura.{Ura}
use base.Fraction.{full_share}
use mir.Syntax.{Lifetime, w64, ty_array}
use mir.Val.{Val, vint}
use base.Logic.{ent}
use base.Fml.{GName, fsep, fat, flft, flent}
use types.Logic.{Logic, sem}
use types.Kit.{Goal, Soaks, Item, ‵, ◌⊛◌, some, later, Seq, Step, step, ◌$◌, ◌∵◌, !, qed, move, drop, use1, use3, split, pick, await, rewrite}
use types.Kit.{fsplit, fjoin, fpick, fpack, feq_i, done}
use types.SemTy.{cells, Arr}
use types.Share.{arr_parts}
use types.Tokens.{lft_new, lft_end}
use denote.RattleType.{RattleType}
use denote.Array.{Array, each, array_val, Array-Tells, Array-repeat}
use denote.ArrayMemory.{Single, Array-apart, Array-whole}
use denote.Index.{row, whole_in, whole_out}
use denote.Laws.{Is, Copy, shows}
use denote.Lend.{Held, lends_slice, slice_back}
use denote.Shadow.{shadow, makes_shadow}
use denote.Memory.{cell_at, lone, mem, shares, part_at, part_of}
use denote.Plain.{uint_Tells}
use denote.Builtin.{u64}
use denote.Copied.{uint_Copied}
use denote.Shares.{Shares}
use denote.Slice.{slice_val, MutSlice, ShrSlice, Room, finally}
use denote.Steps.{owned, peeks}
use Rattle.walks.proofs.Row.{Kind, lends_row, row_back}

-- the machine value of an array whose elements are zs
abbrev pub array_val_lem : {R : RattleType} → Kind R → List R.Denot → Val
array_val_lem k zs = array_val (map (λ r. k.val r) zs)

abbrev pub long_kind : Kind u64
long_kind = record { val = λ n. vint w64 n; tells = uint_Tells w64; makes = λ 𝓛 n vs p. makes_shadow 𝓛 (u64.own_val n vs) (tt, tt) p }

pub long_shares : {M : Type 1} {𝓤 : Ura M} (𝓛 : Logic 𝓤) → Shares 𝓛 u64 []
long_shares 𝓛 = (uint_Copied 𝓛 w64).shares full_share []

each_repeat : (R : RattleType) (n : ℕ) (x : R.Denot) (v : Val) → Is R x (v ∷ []) → shadow (each R.Denot R.own_val (replicate n x) (replicate n v))
each_repeat R zero x v is = tt
each_repeat R (suc n) x v is = (is, each_repeat R n x v is)

pub is_repeat : (R : RattleType) (n : ℕ) (x : R.Denot) (v : Val) → Is R x (v ∷ []) → Is (Array R n) (replicate n x) (array_val (replicate n v) ∷ [])
is_repeat R n x v is = (replicate n v, ((refl, length-replicate n x), each_repeat R n x v is))

module _ {M : Type 1} {𝓤 : Ura M} (𝓛 : Logic 𝓤) (R : RattleType) (k : Kind R) (n l : ℕ) where
  pub array_in : Single R.mir → Copy 𝓛 R → (x : R.Denot) → Is R x (k.val x ∷ [])
      → ent 𝓤 (sem 𝓛 (fat full_share (ty_array (lone R.mir) n) l 0 (array_val (replicate n (k.val x))))) (sem 𝓛 (cells (mem R) (replicate n x) l 0))
  unfolding part_of
  array_in one Cp x is =
      qed 𝓛 (‵ (fat full_share (ty_array (lone R.mir) n) l 0 (array_val (replicate n (k.val x)))) ∷ []) ∵
      use1 𝓛 (‵ (cell_at full_share (Array R n).mir (array_val (replicate n (k.val x)) ∷ []) l 0))
      (𝓛.laws.at_raw full_share (ty_array (lone R.mir) n) l 0 (array_val (replicate n (k.val x)))) $
      owned ! R (Is R) (k.makes 𝓛) x (k.val x ∷ []) is $ use1 𝓛 (‵ ((Array R n).own_val (replicate n x) (array_val (replicate n (k.val x)) ∷ [])))
      (Array-repeat 𝓛 R Cp n x (k.val x)) $ move ! (1 ∷ 0 ∷ []) $
      fjoin ! $ fpack ! (List Val) (λ us. fsep (cell_at full_share (Array R n).mir us l 0) ((Array R n).own_val (replicate n x) us))
      (array_val (replicate n (k.val x)) ∷ []) $
      use1 𝓛 (‵ ((arr_parts (shares R) n).part full_share (replicate n x) l 0)) (Array-apart 𝓛 R full_share one n (replicate n x) l 0) $ fsplit ! $ drop ! $
      use1 𝓛 (‵ (cells (mem R) (replicate n x) l 0)) (whole_in 𝓛 R (replicate n x) l 0) $ done !

  pub array_out : (zs : List R.Denot) → length zs ≡ n → ent 𝓤 (sem 𝓛 (cells (mem R) zs l 0))
      (sem 𝓛 (fat full_share (ty_array (lone R.mir) n) l 0 (array_val_lem k zs)))
  unfolding part_of
  array_out zs e =
      qed 𝓛 (‵ (cells (mem R) zs l 0) ∷ []) ∵ use1 𝓛 (‵ (row R full_share zs l 0)) (whole_out 𝓛 R zs l 0) $ feq_i ! ℕ (length zs) n e $ fjoin ! $
      use1 𝓛 (‵ (part_at (Array R n) full_share zs l 0)) (Array-whole 𝓛 R full_share n zs l 0) $ fpick ! (λ vs. fsplit ! $ move ! (1 ∷ []) $
      peeks ! (Array R n) (Is (Array R n)) (shows 𝓛 (Array R n)) zs vs (λ is. drop ! $
      rewrite ! 0 (λ (us : List Val). ‵ (cell_at full_share (Array R n).mir us l 0)) (Array-Tells R (λ r. k.val r ∷ []) k.tells n zs vs is) refl $
      use1 𝓛 (‵ (fat full_share (ty_array (lone R.mir) n) l 0 (array_val_lem k zs)))
      (𝓛.laws.raw_at full_share (ty_array (lone R.mir) n) l 0 (array_val_lem k zs)) $
      done !))

module _ {M : Type 1} {𝓤 : Ura M} {𝓛 : Logic 𝓤} {K : Type 0} {Γ : List (Item 𝓤)} {G : Goal 𝓤 𝓛.H} where
  pub lends_local : K → Soaks G → (R : RattleType) (k : Kind R) → Single R.mir → Copy 𝓛 R → (ℓ : Lifetime) (n l : ℕ) (x : R.Denot) → Is R x
      (k.val x ∷ [])
      → Room R (length (replicate n x))
      → ((ν : ℕ) (δ : GName) → Seq K 𝓛 (‵ ((MutSlice ℓ (ν ∷ []) R).own_val (record { ref_ptr = (l, 0); ghost_name = δ; now = replicate n x })
      (slice_val (l, 0) (length (replicate n x)) ∷ [])) ∷ ‵ (flft (ν ∷ []) full_share) ∷ ‵ (flent (ν ∷ []) (Held R (length (replicate n x)) l 0 δ)) ∷ Γ) G)
      → Seq K 𝓛 (‵ (fat full_share (ty_array (lone R.mir) n) l 0 (array_val (replicate n (k.val x)))) ∷ Γ) G
  lends_local t z R k one Cp ℓ n l x is room c =
      use1 𝓛 (‵ (cells (mem R) (replicate n x) l 0)) (array_in 𝓛 R k n l one Cp x is) $ lft_new t z (λ ν. move t (1 ∷ []) $
      use1 𝓛 (later (some (λ (δ : GName). ‵ ((MutSlice ℓ (ν ∷ []) R).own_val (record { ref_ptr = (l, 0); ghost_name = δ; now = replicate n x })
      (slice_val (l, 0) (length (replicate n x)) ∷ [])) ⊛ ‵ (flent (ν ∷ []) (Held R (length (replicate n x)) l 0 δ)))))
      (lends_slice 𝓛 R ℓ (ν ∷ []) (replicate n x) l 0 room) $
      await t z $ pick t (λ δ. split t $ move t (0 ∷ 2 ∷ 1 ∷ []) $ c ν δ))

  pub cells_back : K → Soaks G → (R : RattleType) (m l ν : ℕ) (δ : GName) (zs : List R.Denot)
      → Step K 𝓛 (‵ (cells (mem R) zs l 0) ∷ Γ) G (‵ (flft (ν ∷ []) full_share) ∷ ‵ (flent (ν ∷ []) (Held R m l 0 δ)) ∷ ‵ (finally R δ zs) ∷ Γ) G
  cells_back t z R m l ν δ zs = step (λ s. lft_end t z $ use3 𝓛 (later (‵ ((Arr (mem R) m).own_at zs l 0))) (slice_back 𝓛 R (ν ∷ []) δ zs m l 0) $
      await t z $ fsplit t $ drop t $ s)

  pub local_out : K → (R : RattleType) (k : Kind R) (n l : ℕ) (zs : List R.Denot) → length zs ≡ n
      → Step K 𝓛 (‵ (fat full_share (ty_array (lone R.mir) n) l 0 (array_val_lem k zs)) ∷ Γ) G (‵ (cells (mem R) zs l 0) ∷ Γ) G
  local_out t R k n l zs e = step (λ s.
      use1 𝓛 (‵ (fat full_share (ty_array (lone R.mir) n) l 0 (array_val_lem k zs))) (array_out 𝓛 R k n l zs e) $ s)

  pub local_back : K → Soaks G → (R : RattleType) (k : Kind R) (n m l ν : ℕ) (δ : GName) (zs : List R.Denot) → length zs ≡ n
      → Step K 𝓛 (‵ (fat full_share (ty_array (lone R.mir) n) l 0 (array_val_lem k zs)) ∷ Γ) G (‵ (flft (ν ∷ []) full_share)
      ∷ ‵ (flent (ν ∷ []) (Held R m l 0 δ)) ∷ ‵ (finally R δ zs) ∷ Γ) G
  local_back t z R k n m l ν δ zs e = step (λ s. cells_back t z R m l ν δ zs $ local_out t R k n l zs e $ s)

  pub lends_cells : K → Soaks G → (R : RattleType) → Shares 𝓛 R [] → (ℓ : Lifetime) (l : ℕ) (zs : List R.Denot) → Room R (length zs)
      → ((ν : ℕ) → Seq K 𝓛 (‵ ((ShrSlice ℓ (ν ∷ []) R).own_val (record { ref_ptr = (l, 0); now = zs }) (slice_val (l, 0) (length zs) ∷ []))
      ∷ ‵ (flft (ν ∷ []) full_share) ∷ ‵ (flent (ν ∷ []) ((arr_parts (shares R) (length zs)).part full_share zs l 0)) ∷ Γ) G)
      → Seq K 𝓛 (‵ (cells (mem R) zs l 0) ∷ Γ) G
  lends_cells t z R sh ℓ l zs room c = use1 𝓛 (‵ (row R full_share zs l 0)) (whole_out 𝓛 R zs l 0) $ lends_row t z R sh ℓ l 0 zs room c

  pub shared_back : K → Soaks G → (R : RattleType) (l ν : ℕ) (zs : List R.Denot)
      → Step K 𝓛 (‵ (cells (mem R) zs l 0) ∷ Γ) G (‵ (flft (ν ∷ []) full_share)
      ∷ ‵ (flent (ν ∷ []) ((arr_parts (shares R) (length zs)).part full_share zs l 0)) ∷ Γ) G
  shared_back t z R l ν zs = step (λ s. row_back t z R l 0 ν zs $ use1 𝓛 (‵ (cells (mem R) zs l 0)) (whole_in 𝓛 R zs l 0) $ s)
