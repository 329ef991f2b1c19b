-- Names for what a walk says of the slices that a function has: where one lies, its machine value, a loan of it for a call, and the types of its locals.
-- Definitions: assume nothing.
use Prim.Native.Nat.{ℕ, zero}
use mathlib.Core.List.{List}
use lib.ListN.{length}
use mir.Syntax.{Ty, named, erased, imm, mut, w8, w16, w64, ty_int, ty_ref}
use mir.Val.{Val}
use base.Fml.{Lft, Share, GName}
use denote.Ref.{Bor, MutBor, as_bor}
use denote.Slice.{slice_ty, slice_val}

-- tuples that are nested to the right
infixr 4 ◌⸴◌ ◌⸴'◌
abbrev pub ◌⸴◌ : {A B : Type 0} → A → B → A × B
a ⸴ b = (a, b)

abbrev pub ◌⸴'◌ : {A B : Type 1} → A → B → A × B
a ⸴' b = (a, b)

-- a slice reference: where it lies, and its ghost name. A `&` has none: there γ is not read
pub record Spot : Type 0 where
  pub b : ℕ
  pub o : ℕ
  pub γ : GName

abbrev pub spot_of_lem : {X : Type 0} → MutBor X → Spot
spot_of_lem r = record { b = r.ref_ptr.0; o = r.ref_ptr.1; γ = r.ghost_name }

abbrev pub shr_spot_of : {X : Type 0} → Bor X → Spot
shr_spot_of r = record { b = r.ref_ptr.0; o = r.ref_ptr.1; γ = zero }

abbrev pub ref : {X : Type 0} → Spot → List X → MutBor (List X)
ref p l = record { ref_ptr = (p.b, p.o); ghost_name = p.γ; now = l }

-- the machine value of the slice, which stays while the list changes
abbrev pub sv : {X : Type 0} → Spot → List X → Val
sv p l = slice_val (p.b, p.o) (length l)

-- a slice lent for a call as a `&mut`: its lifetime, and its ghost name there
pub record Loan : Type 0 where
  pub ν : ℕ
  pub δ : GName

abbrev pub anew : {X : Type 0} → Spot → Loan → List X → MutBor (List X)
anew p a l = record { ref_ptr = (p.b, p.o); ghost_name = a.δ; now = l }

-- a slice that a function has: its lifetime and the share of it, where it lies, its list, and how many elements its machine value says
pub record Slice (X : Type 0) : Type 0 where
  pub κ : Lft
  pub q : Share
  pub p : Spot
  pub now : List X
  pub count : ℕ

abbrev pub ref_of : {X : Type 0} → Slice X → MutBor (List X)
ref_of s = ref s.p s.now

-- the `&` there
abbrev pub shr_of : {X : Type 0} → Slice X → Bor (List X)
shr_of s = as_bor (ref_of s)

abbrev pub val_of : {X : Type 0} → Slice X → Val
val_of s = slice_val (s.p.b, s.p.o) s.count

-- the types of locals: a number, a `&mut [u16]`, a `&[u16]`, a `&[u8]` and a `&[u64]` at lifetime j, and the pointer of a `&mut [u16]` that is lent again
abbrev pub word : Ty
word = ty_int w64

abbrev pub words_ty : ℕ → Ty
words_ty j = slice_ty (ty_ref (named j) mut (ty_int w16))

abbrev pub shared_words_ty : ℕ → Ty
shared_words_ty j = slice_ty (ty_ref (named j) imm (ty_int w16))

abbrev pub bytes_ty : ℕ → Ty
bytes_ty j = slice_ty (ty_ref (named j) imm (ty_int w8))

abbrev pub longs_ty : ℕ → Ty
longs_ty j = slice_ty (ty_ref (named j) imm (ty_int w64))

abbrev pub ptr_ty : Ty
ptr_ty = ty_ref erased mut (ty_int w16)
