-- One record compared with others by their keys: the turns of the loop. And what two sets of comparisons give together.
use Prim.Native.Nat.{ℕ, ◌≤◌, ◌<◌, max, min}
use mathlib.Core.Path.{◌≡◌, refl, sym, ap, ◌∙◌}
use mathlib.Core.Logic.{◌⊎◌, inl, inr, ⊎_elim}
use mathlib.Core.Bool.{true}
use mathlib.Core.List.{List, [], ◌∷◌, ◌++◌}
use native.Mathlib.Omega.{arith}
use lib.ListN.{length, get_or, get_or-append}
use lib.Seq.{get_or-append_seam}
use Rattle.std.proofs.lemmas.List.{length_push}
use Rattle.base.proofs.Tests.{less?}
use Rattle.format.specs.Layout.{entry_count}
use Rattle.ties.specs.declared.Keyed.{Keyed}
use Rattle.ties.specs.Ties.{tie, blank, Lowered, LoweredBy}

-- ---- one more record
module _ (noted : List Keyed) (one : Keyed) where
  pub at_old : (j : ℕ) → j < length noted → get_or (noted ++ one ∷ []) j blank ≡ get_or noted j blank
  at_old j l = get_or-append noted (one ∷ []) blank j l

  pub at_new : (j : ℕ) → length noted ≤ j → j < length (noted ++ one ∷ []) → get_or (noted ++ one ∷ []) j blank ≡ one
  at_new j l u =
      let e : j ≡ length noted = omega (arith, length_push noted one) in rw e (get_or-append_seam noted one [] blank)

-- ---- this record and earlier ones
module _ {this : Keyed} {earlier : List Keyed} where
  -- none of them has the key
  pub by_none_lem : (low : ℕ) → ((j : ℕ) → j < length earlier → (get_or earlier j blank).key ≡ this.key → ⊥)
      → LoweredBy earlier this low low
  by_none_lem low f = record { least = omega arith; below = λ j l e. absurd (f j l e); reached = inl refl }

  module _ {low mid : ℕ} (h : LoweredBy earlier this low mid) (one : Keyed) where
    abbrev grown : List Keyed
    grown = earlier ++ one ∷ []

    stays : (mid ≡ low) ⊎ ((j : ℕ) × (j < length grown) × ((get_or grown j blank).key ≡ this.key) × (mid ≡ max this.entry (get_or grown j blank).entry))
    stays =
        ⊎_elim inl
        (λ r. inr (
          r.0,
          omega (arith, r.1, length_push earlier one),
          ap (λ (x : Keyed). x.key) (at_old earlier one r.0 r.1) ∙ r.2,
          r.3 ∙ ap (λ (x : Keyed). max this.entry x.entry) (sym (at_old earlier one r.0 r.1)),
        ))
        h.reached

    pub by_skip : (one.key ≡ this.key → ⊥) → LoweredBy grown this low mid
    by_skip f =
        record {
          least = h.least;
          below = λ j l e.
              ⊎_elim (λ (q : j < length earlier). rw (at_old earlier one j q) (h.below j q (rw (at_old earlier one j q) at e)))
              (λ (q : length earlier ≤ j). absurd (f (rw (at_new earlier one j q l) at e)))
              (less? j (length earlier));
          reached = stays;
        }

    pub by_on : (after : ℕ) → one.key ≡ this.key → after ≡ min mid (max this.entry one.entry) → LoweredBy grown this low after
    by_on after e a =
        record {
          least = omega (arith, h.least);
          below = λ j l k.
              ⊎_elim
              (λ (q : j < length earlier). rw (at_old earlier one j q) (omega (arith, h.below j q (rw (at_old earlier one j q) at k))))
              (λ (q : length earlier ≤ j). rw (at_new earlier one j q l) (omega arith))
              (less? j (length earlier));
          reached =
              ⊎_elim (λ (q : mid < max this.entry one.entry). let t : after ≡ mid = omega arith in rw t stays)
              (λ (q : max this.entry one.entry ≤ mid).
              let l : length earlier < length grown = omega (arith, length_push earlier one) in
              let t = at_new earlier one (length earlier) (omega arith) l in
              inr (length earlier, l, ap (λ (x : Keyed). x.key) t ∙ e, rw t (omega arith)))
              (less? mid (max this.entry one.entry));
        }

-- ---- all records
module _ (case book : List ℕ) where
  -- nothing that ties is looked at
  pub lowered_none : (looked : ℕ → ℕ → Type 0) (low : ℕ)
      → ((i j : ℕ) → i < entry_count book → looked i j → ⊥)
      → Lowered case book looked low low
  lowered_none looked low f = record { least = omega arith; below = λ i j l m r t. absurd (f i j l r); reached = inl refl }

  -- what ties of one set is in the other
  pub lowered_as : (looked wanted : ℕ → ℕ → Type 0) {low after : ℕ}
      → Lowered case book looked low after
      → ((i j : ℕ) → i < entry_count book → j < i → tie case book i j ≡ true → wanted i j → looked i j)
      → Lowered case book wanted low after
  lowered_as looked wanted h f =
      record { least = h.least; below = λ i j l m r t. h.below i j l m (f i j l m t r) t; reached = h.reached }

  -- first one set, and then another
  pub lowered_then : (looked more wanted : ℕ → ℕ → Type 0) {low mid after : ℕ}
      → Lowered case book looked low mid
      → Lowered case book more mid after
      → ((i j : ℕ) → i < entry_count book → wanted i j → looked i j ⊎ more i j)
      → Lowered case book wanted low after
  lowered_then looked more wanted {mid = mid} {after = after} h g f =
      record {
        least = omega (arith, h.least, g.least);
        below = λ i j l m r t.
            ⊎_elim (λ (a : looked i j). omega (arith, h.below i j l m a t, g.least)) (λ (a : more i j). g.below i j l m a t) (f i j l r);
        reached = ⊎_elim (λ (q : after ≡ mid). rw q h.reached) inr g.reached;
      }
