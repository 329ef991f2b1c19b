-- A turn of each loop of the crate, and where it ends.
use Prim.Native.Nat.{ℕ}
use mathlib.Core.Path.{◌≡◌, refl, sym, ◌∙◌}
use mathlib.Core.Bool.{Bool, true, false, not, cond, ◌&&◌}
use mathlib.Core.List.{List, [], ◌∷◌}
use mathlib.Core.List.Memᴰ.{head as here}
use mathlib.Core.List.Memᴰ.{tail as later}
use mathlib.Core.List.{Memᴰ as Mem}
use lib.Dec.{eqb, ltb}
use lib.IntN.{ℤ}
use Rattle.base.specs.Lists.{pick, upto}
use Rattle.base.specs.Words.{biased}
use Rattle.base.specs.Bits.{member, members, Low}
use Rattle.base.proofs.Members.{keep_in}
use Rattle.base.proofs.Digits.{members_low, members_empty}
use Rattle.lgs.specs.Market.{Market, Results}
use Rattle.lgs.specs.Rule.{best}
use Rattle.model.specs.Turn.{favourite_in}
use Rattle.model.specs.Ready.{Booked}

-- ---- the best of a set: its members are compared with the best so far, one after the other

-- so far x is the best of `start` and the members that have been compared, with the score `top`; `rest` is left
pub record Best (M : Market) (B : Results) (s start set x : ℕ) (top : ℤ) (rest : List ℕ) : Type 0 where
  pub score : biased top ≡ B.student_score s x
  pub same : best M B s x rest ≡ best M B s start (members set)
  pub known : (w : ℕ) → Mem w rest → Booked M B s w

module _ {M : Market} {B : Results} {s start set : ℕ} where
  pub best_start : {top : ℤ} → biased top ≡ B.student_score s start → ((w : ℕ) → member set w ≡ true → Booked M B s w)
      → Best M B s start set start top (members set)
  unfolding members
  best_start e k = record { score = e; same = refl; known = λ w m. k w (keep_in (member set) (upto 64) w m).0 }

  module _ {x w : ℕ} {top : ℤ} {rest : List ℕ} (b : Best M B s start set x top (w ∷ rest)) where
    same_on : (y : ℕ) → y ≡ cond (ltb (B.student_score s x) (B.student_score s w)) w x → best M B s y rest ≡ best M B s x (w ∷ rest)
    unfolding best pick
    same_on y e = rw e

    -- the next one's interview is in the book
    pub next_known : Booked M B s w
    next_known = b.known w (here refl)

    module _ (score : ℤ) (e : biased score ≡ B.student_score s w) where
      pub best_higher : ltb (biased top) (biased score) ≡ true → Best M B s start set w score rest
      best_higher q =
          let t : ltb (B.student_score s x) (B.student_score s w) ≡ true = rw (b.score, e) at q in
          record { score = e; same = same_on w (sym (rw t)) ∙ b.same; known = λ y m. b.known y (later m) }

      pub best_kept : ltb (biased top) (biased score) ≡ false → Best M B s start set x top rest
      best_kept q =
          let t : ltb (B.student_score s x) (B.student_score s w) ≡ false = rw (b.score, e) at q in
          record { score = b.score; same = same_on x (sym (rw t)) ∙ b.same; known = λ y m. b.known y (later m) }

  pub best_end : {x : ℕ} {top : ℤ} → Best M B s start set x top [] → x ≡ best M B s start (members set)
  unfolding best pick
  best_end b = b.same

-- ---- the best of what is open, by whether the outside option is open and what the set's lowest is
module _ (M : Market) (B : Results) (s set : ℕ) where
  pub with_outside : (o : Bool) → o ≡ true → favourite_in M B s o set ≡ best M B s 0 (members set)
  unfolding favourite_in
  with_outside o e = rw e

  pub none_open : (o : Bool) → set ≡ 0 → favourite_in M B s o set ≡ 0
  unfolding favourite_in best pick
  none_open true z = rw (z, members_empty)
  none_open false z = rw (z, members_empty)

  pub some_open : (o : Bool) (w rest : ℕ)
      → o ≡ false
      → Low set w
      → ((x : ℕ) → member rest x ≡ (member set x && not (eqb x w)))
      → favourite_in M B s o set ≡ best M B s w (members rest)
  unfolding favourite_in
  some_open o w rest e low f = rw (e, members_low set rest w low f)
