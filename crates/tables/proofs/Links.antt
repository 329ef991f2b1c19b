-- The links while they are made: the students of a stage one after the other, by `link`, from the last student on.
use Prim.Native.Nat.{ℕ, ◌+◌, ◌-◌, ◌≤◌, ◌<◌}
use mathlib.Core.Path.{◌≡◌, refl, sym, ap, ◌∙◌}
use mathlib.Core.Logic.{⊎_elim}
use mathlib.Core.List.{List}
use native.Mathlib.Omega.{arith}
use lib.ListN.{length, get_or, set, length-set}
use lib.Seq.{get_or-set_same, get_or-set_other}
use Rattle.base.proofs.Tests.{eq?, less?}
use Rattle.format.specs.Layout.{row_at}
use Rattle.format.specs.Engine.{market_in}
use Rattle.tables.specs.Table.{entry_of, first_of, next_of, head_of, Following, Staged, Linked, Holds, Kept}

-- of n students those after s are linked; the other numbers are those of the old table
pub record Linking (stage : ℕ → ℕ) (n s : ℕ) (old table : List ℕ) : Type 0 where
  pub kept : Kept old table
  pub next : (k : ℕ) → s < k → k ≤ n → Following stage (stage k) k n (next_of table k)
  pub head : (t : ℕ) → 1 ≤ t → t ≤ 512 → Following stage t s n (head_of table t)

pub linking_none : (stage : ℕ → ℕ) (n : ℕ) (old : List ℕ) → ((s : ℕ) → 1 ≤ s → s ≤ 512 → entry_of old s < 65536) → Linking stage n n old old
linking_none stage n old small =
    record {
      kept = record { sized = refl; low = λ k l. refl; high = λ k l. refl; first = λ s f g. refl };
      next = λ k f g. absurd (omega arith);
      head = λ t f g.
          record {
            none = λ z k a b. absurd (omega arith);
            some = λ p. absurd (omega (arith, small t f g));
            first = λ k a b. absurd (omega (arith, small t f g));
          };
    }

-- one student more: s has stage t, the entry of s becomes v, and then that of t becomes w
module _ (stage : ℕ → ℕ) (n s t : ℕ) (old table : List ℕ) (long : length old ≡ 1089) (I : Linking stage n s old table) (e : stage s ≡ t)
    (a : 1 ≤ s) (b : s ≤ n) (few : n ≤ 512) (c : 1 ≤ t) (d : t ≤ 512) (v w : ℕ) where
  abbrev middle : List ℕ
  middle = set table (511 + s) v

  abbrev new : List ℕ
  new = set middle (511 + t) w

  sized : length table ≡ 1089
  sized = I.kept.sized ∙ long

  sized' : length middle ≡ 1089
  sized' = length-set table (511 + s) v ∙ sized

  module _ (H : Holds v (first_of table s) (head_of table t) (head_of table s)) (H' : Holds w (first_of middle t) (next_of middle t) s) where
    middle_here : entry_of middle s ≡ v
    middle_here = get_or-set_same table (511 + s) v 0 (omega (arith, sized))

    middle_other : (k : ℕ) → (k ≡ s → ⊥) → entry_of middle k ≡ entry_of table k
    middle_other k ne = get_or-set_other table (511 + s) (511 + k) v 0 (λ q. ne (omega arith))

    new_here : entry_of new t ≡ w
    new_here = get_or-set_same middle (511 + t) w 0 (omega (arith, sized'))

    new_other : (k : ℕ) → (k ≡ t → ⊥) → entry_of new k ≡ entry_of middle k
    new_other k ne = get_or-set_other middle (511 + t) (511 + k) w 0 (λ q. ne (omega arith))

    outside : (k : ℕ) → (k ≡ 511 + s → ⊥) → (k ≡ 511 + t → ⊥) → get_or new k 0 ≡ get_or table k 0
    outside k f g = get_or-set_other middle (511 + t) k w 0 g ∙ get_or-set_other table (511 + s) k v 0 f

    first_same : (k : ℕ) → first_of new k ≡ first_of table k
    first_same k = after ∙ before
      where
        before : first_of middle k ≡ first_of table k
        before =
            ⊎_elim (λ (q : k ≡ s). rw (q, middle_here) H.first) (λ (ne : k ≡ s → ⊥). rw (middle_other k ne)) (eq? k s)

        after : first_of new k ≡ first_of middle k
        after = ⊎_elim (λ (q : k ≡ t). rw (q, new_here) H'.first) (λ (ne : k ≡ t → ⊥). rw (new_other k ne)) (eq? k t)

    next_same : (k : ℕ) → next_of new k ≡ next_of middle k
    next_same k = ⊎_elim (λ (q : k ≡ t). rw (q, new_here) H'.next) (λ (ne : k ≡ t → ⊥). rw (new_other k ne)) (eq? k t)

    next_here : next_of new s ≡ head_of table t
    next_here = next_same s ∙ rw middle_here H.next

    next_other : (k : ℕ) → (k ≡ s → ⊥) → next_of new k ≡ next_of table k
    next_other k ne = next_same k ∙ rw (middle_other k ne)

    head_here : head_of new t ≡ s
    head_here = rw new_here H'.head

    head_other : (k : ℕ) → (k ≡ t → ⊥) → head_of new k ≡ head_of table k
    head_other k ne =
        rw (new_other k ne)
        (⊎_elim (λ (q : k ≡ s). rw (q, middle_here) H.head) (λ (no : k ≡ s → ⊥). rw (middle_other k no)) (eq? k s))

    kept : Kept old new
    kept =
        record {
          sized = length-set middle (511 + t) w ∙ (length-set table (511 + s) v ∙ I.kept.sized);
          low = λ k l. outside k (λ q. omega arith) (λ q. omega arith) ∙ I.kept.low k l;
          high = λ k l. outside k (λ q. omega arith) (λ q. omega arith) ∙ I.kept.high k l;
          first = λ k f g. first_same k ∙ I.kept.first k f g;
        }

    past : (k : ℕ) → s - 1 < k → (k ≡ s → ⊥) → s < k
    past k f h = ⊎_elim (λ (l : s < k). l) (λ (l : k ≤ s). absurd (h (omega arith))) (less? s k)

    -- s is the first of her stage from s on
    is_head : Following stage t (s - 1) n s
    is_head = record { none = λ z k f g. absurd (omega arith); some = λ p. (omega arith, b, e); first = λ k f g. absurd (omega arith) }

    -- and of the other stages nobody is added
    same_head : (u r : ℕ) → (u ≡ t → ⊥) → Following stage u s n r → Following stage u (s - 1) n r
    same_head u r ne F =
        record {
          none = λ z k f g q. other k f q (λ h. F.none z k h g q);
          some = λ p. let h : (s < r) × (r ≤ n) × (stage r ≡ u) = F.some p in (omega (arith, h.0), h.1, h.2);
          first = λ k f g q. other k f q (λ h. F.first k h g q);
        }
      where
        other : (k : ℕ) → s - 1 < k → stage k ≡ u → (s < k → ⊥) → ⊥
        other k f q go = ⊎_elim (λ (h : k ≡ s). ne (sym q ∙ (ap stage h ∙ e))) (λ (h : k ≡ s → ⊥). go (past k f h)) (eq? k s)

    pub linking_more : Linking stage n (s - 1) old new
    linking_more =
        record {
          kept = kept;
          next = λ k f g.
              ⊎_elim (λ (q : k ≡ s). rw (q, next_here, e) (I.head t c d))
              (λ (ne : k ≡ s → ⊥). rw (next_other k ne) (I.next k (past k f ne) g))
              (eq? k s);
          head = λ u f g.
              ⊎_elim (λ (q : u ≡ t). rw (q, head_here) is_head)
              (λ (ne : u ≡ t → ⊥). rw (head_other u ne) (same_head u (head_of table u) ne (I.head u f g)))
              (eq? u t);
        }

-- the first student of a stage is one of n
pub head_low : (stage : ℕ → ℕ) (n s t : ℕ) (old table : List ℕ) → Linking stage n s old table → 1 ≤ t → t ≤ 512 → head_of table t ≤ n
head_low stage n s t old table I a b =
    ⊎_elim (λ (l : 0 < head_of table t). ((I.head t a b).some l).1) (λ (l : head_of table t ≤ 0). omega arith) (less? 0 (head_of table t))

pub linked : (case : List ℕ) (n : ℕ) (old table : List ℕ) → Staged case n → Linking (market_in case).stage n 0 old table → Linked case table n
linked case n old table S I = record { range = S.range; next = λ s f g. I.next s (omega arith) g; head = I.head }

-- what record s - 1 has is the stage of student s, from 1 to 512
pub stage_read : (case : List ℕ) (n s x : ℕ) → Staged case n → 1 ≤ s → s ≤ n → x ≡ (row_at case (s - 1)).second
    → ((market_in case).stage s ≡ x) × (1 ≤ x) × (x ≤ 512)
stage_read case n s x S a b e =
    let r : (1 ≤ (market_in case).stage s) × ((market_in case).stage s ≤ 512) = S.range s a b in
    let q : (market_in case).stage s ≡ x = S.stage s a b ∙ sym e in
    (q, omega arith, omega arith)
