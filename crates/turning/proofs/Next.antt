-- The next student by the links: she is the first, by stage and number, of those who come after the last (model: Stages).
use Prim.Native.Nat.{ℕ, zero, suc, ◌≤◌, ◌<◌}
use mathlib.Core.Path.{◌≡◌, refl, sym, ◌∙◌}
use mathlib.Core.Logic.{◌⊎◌, inl, inr, ⊎_elim}
use mathlib.Core.Bool.{true}
use mathlib.Core.List.{List}
use native.Mathlib.Omega.{arith}
use Rattle.base.proofs.Tests.{eq?, less?}
use Rattle.format.specs.Engine.{market_in}
use Rattle.model.specs.Store.{comes_after, next_in}
use Rattle.model.proofs.Stages.{Before, before_after, after_before, next_first, next_none}
use Rattle.tables.specs.Table.{next_of, head_of, Following, Linked}
use Rattle.lookup.specs.Clean.{Clean}
use Rattle.seating.specs.Seats.{named}
use Rattle.turning.specs.Next.{Ordered, FirstAfter}
use Rattle.std.specs.Prelude.{Option, unwrap_or}

-- a clean case has its students in order
pub ordered : {case book index table : List ℕ} {n m : ℕ} → Clean case book index table n m → Ordered case table
ordered c =
    record {
      sized = c.tabled.sized;
      many = omega (arith, c.students, c.many_students);
      student = λ t a b. c.student t a (omega (arith, c.students, b));
      linked = rw c.students c.linked;
    }

-- the number that a named one has
pub named_number : (o : Option ℕ) (n : ℕ) → o ≡ named n → unwrap_or o 0 ≡ n
named_number o zero e = rw e
named_number o (suc n) e = rw e

-- ---- the first of the students 1 to n after s
module _ (case table : List ℕ) (n : ℕ) (links : Linked case table n) (s : ℕ) where
  abbrev stage : ℕ → ℕ
  stage = (market_in case).stage

  -- of those of one stage, r is the first
  within : (r t : ℕ) → stage r ≡ stage t → (t < r → ⊥) → (t ≡ r) ⊎ Before stage r t
  within r t e bare =
      ⊎_elim (λ (q : t < r). absurd (bare q))
      (λ (q : r ≤ t). ⊎_elim (λ (d : t ≡ r). inl d) (λ (d : t ≡ r → ⊥). inr (inr (e, past d q))) (eq? t r))
      (less? t r)
    where
      past : (t ≡ r → ⊥) → r ≤ t → r < t
      past d q = ⊎_elim (λ (l : r < t). l) (λ (l : t ≤ r). absurd (d (omega arith))) (less? r t)

  -- the next one of her stage
  pub by_next : (r : ℕ) → 1 ≤ s → s ≤ n → r ≡ next_of table s → 0 < r → r ≡ next_in stage s n
  by_next r f g e pos =
      next_first stage s n r pos
      (record { range = at.1; after = before_after stage s r (inr (sym at.2, at.0)); first = first })
    where
      F : Following stage (stage s) s n r
      F = rw e (links.next s f g)

      at : (s < r) × (r ≤ n) × (stage r ≡ stage s)
      at = F.some pos

      first : (t : ℕ) → 1 ≤ t → t ≤ n → comes_after stage s t ≡ true → (t ≡ r) ⊎ Before stage r t
      first t a b c =
          ⊎_elim (λ (z : s ≡ 0). absurd (omega arith))
          (λ d.
          ⊎_elim (λ (l : stage s < stage t). inr (inl (omega (arith, at.2))))
          (λ l. within r t (at.2 ∙ l.0) (λ q. F.first t l.1 q (sym l.0)))
          d)
          (after_before stage s t c)

  -- the first one of a later stage: those after s are those of the stages after a
  module _ (a r : ℕ) (up : (t : ℕ) → 1 ≤ t → t ≤ n → comes_after stage s t ≡ true → a < stage t)
      (down : (t : ℕ) → a < stage t → comes_after stage s t ≡ true) (F : FirstAfter table a r) where
    -- a stage without a first student has none
    no_one : (t : ℕ) → 1 ≤ t → t ≤ n → head_of table (stage t) ≡ 0 → ⊥
    no_one t f g z = let q : (1 ≤ stage t) × (stage t ≤ 512) = links.range t f g in (links.head (stage t) q.0 q.1).none z t f g refl

    by_head : r ≡ next_in stage s n
    by_head = ⊎_elim (λ (pos : 0 < r). some pos (F.some pos)) (λ (z : r ≤ 0). none (omega arith)) (less? 0 r)
      where
        none : r ≡ 0 → r ≡ next_in stage s n
        none z =
            z ∙ next_none stage s n
            (λ t f g c. no_one t f g (F.none z (stage t) (up t f g c) (links.range t f g).1))

        some : 0 < r → (t : ℕ) × (a < t) × (t ≤ 512) × (head_of table t ≡ r) × ((u : ℕ) → a < u → u < t → head_of table u ≡ 0) → r ≡ next_in stage s n
        some pos (u, l, h, e, bare) =
            next_first stage s n r pos (record { range = at.1; after = down r (omega (arith, at.2)); first = first })
          where
            G : Following stage u 0 n r
            G = rw e at (links.head u (omega arith) h)

            at : (0 < r) × (r ≤ n) × (stage r ≡ u)
            at = G.some pos

            first : (t : ℕ) → 1 ≤ t → t ≤ n → comes_after stage s t ≡ true → (t ≡ r) ⊎ Before stage r t
            first t f g c =
                ⊎_elim (λ (q : stage t < u). absurd (no_one t f g (bare (stage t) (up t f g c) q)))
                (λ (q : u ≤ stage t).
                ⊎_elim (λ (d : u < stage t). inr (inl (omega (arith, at.2))))
                (λ (d : stage t ≤ u).
                let same : stage t ≡ u = omega arith in
                within r t (at.2 ∙ sym same) (λ p. G.first t f p same))
                (less? u (stage t)))
                (less? (stage t) u)

  -- nobody was taken yet
  pub by_first : (r : ℕ) → s ≡ 0 → FirstAfter table 0 r → r ≡ next_in stage s n
  unfolding comes_after
  by_first r z F = by_head 0 r (λ t f g c. (links.range t f g).0) (λ t l. rw z) F

  -- she was the last of her stage
  pub by_later : (r a : ℕ) → 1 ≤ s → s ≤ n → next_of table s ≤ 0 → a ≡ stage s → FirstAfter table a r → r ≡ next_in stage s n
  by_later r a f g z e F = by_head a r up (λ t l. before_after stage s t (inl (omega arith))) F
    where
      up : (t : ℕ) → 1 ≤ t → t ≤ n → comes_after stage s t ≡ true → a < stage t
      up t b c d =
          ⊎_elim (λ (q : s ≡ 0). absurd (omega arith))
          (λ q.
          ⊎_elim (λ (l : stage s < stage t). omega arith) (λ l. absurd ((links.next s f g).none (omega arith) t l.1 c (sym l.0))) q)
          (after_before stage s t d)
