-- A round of interviews as a loop over the workshops, with the open set as a number, is the model's round over the workshops that are due; by
-- induction on the workshops that the loop has passed.
use Prim.Native.Nat.{ℕ, zero, suc, ◌^◌, ◌≤◌, ◌<◌}
use mathlib.Core.Path.{◌≡◌, refl, sym, ap, ◌∙◌}
use mathlib.Core.Logic.{⊎_elim}
use mathlib.Core.Bool.{Bool, true, false, cond, ◌&&◌}
use mathlib.Core.List.{List, [], ◌∷◌, ◌++◌, append_assoc, append-nil}
use native.Mathlib.Omega.{arith}
use lib.Dec.{eqb}
use borrow.Author.Tests.{eqb-true, ne_eqb}
use Rattle.base.specs.Lists.{upto, keep, cons_if}
use Rattle.base.specs.Bits.{member}
use Rattle.lgs.specs.Market.{Market, Results}
use Rattle.lgs.specs.Rule.{Interview, unopened}
use Rattle.model.specs.Model.{Round, held, missing, round, set_bit}
use Rattle.model.specs.Turn.{RoundSoFar, due_at, round_at, round_to, with_member}
use Rattle.base.proofs.Tests.{bool_cases}
use Rattle.base.proofs.Digits.{keep_suc}
use Rattle.model.proofs.Openings.{with_set, with_small}

module _ (M : Market) (B : Results) (s : ℕ) where
  not_held : {w : ℕ} {vs us : List Interview} {b : ℕ → Bool} → missing w vs ≡ held us b → ⊥
  not_held e = let z : ◌≡◌ {A = ℕ} 0 1 = cc in omega arith

  -- a round over two lists
  round_append : (xs ys : List ℕ) (vs : List Interview) (b : ℕ → Bool) (us : List Interview) (b' : ℕ → Bool) → round M B s xs vs b ≡ held us b'
      → round M B s (xs ++ ys) vs b ≡ round M B s ys us b'
  unfolding round
  round_append [] ys vs b us b' e =
      let eu : vs ≡ us = cc in
      let eb : b ≡ b' = cc in
      ap (λ z. round M B s ys z b) eu ∙ ap (round M B s ys us) eb
  round_append (x ∷ xs) ys vs b us b' e =
      ⊎_elim (λ (k : B.met s x ≡ true). rw k (round_append xs ys (vs ++ ((s, x) ∷ [])) (cond (unopened M B s x) b (set_bit x b)) us b' (rw k at e)))
      (λ (k : B.met s x ≡ false). absurd (not_held (rw k at e)))
      (bool_cases (B.met s x))

  round_stays : (xs ys : List ℕ) (vs : List Interview) (b : ℕ → Bool) (w : ℕ) (us : List Interview) → round M B s xs vs b ≡ missing w us
      → round M B s (xs ++ ys) vs b ≡ missing w us
  unfolding round
  round_stays [] ys vs b w us e = absurd (not_held (sym e))
  round_stays (x ∷ xs) ys vs b w us e =
      ⊎_elim (λ (k : B.met s x ≡ true). rw k (round_stays xs ys (vs ++ ((s, x) ∷ [])) (cond (unopened M B s x) b (set_bit x b)) w us (rw k at e)))
      (λ (k : B.met s x ≡ false). rw k (rw k at e))
      (bool_cases (B.met s x))

  -- the model's word for a round so far, after the interviews vs
  abbrev pub so_far : List Interview → RoundSoFar → Round
  so_far vs r = cond (eqb r.missing 0) (held (vs ++ r.interviews) (member r.openings)) (missing r.missing (vs ++ r.interviews))

  module _ (vs : List Interview) (r : RoundSoFar) where
    so_held : r.missing ≡ 0 → so_far vs r ≡ held (vs ++ r.interviews) (member r.openings)
    so_held e = rw e

    -- she comes to one more workshop
    one_more : (w : ℕ) → 1 ≤ w → r.missing ≡ 0
        → round M B s (w ∷ []) (vs ++ r.interviews) (member r.openings) ≡ so_far vs (round_at M B s w r)
    unfolding round round_at
    one_more w l e =
        ⊎_elim
        (λ (k : B.met s w ≡ true).
        rw k
        (ap (λ us. held us (cond (unopened M B s w) (member r.openings) (set_bit w (member r.openings)))) (append_assoc vs r.interviews ((s, w) ∷ []))
        ∙ ap (held (vs ++ (r.interviews ++ ((s, w) ∷ [])))) (same_set (unopened M B s w))))
        (λ (k : B.met s w ≡ false). rw (k, ne_eqb w 0 (λ q. omega arith)))
        (bool_cases (B.met s w))
      where
        same_set : (b : Bool) → cond b (member r.openings) (set_bit w (member r.openings)) ≡ member (cond b r.openings (with_member r.openings w))
        same_set true = refl
        same_set false = sym (with_set r.openings w l)

  module _ (seats : List ℕ) (t bits : ℕ) (vs : List Interview) where
    abbrev to : ℕ → RoundSoFar
    to = round_to M B seats s t bits

    abbrev dues : ℕ → List ℕ
    dues n = keep (due_at M B seats s t) (upto n)

    -- the loop's round is the model's
    pub round_to_lem : (n : ℕ) → round M B s (dues n) vs (member bits) ≡ so_far vs (to n)
    unfolding round round_to keep upto
    round_to_lem zero = ap (λ us. held us (member bits)) (sym (append-nil vs))
    round_to_lem (suc n) =
        ap (λ l. round M B s l vs (member bits)) (keep_suc (due_at M B seats s t) n)
        ∙ ⊎_elim
        (λ (e : eqb (to n).missing 0 ≡ true). rw e (goes_on (round_to_lem n) (eqb-true _ _ e)))
        (λ (e : eqb (to n).missing 0 ≡ false).
        rw e
        (round_stays (dues n) (cons_if (due_at M B seats s t (suc n)) (suc n) []) vs (member bits) (to n).missing (vs ++ (to n).interviews) (round_to_lem n ∙ rw e)
        ∙ rw e))
        (bool_cases (eqb (to n).missing 0))
      where
        goes_on : round M B s (dues n) vs (member bits) ≡ so_far vs (to n) → (to n).missing ≡ 0
            → round M B s (dues n ++ cons_if (due_at M B seats s t (suc n)) (suc n) []) vs (member bits)
            ≡ so_far vs (cond (due_at M B seats s t (suc n)) (round_at M B s (suc n) (to n)) (to n))
        goes_on before e =
            round_append (dues n) (cons_if (due_at M B seats s t (suc n)) (suc n) []) vs (member bits) (vs ++ (to n).interviews) (member (to n).openings)
            (before ∙ so_held vs (to n) e)
            ∙ ⊎_elim (λ (d : due_at M B seats s t (suc n) ≡ true). rw d (one_more vs (to n) (suc n) (omega arith) e))
            (λ (d : due_at M B seats s t (suc n) ≡ false). rw d (sym (so_held vs (to n) e)))
            (bool_cases (due_at M B seats s t (suc n)))

    -- the open set stays within 64 bits
    pub round_small : (n : ℕ) → n ≤ 64 → bits < 2 ^ 64 → (to n).openings < 2 ^ 64
    unfolding round_to round_at
    round_small zero l h = h
    round_small (suc n) l h = by_due (eqb (to n).missing 0 && due_at M B seats s t (suc n)) (round_small n (omega arith) h)
      where
        by_unopened : (b : Bool) → (to n).openings < 2 ^ 64 → cond b (to n).openings (with_member (to n).openings (suc n)) < 2 ^ 64
        by_unopened true g = g
        by_unopened false g = with_small (to n).openings (suc n) (omega arith) l g

        by_met : (b : Bool) → (to n).openings < 2 ^ 64
            → (cond {A = RoundSoFar} b
            (record {
              interviews = (to n).interviews ++ ((s, suc n) ∷ []);
              openings = cond (unopened M B s (suc n)) (to n).openings (with_member (to n).openings (suc n));
              missing = 0;
            })
            (record { interviews = (to n).interviews; openings = (to n).openings; missing = suc n })).openings < 2 ^ 64
        by_met true g = by_unopened (unopened M B s (suc n)) g
        by_met false g = g

        by_due : (b : Bool) → (to n).openings < 2 ^ 64 → (cond b (round_at M B s (suc n) (to n)) (to n)).openings < 2 ^ 64
        by_due true g = by_met (B.met s (suc n)) g
        by_due false g = g
