-- Step 2: what the student picks is the best of what is open to her, the outside option included. All of it is in the tier reached, so the
-- scores compare it.
use Prim.Native.Nat.{ℕ, ◌≤◌, ◌<◌}
use mathlib.Core.Path.{◌≡◌, refl, sym, subst, ◌∙◌}
use mathlib.Core.Logic.{⊎_elim}
use mathlib.Core.Bool.{Bool, true}
use mathlib.Core.List.Memᴰ.{cases_cons}
use mathlib.Core.List.Memᴰ.{head as here}
use mathlib.Core.List.Memᴰ.{tail as later}
use mathlib.Core.List.{List, ◌∷◌, Memᴰ as Mem}
use native.Mathlib.Omega.{arith}
use lib.Dec.{eqb, ltb}
use borrow.Author.Tests.{ltb-true, le-ltb, eqb-true, eqb-false}
use Rattle.base.specs.Lists.{upto, keep}
use Rattle.base.proofs.Tests.{bool_cases}
use Rattle.base.proofs.Members.{in_upto, in_keep, keep_in, in_rest, in_front, cons_if_in, Picked, picked}
use Rattle.lgs.specs.Market.{Market, Results, student_outside}
use Rattle.lgs.specs.Profiles.{Profile}
use Rattle.lgs.specs.Rule.{State, open?, choices, best}
use Rattle.lgs.proofs.Sides.{Known}
use Rattle.lgs.proofs.Valid.{Possible}
use Rattle.lgs.proofs.Setting.{Setting}
use Rattle.lgs.proofs.Invariant.{Open, open_parts, unopened_possible, Seen, Chosen, Inv, student_by_score, knows}

module _ (M : Market) (B : Results) (O : Profile) (Vs : ℕ → ℕ → Bool) (E : Setting M B O Vs) (σ : State) (I : Inv M B O Vs σ) (s : ℕ) where
  record Choice (y : ℕ) : Type 0 where
    tier : M.student_tier s y ≡ σ.reached s
    known : Known M.paired Vs s y
    real : 0 < y → open? M B σ s y ≡ true

  choice_in : (y : ℕ) → Mem y (choices M B σ s) → Choice y
  unfolding choices
  choice_in y m = ⊎_elim at_outside workshop (cons_if_in (eqb (student_outside M s) (σ.reached s)) 0 y (keep (open? M B σ s) (upto M.workshops)) m)
    where
      at_outside : (eqb (student_outside M s) (σ.reached s) ≡ true) × (y ≡ 0) → Choice y
      at_outside (l, e) =
          subst (λ z. Choice z) (sym e)
          (record { tier = eqb-true _ _ l; known = record { option = refl; seen = refl }; real = λ p. absurd (omega arith) })

      workshop : Mem y (keep (open? M B σ s) (upto M.workshops)) → Choice y
      workshop m' =
          let o : open? M B σ s y ≡ true = (keep_in (open? M B σ s) (upto M.workshops) y m').0 in
          let k : Open M B σ s y = open_parts M B σ s y o in
          let v : Seen M Vs σ s y = I.seen s y k.interview in
          record { tier = k.tier; known = knows M B O Vs E σ s y v; real = λ p. o }

  in_choices : (d : ℕ) → open? M B σ s d ≡ true → Mem d (choices M B σ s)
  unfolding choices
  in_choices d o =
      let r : (1 ≤ d) × (d ≤ M.workshops) = E.wf.workshop s d (I.seen s d (open_parts M B σ s d o).interview).pair in
      in_rest (eqb (student_outside M s) (σ.reached s)) 0 d _ (in_keep (open? M B σ s) (upto M.workshops) d o (in_upto M.workshops d r.0 r.1))

  none_in : eqb (student_outside M s) (σ.reached s) ≡ true → Mem 0 (choices M B σ s)
  unfolding choices
  none_in e = in_front (eqb (student_outside M s) (σ.reached s)) 0 0 _ e refl

  possible : (y : ℕ) → Choice y → Possible B.never s y
  possible y k l = unopened_possible M B s y (open_parts M B σ s y (k.real l)).welcome

  module _ (x : ℕ) (xs : List ℕ) (some : choices M B σ s ≡ x ∷ xs) where
    best_picked : Picked (λ y z. O.student_rank s y ≤ O.student_rank s z) Choice x xs (best M B s x xs)
    unfolding best
    best_picked =
        picked (λ y z. ltb (B.student_score s z) (B.student_score s y)) (λ y z. O.student_rank s y ≤ O.student_rank s z) Choice
        (λ y. omega arith) (λ a b c l r. omega arith)
        (λ a b ka kb e. student_by_score M B O Vs E s b a kb.known ka.known (possible b kb) (kb.tier ∙ sym ka.tier)
        (le-ltb (B.student_score s b) (B.student_score s a) (omega (arith, ltb-true (B.student_score s a) (B.student_score s b) e))))
        (λ a b ka kb e. student_by_score M B O Vs E s a b ka.known kb.known (possible a ka) (ka.tier ∙ sym kb.tier) e)
        x xs (choice_in x (rw some (here refl))) (λ y m. choice_in y (rw some (later m)))

    pub best_chosen : Chosen M B O Vs σ s (best M B s x xs)
    best_chosen =
        record {
          tier = best_picked.chosen.tier;
          known = best_picked.chosen.known;
          top = λ d o. among d (in_choices d o);
          none = ⊎_elim (λ e. among 0 (none_in e))
              (λ e. let ne : student_outside M s ≡ σ.reached s → ⊥ = eqb-false _ _ e in
              let l : σ.reached s < student_outside M s = omega (arith, I.outside s) in
              omega (
                arith,
                E.full.students.keeps s (best M B s x xs) 0 best_picked.chosen.known.option refl
                    (omega (arith, best_picked.chosen.tier)),
              ))
              (bool_cases (eqb (student_outside M s) (σ.reached s)));
          real = λ l. let k : Open M B σ s (best M B s x xs) = open_parts M B σ s (best M B s x xs) (best_picked.chosen.real l) in (k.interview, k.welcome);
        }
      where
        among : (d : ℕ) → Mem d (choices M B σ s) → O.student_rank s (best M B s x xs) ≤ O.student_rank s d
        among d m = ⊎_elim (λ (e : d ≡ x). rw e best_picked.first) (λ k. best_picked.others d k) (cases_cons (rw some at m))

    pub best_open : 0 < best M B s x xs → open? M B σ s (best M B s x xs) ≡ true
    best_open l = best_picked.chosen.real l
