-- No interview is held twice: what a student interviews next is in a tier beyond all that she has interviewed. So a list is no longer, and no dearer, than
-- a set of pairs that holds it.
use Prim.Native.Nat.{ℕ, ◌≤◌}
use mathlib.Core.Path.{◌≡◌, refl}
use mathlib.Core.Logic.{⊎_elim}
use mathlib.Core.Bool.{Bool, true, false, ◌&&◌}
use mathlib.Core.List.{List, [], ◌∷◌, ◌++◌, Memᴰ as Mem}
use native.Mathlib.Omega.{arith}
use lib.Dec.{eqb}
use lib.ListN.{length}
use borrow.Author.Tests.{eqb-true, eq-eqb}
use Rattle.base.specs.Lists.{upto, any, sum_of}
use Rattle.base.proofs.Tests.{never, is_false, and_left, and_right, and_make, or_true, or_left, or_right}
use Rattle.base.proofs.Grid.{over, over_mono, over_either, over_none, over_one, over_count}
use Rattle.base.proofs.Members.{NoDup, upto_distinct, keep_distinct}
use Rattle.lgs.specs.Market.{Market, Results}
use Rattle.lgs.specs.Profiles.{Profile}
use Rattle.lgs.specs.Rule.{State, Interview, interviewed, choices, due, start, close}
use Rattle.lgs.specs.Fares.{fares_of, fares_in}
use Rattle.lgs.specs.Promises.{NoRepeats, pairs_in}
use Rattle.lgs.proofs.Valid.{WellFormed}
use Rattle.lgs.proofs.Setting.{Setting}
use Rattle.lgs.proofs.Invariant.{Seen, Inv}
use Rattle.lgs.proofs.Interviews.{interviews_with, interviewed_or, interviewed_of, interviewed_before, interviewed_after}
use Rattle.lgs.proofs.Advance.{Due, due_in}
use Rattle.lgs.proofs.Moves.{Move, interviews, leaves, sits, drops}
use Rattle.lgs.proofs.Trace.{Reaches}
use Rattle.lgs.proofs.Keeps.{last_with}

-- ---- lists without repetition

pub interviews_distinct : (s : ℕ) (ws : List ℕ) → NoDup ws → NoRepeats (interviews_with s ws)
interviews_distinct s [] d = tt
interviews_distinct s (w ∷ ws) d = (is_false _ (λ e. d.0 (interviewed_of s ws s w e).1), interviews_distinct s ws d.1)

pub interviewed_head : (v : Interview) (vs : List Interview) → interviewed (v ∷ vs) v.0 v.1 ≡ true
unfolding interviewed any
interviewed_head v vs = or_left (eqb v.0 v.0 && eqb v.1 v.1) _ (and_make (eq-eqb v.0 v.0 refl) (eq-eqb v.1 v.1 refl))

pub interviewed_later : (v : Interview) (vs : List Interview) (s w : ℕ) → interviewed vs s w ≡ true → interviewed (v ∷ vs) s w ≡ true
unfolding interviewed any
interviewed_later v vs s w e = or_right (eqb v.0 s && eqb v.1 w) _ e

-- the first interview is none of the others
pub head_apart : (v : Interview) (vs : List Interview) → NoRepeats (v ∷ vs) → (s w : ℕ) → (eqb v.0 s && eqb v.1 w) ≡ true → interviewed vs s w ≡ false
head_apart v vs d s w q = rw (← eqb-true v.0 s (and_left (eqb v.0 s) _ q), ← eqb-true v.1 w (and_right (eqb v.0 s) _ q)) d.0

pub append_distinct : (vs us : List Interview) → NoRepeats vs → NoRepeats us
    → ((s w : ℕ) → interviewed vs s w ≡ true → interviewed us s w ≡ true → ⊥) → NoRepeats (vs ++ us)
append_distinct [] us dv du apart = du
append_distinct (v ∷ vs) us dv du apart = (
  is_false _ (λ e. ⊎_elim (λ t. never t dv.0) (apart v.0 v.1 (interviewed_head v vs)) (interviewed_or vs us v.0 v.1 e)),
  append_distinct vs us dv.1 du (λ s w a b. apart s w (interviewed_later v vs s w a) b),
)

-- the list before an interview has neither repetition nor that interview
pub before_distinct : (vs us : List Interview) (v : Interview) → NoRepeats (vs ++ (v ∷ us)) → NoRepeats vs × (interviewed vs v.0 v.1 ≡ false)
unfolding interviewed any
before_distinct [] us v d = (tt, refl)
before_distinct (x ∷ vs) us v d =
    let r : NoRepeats vs × (interviewed vs v.0 v.1 ≡ false) = before_distinct vs us v d.1 in (
      (is_false _ (λ e. never (interviewed_before vs (v ∷ us) x.0 x.1 e) d.0), r.0),
      is_false _ (λ e. ⊎_elim other (λ k. never k r.1) (or_true (eqb x.0 v.0 && eqb x.1 v.1) _ e)),
    )
  where
    other : (eqb x.0 v.0 && eqb x.1 v.1) ≡ true → ⊥
    other q =
        let e₀ : x.0 ≡ v.0 = eqb-true _ _ (and_left (eqb x.0 v.0) _ q) in
        let e₁ : x.1 ≡ v.1 = eqb-true _ _ (and_right (eqb x.0 v.0) _ q) in
        never (rw (e₀, e₁) (interviewed_after vs (v ∷ us) v.0 v.1 (interviewed_head v us))) d.0

-- ---- a list without repetition costs what its set of pairs does, and no more than a set that holds it; f is what each pair costs

abbrev cost : (ℕ → ℕ → ℕ) → List Interview → ℕ
cost f vs = sum_of (λ (v : Interview). f v.0 v.1) vs

list_over : (n m : ℕ) (f : ℕ → ℕ → ℕ) (vs : List Interview) → NoRepeats vs
    → ((s w : ℕ) → interviewed vs s w ≡ true → ((1 ≤ s) × (s ≤ n)) × ((1 ≤ w) × (w ≤ m)))
    → over n m f (interviewed vs) ≡ cost f vs
unfolding interviewed any sum_of
list_over n m f [] d inside = over_none n m f
list_over n m f (v ∷ vs) d inside =
    let r : ((1 ≤ v.0) × (v.0 ≤ n)) × ((1 ≤ v.1) × (v.1 ≤ m)) = inside v.0 v.1 (interviewed_head v vs) in
    omega (
      arith,
      over_either n m f (λ s w. eqb v.0 s && eqb v.1 w) (interviewed vs) (head_apart v vs d),
      over_one n m f v.0 v.1 r.0.0 r.0.1 r.1.0 r.1.1,
      list_over n m f vs d.1 (λ s w e. inside s w (interviewed_later v vs s w e)),
    )

one_each_lem : (vs : List Interview) → cost (λ s w. 1) vs ≡ length vs
unfolding sum_of
one_each_lem [] = refl
one_each_lem (v ∷ vs) = omega (arith, one_each_lem vs)

module _ (M : Market) (wf : WellFormed M) (vs : List Interview) (once : NoRepeats vs)
    (pair : (s w : ℕ) → interviewed vs s w ≡ true → M.paired s w ≡ true) where
  -- the pairs of a set that have a pair record
  abbrev recorded : (ℕ → ℕ → Bool) → ℕ → ℕ → Bool
  recorded Us s w = M.paired s w && Us s w

  listed_over : (f : ℕ → ℕ → ℕ) → over M.students M.workshops f (interviewed vs) ≡ cost f vs
  listed_over f =
      list_over M.students M.workshops f vs once (λ s w e. (wf.student s w (pair s w e), wf.workshop s w (pair s w e)))

  cost_fits : (f : ℕ → ℕ → ℕ) (Us : ℕ → ℕ → Bool) → ((s w : ℕ) → interviewed vs s w ≡ true → Us s w ≡ true)
      → cost f vs ≤ over M.students M.workshops f (recorded Us)
  cost_fits f Us inside =
      omega (
        arith,
        listed_over f,
        over_mono M.students M.workshops f (interviewed vs) (recorded Us) (λ s w e. and_make (pair s w e) (inside s w e)),
      )

  cost_is : (f : ℕ → ℕ → ℕ) → over M.students M.workshops f (recorded (interviewed vs)) ≡ cost f vs
  cost_is f =
      omega (
        arith,
        listed_over f,
        cost_fits f (interviewed vs) (λ s w e. e),
        over_mono M.students M.workshops f (recorded (interviewed vs)) (interviewed vs) (λ s w e. and_right (M.paired s w) _ e),
      )

  -- it is no longer than such a set
  pub listed_fits : (Us : ℕ → ℕ → Bool) → ((s w : ℕ) → interviewed vs s w ≡ true → Us s w ≡ true) → length vs ≤ pairs_in M Us
  unfolding pairs_in
  listed_fits Us inside =
      omega (arith, cost_fits (λ s w. 1) Us inside, over_count M.students M.workshops (recorded Us), one_each_lem vs)

  pub listed_counted : pairs_in M (interviewed vs) ≡ length vs
  unfolding pairs_in
  listed_counted = omega (arith, cost_is (λ s w. 1), over_count M.students M.workshops (recorded (interviewed vs)), one_each_lem vs)

  -- its fares are no more than those of such a set
  pub fares_fit : (Us : ℕ → ℕ → Bool) → ((s w : ℕ) → interviewed vs s w ≡ true → Us s w ≡ true) → fares_of M vs ≤ fares_in M Us
  unfolding fares_of fares_in
  fares_fit Us inside = cost_fits M.fare Us inside

  pub fares_paid : fares_in M (interviewed vs) ≡ fares_of M vs
  unfolding fares_of fares_in
  fares_paid = cost_is M.fare

-- ---- the run

module _ (M : Market) (B : Results) (O : Profile) (Vs : ℕ → ℕ → Bool) (E : Setting M B O Vs) where
  module _ (σ : State) (I : Inv M B O Vs σ) (s : ℕ) (rest : List ℕ) (wait : σ.waiting ≡ s ∷ rest) where
    -- what is due has had no interview
    pub due_once : choices M B σ s ≡ [] → NoRepeats σ.interviews → NoRepeats (σ.interviews ++ interviews_with s (due M B σ s))
    unfolding due
    due_once empty d =
        append_distinct σ.interviews (interviews_with s (due M B σ s)) d
        (interviews_distinct s (due M B σ s) (keep_distinct _ (upto M.workshops) (upto_distinct M.workshops)))
        (λ t w a b. fresh t w a (interviewed_of s (due M B σ s) t w b))
      where
        fresh : (t w : ℕ) → interviewed σ.interviews t w ≡ true → (t ≡ s) × Mem w (due M B σ s) → ⊥
        fresh t w a r =
            let k : Due M B O Vs E σ I s rest wait empty w = due_in M B O Vs E σ I s rest wait empty w r.1 in
            let v : Seen M Vs σ s w = I.seen s w (rw r.0 at a) in
            omega (arith, k.tier, v.tier)

    move_once : (σ' : State) → Move M B σ s rest σ' → NoRepeats σ.interviews → NoRepeats σ'.interviews
    unfolding close
    move_once σ' (interviews empty met e) d = rw e (due_once empty d)
    move_once σ' (leaves _ _ _ _ e) d = rw e d
    move_once σ' (sits _ _ _ _ _ _ e) d = rw e d
    move_once σ' (drops _ _ _ _ _ _ e) d = rw e d

  pub last_once : (τ : State) → Reaches M B τ (start M B) → ((t w : ℕ) → interviewed τ.interviews t w ≡ true → Vs t w ≡ true)
      → NoRepeats τ.interviews
  unfolding start
  last_once τ r known = (last_with M B O Vs E (λ σ. NoRepeats σ.interviews) (λ σ σ' I s rest w m d. move_once σ I s rest w σ' m d) tt τ r known).1
