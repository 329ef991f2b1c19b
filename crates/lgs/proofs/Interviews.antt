-- Lists of interviews: who is in a list that a step makes, and that what was held stays held. `interviewed` is a search, so these are laws
-- of `any`.
use Prim.Native.Nat.{ℕ}
use mathlib.Core.Path.{◌≡◌, refl, sym, ◌∙◌}
use mathlib.Core.Logic.{◌⊎◌, ⊎_elim}
use mathlib.Core.Bool.{true, false, ◌&&◌}
use mathlib.Core.List.Memᴰ.{head as here}
use mathlib.Core.List.Memᴰ.{not-nil}
use mathlib.Core.List.Memᴰ.{tail as later}
use mathlib.Core.List.{List, [], ◌∷◌, ◌++◌, map, Memᴰ as Mem}
use mathlib.Core.List.Memᴰ.{cases_cons}
use lib.Dec.{eqb}
use borrow.Author.Tests.{eqb-true, eq-eqb}
use Rattle.base.specs.Lists.{any}
use Rattle.base.proofs.Members.{any_append}
use Rattle.base.proofs.Tests.{never, and_left, and_right, and_make, or_true, or_left, or_right}
use Rattle.lgs.specs.Rule.{State, Interview, interviewed}

-- the student interviews each workshop of the list
abbrev pub interviews_with : ℕ → List ℕ → List Interview
interviews_with s ws = map (λ w. (s, w)) ws

pub none_interviewed : (s w : ℕ) → interviewed [] s w ≡ false
unfolding interviewed any
none_interviewed s w = refl

pub interviewed_or : (vs us : List Interview) (s w : ℕ) → interviewed (vs ++ us) s w ≡ true
    → (interviewed vs s w ≡ true) ⊎ (interviewed us s w ≡ true)
unfolding interviewed
interviewed_or vs us s w e = or_true _ _ (sym (any_append (λ v. eqb v.0 s && eqb v.1 w) vs us) ∙ e)

pub interviewed_before : (vs us : List Interview) (s w : ℕ) → interviewed vs s w ≡ true → interviewed (vs ++ us) s w ≡ true
unfolding interviewed
interviewed_before vs us s w e = any_append (λ v. eqb v.0 s && eqb v.1 w) vs us ∙ or_left _ _ e

pub interviewed_after : (vs us : List Interview) (s w : ℕ) → interviewed us s w ≡ true → interviewed (vs ++ us) s w ≡ true
unfolding interviewed
interviewed_after vs us s w e = any_append (λ v. eqb v.0 s && eqb v.1 w) vs us ∙ or_right (interviewed vs s w) _ e

pub interviewed_of : (s : ℕ) (ws : List ℕ) (t d : ℕ) → interviewed (interviews_with s ws) t d ≡ true → (t ≡ s) × Mem d ws
unfolding interviewed any
interviewed_of s [] t d e = never e refl
interviewed_of s (w ∷ ws) t d e =
    ⊎_elim (λ f. (sym (eqb-true s t (and_left (eqb s t) (eqb w d) f)), here (sym (eqb-true w d (and_right (eqb s t) (eqb w d) f)))))
    (λ f. let r : (t ≡ s) × Mem d ws = interviewed_of s ws t d f in (r.0, later r.1))
    (or_true (eqb s t && eqb w d) _ e)

pub interviewed_in : (s : ℕ) (ws : List ℕ) (d : ℕ) → Mem d ws → interviewed (interviews_with s ws) s d ≡ true
unfolding interviewed any
interviewed_in s [] d m = absurd (not-nil m)
interviewed_in s (w ∷ ws) d m =
    ⊎_elim (λ (e : d ≡ w). or_left (eqb s s && eqb w d) _ (and_make (eq-eqb s s refl) (eq-eqb w d (sym e))))
    (λ m'. or_right (eqb s s && eqb w d) _ (interviewed_in s ws d m'))
    (cases_cons m)

-- the state with other interviews
abbrev pub with_interviews : State → List Interview → State
with_interviews σ vs = record { waiting = σ.waiting; reached = σ.reached; held = σ.held; deleted = σ.deleted; interviews = vs }
