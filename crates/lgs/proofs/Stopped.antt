-- A stopped run names a pair record without a book record, after interviews that all have both. It is not among them, and none is repeated, since
-- the run stops among the workshops of the student's next tier.
use Prim.Native.Nat.{ℕ}
use mathlib.Core.Path.{◌≡◌, refl, sym, subst, ap, ◌∙◌}
use mathlib.Core.Logic.{◌⊎◌, inl, inr, ⊎_elim}
use mathlib.Core.Bool.{true, false}
use mathlib.Core.List.Memᴰ.{append_left as in_left}
use mathlib.Core.List.Memᴰ.{head as here}
use mathlib.Core.List.{List, ◌∷◌, ◌++◌, append_assoc, Memᴰ as Mem}
use mathlib.Core.List.Memᴰ.{append_right as in_right}
use Rattle.base.proofs.Members.{map_append}
use Rattle.lgs.specs.Market.{Market, Results}
use Rattle.lgs.specs.Profiles.{Profile}
use Rattle.lgs.specs.Rule.{State, stopped, Interview, interviewed, due, start, lazy_gale_shapley}
use Rattle.lgs.specs.Promises.{NoRepeats, Listed}
use Rattle.lgs.proofs.Setting.{Setting}
use Rattle.lgs.proofs.Invariant.{Inv}
use Rattle.lgs.proofs.Interviews.{interviews_with, interviewed_or, interviewed_of}
use Rattle.lgs.proofs.Advance.{due_in}
use Rattle.lgs.proofs.Moves.{stopped_not_going}
use Rattle.lgs.proofs.Trace.{Last, lgs_last, last_met, Stops, step_stopped}
use Rattle.lgs.proofs.Keeps.{last_inv}
use Rattle.lgs.proofs.Once.{due_once, last_once, before_distinct}

pub record Stopped (M : Market) (B : Results) (s w : ℕ) (vs : List Interview) : Type 0 where
  pub pair : M.paired s w ≡ true
  pub unanswered : B.met s w ≡ false
  pub listed : Listed M B vs
  pub unlisted : interviewed vs s w ≡ false

module _ (M : Market) (B : Results) (O : Profile) (E : Setting M B O B.met) (s w : ℕ) (vs : List Interview) where
  stopped_at_lem : (τ : State) → Inv M B O B.met τ → NoRepeats τ.interviews → Stops M B τ s w vs → Stopped M B s w vs
  stopped_at_lem τ I once h =
      record {
        pair = due_pair w (rw h.due (in_right h.before (here refl)));
        unanswered = h.unmet;
        listed = record {
          pair = λ t d v. ⊎_elim (λ o. (I.seen t d o).pair) (new_pair t d) (cases t d v);
          answered = λ t d v. ⊎_elim (λ o. (I.seen t d o).seen) (new_met t d) (cases t d v);
          once = apart.0;
        };
        unlisted = apart.1;
      }
    where
      due_pair : (d : ℕ) → Mem d (due M B τ s) → M.paired s d ≡ true
      due_pair d m = (due_in M B O B.met E τ I s h.rest h.waiting h.empty d m).pair

      new_pair : (t d : ℕ) → (t ≡ s) × Mem d h.before → M.paired t d ≡ true
      new_pair t d (e, m) = rw e (due_pair d (rw h.due (in_left (w ∷ h.after) m)))

      new_met : (t d : ℕ) → (t ≡ s) × Mem d h.before → B.met t d ≡ true
      new_met t d (e, m) = rw e (h.met d m)

      cases : (t d : ℕ) → interviewed vs t d ≡ true → (interviewed τ.interviews t d ≡ true) ⊎ ((t ≡ s) × Mem d h.before)
      cases t d v =
          ⊎_elim inl (λ n. inr (interviewed_of s h.before t d n))
          (interviewed_or τ.interviews (interviews_with s h.before) t d (rw h.interviews at v))

      -- all that is due follows the interviews held
      all : τ.interviews ++ interviews_with s (due M B τ s) ≡ vs ++ ((s, w) ∷ interviews_with s h.after)
      all =
          ap (λ l. τ.interviews ++ interviews_with s l) h.due
          ∙ (ap (λ l. τ.interviews ++ l) (map_append (λ d. (s, d)) h.before (w ∷ h.after))
          ∙ (sym (append_assoc τ.interviews (interviews_with s h.before) ((s, w) ∷ interviews_with s h.after))
          ∙ ap (λ l. l ++ ((s, w) ∷ interviews_with s h.after)) (sym h.interviews)))

      apart : NoRepeats vs × (interviewed vs s w ≡ false)
      apart =
          before_distinct vs (interviews_with s h.after) (s, w)
          (subst (λ l. NoRepeats l) all (due_once M B O B.met E τ I s h.rest h.waiting h.empty once))

  pub lgs_stopped : lazy_gale_shapley M B ≡ stopped s w vs → Stopped M B s w vs
  lgs_stopped e = by_last (lgs_last M B (stopped s w vs) (stopped_not_going s w vs) e)
    where
      by_last : Last M B (start M B) (stopped s w vs) → Stopped M B s w vs
      by_last L =
          let met : (t d : ℕ) → interviewed L.state.interviews t d ≡ true → B.met t d ≡ true = last_met M B L.state L.reached in
          stopped_at_lem L.state (last_inv M B O B.met E L.state L.reached met) (last_once M B O B.met E L.state L.reached met)
          (step_stopped M B L.state s w vs L.answer)
