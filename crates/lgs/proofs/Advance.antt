-- Step 1 keeps the invariant: the student in hand goes to her next tier and has the interviews that are left there. Nothing was open to her, so
-- what she leaves behind is deleted or declined.
use Prim.Native.Nat.{ℕ, suc, ◌≤◌, ◌<◌}
use mathlib.Core.Path.{◌≡◌, refl, sym, subst, ap, ◌∙◌}
use mathlib.Core.Logic.{◌⊎◌, inl, inr, ⊎_elim}
use mathlib.Core.Bool.{Bool, true, false, not, ◌&&◌}
use mathlib.Core.List.Memᴰ.{not-nil}
use mathlib.Core.List.{List, [], ◌∷◌, ◌++◌, Memᴰ as Mem}
use native.Mathlib.Omega.{arith}
use lib.Dec.{eqb}
use borrow.Author.Tests.{eqb-true, eqb-false, eq-eqb, lt-ltb, not-true}
use Rattle.base.specs.Lists.{upto}
use Rattle.base.proofs.Tests.{bool_cases, never, and_left, and_right, or_left, or_right, eq?, less?}
use Rattle.base.proofs.Members.{in_upto, in_keep, keep_in, in_rest, in_front, in_first}
pub use Rattle.base.proofs.Members.{update_at, update_off}
use Rattle.lgs.specs.Market.{Market, Results, student_outside, workshop_outside}
use Rattle.lgs.specs.Profiles.{Profile}
use Rattle.lgs.specs.Rule.{State, start, interviewed, unopened, open?, choices, due, advance}
use Rattle.lgs.proofs.Setting.{Setting}
use Rattle.lgs.proofs.Invariant.{Open, open_parts, open_make, Seen, Chosen, Gone, seatless, beyond, taken, Inv, closed_why}
use Rattle.lgs.proofs.Interviews.{interviews_with, with_interviews, interviewed_or, interviewed_before, interviewed_after, interviewed_of}
use Rattle.lgs.proofs.Interviews.{interviewed_in}

module _ (M : Market) (B : Results) (O : Profile) (Vs : ℕ → ℕ → Bool) where
  -- a choice persists while the student's tier stays, and nothing opens to her
  pub chosen_stays : (σ σ' : State) (s x : ℕ) → σ'.reached s ≡ σ.reached s
      → ((d : ℕ) → open? M B σ' s d ≡ true → open? M B σ s d ≡ true)
      → ((d : ℕ) → interviewed σ.interviews s d ≡ true → interviewed σ'.interviews s d ≡ true)
      → Chosen M B O Vs σ s x → Chosen M B O Vs σ' s x
  chosen_stays σ σ' s x r o v k =
      record {
        tier = k.tier ∙ sym r;
        known = k.known;
        top = λ d e. k.top d (o d e);
        none = k.none;
        real = λ l. (v x (k.real l).0, (k.real l).1);
      }

module _ (M : Market) (B : Results) (O : Profile) (Vs : ℕ → ℕ → Bool) (E : Setting M B O Vs) (σ : State) (I : Inv M B O Vs σ) where
  pub not_beyond : (s w : ℕ) → σ.deleted s w ≡ false → M.workshop_tier w s ≤ workshop_outside M w
  unfolding start
  not_beyond s w d =
      ⊎_elim (λ l. never (I.begun s w (far l)) d) (λ le. le) (less? (workshop_outside M w) (M.workshop_tier w s))
    where
      far : workshop_outside M w < M.workshop_tier w s → (start M B).deleted s w ≡ true
      far l = or_right (eqb (M.quota w) 0) _ (lt-ltb _ _ l)

  pub not_seatless : (s w : ℕ) → σ.deleted s w ≡ false → 1 ≤ M.quota w
  unfolding start
  not_seatless s w d =
      ⊎_elim (λ e. never (I.begun s w (or_left (eqb (M.quota w) 0) _ (eq-eqb _ _ e))) d) (λ ne. omega arith) (eq? (M.quota w) 0)

  module _ (s : ℕ) (rest : List ℕ) (wait : σ.waiting ≡ s ∷ rest) (empty : choices M B σ s ≡ []) where
    nothing_open : (w : ℕ) → open? M B σ s w ≡ true → ⊥
    unfolding choices
    nothing_open w e =
        let v : Seen M Vs σ s w = I.seen s w (open_parts M B σ s w e).interview in
        let r : (1 ≤ w) × (w ≤ M.workshops) = E.wf.workshop s w v.pair in
        not-nil (subst (λ l. Mem w l) empty
        (in_rest (eqb (student_outside M s) (σ.reached s)) 0 w _ (in_keep (open? M B σ s) (upto M.workshops) w e (in_upto M.workshops w r.0 r.1))))

    pub before_outside : σ.reached s < student_outside M s
    unfolding choices
    before_outside =
        ⊎_elim (λ e. absurd (not-nil (subst (λ l. Mem 0 l) empty (in_front (eqb (student_outside M s) (σ.reached s)) 0 0 _ e refl))))
        (λ e. let ne : student_outside M s ≡ σ.reached s → ⊥ = eqb-false _ _ e in omega (arith, I.outside s))
        (bool_cases (eqb (student_outside M s) (σ.reached s)))

    pub record Due (w : ℕ) : Type 0 where
      pub pair : M.paired s w ≡ true
      pub tier : M.student_tier s w ≡ suc (σ.reached s)
      pub kept : σ.deleted s w ≡ false

    pub due_in : (w : ℕ) → Mem w (due M B σ s) → Due w
    unfolding due
    due_in w m =
        let e : (M.paired s w && (eqb (M.student_tier s w) (suc (σ.reached s)) && not (σ.deleted s w))) ≡ true = (keep_in _ (upto M.workshops) w m).0 in
        let f : (eqb (M.student_tier s w) (suc (σ.reached s)) && not (σ.deleted s w)) ≡ true = and_right (M.paired s w) _ e in
        record {
          pair = and_left (M.paired s w) _ e;
          tier = eqb-true _ _ (and_left (eqb (M.student_tier s w) (suc (σ.reached s))) _ f);
          kept = not-true _ (and_right (eqb (M.student_tier s w) (suc (σ.reached s))) _ f);
        }

    in_due : (w : ℕ) → Due w → Mem w (due M B σ s)
    unfolding due
    in_due w k =
        let r : (1 ≤ w) × (w ≤ M.workshops) = E.wf.workshop s w k.pair in
        in_keep (λ v. M.paired s v && (eqb (M.student_tier s v) (suc (σ.reached s)) && not (σ.deleted s v))) (upto M.workshops) w
        (rw (k.pair, k.kept, eq-eqb _ _ k.tier)) (in_upto M.workshops w r.0 r.1)

    -- the state after the interviews
    abbrev pub advanced : State
    advanced = with_interviews (advance M B σ s) (σ.interviews ++ interviews_with s (due M B σ s))

    module _ (in_vs : (w : ℕ) → Mem w (due M B σ s) → Vs s w ≡ true) where
      -- her own tier is one higher, and the others' are as they were
      mine : (t : ℕ) → t ≡ s → advanced.reached t ≡ suc (σ.reached s)
      mine t e = update_at σ.reached s (suc (σ.reached s)) t e

      theirs : (t : ℕ) → (t ≡ s → ⊥) → advanced.reached t ≡ σ.reached t
      theirs t ne = update_off σ.reached s (suc (σ.reached s)) t ne

      grows : (t : ℕ) → σ.reached t ≤ advanced.reached t
      grows t = ⊎_elim (λ (e : t ≡ s). omega (arith, mine t e, ap σ.reached e)) (λ ne. omega (arith, theirs t ne)) (eq? t s)

      interview_cases : (t w : ℕ) → interviewed advanced.interviews t w ≡ true → (interviewed σ.interviews t w ≡ true) ⊎ ((t ≡ s) × Due w)
      interview_cases t w v =
          ⊎_elim inl (λ n. let r : (t ≡ s) × Mem w (due M B σ s) = interviewed_of s (due M B σ s) t w n in inr (r.0, due_in w r.1))
          (interviewed_or σ.interviews (interviews_with s (due M B σ s)) t w v)

      seen' : (t w : ℕ) → interviewed advanced.interviews t w ≡ true → Seen M Vs advanced t w
      seen' t w v =
          ⊎_elim
          (λ o.
          let k : Seen M Vs σ t w = I.seen t w o in
          record { pair = k.pair; seen = k.seen; tier = omega (arith, k.tier, grows t); outside = k.outside; seats = k.seats })
          (λ r.
          let k : Due w = r.1 in
          subst (λ u. Seen M Vs advanced u w) (sym r.0)
          (record {
            pair = k.pair;
            seen = in_vs w (in_due w k);
            tier = omega (arith, k.tier, mine s refl);
            outside = not_beyond s w k.kept;
            seats = not_seatless s w k.kept;
          }))
          (interview_cases t w v)

      swept' : (t w : ℕ) → M.paired t w ≡ true → M.student_tier t w ≤ advanced.reached t
          → (interviewed advanced.interviews t w ≡ true) ⊎ (σ.deleted t w ≡ true)
      swept' t w p l = ⊎_elim old new (less? (σ.reached t) (M.student_tier t w))
        where
          new : M.student_tier t w ≤ σ.reached t → (interviewed advanced.interviews t w ≡ true) ⊎ (σ.deleted t w ≡ true)
          new le = ⊎_elim (λ v. inl (interviewed_before σ.interviews _ t w v)) inr (I.swept t w p le)

          hers : t ≡ s → σ.reached t < M.student_tier t w → (interviewed advanced.interviews t w ≡ true) ⊎ (σ.deleted t w ≡ true)
          hers e less =
              ⊎_elim inr
              (λ d.
              inl (interviewed_after σ.interviews _ t w
              (subst (λ u. interviewed (interviews_with s (due M B σ s)) u w ≡ true) (sym e)
              (interviewed_in s (due M B σ s) w (in_due w (record { pair = rw e at p; tier = sized e; kept = rw e at d }))))))
              (bool_cases (σ.deleted t w))
            where
              sized : t ≡ s → M.student_tier s w ≡ suc (σ.reached s)
              sized q = omega (arith, mine t q, ap (λ u. M.student_tier u w) q, ap σ.reached q)

          old : σ.reached t < M.student_tier t w → (interviewed advanced.interviews t w ≡ true) ⊎ (σ.deleted t w ≡ true)
          old less = ⊎_elim (λ e. hers e less) (λ ne. absurd (omega (arith, theirs t ne))) (eq? t s)

      -- what is open to another student was open before
      others_open : (t w : ℕ) → (t ≡ s → ⊥) → open? M B advanced t w ≡ true → open? M B σ t w ≡ true
      others_open t w ne o =
          let k : Open M B advanced t w = open_parts M B advanced t w o in
          ⊎_elim
          (λ v. open_make M B σ t w (record { interview = v; tier = k.tier ∙ theirs t ne; kept = k.kept; welcome = k.welcome }))
          (λ r. absurd (ne r.0))
          (interview_cases t w k.interview)

      past' : (t w : ℕ)
          → interviewed advanced.interviews t w ≡ true
          → M.student_tier t w < advanced.reached t
          → (σ.deleted t w ≡ true) ⊎ (unopened M B t w ≡ true)
      past' t w v less = ⊎_elim before now (interview_cases t w v)
        where
          -- nothing of the tier that she leaves is open
          before : interviewed σ.interviews t w ≡ true → (σ.deleted t w ≡ true) ⊎ (unopened M B t w ≡ true)
          before u =
              ⊎_elim
              (λ (e : t ≡ s).
              closed_why M B O Vs E σ I t w u (⊎_elim (λ o. absurd (nothing_open w (rw e at o))) (λ f. f) (bool_cases (open? M B σ t w))))
              (λ ne. I.past t w u (omega (arith, theirs t ne)))
              (eq? t s)

          now : (t ≡ s) × Due w → (σ.deleted t w ≡ true) ⊎ (unopened M B t w ≡ true)
          now (e, k) = absurd (omega (arith, k.tier, mine t e, ap (λ u. M.student_tier u w) e))

      stays : (t x : ℕ) → (t ≡ s → ⊥) → Chosen M B O Vs σ t x → Chosen M B O Vs advanced t x
      stays t x ne k = chosen_stays M B O Vs σ advanced t x (theirs t ne) (λ d. others_open t d ne) (λ d v. interviewed_before σ.interviews _ t d v) k

      gone' : (t c : ℕ) → Gone M O σ t c → Gone M O advanced t c
      gone' t c (seatless z) = seatless z
      gone' t c (beyond l) = beyond l
      gone' t c (taken f a) = taken f a

      pub advance_keeps : Inv M B O Vs advanced
      advance_keeps =
          record {
            seen = seen';
            swept = swept';
            past = past';
            outside = λ t.
                ⊎_elim (λ (e : t ≡ s). omega (arith, mine t e, before_outside, ap (λ u. student_outside M u) e))
                (λ ne. omega (arith, theirs t ne, I.outside t))
                (eq? t s);
            chosen = λ t l. stays t (σ.held t) (λ (e : t ≡ s). omega (arith, I.free s (in_first wait), ap σ.held e)) (I.chosen t l);
            settled = λ t l u.
                ⊎_elim (λ (e : t ≡ s). inl (rw e (in_first wait)))
                (λ ne. ⊎_elim inl (λ k. inr (stays t (σ.held t) ne k)) (I.settled t l u))
                (eq? t s);
            free = I.free;
            range = I.range;
            distinct = I.distinct;
            begun = I.begun;
            gone = λ t c p d. gone' t c (I.gone t c p d);
            lost = I.lost;
            within = I.within;
          }
