-- What ties the machine's cards and seats to a state of the rule (`Tied`). Under it both find the same interviews due, and the machine's best
-- option is the rule's best choice or a stale bit.
use Prim.Native.Nat.{ℕ, zero, suc, ◌-◌, ◌≤◌, ◌<◌}
use mathlib.Core.Path.{◌≡◌, refl, sym, subst, ap, ◌∙◌}
use mathlib.Core.Logic.{◌⊎◌, inl, inr, ⊎_elim}
use mathlib.Core.Bool.{Bool, true, false, not, cond, ◌&&◌}
use mathlib.Core.List.{List, [], ◌∷◌, ◌++◌}
use mathlib.Core.List.Memᴰ.{cases_cons}
use mathlib.Core.List.Memᴰ.{head as here}
use mathlib.Core.List.Memᴰ.{not-nil}
use mathlib.Core.List.Memᴰ.{tail as later}
use mathlib.Core.List.{Memᴰ as Mem}
use native.Mathlib.Omega.{arith}
use lib.Dec.{eqb, ltb}
use lib.ListN.{length, get_or, get_or-eq_default}
use borrow.Author.Tests.{eqb-true, eq-eqb, ltb-true, ltb-false, lt-ltb, le-ltb}
use Rattle.base.specs.Lists.{upto, keep, pick}
use Rattle.lgs.specs.Market.{Market, Results, student_outside, workshop_outside}
use Rattle.lgs.specs.Profiles.{Profile, seated, outside_or, flip}
use Rattle.lgs.specs.Rule.{State, going, stopped, start, Interview, interviewed, unopened, open?, choices, due, best, interview_all}
use Rattle.model.specs.Model.{Card, held, missing, round, set_bit, full_above, shut_by, last_seat, due_now, options}
use Rattle.base.proofs.Tests.{never, bool_cases, and_left, and_right, and_make, or_true, or_left, or_right, less?}
use Rattle.base.proofs.Members.{in_keep, keep_in, in_rest, in_front, cons_if_in, Picked, picked}
use Rattle.base.proofs.Digits.{keep_same}
use Rattle.lgs.proofs.Valid.{Possible}
use Rattle.lgs.proofs.Sides.{real}
use Rattle.lgs.proofs.Setting.{Setting}
use Rattle.lgs.proofs.Invariant.{Seen, Inv, unopened_possible, workshop_no_worse}
use Rattle.lgs.proofs.Interviews.{with_interviews}
use Rattle.model.proofs.Storage.{seats_of_lem}
use Rattle.model.proofs.Seats.{Ranked, last_in}
use Rattle.model.proofs.Evident.{Evident, Far, seatless, beyond, above}

-- the card C of each student and the seats S of each workshop, and the rule's state
pub record Tied (M : Market) (B : Results) (O : Profile) (σ : State) (C : ℕ → Card) (S : ℕ → List ℕ) : Type 0 where
  pub reached : (t : ℕ) → (C t).reached ≡ σ.reached t
  pub held : (t : ℕ) → (C t).held ≡ σ.held t
  pub has : (t w : ℕ) → open? M B σ t w ≡ true → (C t).bits w ≡ true
  pub from : (t w : ℕ) → (C t).bits w ≡ true → (interviewed σ.interviews t w ≡ true) × (unopened M B t w ≡ false) × (σ.reached t ≤ M.student_tier t w)
  pub ranked : (c : ℕ) → 0 < c → Ranked (O.workshop_rank c) (S c)
  pub sits : (c h : ℕ) → 0 < c → Mem h (S c) → σ.held h ≡ c
  pub seat : (c h : ℕ) → 0 < c → σ.held h ≡ c → Mem h (S c)
  pub size : (c : ℕ) → 0 < c → length (S c) ≡ seated M σ.held c

bool_same : (a b : Bool) → (a ≡ true → b ≡ true) → (b ≡ true → a ≡ true) → a ≡ b
bool_same true b f g = sym (f refl)
bool_same false true f g = g refl
bool_same false false f g = refl

pub empty? : (xs : List ℕ) → (xs ≡ []) ⊎ ((x : ℕ) × (ys : List ℕ) × (xs ≡ x ∷ ys))
empty? [] = inl refl
empty? (x ∷ xs) = inr (x, xs, refl)

pub top_pick : (score : ℕ → ℕ) (x : ℕ) (xs : List ℕ) → Mem (pick (λ y z. ltb (score z) (score y)) x xs) (x ∷ xs)
    × ((y : ℕ) → Mem y (x ∷ xs) → score y ≤ score (pick (λ y z. ltb (score z) (score y)) x xs))
top_pick score x xs =
    let p : Picked (λ y z. score z ≤ score y) (λ y. Mem y (x ∷ xs)) x xs (pick (λ y z. ltb (score z) (score y)) x xs) =
    picked (λ y z. ltb (score z) (score y)) (λ y z. score z ≤ score y) (λ y. Mem y (x ∷ xs)) (λ y. omega arith) (λ a b c l r. omega arith)
    (λ a b pa pb e. let l : score a < score b = ltb-true _ _ e in omega arith) (λ a b pa pb e. ltb-false _ _ e) x xs (here refl) (λ y m. later m) in
    (p.chosen, λ y m. ⊎_elim (λ (e : y ≡ x). rw e p.first) (p.others y) (cases_cons m))

module _ (M : Market) (B : Results) (O : Profile) (E : Setting M B O B.met) (σ : State) (I : Inv M B O B.met σ)
    (C : ℕ → Card) (S : ℕ → List ℕ) (R : Tied M B O σ C S) where
  -- a holder has had her interview
  pub holder_seen : (c h : ℕ) → 0 < c → σ.held h ≡ c → Seen M B.met σ h c
  holder_seen c h pos e = I.seen h c (rw e at ((I.chosen h (rw e pos)).real (rw e pos)).0)

  -- which did not end in never
  pub holder_possible : (c h : ℕ) → 0 < c → σ.held h ≡ c → B.never h c ≡ false
  holder_possible c h pos e = unopened_possible M B h c (rw e at ((I.chosen h (rw e pos)).real (rw e pos)).1)

  holder_tier : (c h l : ℕ) → 0 < c → σ.held h ≡ c → σ.held l ≡ c → O.workshop_rank c h ≤ O.workshop_rank c l → M.workshop_tier c h ≤ M.workshop_tier c l
  holder_tier c h l pos eh el le =
      workshop_no_worse M B O B.met E c h l (real (flip M.paired c) h (holder_seen c h pos eh).pair)
      (real (flip M.paired c) l (holder_seen c l pos el).pair) le

  module _ (N : Evident M B σ) (s : ℕ) where
    -- a workshop with seats: the last seat shows whether it is full, and its lowest holder
    module _ (w : ℕ) (pair : M.paired s w ≡ true) (new : interviewed σ.interviews s w ≡ false) (q : ℕ) (quota : M.quota w ≡ suc q) where
      pos : 0 < w
      pos = (E.wf.workshop s w pair).0

      full_length : 0 < get_or (S w) q 0 → length (S w) ≡ suc q
      full_length l =
          ⊎_elim (λ (e : length (S w) ≤ q). absurd (omega (arith, get_or-eq_default (S w) 0 e)))
          (λ (e : suc q ≤ length (S w)). omega (arith, R.size w pos, I.within w pos))
          (⊎_elim (λ (a : length (S w) < suc q). inl (omega arith)) inr (less? (length (S w)) (suc q)))

      last : length (S w) ≡ suc q → Mem (get_or (S w) q 0) (S w) × ((y : ℕ) → Mem y (S w) → O.workshop_rank w y ≤ O.workshop_rank w (get_or (S w) q 0))
      last l = last_in (O.workshop_rank w) q (S w) (R.ranked w pos) l

      above_deleted : 0 < get_or (S w) q 0 → M.workshop_tier w (get_or (S w) q 0) < M.workshop_tier w s → σ.deleted s w ≡ true
      above_deleted l g =
          let n : length (S w) ≡ suc q = full_length l in
          N.shut s w pair (omega (arith, R.size w pos))
          (λ h e. omega (arith, holder_tier w h (get_or (S w) q 0) pos e (R.sits w _ pos (last n).0) ((last n).1 h (R.seat w h pos e))))

      deleted_above : Far M σ.held s w
          → (M.quota w ≡ 0) ⊎ ((workshop_outside M w < M.workshop_tier w s) ⊎
          ((0 < get_or (S w) q 0) × (M.workshop_tier w (get_or (S w) q 0) < M.workshop_tier w s)))
      deleted_above (seatless z) = inl z
      deleted_above (beyond l) = inr (inl l)
      deleted_above (above f a) =
          let n : length (S w) ≡ suc q = omega (arith, R.size w pos, I.within w pos) in
          let e : σ.held (get_or (S w) q 0) ≡ w = R.sits w _ pos (last n).0 in
          inr (inr ((E.wf.student _ w (holder_seen w (get_or (S w) q 0) pos e).pair).0, a (get_or (S w) q 0) e))

      less_one : M.quota w - 1 ≡ q
      less_one = omega arith

      shut_seats : shut_by M B (last_seat M B S w) s w ≡ σ.deleted s w
      unfolding shut_by full_above start
      shut_seats =
          rw (seats_of_lem M w, less_one) (bool_same _ (σ.deleted s w)
          (λ e.
          ⊎_elim (λ z. I.begun s w (or_left (eqb (M.quota w) 0) _ z))
          (λ r.
          ⊎_elim (λ z. I.begun s w (or_right (eqb (M.quota w) 0) _ z))
          (λ f. above_deleted (ltb-true _ _ (and_left (ltb 0 (get_or (S w) q 0)) _ f)) (ltb-true _ _ (and_right (ltb 0 (get_or (S w) q 0)) _ f)))
          (or_true (ltb (workshop_outside M w) (M.workshop_tier w s)) _ r))
          (or_true (eqb (M.quota w) 0) _ e))
          (λ d.
          ⊎_elim (λ z. or_left (eqb (M.quota w) 0) _ (eq-eqb _ _ z))
          (λ r.
          or_right (eqb (M.quota w) 0) _
          (⊎_elim (λ l. or_left (ltb (workshop_outside M w) (M.workshop_tier w s)) _ (lt-ltb _ _ l))
          (λ f. or_right (ltb (workshop_outside M w) (M.workshop_tier w s)) _ (and_make (lt-ltb _ _ f.0) (lt-ltb _ _ f.1))) r))
          (deleted_above (N.apart s w pair new d))))

    shut_same : (w : ℕ) → M.paired s w ≡ true → interviewed σ.interviews s w ≡ false → shut_by M B (last_seat M B S w) s w ≡ σ.deleted s w
    unfolding shut_by start
    shut_same w pair new = by_quota (M.quota w) refl
      where
        by_quota : (q : ℕ) → M.quota w ≡ q → shut_by M B (last_seat M B S w) s w ≡ σ.deleted s w
        by_quota zero e =
            rw (seats_of_lem M w)
            (or_left (eqb (M.quota w) 0) _ (eq-eqb _ _ e) ∙ sym (I.begun s w (or_left (eqb (M.quota w) 0) _ (eq-eqb _ _ e))))
        by_quota (suc q) e = shut_seats w pair new q e

    -- the machine interviews what the rule interviews
    pub due_same : due_now M B S (C s) s ≡ due M B σ s
    unfolding due_now due
    due_same = keep_same _ _ M.workshops (λ x a b. same x)
      where
        unseen : (w : ℕ) → M.student_tier s w ≡ suc (σ.reached s) → interviewed σ.interviews s w ≡ false
        unseen w g = ⊎_elim (λ v. absurd (omega (arith, (I.seen s w v).tier))) (λ f. f) (bool_cases (interviewed σ.interviews s w))

        same : (w : ℕ) → (M.paired s w && (eqb (M.student_tier s w) (suc (C s).reached) && not (shut_by M B (last_seat M B S w) s w)))
            ≡ (M.paired s w && (eqb (M.student_tier s w) (suc (σ.reached s)) && not (σ.deleted s w)))
        same w =
            rw (R.reached s) (⊎_elim
            (λ (p : M.paired s w ≡ true).
            rw p (⊎_elim (λ (g : eqb (M.student_tier s w) (suc (σ.reached s)) ≡ true). rw (g, shut_same w p (unseen w (eqb-true _ _ g))))
            (λ (g : eqb (M.student_tier s w) (suc (σ.reached s)) ≡ false). rw g)
            (bool_cases (eqb (M.student_tier s w) (suc (σ.reached s))))))
            (λ (p : M.paired s w ≡ false). rw p)
            (bool_cases (M.paired s w)))

  module _ (s : ℕ) where
    -- an option is known, and in the tier reached
    pub record Offer (y : ℕ) : Type 0 where
      pub pair : outside_or (M.paired s) y ≡ true
      pub met : outside_or (B.met s) y ≡ true
      pub tier : M.student_tier s y ≡ σ.reached s
      pub possible : Possible B.never s y

    pub bit_seen : (w : ℕ) → (C s).bits w ≡ true → Seen M B.met σ s w
    bit_seen w b = I.seen s w (R.from s w b).0

    pub bit_possible : (w : ℕ) → (C s).bits w ≡ true → B.never s w ≡ false
    bit_possible w b = unopened_possible M B s w (R.from s w b).1

    bit_offer : (w : ℕ) → (C s).bits w ≡ true → Offer w
    bit_offer w b =
        let v : Seen M B.met σ s w = bit_seen w b in
        record {
          pair = real (M.paired s) w v.pair;
          met = real (B.met s) w v.seen;
          tier = omega (arith, v.tier, (R.from s w b).2);
          possible = λ l. bit_possible w b;
        }

    option_cases : (y : ℕ) → Mem y (options M B (C s) s) → ((eqb (student_outside M s) (σ.reached s) ≡ true) × (y ≡ 0)) ⊎
        (((C s).bits y ≡ true) × (Mem y (upto M.workshops)))
    unfolding options
    option_cases y m =
        ⊎_elim (λ r. inl (rw (R.reached s) at r.0, r.1)) (λ k. inr (keep_in (C s).bits (upto M.workshops) y k))
        (cons_if_in (eqb (student_outside M s) (C s).reached) 0 y (keep (C s).bits (upto M.workshops)) m)

    option_offer : (y : ℕ) → Mem y (options M B (C s) s) → Offer y
    option_offer y m =
        ⊎_elim
        (λ r. subst Offer (sym r.1) (record { pair = refl; met = refl; tier = eqb-true _ _ r.0; possible = λ l. absurd (omega arith) }))
        (λ r. bit_offer y r.0)
        (option_cases y m)

    pub choice_option : (y : ℕ) → Mem y (choices M B σ s) → Mem y (options M B (C s) s)
    unfolding choices options
    choice_option y m =
        ⊎_elim (λ r. in_front (eqb (student_outside M s) (C s).reached) 0 y _ (rw (R.reached s) r.0) r.1)
        (λ k.
        let o : (open? M B σ s y ≡ true) × Mem y (upto M.workshops) = keep_in (open? M B σ s) (upto M.workshops) y k in
        in_rest (eqb (student_outside M s) (C s).reached) 0 y _ (in_keep (C s).bits (upto M.workshops) y (R.has s y o.0) o.1))
        (cons_if_in (eqb (student_outside M s) (σ.reached s)) 0 y (keep (open? M B σ s) (upto M.workshops)) m)

    -- an option is a choice of the rule, or a stale bit
    pub option_choice : (y : ℕ) → Mem y (options M B (C s) s) → Mem y (choices M B σ s) ⊎ (((C s).bits y ≡ true) × (open? M B σ s y ≡ false))
    unfolding choices
    option_choice y m =
        ⊎_elim (λ r. inl (in_front (eqb (student_outside M s) (σ.reached s)) 0 y _ r.0 r.1))
        (λ r.
        ⊎_elim (λ o. inl (in_rest (eqb (student_outside M s) (σ.reached s)) 0 y _ (in_keep (open? M B σ s) (upto M.workshops) y o r.1)))
        (λ o. inr (r.0, o))
        (bool_cases (open? M B σ s y)))
        (option_cases y m)

    pub same_best : (x : ℕ) (xs : List ℕ) → options M B (C s) s ≡ x ∷ xs → (y : ℕ) (ys : List ℕ) → choices M B σ s ≡ y ∷ ys
        → Mem (best M B s x xs) (choices M B σ s) → best M B s y ys ≡ best M B s x xs
    unfolding best
    same_best x xs o y ys c m =
        let f : Mem (best M B s x xs) (x ∷ xs) × ((z : ℕ) → Mem z (x ∷ xs) → B.student_score s z ≤ B.student_score s (best M B s x xs)) = top_pick
        (B.student_score s) x xs in
        let b : Mem (best M B s y ys) (y ∷ ys) × ((z : ℕ) → Mem z (y ∷ ys) → B.student_score s z ≤ B.student_score s (best M B s y ys)) = top_pick
        (B.student_score s) y ys in
        let bo : Mem (best M B s y ys) (options M B (C s) s) = choice_option _ (rw c b.0) in
        let ob : Offer (best M B s y ys) = option_offer _ bo in
        let of : Offer (best M B s x xs) = option_offer _ (rw o f.0) in
        E.distinct.students.apart s _ _ ob.pair of.pair ob.met of.met ob.possible (ob.tier ∙ sym of.tier)
        (le-ltb _ _ (b.1 _ (rw c at m))) (le-ltb _ _ (f.1 _ (rw o at bo)))

-- ---- the interviews of one tier
module _ (M : Market) (B : Results) (s : ℕ) where
  pub round_lacks : (ws : List ℕ) (vs : List Interview) (b : ℕ → Bool) (σ : State) (w : ℕ) (us : List Interview) → round M B s ws vs b ≡ missing w us
      → interview_all M B s ws (with_interviews σ vs) ≡ stopped s w us
  unfolding round interview_all
  round_lacks [] vs b σ w us e = let z : ◌≡◌ {A = ℕ} 0 1 = cc in absurd (omega arith)
  round_lacks (v ∷ ws) vs b σ w us e =
      ⊎_elim (λ (k : B.met s v ≡ true). rw k (round_lacks ws (vs ++ ((s, v) ∷ [])) (cond (unopened M B s v) b (set_bit v b)) σ w us (rw k at e)))
      (λ (k : B.met s v ≡ false). rw k (same (rw k at e)))
      (bool_cases (B.met s v))
    where
      same : missing v vs ≡ missing w us → stopped s v vs ≡ stopped s w us
      same f = cc

  -- the bits after the interviews
  pub record Bits (ws : List ℕ) (b b' : ℕ → Bool) : Type 0 where
    pub new : (w : ℕ) → b' w ≡ true → (b w ≡ true) ⊎ (Mem w ws × (unopened M B s w ≡ false))
    pub old : (w : ℕ) → b w ≡ true → b' w ≡ true
    pub set : (w : ℕ) → Mem w ws → unopened M B s w ≡ false → b' w ≡ true

  bits_on : (v : ℕ) (ws : List ℕ) (b b' : ℕ → Bool) → Bits ws (cond (unopened M B s v) b (set_bit v b)) b' → Bits (v ∷ ws) b b'
  bits_on v ws b b' T =
      ⊎_elim
      (λ (d : unopened M B s v ≡ true).
      let T' : Bits ws b b' = rw d at T in
      record {
        new = λ w e. ⊎_elim inl (λ r. inr (later r.0, r.1)) (T'.new w e);
        old = T'.old;
        set = λ w m f. ⊎_elim (λ (q : w ≡ v). never (rw q d) f) (λ k. T'.set w k f) (cases_cons m);
      })
      (λ (d : unopened M B s v ≡ false).
      let T' : Bits ws (set_bit v b) b' = rw d at T in
      record {
        new = λ w e.
            ⊎_elim (λ f. ⊎_elim (λ q. inr (here (eqb-true _ _ q), rw (eqb-true w v q) d)) inl (or_true (eqb w v) _ f)) (λ r. inr (later r.0, r.1))
            (T'.new w e);
        old = λ w e. T'.old w (or_right (eqb w v) _ e);
        set = λ w m f. ⊎_elim (λ (q : w ≡ v). T'.old w (or_left (eqb w v) _ (eq-eqb w v q))) (λ k. T'.set w k f) (cases_cons m);
      })
      (bool_cases (unopened M B s v))

  pub round_goes : (ws : List ℕ) (vs : List Interview) (b : ℕ → Bool) (σ : State) (us : List Interview) (b' : ℕ → Bool) → round M B s ws vs b ≡ held us b'
      → (interview_all M B s ws (with_interviews σ vs) ≡ going (with_interviews σ us)) × Bits ws b b'
  unfolding round interview_all
  round_goes [] vs b σ us b' e =
      let eu : vs ≡ us = cc in
      let eb : b ≡ b' = cc in
      (ap (λ z. going (with_interviews σ z)) eu, subst (λ z. Bits [] b z) eb (record { new = λ w k. inl k; old = λ w k. k; set = λ w m. absurd (not-nil m) }))
  round_goes (v ∷ ws) vs b σ us b' e =
      ⊎_elim
      (λ (k : B.met s v ≡ true).
      let r : (interview_all M B s ws (with_interviews σ (vs ++ ((s, v) ∷ []))) ≡ going (with_interviews σ us)) × Bits ws
      (cond (unopened M B s v) b (set_bit v b)) b' =
      round_goes ws (vs ++ ((s, v) ∷ [])) (cond (unopened M B s v) b (set_bit v b)) σ us b' (rw k at e) in
      (rw k r.0, bits_on v ws b b' r.1))
      (λ (k : B.met s v ≡ false). absurd (not_rounded (rw k at e)))
      (bool_cases (B.met s v))
    where
      not_rounded : missing v vs ≡ held us b' → ⊥
      not_rounded f = let z : ◌≡◌ {A = ℕ} 0 1 = cc in omega arith
