-- A pair that had no interview is deleted exactly where the seats show it now: no seats, beyond the workshop's outside tier, or full with
-- all holders in better tiers. Kept by each move of the rule.
use Prim.Native.Nat.{ℕ, suc, ◌≤◌, ◌<◌}
use mathlib.Core.Path.{◌≡◌, sym, subst, ◌∙◌}
use mathlib.Core.Logic.{⊎_elim}
use mathlib.Core.Bool.{Bool, true, false}
use mathlib.Core.List.{List, ◌∷◌}
use native.Mathlib.Omega.{arith}
use lib.Dec.{eqb, ltb}
use borrow.Author.Tests.{eqb-true, eq-eqb, ne_eqb, lt-ltb, ltb-true}
use Rattle.base.specs.Lists.{update, any}
use Rattle.lgs.specs.Market.{Market, Results, workshop_outside}
use Rattle.lgs.specs.Profiles.{Profile, seated, flip, outside_or}
use Rattle.lgs.specs.Rule.{State, interviewed, below, holders, lowest_of, close, due, hand_on, start}
use Rattle.base.proofs.Tests.{never, bool_cases, and_left, and_right, or_left, or_true, eq?}
use Rattle.base.proofs.Counting.{count_same, count_none}
use Rattle.lgs.proofs.Sides.{real}
use Rattle.lgs.proofs.Setting.{Setting}
use Rattle.lgs.proofs.Invariant.{Chosen, Inv, workshop_no_worse}
use Rattle.lgs.proofs.Interviews.{interviews_with, interviewed_before}
use Rattle.lgs.proofs.Advance.{update_at, update_off}
use Rattle.lgs.proofs.Choose.{best_chosen}
use Rattle.lgs.proofs.Lowest.{Lowest}
use Rattle.lgs.proofs.Close.{Seating, close_cases, close_keeps, close_deletes, lowest_holder}
use Rattle.lgs.proofs.Apply.{seat, drop, choosers₁, one_more, lowest_joined}
use Rattle.lgs.proofs.Moves.{Move, interviews, leaves, sits, drops, joined_state, dropped}

-- why a pair that was not interviewed is deleted
pub data Far (M : Market) (held : ℕ → ℕ) (s c : ℕ) : Type 0 where
  seatless : M.quota c ≡ 0 → Far M held s c
  beyond : workshop_outside M c < M.workshop_tier c s → Far M held s c
  above : M.quota c ≤ seated M held c → ((h : ℕ) → held h ≡ c → M.workshop_tier c h < M.workshop_tier c s) → Far M held s c

pub record Evident (M : Market) (B : Results) (σ : State) : Type 0 where
  pub shut : (s c : ℕ) → M.paired s c ≡ true → M.quota c ≤ seated M σ.held c →
      ((h : ℕ) → σ.held h ≡ c → M.workshop_tier c h < M.workshop_tier c s) → σ.deleted s c ≡ true
  pub apart : (s c : ℕ) → M.paired s c ≡ true → interviewed σ.interviews s c ≡ false → σ.deleted s c ≡ true → Far M σ.held s c

module _ (M : Market) (B : Results) (O : Profile) (Vs : ℕ → ℕ → Bool) (E : Setting M B O Vs) (σ : State) (I : Inv M B O Vs σ) (N : Evident M B σ) where
  module _ (c : ℕ) (pos : 0 < c) (held' : ℕ → ℕ) (waiting' : List ℕ) (S : Seating M B O Vs σ c held' waiting')
      (tiers_stay : M.quota c ≤ seated M σ.held c → (u : ℕ) → ((h : ℕ) → σ.held h ≡ c → M.workshop_tier c h < M.workshop_tier c u)
      → (h : ℕ) → held' h ≡ c → M.workshop_tier c h < M.workshop_tier c u) where
    abbrev τ : State
    τ = hand_on M B σ waiting' held'

    same_seats : (d : ℕ) → (d ≡ c → ⊥) → 0 < d → seated M held' d ≡ seated M σ.held d
    same_seats d ne l = count_same (λ t. eqb (held' t) d) (λ t. eqb (σ.held t) d) M.students (λ t u. S.elsewhere t d ne l)

    back : (h d : ℕ) → (d ≡ c → ⊥) → 0 < d → σ.held h ≡ d → held' h ≡ d
    back h d ne l e = eqb-true _ _ (S.elsewhere h d ne l ∙ eq-eqb _ _ e)

    forth : (h d : ℕ) → (d ≡ c → ⊥) → 0 < d → held' h ≡ d → σ.held h ≡ d
    forth h d ne l e = eqb-true _ _ (sym (S.elsewhere h d ne l) ∙ eq-eqb _ _ e)

    low : Lowest M B O Vs E σ τ c (λ x v. I.seen x c v) (lowest_of M B τ c (holders M B τ c)) → (h : ℕ) → held' h ≡ c
        → M.workshop_tier c h ≤ M.workshop_tier c (lowest_of M B τ c (holders M B τ c))
    low L h e = workshop_no_worse M B O Vs E c h _ (option h e) (option _ L.holder) (L.low h e)
      where
        option : (x : ℕ) → held' x ≡ c → outside_or (flip M.paired c) x ≡ true
        option x q = real (flip M.paired c) x (I.seen x c ((S.choosers x q).real pos).0).pair

    deletes : (t : ℕ) → M.quota c ≤ seated M held' c → ((h : ℕ) → held' h ≡ c → M.workshop_tier c h < M.workshop_tier c t) → (close M B τ c).deleted t c ≡ true
    unfolding below
    deletes t f a =
        let l : Lowest M B O Vs E σ τ c (λ x v. I.seen x c v)
        (lowest_of M B τ c (holders M B τ c)) = lowest_holder M B O Vs E σ I c pos held' waiting' S (omega (arith, S.seats)) in
        close_deletes M B τ c t (omega (arith, S.fits))
        (or_left (ltb (M.workshop_tier c (lowest_of M B τ c (holders M B τ c))) (M.workshop_tier c t)) _ (lt-ltb _ _ (a _ l.holder)))

    still : (t d : ℕ) → 0 < d → Far M σ.held t d → Far M held' t d
    still t d l (seatless z) = seatless z
    still t d l (beyond z) = beyond z
    still t d l (above f a) =
        ⊎_elim
        (λ (e : d ≡ c).
        let f' : M.quota c ≤ seated M σ.held c = rw e at f in
        let a' : (h : ℕ) → σ.held h ≡ c → M.workshop_tier c h < M.workshop_tier c t = rw e at a in
        subst (λ v. Far M held' t v) (sym e) (above (S.still_full f') (tiers_stay f' t a')))
        (λ ne. above (omega (arith, same_seats d ne l)) (λ h q. a h (forth h d ne l q)))
        (eq? d c)

    by_tier : (t l : ℕ) → interviewed σ.interviews t c ≡ false → below M B τ c t l ≡ true → M.workshop_tier c l < M.workshop_tier c t
    unfolding below
    by_tier t l v b =
        ⊎_elim (λ e. ltb-true _ _ e) (λ e. never
        (and_left (interviewed σ.interviews t c) _ (and_right (eqb (M.workshop_tier c t) (M.workshop_tier c l)) _ e)) v)
        (or_true (ltb (M.workshop_tier c l) (M.workshop_tier c t)) _ b)

    newly : (t : ℕ) → interviewed σ.interviews t c ≡ false → seated M held' c ≡ M.quota c → below M B τ c t
        (lowest_of M B τ c (holders M B τ c)) ≡ true → Far M held' t c
    newly t v f b =
        above (omega arith)
        (λ h e.
        omega (
          arith,
          low (lowest_holder M B O Vs E σ I c pos held' waiting' S (omega (arith, S.seats))) h e,
          by_tier t (lowest_of M B τ c (holders M B τ c)) v b,
        ))

    pub close_evident : Evident M B (close M B τ c)
    unfolding close
    close_evident =
        record {
          shut = λ t d p f a.
              ⊎_elim (λ (e : d ≡ c). subst (λ w. (close M B τ c).deleted t w ≡ true) (sym e) (deletes t (rw e at f) (rw e at a)))
              (λ ne. close_keeps M B τ c t d (N.shut t d p (omega (arith, same_seats d ne (E.wf.workshop t d p).0))
              (λ h q. a h (back h d ne (E.wf.workshop t d p).0 q))))
              (eq? d c);
          apart = λ t d p v z.
              ⊎_elim (λ o. still t d (E.wf.workshop t d p).0 (N.apart t d p v o))
              (λ r. let v' : interviewed σ.interviews t c ≡ false = rw r.0 at v in subst (λ w. Far M held' t w) (sym r.0) (newly t v' r.1 r.2))
              (close_cases M B τ c t d z);
        }

  module _ (s : ℕ) (rest : List ℕ) (wait : σ.waiting ≡ s ∷ rest) where
    -- the workshop that drops its lowest has no worse tier than before
    module _ (c : ℕ) (pos : 0 < c) (k : Chosen M B O Vs σ s c) (x : ℕ) (L : Lowest M B O Vs E σ (joined_state M B σ s rest c) c (λ y v. I.seen y c v) x) where
      drop_tiers : (u : ℕ) → ((h : ℕ) → σ.held h ≡ c → M.workshop_tier c h < M.workshop_tier c u)
          → (h : ℕ) → update (update σ.held s c) x 0 h ≡ c → M.workshop_tier c h < M.workshop_tier c u
      drop_tiers u a h q =
          let nx : h ≡ x → ⊥ = λ e. omega (arith, update_at (update σ.held s c) x 0 h e) in
          let j : update σ.held s c h ≡ c = sym (update_off (update σ.held s c) x 0 h nx) ∙ q in
          ⊎_elim
          (λ (e : h ≡ s).
          let xs : x ≡ s → ⊥ = λ z. nx (e ∙ sym z) in
          omega (
            arith,
            workshop_no_worse M B O Vs E c h x (option h j) (option x L.holder) (L.low h j),
            a x
                (sym (update_off σ.held s c x xs) ∙ L.holder),
          ))
          (λ off. a h (sym (update_off σ.held s c h off) ∙ j))
          (eq? h s)
        where
          option : (y : ℕ) → update σ.held s c y ≡ c → outside_or (flip M.paired c) y ≡ true
          option y q' = real (flip M.paired c) y (I.seen y c ((choosers₁ M B O Vs E σ I s rest wait c pos k y q').real pos).0).pair

    pub move_evident : (σ' : State) → Move M B σ s rest σ' → Evident M B σ'
    move_evident σ' (interviews empty met e) =
        rw e (record {
          shut = N.shut;
          apart = λ t c p v d.
              N.apart t c p
              (⊎_elim (λ (o : interviewed σ.interviews t c ≡ true). never (interviewed_before σ.interviews (interviews_with s (due M B σ s)) t c o) v)
              (λ o. o) (bool_cases (interviewed σ.interviews t c)))
              d;
        })
    move_evident σ' (leaves x xs some z e) = rw e (record { shut = N.shut; apart = N.apart })
    move_evident σ' (sits x xs c some z fits e) =
        rw e (close_evident (suc c) (omega arith) _ _ (seat M B O Vs E σ I s rest wait (suc c) (omega arith) k fits)
        (λ f u a. absurd (omega (arith, one_more M B O Vs E σ I s rest wait (suc c) (omega arith) k))))
      where
        k : Chosen M B O Vs σ s (suc c)
        k = rw z at (best_chosen M B O Vs E σ I s x xs some)
    move_evident σ' (drops x xs c some z over e) =
        rw e (close_evident (suc c) (omega arith) _ _ (drop M B O Vs E σ I s rest wait (suc c) (omega arith) k (dropped M B σ s rest (suc c)) L)
        (λ f u a. drop_tiers (suc c) (omega arith) k (dropped M B σ s rest (suc c)) L u a))
      where
        k : Chosen M B O Vs σ s (suc c)
        k = rw z at (best_chosen M B O Vs E σ I s x xs some)

        L : Lowest M B O Vs E σ (joined_state M B σ s rest (suc c)) (suc c) (λ y v. I.seen y (suc c) v) (dropped M B σ s rest (suc c))
        L = lowest_joined M B O Vs E σ I s rest wait (suc c) (omega arith) k

module _ (M : Market) (B : Results) (O : Profile) (Vs : ℕ → ℕ → Bool) (E : Setting M B O Vs) where
  pub start_evident : Evident M B (start M B)
  unfolding start interviewed any
  start_evident =
      record {
        shut = λ s c p f a. or_left (eqb (M.quota c) 0) _ (eq-eqb (M.quota c) 0 (omega (arith, empty c (E.wf.workshop s c p).0)));
        apart = λ s c p v d. ⊎_elim (λ e. seatless (eqb-true _ _ e)) (λ e. beyond (ltb-true _ _ e)) (or_true (eqb (M.quota c) 0) _ d);
      }
    where
      empty : (c : ℕ) → 0 < c → seated M (λ s. 0) c ≡ 0
      empty c pos = count_none (λ s. eqb 0 c) M.students (λ t a b. ne_eqb 0 c (λ q. omega arith))
