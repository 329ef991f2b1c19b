-- Steps 3 to 5 keep the invariant: a new seating of one workshop (`Seating`), and the deletions that follow. Whoever is deleted is below every
-- holder of a full workshop, so no stable matching puts her there.
use Prim.Native.Nat.{ℕ, ◌≤◌, ◌<◌}
use mathlib.Core.Path.{◌≡◌, refl, sym, subst, ◌∙◌}
use mathlib.Core.Logic.{◌⊎◌, inl, inr, ⊎_elim}
use mathlib.Core.Bool.{Bool, true, false}
use mathlib.Core.List.{List, Memᴰ as Mem}
use native.Mathlib.Omega.{arith}
use lib.Dec.{eqb}
use borrow.Author.Tests.{eqb-true, eq-eqb}
use Rattle.base.proofs.Tests.{never, bool_cases, and_left, and_right, and_make, or_true, or_left, or_right, eq?}
use Rattle.base.proofs.Counting.{count_same}
use Rattle.base.proofs.Members.{NoDup}
use Rattle.lgs.specs.Market.{Market, Results}
use Rattle.lgs.specs.Profiles.{Profile, seated}
use Rattle.lgs.specs.Rule.{State, interviewed, unopened, open?, below, holders, lowest_of, close, hand_on}
use Rattle.lgs.proofs.Optimal.{Unattainable, below_holders}
use Rattle.lgs.proofs.Setting.{Setting}
use Rattle.lgs.proofs.Invariant.{Open, open_parts, open_make, Seen, Chosen, Gone, seatless, beyond, taken, Inv, chosen_acceptable}
use Rattle.lgs.proofs.Invariant.{better_lost}
use Rattle.lgs.proofs.Advance.{chosen_stays}
use Rattle.lgs.proofs.Lowest.{below_rank, Lowest, lowest}

module _ (M : Market) (B : Results) (O : Profile) (Vs : ℕ → ℕ → Bool) (σ : State) (c : ℕ) where
  -- who holds what, and who waits, after the workshop c has answered an application
  pub record Seating (held' : ℕ → ℕ) (waiting' : List ℕ) : Type 0 where
    pub elsewhere : (t d : ℕ) → (d ≡ c → ⊥) → 0 < d → eqb (held' t) d ≡ eqb (σ.held t) d
    pub choosers : (t : ℕ) → held' t ≡ c → Chosen M B O Vs σ t c
    pub seats : 1 ≤ M.quota c
    pub fits : seated M held' c ≤ M.quota c
    pub still_full : M.quota c ≤ seated M σ.held c → M.quota c ≤ seated M held' c
    pub still_above : M.quota c ≤ seated M σ.held c → (u : ℕ) → ((h : ℕ) → σ.held h ≡ c → O.workshop_rank c h < O.workshop_rank c u)
        → (h : ℕ) → held' h ≡ c → O.workshop_rank c h < O.workshop_rank c u
    pub chosen : (t : ℕ) → 0 < held' t → Chosen M B O Vs σ t (held' t)
    pub settled : (t : ℕ) → 1 ≤ t → t ≤ M.students → Mem t waiting' ⊎ Chosen M B O Vs σ t (held' t)
    pub free : (t : ℕ) → Mem t waiting' → held' t ≡ 0
    pub range : (t : ℕ) → Mem t waiting' → (1 ≤ t) × (t ≤ M.students)
    pub distinct : NoDup waiting'

  -- the other workshops hold whom they held
  module _ (held' : ℕ → ℕ) (waiting' : List ℕ) (S : Seating held' waiting') where
    pub same_seats : (d : ℕ) → (d ≡ c → ⊥) → 0 < d → seated M held' d ≡ seated M σ.held d
    same_seats d ne l = count_same (λ t. eqb (held' t) d) (λ t. eqb (σ.held t) d) M.students (λ t u. S.elsewhere t d ne l)

    pub held_before : (h d : ℕ) → (d ≡ c → ⊥) → 0 < d → held' h ≡ d → σ.held h ≡ d
    held_before h d ne l e = eqb-true _ _ (sym (S.elsewhere h d ne l) ∙ eq-eqb _ _ e)

    pub held_after : (h d : ℕ) → (d ≡ c → ⊥) → 0 < d → σ.held h ≡ d → held' h ≡ d
    held_after h d ne l e = eqb-true _ _ (S.elsewhere h d ne l ∙ eq-eqb _ _ e)

module _ (M : Market) (B : Results) where
  -- what `close` deletes
  pub close_cases : (τ : State) (c t w : ℕ) → (close M B τ c).deleted t w ≡ true
      → (τ.deleted t w ≡ true) ⊎ ((w ≡ c) × (seated M τ.held c ≡ M.quota c) × (below M B τ c t (lowest_of M B τ c (holders M B τ c)) ≡ true))
  unfolding close
  close_cases τ c t w e =
      ⊎_elim
      (λ (q : eqb (seated M τ.held c) (M.quota c) ≡ true).
      ⊎_elim inl
      (λ a. inr (eqb-true _ _ (and_left (eqb w c) _ a), eqb-true (seated M τ.held c) (M.quota c) q, and_right (eqb w c) _ a))
      (or_true (τ.deleted t w) _ (rw q at e)))
      (λ (q : eqb (seated M τ.held c) (M.quota c) ≡ false). inl (rw q at e))
      (bool_cases (eqb (seated M τ.held c) (M.quota c)))

  pub close_keeps : (τ : State) (c t w : ℕ) → τ.deleted t w ≡ true → (close M B τ c).deleted t w ≡ true
  unfolding close
  close_keeps τ c t w d =
      ⊎_elim (λ (q : eqb (seated M τ.held c) (M.quota c) ≡ true). rw q (or_left (τ.deleted t w) _ d))
      (λ (q : eqb (seated M τ.held c) (M.quota c) ≡ false). rw q d)
      (bool_cases (eqb (seated M τ.held c) (M.quota c)))

  pub close_deletes : (τ : State) (c t : ℕ) → seated M τ.held c ≡ M.quota c
      → below M B τ c t (lowest_of M B τ c (holders M B τ c)) ≡ true → (close M B τ c).deleted t c ≡ true
  unfolding close
  close_deletes τ c t f b = rw (eq-eqb (seated M τ.held c) (M.quota c) f) (or_right (τ.deleted t c) _ (and_make (eq-eqb c c refl) b))

module _ (M : Market) (B : Results) (O : Profile) (Vs : ℕ → ℕ → Bool) (E : Setting M B O Vs) (σ : State) (I : Inv M B O Vs σ) (c : ℕ) (pos : 0 < c)
    (held' : ℕ → ℕ) (waiting' : List ℕ) (S : Seating M B O Vs σ c held' waiting') where
  -- before and after the deletions
  abbrev pub seated_state : State
  seated_state = hand_on M B σ waiting' held'

  abbrev pub closed : State
  closed = close M B seated_state c

  came : (h : ℕ) → held' h ≡ c → (interviewed σ.interviews h c ≡ true) × (unopened M B h c ≡ false)
  came h e = (S.choosers h e).real pos

  pub lowest_holder : 1 ≤ seated M held' c
      → Lowest M B O Vs E σ seated_state c (λ x v. I.seen x c v) (lowest_of M B seated_state c (holders M B seated_state c))
  lowest_holder l = lowest M B O Vs E σ seated_state c (λ x v. I.seen x c v) came l

  -- whoever is newly deleted is below every holder
  newly_below : (t : ℕ) → M.paired t c ≡ true → seated M held' c ≡ M.quota c
      → below M B seated_state c t (lowest_of M B seated_state c (holders M B seated_state c)) ≡ true
      → (h : ℕ) → held' h ≡ c → O.workshop_rank c h < O.workshop_rank c t
  newly_below t p f b h e =
      let l : Lowest M B O Vs E σ seated_state c (λ x v. I.seen x c v) (lowest_of M B seated_state c (holders M B seated_state c)) =
      lowest_holder (omega (arith, S.seats)) in
      omega (
        arith,
        l.low h e,
        below_rank M B O Vs E σ seated_state c (λ x v. I.seen x c v) t (lowest_of M B seated_state c (holders M B seated_state c)) p
            (I.seen _ c (came _ l.holder).0).pair b,
      )

  newly_lost : (t : ℕ) → M.paired t c ≡ true → seated M held' c ≡ M.quota c
      → below M B seated_state c t (lowest_of M B seated_state c (holders M B seated_state c)) ≡ true → Unattainable M O t c
  newly_lost t p f b =
      below_holders M O E.full E.wf held' c pos (omega arith)
      (λ h e. chosen_acceptable M B O Vs E σ I h c pos (S.choosers h e))
      (λ h d e l less. better_lost M B O Vs E σ I h c d (S.choosers h e) l less)
      t (newly_below t p f b)

  gone_still : (t w : ℕ) → 0 < w → Gone M O σ t w → Gone M O closed t w
  unfolding close
  gone_still t w l (seatless z) = seatless z
  gone_still t w l (beyond z) = beyond z
  gone_still t w l (taken f a) =
      ⊎_elim
      (λ (e : w ≡ c).
      let f' : M.quota c ≤ seated M σ.held c = rw e at f in
      let a' : (h : ℕ) → σ.held h ≡ c → O.workshop_rank c h < O.workshop_rank c t = rw e at a in
      subst (λ v. Gone M O closed t v) (sym e) (taken (S.still_full f') (S.still_above f' t a')))
      (λ ne.
      taken (omega (arith, same_seats M B O Vs σ c held' waiting' S w ne l)) (λ h q. a h (held_before M B O Vs σ c held' waiting' S h w ne l q)))
      (eq? w c)

  open_before : (t d : ℕ) → open? M B closed t d ≡ true → open? M B σ t d ≡ true
  unfolding close
  open_before t d o =
      let k : Open M B closed t d = open_parts M B closed t d o in
      let kept : σ.deleted t d ≡ false = ⊎_elim (λ e. never (close_keeps M B seated_state c t d e) k.kept) (λ e. e) (bool_cases (σ.deleted t d)) in
      open_make M B σ t d (record { interview = k.interview; tier = k.tier; kept = kept; welcome = k.welcome })

  stays : (t x : ℕ) → Chosen M B O Vs σ t x → Chosen M B O Vs closed t x
  unfolding close
  stays t x k = chosen_stays M B O Vs σ closed t x refl (open_before t) (λ d v. v) k

  pub close_inv : Inv M B O Vs closed
  unfolding close
  close_inv =
      record {
        seen = λ t w v. let k : Seen M Vs σ t w = I.seen t w v in record
            { pair = k.pair; seen = k.seen; tier = k.tier; outside = k.outside; seats = k.seats };
        swept = λ t w p l. ⊎_elim inl (λ d. inr (close_keeps M B seated_state c t w d)) (I.swept t w p l);
        past = λ t w v l. ⊎_elim (λ d. inl (close_keeps M B seated_state c t w d)) inr (I.past t w v l);
        outside = I.outside;
        chosen = λ t l. stays t (held' t) (S.chosen t l);
        settled = λ t l u. ⊎_elim inl (λ k. inr (stays t (held' t) k)) (S.settled t l u);
        free = S.free;
        range = S.range;
        distinct = S.distinct;
        begun = λ t w d. close_keeps M B seated_state c t w (I.begun t w d);
        gone = λ t w p d.
            ⊎_elim (λ e. gone_still t w (E.wf.workshop t w p).0 (I.gone t w p e))
            (λ r.
            let p' : M.paired t c ≡ true = rw r.0 at p in
            subst (λ v. Gone M O closed t v) (sym r.0) (taken (omega (arith, r.1)) (newly_below t p' r.1 r.2)))
            (close_cases M B seated_state c t w d);
        lost = λ t w p d.
            ⊎_elim (λ e. I.lost t w p e)
            (λ r. let p' : M.paired t c ≡ true = rw r.0 at p in subst (λ v. Unattainable M O t v) (sym r.0) (newly_lost t p' r.1 r.2))
            (close_cases M B seated_state c t w d);
        within = λ w l. ⊎_elim (λ (e : w ≡ c). rw e S.fits) (λ ne. omega (arith, same_seats M B O Vs σ c held' waiting' S w ne l, I.within w l)) (eq? w c);
      }
