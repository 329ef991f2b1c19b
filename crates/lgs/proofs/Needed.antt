-- With consistent stages each workshop interviewed can still be reached: it has a free seat, or a holder in the student's tier or a worse one.
-- This is kept because the student in hand has the latest stage so far, and so is in no better tier than those interviewed before.
use Prim.Native.Nat.{ℕ, zero, suc, ◌≤◌, ◌<◌}
use mathlib.Core.Path.{◌≡◌, refl, sym, subst, ap, ◌∙◌}
use mathlib.Core.Logic.{inl, inr, ⊎_elim}
use mathlib.Core.Bool.{Bool, true, false, ◌&&◌}
use mathlib.Core.List.Memᴰ.{cases_cons}
use mathlib.Core.List.Memᴰ.{tail as later}
use mathlib.Core.List.{List, [], ◌∷◌, ◌++◌, Memᴰ as Mem}
use mathlib.Core.List.Memᴰ.{not-nil}
use native.Mathlib.Omega.{arith}
use native.Mathlib.Nat.{eq-or-lt_of_le}
use lib.Dec.{eqb, ltb, leb}
use borrow.Author.Tests.{eqb-true, eq-eqb, lt-ltb, leb-true, leb-false, ltb-true, ltb-false, ne_eqb}
use Rattle.base.specs.Lists.{any, update}
use Rattle.base.proofs.Tests.{never, bool_cases, and_left, and_right, or_left, eq?, less?}
use Rattle.base.proofs.Counting.{find?, count_none}
use Rattle.base.proofs.Members.{in_first, update_at, update_off}
use Rattle.lgs.specs.Market.{Market, Results, Rivals, ConsistentStages}
use Rattle.lgs.specs.Profiles.{Profile, seated, flip}
use Rattle.lgs.specs.Rule.{State, interviewed, below, holders, lowest_of, close, due, hand_on, insert, by_stage, start}
use Rattle.lgs.proofs.Sides.{real}
use Rattle.lgs.proofs.Setting.{Setting}
use Rattle.lgs.proofs.Invariant.{Seen, Chosen, Inv, workshop_no_worse}
use Rattle.lgs.proofs.Interviews.{interviews_with, interviewed_or, interviewed_of}
use Rattle.lgs.proofs.Advance.{Due, due_in}
use Rattle.lgs.proofs.Close.{Seating, same_seats, held_after, close_keeps, close_deletes, lowest_holder}
use Rattle.lgs.proofs.Lowest.{Lowest}
use Rattle.lgs.proofs.Undetermined.{Reachable}
use Rattle.lgs.proofs.Matters.{matters_is}
use Rattle.lgs.proofs.Choose.{best_chosen}
use Rattle.lgs.proofs.Apply.{seat, drop, choosers₁, one_more, lowest_joined}
use Rattle.lgs.proofs.Moves.{Move, interviews, leaves, sits, drops, joined_state, dropped}
use Rattle.lgs.proofs.Trace.{Reaches}
use Rattle.lgs.proofs.Start.{insert_in}
use Rattle.lgs.proofs.Keeps.{last_with}

module _ (M : Market) where
  -- in order of stage
  abbrev pub Sorted : List ℕ → Type 0
  Sorted [] = Unit {0}
  Sorted (x ∷ xs) = ((t : ℕ) → Mem t xs → M.stage x ≤ M.stage t) × Sorted xs

  pub record Needed (σ : State) : Type 0 where
    -- what was interviewed can still be reached
    pub room : (s c : ℕ) → interviewed σ.interviews s c ≡ true → Reachable M σ.held s c
    -- a full workshop that holds better tiers alone is deleted
    pub shut : (s c : ℕ) → M.paired s c ≡ true → M.quota c ≤ seated M σ.held c
        → ((h : ℕ) → σ.held h ≡ c → M.workshop_tier c h < M.workshop_tier c s) → σ.deleted s c ≡ true
    -- who has been in hand has no later stage than who waits
    pub early : (s w t : ℕ) → interviewed σ.interviews s w ≡ true → Mem t σ.waiting → M.stage s ≤ M.stage t
    pub sorted : Sorted σ.waiting

  insert_sorted : (s : ℕ) (ts : List ℕ) → Sorted ts → Sorted (insert M.stage s ts)
  unfolding insert
  insert_sorted s [] d = (λ t m. absurd (not-nil m), tt)
  insert_sorted s (t ∷ ts) d =
      ⊎_elim
      (λ (e : ltb (M.stage s) (M.stage t) ≡ true).
      let l : M.stage s < M.stage t = ltb-true _ _ e in
      rw e (λ u m. ⊎_elim (λ (q : u ≡ t). omega (arith, ap M.stage q)) (λ k. omega (arith, d.0 u k)) (cases_cons m), d))
      (λ (e : ltb (M.stage s) (M.stage t) ≡ false).
      let l : M.stage t ≤ M.stage s = ltb-false _ _ e in
      rw e (λ u m. ⊎_elim (λ (q : u ≡ s). omega (arith, ap M.stage q)) (λ k. d.0 u k) (insert_in M.stage s ts u m), insert_sorted s ts d.1))
      (bool_cases (ltb (M.stage s) (M.stage t)))

  pub staged_sorted : (n : ℕ) → Sorted (by_stage M.stage n)
  unfolding by_stage
  staged_sorted zero = tt
  staged_sorted (suc n) = insert_sorted (suc n) (by_stage M.stage n) (staged_sorted n)

module _ (M : Market) (agree : ConsistentStages M M.stage) where
  -- of two rivals, the one of the later stage is in no better tier, and the one in a worse tier of no earlier stage
  later_worse : (w s t : ℕ) → Rivals M w t s → M.stage s ≤ M.stage t → M.workshop_tier w s ≤ M.workshop_tier w t
  later_worse w s t r l =
      ⊎_elim (λ less. absurd (omega (arith, agree.earlier w t s r less))) (λ le. le) (less? (M.workshop_tier w t) (M.workshop_tier w s))

  pub worse_later : (w s t : ℕ) → Rivals M w s t → M.workshop_tier w s ≤ M.workshop_tier w t → M.stage s ≤ M.stage t
  worse_later w s t r l =
      ⊎_elim (λ e. omega (arith, agree.together w s t r e)) (λ less. omega (arith, agree.earlier w s t r less)) (eq-or-lt_of_le l)

-- two whom a workshop has interviewed are rivals
rivals : (M : Market) (Vs : ℕ → ℕ → Bool) (σ : State) (w s t : ℕ) → Seen M Vs σ s w → Seen M Vs σ t w → Rivals M w s t
rivals M Vs σ w s t a b =
    record { first = matters_is M w s a.seats a.pair a.outside; second = matters_is M w t b.seats b.pair b.outside }

module _ (M : Market) (B : Results) (O : Profile) (Vs : ℕ → ℕ → Bool) (E : Setting M B O Vs) where
  start_needed : Needed M (start M B)
  unfolding start interviewed any
  start_needed =
      record {
        room = λ s c v. never v refl;
        shut = λ s c p f a. or_left (eqb (M.quota c) 0) _ (eq-eqb (M.quota c) 0 (omega (arith, empty c (E.wf.workshop s c p).0)));
        early = λ s w t v m. never v refl;
        sorted = staged_sorted M M.students;
      }
    where
      empty : (c : ℕ) → 0 < c → seated M (λ s. 0) c ≡ 0
      empty c pos = count_none (λ s. eqb 0 c) M.students (λ t a b. ne_eqb 0 c (λ q. omega arith))

  module _ (σ : State) (I : Inv M B O Vs σ) (N : Needed M σ) (s : ℕ) (rest : List ℕ) (wait : σ.waiting ≡ s ∷ rest) where
    in_order : Sorted M (s ∷ rest)
    in_order = rw wait at N.sorted

    -- an undeleted pair can be reached
    undeleted : (t c : ℕ) → M.paired t c ≡ true → σ.deleted t c ≡ false → Reachable M σ.held t c
    undeleted t c p d =
        ⊎_elim inl
        (λ full.
        ⊎_elim
        (λ f.
        inr (f.0, eqb-true _ _ (and_left (eqb (σ.held f.0) c) _ f.3), leb-true _ _ (and_right (eqb (σ.held f.0) c) _ f.3)))
        (λ nope. never (N.shut t c p full (λ h e. better h e (nope h))) d)
        (find? (λ h. eqb (σ.held h) c && leb (M.workshop_tier c t) (M.workshop_tier c h)) M.students))
        (less? (seated M σ.held c) (M.quota c))
      where
        better : (h : ℕ) → σ.held h ≡ c
            → (1 ≤ h → h ≤ M.students → (eqb (σ.held h) c && leb (M.workshop_tier c t) (M.workshop_tier c h)) ≡ false)
            → M.workshop_tier c h < M.workshop_tier c t
        better h e no_h =
            let k : Chosen M B O Vs σ h (σ.held h) = I.chosen h (rw e (E.wf.workshop t c p).0) in
            let r : (1 ≤ h) × (h ≤ M.students) = E.wf.student h (σ.held h) (I.seen h (σ.held h) (k.real (rw e (E.wf.workshop t c p).0)).0).pair in
            leb-false _ _ (rw (eq-eqb _ _ e) at (no_h r.0 r.1))

    module _ (due_kept : (w : ℕ) → Mem w (due M B σ s) → (M.paired s w ≡ true) × (σ.deleted s w ≡ false)) where
      interviews_needed : (σ' : State) → σ'.interviews ≡ σ.interviews ++ interviews_with s (due M B σ s) → σ'.held ≡ σ.held
          → σ'.deleted ≡ σ.deleted → σ'.waiting ≡ σ.waiting → Needed M σ'
      interviews_needed σ' ev eh ed ew =
          record {
            room = λ t c v. rw eh (cases t c (rw ev at v) (λ o. N.room t c o) (λ e m. rw e (undeleted s c (due_kept c m).0 (due_kept c m).1)));
            shut = λ t c p f a. rw ed (N.shut t c p (rw eh at f) (rw eh at a));
            early = λ t w u v m.
                cases t w (rw ev at v) (λ o. N.early t w u o (rw ew at m))
                (λ e k. rw e (⊎_elim (λ (q : u ≡ s). omega (arith, ap M.stage q)) (λ z. in_order.0 u z) (cases_cons (rw wait at (rw ew at m)))));
            sorted = rw ew N.sorted;
          }
        where
          cases : {A : Type 0} (t w : ℕ) → interviewed (σ.interviews ++ interviews_with s (due M B σ s)) t w ≡ true
              → (interviewed σ.interviews t w ≡ true → A) → (t ≡ s → Mem w (due M B σ s) → A) → A
          cases t w v old new =
              ⊎_elim old (λ n. let r : (t ≡ s) × Mem w (due M B σ s) = interviewed_of s (due M B σ s) t w n in new r.0 r.1)
              (interviewed_or σ.interviews (interviews_with s (due M B σ s)) t w v)

    -- a new seating of the workshop c, where those that it has interviewed can still reach it
    module _ (c : ℕ) (pos : 0 < c) (held' : ℕ → ℕ) (waiting' : List ℕ) (S : Seating M B O Vs σ c held' waiting') where
      seating_needed : ((t : ℕ) → interviewed σ.interviews t c ≡ true → Reachable M held' t c)
          → ((t w u : ℕ) → interviewed σ.interviews t w ≡ true → Mem u waiting' → M.stage t ≤ M.stage u) → Sorted M waiting'
          → Needed M (close M B (hand_on M B σ waiting' held') c)
      unfolding close below
      seating_needed reach early sorted =
          record {
            room = λ t d v.
                ⊎_elim (λ (e : d ≡ c). subst (λ w. Reachable M held' t w) (sym e) (reach t (rw e at v)))
                (λ ne. moved t d ne (E.wf.workshop t d (I.seen t d v).pair).0 (N.room t d v))
                (eq? d c);
            shut = λ t d p f a.
                ⊎_elim
                (λ (e : d ≡ c). subst (λ w. (close M B τ c).deleted t w ≡ true) (sym e) (deletes t (rw e at f) (rw e at a)))
                (λ ne.
                let l : 1 ≤ d = (E.wf.workshop t d p).0 in
                close_keeps M B τ c t d (N.shut t d p (omega (arith, same d ne l)) (λ h q. a h (still h d ne l q))))
                (eq? d c);
            early = early;
            sorted = sorted;
          }
        where
          τ : State
          τ = hand_on M B σ waiting' held'

          same : (d : ℕ) → (d ≡ c → ⊥) → 0 < d → seated M held' d ≡ seated M σ.held d
          same = same_seats M B O Vs σ c held' waiting' S

          still : (h d : ℕ) → (d ≡ c → ⊥) → 0 < d → σ.held h ≡ d → held' h ≡ d
          still = held_after M B O Vs σ c held' waiting' S

          moved : (t d : ℕ) → (d ≡ c → ⊥) → 0 < d → Reachable M σ.held t d → Reachable M held' t d
          moved t d ne l (inl f) = inl (omega (arith, same d ne l))
          moved t d ne l (inr (h, e, g)) = inr (h, still h d ne l e, g)

          deletes : (t : ℕ) → M.quota c ≤ seated M held' c → ((h : ℕ) → held' h ≡ c → M.workshop_tier c h < M.workshop_tier c t)
              → (close M B τ c).deleted t c ≡ true
          deletes t f a =
              let l : Lowest M B O Vs E σ τ c (λ x v. I.seen x c v) (lowest_of M B τ c (holders M B τ c)) =
              lowest_holder M B O Vs E σ I c pos held' waiting' S (omega (arith, S.seats)) in
              close_deletes M B τ c t (omega (arith, S.fits))
              (or_left (ltb (M.workshop_tier c (lowest_of M B τ c (holders M B τ c))) (M.workshop_tier c t)) _ (lt-ltb _ _ (a _ l.holder)))

  module _ (agree : ConsistentStages M M.stage) (σ : State) (I : Inv M B O Vs σ) (N : Needed M σ) (s : ℕ) (rest : List ℕ)
      (wait : σ.waiting ≡ s ∷ rest) where
    -- whoever has had an interview with the workshop that the student applies to is in her tier there or a better one
    module _ (c : ℕ) (pos : 0 < c) (k : Chosen M B O Vs σ s c) where
      no_better : (t : ℕ) → interviewed σ.interviews t c ≡ true → M.workshop_tier c t ≤ M.workshop_tier c s
      no_better t v = later_worse M agree c t s (rivals M Vs σ c s t (I.seen s c (k.real pos).0) (I.seen t c v)) (N.early t c s v (in_first wait))

      sits_needed : seated M (update σ.held s c) c ≤ M.quota c → Needed M (close M B (joined_state M B σ s rest c) c)
      sits_needed fits =
          seating_needed σ I N s rest wait c pos _ _ (seat M B O Vs E σ I s rest wait c pos k fits)
          (λ t v. inr (s, update_at σ.held s c s refl, no_better t v))
          (λ t w u v m. N.early t w u v (rw wait (later m)))
          (in_order σ I N s rest wait).1

      module _ (x : ℕ) (low : Lowest M B O Vs E σ (joined_state M B σ s rest c) c (λ y v. I.seen y c v) x)
          (over : M.quota c < seated M (update σ.held s c) c) where
        x_seen : Seen M Vs σ x c
        x_seen = I.seen x c ((choosers₁ M B O Vs E σ I s rest wait c pos k x low.holder).real pos).0

        reach : (t : ℕ) → interviewed σ.interviews t c ≡ true → Reachable M (update (update σ.held s c) x 0) t c
        reach t v = ⊎_elim same (λ (ne : s ≡ x → ⊥). inr (s, update_off _ x 0 s ne ∙ update_at σ.held s c s refl, no_better t v)) (eq? s x)
          where
            -- the student herself is dropped: the holders are the same
            same : s ≡ x → Reachable M (update (update σ.held s c) x 0) t c
            same e =
                ⊎_elim (λ l. absurd (omega (arith, one_more M B O Vs E σ I s rest wait c pos k)))
                (λ r.
                let off : r.0 ≡ s → ⊥ = λ q. omega (arith, I.free s (in_first wait), ap σ.held q, r.1) in
                inr (r.0, update_off _ x 0 r.0 (λ q. off (q ∙ sym e)) ∙ update_off σ.held s c r.0 off ∙ r.1, r.2))
                (N.room t c v)

        hand_before : M.stage s ≤ M.stage x
        hand_before =
            worse_later M agree c s x (rivals M Vs σ c s x (I.seen s c (k.real pos).0) x_seen)
            (workshop_no_worse M B O Vs E c s x (real (flip M.paired c) s (I.seen s c (k.real pos).0).pair) (real (flip M.paired c) x x_seen.pair)
            (low.low s (update_at σ.held s c s refl)))

        drops_needed : Needed M (close M B (hand_on M B σ (x ∷ rest) (update (update σ.held s c) x 0)) c)
        drops_needed =
            seating_needed σ I N s rest wait c pos _ _ (drop M B O Vs E σ I s rest wait c pos k x low)
            reach
            (λ t w u v m.
            ⊎_elim (λ (e : u ≡ x). rw e (omega (arith, N.early t w s v (in_first wait), hand_before))) (λ z. N.early t w u v (rw wait (later z)))
            (cases_cons m)) (
              (λ t m. N.early x c t ((choosers₁ M B O Vs E σ I s rest wait c pos k x low.holder).real pos).0 (rw wait (later m))),
              (in_order σ I N s
                  rest wait).1,
            )

    move_needed : (σ' : State) → Move M B σ s rest σ' → Needed M σ'
    move_needed σ' (interviews empty met e) =
        interviews_needed σ I N s rest wait
        (λ w m. let d : Due M B O Vs E σ I s rest wait empty w = due_in M B O Vs E σ I s rest wait empty w m in (d.pair, d.kept))
        σ' (ap (λ τ. τ.interviews) e) (ap (λ τ. τ.held) e) (ap (λ τ. τ.deleted) e) (ap (λ τ. τ.waiting) e)
    move_needed σ' (leaves x xs some z e) =
        rw e (record { room = N.room; shut = N.shut; early = λ t w u v m. N.early t w u v (rw wait (later m)); sorted = (in_order σ I N s rest wait).1 })
    move_needed σ' (sits x xs c some z fits e) = rw e (sits_needed (suc c) (omega arith) (rw z at (best_chosen M B O Vs E σ I s x xs some)) fits)
    move_needed σ' (drops x xs c some z over e) =
        rw e (drops_needed (suc c) (omega arith) k (dropped M B σ s rest (suc c)) (lowest_joined M B O Vs E σ I s rest wait (suc c) (omega arith) k) over)
      where
        k : Chosen M B O Vs σ s (suc c)
        k = rw z at (best_chosen M B O Vs E σ I s x xs some)

  pub last_needed : ConsistentStages M M.stage → (τ : State) → Reaches M B τ (start M B)
      → ((t w : ℕ) → interviewed τ.interviews t w ≡ true → Vs t w ≡ true) → Needed M τ
  last_needed agree τ r known = (last_with M B O Vs E (Needed M) (λ σ σ' I s rest w m N. move_needed agree σ I N s rest w σ' m) start_needed τ r known).1
