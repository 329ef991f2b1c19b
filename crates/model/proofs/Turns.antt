-- Each turn of the machine is a step of the rule or clears a stale bit, and its weight falls: the tiers that students have yet to reach, the
-- workshops open or yet to be reached, and the students waiting.
use Prim.Native.Nat.{ℕ, zero, suc, ◌+◌, ◌-◌, ◌≤◌, ◌<◌}
use mathlib.Core.Path.{◌≡◌, refl, sym, subst, ap, ◌∙◌, fun_ext}
use mathlib.Core.Logic.{⊎_elim}
use mathlib.Core.Bool.{Bool, true, false, not, ◌||◌}
use mathlib.Core.List.{List, [], ◌∷◌, ◌++◌}
use mathlib.Core.List.Memᴰ.{head as here}
use mathlib.Core.List.Memᴰ.{not-nil}
use mathlib.Core.List.{Memᴰ as Mem}
use native.Mathlib.Omega.{arith}
use native.Mathlib.Nat.{le_antisymm, le_refl}
use lib.Dec.{eqb, ltb}
use lib.ListN.{length}
use borrow.Author.Tests.{eq-eqb, ltb-true, lt-ltb, le-ltb}
use Rattle.base.specs.Lists.{count, total, update}
use Rattle.lgs.specs.Market.{Market, Results, student_outside, seats_of}
use Rattle.lgs.specs.Profiles.{Profile, seated, flip}
use Rattle.lgs.specs.Rule.{State, Step, going, stopped, finished, Interview, interviewed, open?, choices, due, best, advance, interview_all, close}
use Rattle.lgs.specs.Rule.{hand_on, apply, step}
use Rattle.model.specs.Model.{Card, Machine, Turn, on, lacks, done, Round, held, missing, told, holding, push, due_now, options, round, opens}
use Rattle.model.specs.Model.{answers, applies, acts, take_turn}
use Rattle.base.proofs.Tests.{never, bool_cases, and_right, or_true, or_left, or_right, eq?, less?}
use Rattle.base.proofs.Members.{update_at, update_off}
use Rattle.base.proofs.Counting.{count_mono, count_less, total_le, total_less}
use Rattle.lgs.proofs.Sides.{real}
use Rattle.lgs.proofs.Setting.{Setting}
use Rattle.lgs.proofs.Invariant.{Seen, Chosen, Gone, seatless, beyond, taken, Inv, open_make}
use Rattle.lgs.proofs.Interviews.{interviews_with, with_interviews}
use Rattle.lgs.proofs.Advance.{before_outside, Due, due_in}
use Rattle.lgs.proofs.Choose.{best_chosen, best_open}
use Rattle.lgs.proofs.Lowest.{Lowest}
use Rattle.lgs.proofs.Apply.{choosers₁, one_more, lowest_joined}
use Rattle.lgs.proofs.Moves.{interview_all_going, joined_state, dropped}
use Rattle.lgs.proofs.Ends.{before_kept}
use Rattle.model.proofs.Evident.{Evident}
use Rattle.model.proofs.Tied.{Tied, Bits, empty?, top_pick, due_same, bit_seen, choice_option, option_choice, same_best, round_lacks, round_goes}
use Rattle.model.proofs.Match.{now_at, now_calm, now_hand, now_off, step_interviews, step_applies, apply_sits, apply_drops}
use Rattle.model.proofs.Match.{opens_tied, leaves_tied, sits_tied, drops_tied, stale_tied, out_hand, out_lowest, out_pos, P as push_spec}

-- the tiers before a student, and the workshops that are open or in them
unfoldable pub load : Market → Card → ℕ → ℕ
load M k s = (student_outside M s - k.reached) + count (λ w. k.bits w || ltb k.reached (M.student_tier s w)) M.workshops

unfoldable pub weight : Market → (ℕ → Card) → List ℕ → ℕ
weight M C ws = total (λ t. load M (C t) t) M.students + length ws

module _ (M : Market) (s : ℕ) (k k' : Card) (er : k'.reached ≡ k.reached) (were : (w : ℕ) → k'.bits w ≡ true → k.bits w ≡ true) where
  still_in : (w : ℕ) → (k'.bits w || ltb k'.reached (M.student_tier s w)) ≡ true → (k.bits w || ltb k.reached (M.student_tier s w)) ≡ true
  still_in w e = ⊎_elim (λ b. or_left (k.bits w) _ (were w b)) (λ l. or_right (k.bits w) _ (rw er at l)) (or_true (k'.bits w) _ e)

  load_le : load M k' s ≤ load M k s
  unfolding load
  load_le =
      omega (
        arith,
        ap (λ r. student_outside M s - r) er,
        count_mono (λ w. k'.bits w || ltb k'.reached (M.student_tier s w)) (λ w. k.bits w || ltb k.reached (M.student_tier s w))
            M.workshops (λ w l u e. still_in w e),
      )

  load_less : (c : ℕ) → 1 ≤ c → c ≤ M.workshops → k.bits c ≡ true → k'.bits c ≡ false → M.student_tier s c ≤ k.reached → load M k' s < load M k s
  unfolding load
  load_less c l u b b' g =
      omega (
        arith,
        ap (λ r. student_outside M s - r) er,
        count_less (λ w. k'.bits w || ltb k'.reached (M.student_tier s w)) (λ w. k.bits w || ltb k.reached (M.student_tier s w)) M.workshops c
            (λ w l u e. still_in w e) l u (or_left (k.bits c) _ b) (rw (b', er) (le-ltb k.reached (M.student_tier s c) g)),
      )

module _ (M : Market) (B : Results) (O : Profile) where
  pub record Linked (σ : State) (m : Machine) : Type 0 where
    pub tied : Tied M B O σ (now_at m.waiting m.lost m.cards) m.seats
    pub interviews : m.interviews ≡ σ.interviews
    pub waiting : m.waiting ≡ σ.waiting

  abbrev pub weight_of : Machine → ℕ
  weight_of m = weight M (now_at m.waiting m.lost m.cards) m.waiting

  -- what a turn of the machine, of weight W before, is to the rule's state
  pub data Matches (σ : State) (W : ℕ) : Turn → Type 0 where
    waits : {m : Machine} → Linked σ m → weight_of m < W → Matches σ W (on m)
    moved : {m : Machine} (σ' : State) → step M B σ σ.waiting ≡ going σ' → Linked σ' m → weight_of m < W → Matches σ W (on m)
    halts : {s w : ℕ} {vs : List Interview} → step M B σ σ.waiting ≡ stopped s w vs → Matches σ W (lacks s w vs)
    ends : {p : ℕ → ℕ} {vs : List Interview} → step M B σ σ.waiting ≡ finished p vs → Matches σ W (done p vs)

module _ (M : Market) (B : Results) (O : Profile) (E : Setting M B O B.met) (σ : State) (I : Inv M B O B.met σ) (N : Evident M B σ) (m : Machine)
    (s : ℕ) (rest : List ℕ) (R : Tied M B O σ (now_at (s ∷ rest) m.lost m.cards) m.seats) (ev : m.interviews ≡ σ.interviews)
    (wait : σ.waiting ≡ s ∷ rest) where
  abbrev C : ℕ → Card
  C = now_at (s ∷ rest) m.lost m.cards

  abbrev S : ℕ → List ℕ
  S = m.seats

  abbrev Fit : Turn → Type 0
  Fit = Matches M B O σ (weight M C (s ∷ rest))

  s_range : (1 ≤ s) × (s ≤ M.students)
  s_range = I.range s (rw wait (here refl))

  stepped : {x : Step} → step M B σ (s ∷ rest) ≡ x → step M B σ σ.waiting ≡ x
  stepped e = ap (step M B σ) wait ∙ e

  -- a card that changes for her alone
  theirs : (k : Card) (t : ℕ) → (t ≡ s → ⊥) → update m.cards s k t ≡ C t
  theirs k t ne = update_off m.cards s k t ne ∙ sym (now_off s rest m.lost m.cards t ne)

  -- ---- the next tier
  module _ (no_option : options M B (C s) s ≡ []) where
    no_choice : choices M B σ s ≡ []
    no_choice =
        ⊎_elim (λ e. e) (λ r. absurd (not-nil (rw no_option at (choice_option M B O E σ I C S R s r.0 (rw r.2 (here refl))))))
        (empty? (choices M B σ s))

    same_round : round M B s (due_now M B S (C s) s) m.interviews (C s).bits ≡ round M B s (due M B σ s) σ.interviews (C s).bits
    same_round = ap (λ l. round M B s l m.interviews (C s).bits) (due_same M B O E σ I C S R N s) ∙ ap (λ v. round M B s (due M B σ s) v (C s).bits) ev

    opened_load : (b' : ℕ → Bool) → Bits M B s (due M B σ s) (C s).bits b' → load M
        (record { reached = suc (C s).reached; held = (C s).held; bits = b' }) s < load M (C s) s
    unfolding load
    opened_load b' T =
        omega (
          arith,
          before_outside M B O B.met E σ I s rest wait no_choice,
          R.reached s,
          count_mono (λ w. b' w || ltb (suc (C s).reached) (M.student_tier s w)) (λ w. (C s).bits w || ltb (C s).reached (M.student_tier s w)) M.workshops
              (λ w l u e.
              ⊎_elim (λ b. ⊎_elim (or_left ((C s).bits w) _) (λ r. or_right ((C s).bits w) _ (fresh w r.0)) (T.new w b))
              (λ g. or_right ((C s).bits w) _ (further w g)) (or_true (b' w) _ e)),
        )
      where
        fresh : (w : ℕ) → Mem w (due M B σ s) → ltb (C s).reached (M.student_tier s w) ≡ true
        fresh w k =
            let d : Due M B O B.met E σ I s rest wait no_choice w = due_in M B O B.met E σ I s rest wait no_choice w k in
            lt-ltb (C s).reached (M.student_tier s w) (omega (arith, d.tier, R.reached s))

        further : (w : ℕ) → ltb (suc (C s).reached) (M.student_tier s w) ≡ true → ltb (C s).reached (M.student_tier s w) ≡ true
        further w g = let l : suc (C s).reached < M.student_tier s w = ltb-true _ _ g in lt-ltb (C s).reached (M.student_tier s w) (omega arith)

    by_round : (x : Round) → round M B s (due M B σ s) σ.interviews (C s).bits ≡ x → Fit (opens M B m s rest (C s) x)
    unfolding opens weight
    by_round (missing w us) e = halts
        (stepped (step_interviews M B σ s rest no_choice ∙ round_lacks M B s (due M B σ s) σ.interviews (C s).bits (advance M B σ s) w us e))
    by_round (held us b') e =
        let r : (interview_all M B s (due M B σ s) (advance M B σ s) ≡ going (with_interviews (advance M B σ s) us)) × Bits M B s (due M B σ s) (C s).bits b' =
        round_goes M B s (due M B σ s) σ.interviews (C s).bits (advance M B σ s) us b' e in
        let eu : us ≡ σ.interviews ++ interviews_with s (due M B σ s) = ap (λ τ. τ.interviews)
        (interview_all_going M B s (due M B σ s) (advance M B σ s) _ r.0).0 in
        moved {m = after} (with_interviews (advance M B σ s) us) (stepped (step_interviews M B σ s rest no_choice ∙ r.0))
        (record {
          tied = opens_tied M B O E σ I N C S R s rest wait no_option no_choice us b' r.1 eu (now_at (s ∷ rest) 0 (update m.cards s card)) mine others;
          interviews = refl;
          waiting = sym wait;
        })
        (omega (
          arith,
          total_less (λ t. load M (now_at (s ∷ rest) 0 (update m.cards s card) t) t) (λ t. load M (C t) t) M.students s s_range.0 s_range.1
              (λ t. ⊎_elim (λ (q : t ≡ s). same_or_less t q r.1) (λ ne. rw (others t ne) (le_refl _)) (eq? t s)) (rw (mine s refl) (opened_load b' r.1)),
        ))
      where
        card : Card
        card = record { reached = suc (C s).reached; held = (C s).held; bits = b' }

        after : Machine
        after = record { cards = update m.cards s card; seats = S; interviews = us; waiting = s ∷ rest; lost = 0 }

        mine : (t : ℕ) → t ≡ s → now_at (s ∷ rest) 0 (update m.cards s card) t ≡ card
        mine t q = now_calm (s ∷ rest) (update m.cards s card) t ∙ update_at m.cards s card t q

        others : (t : ℕ) → (t ≡ s → ⊥) → now_at (s ∷ rest) 0 (update m.cards s card) t ≡ C t
        others t ne = now_calm (s ∷ rest) (update m.cards s card) t ∙ theirs card t ne

        same_or_less : (t : ℕ) → t ≡ s → Bits M B s (due M B σ s) (C s).bits b' → load M (now_at (s ∷ rest) 0 (update m.cards s card) t) t ≤ load M (C t) t
        same_or_less t q T =
            let l : load M card s < load M (C s) s = opened_load b' T in
            subst (λ u. load M (now_at (s ∷ rest) 0 (update m.cards s card) u) u ≤ load M (C u) u) (sym q) (rw (mine s refl) (omega arith))

  -- ---- an application
  module _ (c₀ : ℕ) (bit : (C s).bits (suc c₀) ≡ true) where
    abbrev c : ℕ
    c = suc c₀

    abbrev zs : List ℕ
    zs = (push M B c (seats_of M c) s (S c)).0

    abbrev out : ℕ
    out = (push M B c (seats_of M c) s (S c)).1

    abbrev C₁ : ℕ → Card
    C₁ = update m.cards s (holding (C s) c)

    abbrev S' : ℕ → List ℕ
    S' = update m.seats c zs

    mine₁ : (t : ℕ) → t ≡ s → C₁ t ≡ holding (C s) c
    mine₁ t e = update_at m.cards s (holding (C s) c) t e

    theirs₁ : (t : ℕ) → (t ≡ s → ⊥) → C₁ t ≡ C t
    theirs₁ t ne = theirs (holding (C s) c) t ne

    at_c : S' c ≡ zs
    at_c = update_at m.seats c zs c refl

    off_c : (d : ℕ) → (d ≡ c → ⊥) → S' d ≡ S d
    off_c d ne = update_off m.seats c zs d ne

    load₁ : (t : ℕ) → load M (C₁ t) t ≤ load M (C t) t
    load₁ t =
        ⊎_elim (λ (e : t ≡ s). subst (λ u. load M (C₁ u) u ≤ load M (C u) u) (sym e) (rw (mine₁ s refl) (load_le M s (C s) (holding (C s) c) refl (λ w b. b))))
        (λ ne. rw (theirs₁ t ne) (le_refl _)) (eq? t s)

    -- a seat is free
    sits_fit : length (S c) < M.quota c → Chosen M B O B.met σ s c → step M B σ (s ∷ rest) ≡ apply M B σ s rest c → Fit (answers M B m s rest (C s) c zs 0)
    unfolding answers close weight
    sits_fit l k st =
        moved {m = record { cards = C₁; seats = S'; interviews = m.interviews; waiting = rest; lost = 0 }} (close M B (joined_state M B σ s rest c) c)
        (stepped (st ∙ apply_sits M B σ s rest c₀ (omega (arith, R.size c (omega arith), one_more M B O B.met E σ I s rest wait c (omega arith) k))))
        (record {
          tied = sits_tied M B O E σ I N C S R s rest wait c₀ bit C₁ mine₁ theirs₁ S' at_c off_c l k (now_at rest 0 C₁) (now_calm rest C₁);
          interviews = ev;
          waiting = refl;
        })
        (omega (
          arith,
          total_le (λ t. load M (now_at rest 0 C₁ t) t) (λ t. load M (C t) t) M.students (λ t. rw (now_calm rest C₁ t) (load₁ t)),
        ))

    -- no seat is free
    module _ (full : M.quota c ≤ length (S c)) (x : ℕ) (ex : out ≡ suc x) where
      abbrev C₂ : ℕ → Card
      C₂ = now_at (suc x ∷ rest) c C₁

      abbrev after : Machine
      after = record { cards = C₁; seats = S'; interviews = m.interviews; waiting = suc x ∷ rest; lost = c }

      one : (t : ℕ) → t ≡ out → C₂ t ≡ told c (C₁ t)
      one t e = now_hand (suc x) rest c C₁ t (e ∙ ex)

      other : (t : ℕ) → (t ≡ out → ⊥) → C₂ t ≡ C₁ t
      other t ne = now_off (suc x) rest c C₁ t (λ e. ne (e ∙ sym ex))

      load₂ : (t : ℕ) → load M (C₂ t) t ≤ load M (C₁ t) t
      load₂ t =
          ⊎_elim (λ (e : t ≡ out). rw (one t e) (load_le M t (C₁ t) (told c (C₁ t)) refl (λ w b. and_right (not (eqb w c)) _ b)))
          (λ ne. rw (other t ne) (le_refl _)) (eq? t out)

      bits₁ : (t w : ℕ) → (C t).bits w ≡ true → (C₁ t).bits w ≡ true
      bits₁ t w b = ⊎_elim (λ (e : t ≡ s). rw (mine₁ t e) (rw e at b)) (λ ne. rw (theirs₁ t ne) b) (eq? t s)

      reached₁ : (t : ℕ) → (C₁ t).reached ≡ (C t).reached
      reached₁ t = ⊎_elim (λ (e : t ≡ s). ap (λ k. k.reached) (mine₁ t e) ∙ ap (λ u. (C u).reached) (sym e))
          (λ ne. ap (λ k. k.reached) (theirs₁ t ne)) (eq? t s)

      -- the dropped student's bit was set
      lighter : (C out).bits c ≡ true → total (λ t. load M (C₂ t) t) M.students < total (λ t. load M (C t) t) M.students
      lighter b =
          let v : Seen M B.met σ out c = bit_seen M B O E σ I C S R out c b in
          let sr : (1 ≤ out) × (out ≤ M.students) = E.wf.student out c v.pair in
          let cr : (1 ≤ c) × (c ≤ M.workshops) = E.wf.workshop out c v.pair in
          let less : load M (told c (C₁ out)) out < load M (C₁ out) out =
          load_less M out (C₁ out) (told c (C₁ out)) refl (λ w z. and_right (not (eqb w c)) _ z) c cr.0 cr.1 (bits₁ out c b) (rw (eq-eqb c c refl))
          (omega (arith, v.tier, R.reached out, reached₁ out)) in
          total_less (λ t. load M (C₂ t) t) (λ t. load M (C t) t) M.students out sr.0 sr.1
          (λ t. omega (arith, load₂ t, load₁ t)) (rw (one out refl) (omega (arith, load₁ out)))

      drops_fit : (k : Chosen M B O B.met σ s c) → open? M B σ s c ≡ true → step M B σ (s ∷ rest) ≡ apply M B σ s rest c → Fit
          (answers M B m s rest (C s) c zs (suc x))
      unfolding answers close weight
      drops_fit k o st =
          moved {m = after} (close M B (hand_on M B σ (out ∷ rest) (update (update σ.held s c) out 0)) c)
          (stepped (st ∙ apply_drops M B σ s rest c₀ over ∙ ap (λ z. going (close M B (hand_on M B σ (z ∷ rest) (update (update σ.held s c) z 0)) c)) same))
          (record {
            tied = drops_tied M B O E σ I N C S R s rest wait c₀ bit C₁ mine₁ theirs₁ S' at_c off_c full C₂ one other k o over;
            interviews = ev;
            waiting = ap (λ z. z ∷ rest) (sym ex);
          })
          (omega (arith, lighter out_bit))
        where
          over : M.quota c < seated M (update σ.held s c) c
          over = omega (arith, R.size c (omega arith), one_more M B O B.met E σ I s rest wait c (omega arith) k)

          L : Lowest M B O B.met E σ (joined_state M B σ s rest c) c (λ y v. I.seen y c v) out
          L = out_lowest M B O E σ I N C S R s rest wait c₀ bit C₁ mine₁ theirs₁ S' at_c off_c full

          came : (h : ℕ) → update σ.held s c h ≡ c → interviewed σ.interviews h c ≡ true
          came h q = ((choosers₁ M B O B.met E σ I s rest wait c (omega arith) k h q).real (omega arith)).0

          D : Lowest M B O B.met E σ (joined_state M B σ s rest c) c (λ y v. I.seen y c v) (dropped M B σ s rest c)
          D = lowest_joined M B O B.met E σ I s rest wait c (omega arith) k

          same : dropped M B σ s rest c ≡ out
          same =
              E.full.workshops.strict c _ _ (real (flip M.paired c) _ (I.seen _ c (came _ D.holder)).pair)
              (real (flip M.paired c) _ (I.seen _ c (came _ L.holder)).pair)
              (le_antisymm (L.low _ D.holder) (D.low _ L.holder))

          out_bit : (C out).bits c ≡ true
          out_bit =
              let ch : Chosen M B O B.met σ out c = choosers₁ M B O B.met E σ I s rest wait c (omega arith) k out L.holder in
              R.has out c
              (open_make M B σ out c
              (record {
                interview = came out L.holder;
                tier = ch.tier;
                kept = before_kept M B O E σ I s rest wait c
                    (omega arith) k o out L over;
                welcome = (ch.real (omega arith)).1;
              }))

      -- a stale bit
      stale_fit : open? M B σ s c ≡ false → ((h : ℕ) → σ.held h ≡ c → O.workshop_rank c h < O.workshop_rank c s) → Fit
          (answers M B m s rest (C s) c zs (suc x))
      unfolding answers weight
      stale_fit shut a =
          waits {m = after}
          (record {
            tied = stale_tied M B O E σ I N C S R s rest wait c₀ bit C₁ mine₁ theirs₁ S' at_c off_c full C₂ one other shut a;
            interviews = ev;
            waiting = ap (λ z. z ∷ rest) (sym ex ∙ hand) ∙ sym wait;
          })
          (omega (arith, lighter (rw hand bit)))
        where
          hand : out ≡ s
          hand = out_hand M B O E σ I N C S R s rest wait c₀ bit C₁ mine₁ theirs₁ S' at_c off_c full C₂ one other shut a

    open_fit : Chosen M B O B.met σ s c → open? M B σ s c ≡ true → step M B σ (s ∷ rest) ≡ apply M B σ s rest c → Fit (answers M B m s rest (C s) c zs out)
    open_fit k o st =
        ⊎_elim
        (λ l.
        subst (λ z. Fit (answers M B m s rest (C s) c zs z)) (sym ((push_spec M B O E σ I N C S R s rest wait c₀ bit).room l).0) (sits_fit l k st))
        (λ full. by_out full out refl)
        (less? (length (S c)) (M.quota c))
      where
        by_out : M.quota c ≤ length (S c) → (z : ℕ) → out ≡ z → Fit (answers M B m s rest (C s) c zs z)
        by_out full zero e = absurd (omega (arith, out_pos M B O E σ I N C S R s rest wait c₀ bit C₁ mine₁ theirs₁ S' at_c off_c full))
        by_out full (suc x) e = drops_fit full x e k o st

    -- a stale bit is that of a full workshop whose holders are all above her
    shut_fit : open? M B σ s c ≡ false → Fit (answers M B m s rest (C s) c zs out)
    unfolding open?
    shut_fit shut = by_gone (I.gone s c v.pair deleted)
      where
        v : Seen M B.met σ s c
        v = bit_seen M B O E σ I C S R s c bit

        deleted : σ.deleted s c ≡ true
        deleted =
            ⊎_elim (λ d. d)
            (λ d.
            never
            (open_make M B σ s c
            (record { interview = (R.from s c bit).0; tier = omega (arith, (R.from s c bit).2, v.tier); kept = d; welcome = (R.from s c bit).1 }))
            shut)
            (bool_cases (σ.deleted s c))

        by_out : M.quota c ≤ length (S c) → ((h : ℕ) → σ.held h ≡ c → O.workshop_rank c h < O.workshop_rank c s) → (z : ℕ) → out ≡ z → Fit
            (answers M B m s rest (C s) c zs z)
        by_out full a zero e = absurd (omega (arith, out_pos M B O E σ I N C S R s rest wait c₀ bit C₁ mine₁ theirs₁ S' at_c off_c full))
        by_out full a (suc x) e = stale_fit full x e shut a

        by_gone : Gone M O σ s c → Fit (answers M B m s rest (C s) c zs out)
        by_gone (seatless z) = absurd (omega (arith, v.seats))
        by_gone (beyond l) = absurd (omega (arith, v.outside))
        by_gone (taken f a) = by_out (omega (arith, R.size c (omega arith))) a out refl

  -- ---- her turn
  leaves_fit : step M B σ (s ∷ rest) ≡ apply M B σ s rest 0 → Fit (applies M B m s rest (C s) 0)
  unfolding applies apply weight
  leaves_fit st =
      moved {m = after} (hand_on M B σ rest σ.held) (stepped st)
      (record { tied = leaves_tied M B O E σ I N C S R s rest wait (now_at rest 0 (update m.cards s (C s))) same; interviews = ev; waiting = refl })
      (omega (arith, total_le (λ t. load M (now_at rest 0 (update m.cards s (C s)) t) t) (λ t. load M (C t) t) M.students (λ t. rw (same t) (le_refl _))))
    where
      after : Machine
      after = record { cards = update m.cards s (C s); seats = S; interviews = m.interviews; waiting = rest; lost = 0 }

      same : (t : ℕ) → now_at rest 0 (update m.cards s (C s)) t ≡ C t
      same t = now_calm rest (update m.cards s (C s)) t ∙ ⊎_elim (λ (e : t ≡ s). update_at m.cards s (C s) t e ∙ ap C (sym e))
          (λ ne. theirs (C s) t ne) (eq? t s)

  by_favourite : (x : ℕ) (xs : List ℕ) → options M B (C s) s ≡ x ∷ xs → (b : ℕ) → best M B s x xs ≡ b → Fit (applies M B m s rest (C s) b)
  unfolding best applies
  by_favourite x xs some b f = ⊎_elim (chosen b f) (stale b) (option_choice M B O E σ I C S R s b (rw (some, ← f) (top_pick (B.student_score s) x xs).0))
    where
      best_is : (z : ℕ) → best M B s x xs ≡ z → Mem z (choices M B σ s) → (y : ℕ) × (ys : List ℕ) × (choices M B σ s ≡ y ∷ ys) × (best M B s y ys ≡ z)
      best_is z g k =
          ⊎_elim (λ e. absurd (not-nil (rw e at k)))
          (λ r. (r.0, r.1, r.2, same_best M B O E σ I C S R s x xs some r.0 r.1 r.2 (rw g k) ∙ g)) (empty? (choices M B σ s))

      chosen : (z : ℕ) → best M B s x xs ≡ z → Mem z (choices M B σ s) → Fit (applies M B m s rest (C s) z)
      chosen zero g k =
          let r : (y : ℕ) × (ys : List ℕ) × (choices M B σ s ≡ y ∷ ys) × (best M B s y ys ≡ 0) = best_is 0 g k in
          leaves_fit (step_applies M B σ s rest r.0 r.1 0 r.2 r.3)
      chosen (suc c) g k =
          let r : (y : ℕ) × (ys : List ℕ) × (choices M B σ s ≡ y ∷ ys) × (best M B s y ys ≡ suc c) = best_is (suc c) g k in
          let o : open? M B σ s (suc c) ≡ true = rw r.3 at (best_open M B O B.met E σ I s r.0 r.1 r.2 (rw r.3 (omega arith))) in
          open_fit c (R.has s (suc c) o) (rw r.3 at (best_chosen M B O B.met E σ I s r.0 r.1 r.2)) o
          (step_applies M B σ s rest r.0 r.1 (suc c) r.2 r.3)

      stale : (z : ℕ) → ((C s).bits z ≡ true) × (open? M B σ s z ≡ false) → Fit (applies M B m s rest (C s) z)
      stale zero k = absurd (omega (arith, E.wf.workshop s 0 (bit_seen M B O E σ I C S R s 0 k.0).pair))
      stale (suc c) k = shut_fit c k.0 k.1

  by_options : (l : List ℕ) → options M B (C s) s ≡ l → Fit (acts M B m s rest (C s) l)
  unfolding acts
  by_options [] e = subst (λ z. Fit (opens M B m s rest (C s) z)) (sym (same_round e)) (by_round e (round M B s (due M B σ s) σ.interviews (C s).bits) refl)
  by_options (x ∷ xs) e = by_favourite x xs e (best M B s x xs) refl

  pub turn_fits : Fit (take_turn M B m (s ∷ rest))
  unfolding take_turn
  turn_fits = subst (λ k. Fit (acts M B m s rest k (options M B k s))) (now_hand s rest m.lost m.cards s refl) (by_options (options M B (C s) s) refl)

module _ (M : Market) (B : Results) (O : Profile) (E : Setting M B O B.met) where
  pub turn_matches : (σ : State) → Inv M B O B.met σ → Evident M B σ → (m : Machine) → Linked M B O σ m → Matches M B O σ (weight_of M B O m)
      (take_turn M B m m.waiting)
  unfolding take_turn step
  turn_matches σ I N m L = by_waiting m.waiting refl
    where
      by_waiting : (l : List ℕ) → m.waiting ≡ l → Matches M B O σ (weight M (now_at l m.lost m.cards) l) (take_turn M B m l)
      by_waiting [] e =
          let T : Tied M B O σ m.cards m.seats = subst (λ l. Tied M B O σ (now_at l m.lost m.cards) m.seats) e L.tied in
          ends (ap (step M B σ) (sym L.waiting ∙ e) ∙ ap (λ h. finished h σ.interviews) (fun_ext (λ t. sym (T.held t))) ∙ ap
          (finished (λ t. (m.cards t).held)) (sym L.interviews))
      by_waiting (s ∷ rest) e =
          turn_fits M B O E σ I N m s rest (subst (λ l. Tied M B O σ (now_at l m.lost m.cards) m.seats) e L.tied) L.interviews
          (sym L.waiting ∙ e)
