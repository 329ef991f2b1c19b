-- The relation of the machine to the rule's state (`Tied`) after each kind of turn: she opens a tier, leaves, sits, drops somebody, or is
-- dropped at once for a stale bit.
use Prim.Native.Nat.{ℕ, suc, ◌≤◌, ◌<◌}
use mathlib.Core.Path.{◌≡◌, refl, sym, subst, ap, ◌∙◌}
use mathlib.Core.Logic.{◌⊎◌, inl, inr, ⊎_elim}
use mathlib.Core.Bool.{Bool, true, false, not, cond}
use mathlib.Core.List.{List, [], ◌∷◌, ◌++◌}
use mathlib.Core.List.Memᴰ.{head as here}
use mathlib.Core.List.Memᴰ.{not-nil}
use mathlib.Core.List.{Memᴰ as Mem}
use native.Mathlib.Omega.{arith}
use lib.Dec.{eqb}
use lib.ListN.{length}
use borrow.Author.Tests.{eqb-true, eq-eqb, ne_eqb, lt-ltb, le-ltb}
use Rattle.base.specs.Lists.{update, upto}
use Rattle.lgs.specs.Market.{Market, Results, student_outside, seats_of}
use Rattle.lgs.specs.Profiles.{Profile, seated, flip}
use Rattle.lgs.specs.Rule.{State, going, Interview, interviewed, unopened, open?, choices, due, best, advance, interview_all, close, hand_on, settle}
use Rattle.lgs.specs.Rule.{apply, turn, step}
use Rattle.model.specs.Model.{Card, told, holding, push, options}
use Rattle.base.proofs.Tests.{never, bool_cases, and_right, eq?}
use Rattle.base.proofs.Counting.{count_same}
use Rattle.base.proofs.Members.{in_upto, in_keep, in_rest, update_at, update_off}
use Rattle.lgs.proofs.Sides.{Known}
use Rattle.lgs.proofs.Setting.{Setting}
use Rattle.lgs.proofs.Invariant.{Seen, Chosen, Inv, Open, open_parts, open_make, known_by}
use Rattle.lgs.proofs.Interviews.{interviews_with, with_interviews, interviewed_or, interviewed_before, interviewed_after, interviewed_of, interviewed_in}
use Rattle.lgs.proofs.Advance.{Due, due_in}
use Rattle.lgs.proofs.Lowest.{Lowest}
use Rattle.lgs.proofs.Close.{Seating, close_keeps, close_deletes}
use Rattle.lgs.proofs.Apply.{seat, drop, drop_full, one_more}
use Rattle.lgs.proofs.Moves.{joined_state, dropped}
use Rattle.lgs.proofs.Ends.{x_below}
use Rattle.model.proofs.Seats.{Ranked, Pushed, pushed, before_rank, not_before_rank}
use Rattle.model.proofs.Storage.{seats_of_lem}
use Rattle.model.proofs.Evident.{Evident}
use Rattle.model.proofs.Tied.{Tied, Bits, holder_seen, holder_possible, bit_seen, bit_possible}

-- the cards, with that of the student in hand brought up to date
abbrev pub now_at : List ℕ → ℕ → (ℕ → Card) → ℕ → Card
now_at [] l C t = C t
now_at (s ∷ rest) l C t = cond (eqb t s) (told l (C t)) (C t)

pub now_calm : (ws : List ℕ) (C : ℕ → Card) (t : ℕ) → now_at ws 0 C t ≡ C t
now_calm [] C t = refl
now_calm (s ∷ rest) C t = ⊎_elim (λ (e : eqb t s ≡ true). rw e) (λ (e : eqb t s ≡ false). rw e) (bool_cases (eqb t s))

pub now_hand : (s : ℕ) (rest : List ℕ) (l : ℕ) (C : ℕ → Card) (t : ℕ) → t ≡ s → now_at (s ∷ rest) l C t ≡ told l (C t)
now_hand s rest l C t e = rw (eq-eqb t s e)

pub now_off : (s : ℕ) (rest : List ℕ) (l : ℕ) (C : ℕ → Card) (t : ℕ) → (t ≡ s → ⊥) → now_at (s ∷ rest) l C t ≡ C t
now_off s rest l C t ne = rw (ne_eqb t s ne)

-- ---- the rule's step, computed
module _ (M : Market) (B : Results) (σ : State) (s : ℕ) (rest : List ℕ) where
  pub step_interviews : choices M B σ s ≡ [] → step M B σ (s ∷ rest) ≡ interview_all M B s (due M B σ s) (advance M B σ s)
  unfolding step turn
  step_interviews e = rw e

  pub step_applies : (y : ℕ) (ys : List ℕ) (b : ℕ) → choices M B σ s ≡ y ∷ ys → best M B s y ys ≡ b → step M B σ (s ∷ rest) ≡ apply M B σ s rest b
  unfolding step turn
  step_applies y ys b e f = rw e (ap (apply M B σ s rest) f)

  pub apply_sits : (c : ℕ) → seated M (update σ.held s (suc c)) (suc c) ≤ M.quota (suc c) → apply M B σ s rest (suc c) ≡ going
      (close M B (joined_state M B σ s rest (suc c)) (suc c))
  unfolding apply settle
  apply_sits c l = rw (le-ltb (M.quota (suc c)) (seated M (update σ.held s (suc c)) (suc c)) l)

  pub apply_drops : (c : ℕ) → M.quota (suc c) < seated M (update σ.held s (suc c)) (suc c)
      → apply M B σ s rest (suc c) ≡ going
      (close M B (hand_on M B σ (dropped M B σ s rest (suc c) ∷ rest) (update (update σ.held s (suc c)) (dropped M B σ s rest (suc c)) 0)) (suc c))
  unfolding apply settle
  apply_drops c l = rw (lt-ltb (M.quota (suc c)) (seated M (update σ.held s (suc c)) (suc c)) l)

module _ (M : Market) (B : Results) (O : Profile) (E : Setting M B O B.met) (σ : State) (I : Inv M B O B.met σ) (N : Evident M B σ)
    (C : ℕ → Card) (S : ℕ → List ℕ) (R : Tied M B O σ C S) (s : ℕ) (rest : List ℕ) (wait : σ.waiting ≡ s ∷ rest) where
  in_hand : Mem s σ.waiting
  in_hand = rw wait (here refl)

  -- she goes to her next tier
  module _ (noopt : options M B (C s) s ≡ []) (empty : choices M B σ s ≡ []) (us : List Interview) (b' : ℕ → Bool) (T : Bits M B s (due M B σ s) (C s).bits b')
      (eu : us ≡ σ.interviews ++ interviews_with s (due M B σ s)) (C' : ℕ → Card)
      (mine : (t : ℕ) → t ≡ s → C' t ≡ record { reached = suc (C s).reached; held = (C s).held; bits = b' }) (theirs : (t : ℕ) → (t ≡ s → ⊥) → C' t ≡ C t) where
    abbrev ahead : State
    ahead = with_interviews (advance M B σ s) us

    no_bit : (w : ℕ) → (C s).bits w ≡ true → ⊥
    unfolding options
    no_bit w b =
        let r : (1 ≤ w) × (w ≤ M.workshops) = E.wf.workshop s w (bit_seen M B O E σ I C S R s w b).pair in
        not-nil (subst (λ l. Mem w l) noopt
        (in_rest (eqb (student_outside M s) (C s).reached) 0 w _ (in_keep (C s).bits (upto M.workshops) w b (in_upto M.workshops w r.0 r.1))))

    hers : (w : ℕ) → b' w ≡ true → (interviewed us s w ≡ true) × (unopened M B s w ≡ false) × (ahead.reached s ≤ M.student_tier s w)
    hers w b =
        ⊎_elim (λ k. absurd (no_bit w k))
        (λ r.
        let d : Due M B O B.met E σ I s rest wait empty w = due_in M B O B.met E σ I s rest wait empty w r.0 in (
          rw eu (interviewed_after σ.interviews _ s w (interviewed_in s (due M B σ s) w r.0)),
          r.1,
          omega
              (arith, d.tier, update_at σ.reached s (suc (σ.reached s)) s refl),
        ))
        (T.new w b)

    has_now : (t w : ℕ) → open? M B ahead t w ≡ true → (C' t).bits w ≡ true
    has_now t w o =
        let k : Open M B ahead t w = open_parts M B ahead t w o in
        ⊎_elim
        (λ (v : interviewed σ.interviews t w ≡ true).
        ⊎_elim
        (λ (e : t ≡ s). absurd (omega (arith, k.tier, (I.seen t w v).tier, update_at σ.reached s (suc (σ.reached s)) t e, ap σ.reached e)))
        (λ ne.
        rw (theirs t ne)
        (R.has t w (open_make M B σ t w
        (record { interview = v; tier = k.tier ∙ update_off σ.reached s (suc (σ.reached s)) t ne; kept = k.kept; welcome = k.welcome }))))
        (eq? t s))
        (λ v.
        let r : (t ≡ s) × Mem w (due M B σ s) = interviewed_of s (due M B σ s) t w v in
        rw (mine t r.0) (T.set w r.1 (rw r.0 at k.welcome)))
        (interviewed_or σ.interviews (interviews_with s (due M B σ s)) t w (rw eu at k.interview))

    pub opens_tied : Tied M B O ahead C' S
    opens_tied =
        record {
          reached = λ t.
              ⊎_elim (λ (e : t ≡ s). ap (λ k. k.reached) (mine t e) ∙ ap suc (R.reached s) ∙ sym (update_at σ.reached s (suc (σ.reached s)) t e))
              (λ ne. ap (λ k. k.reached) (theirs t ne) ∙ R.reached t ∙ sym (update_off σ.reached s (suc (σ.reached s)) t ne))
              (eq? t s);
          held = λ t. ⊎_elim (λ (e : t ≡ s). ap (λ k. k.held) (mine t e) ∙ R.held s ∙ ap σ.held (sym e))
              (λ ne. ap (λ k. k.held) (theirs t ne) ∙ R.held t) (eq? t s);
          has = has_now;
          from = λ t w b.
              ⊎_elim
              (λ (e : t ≡ s).
              let b₁ : b' w ≡ true = rw (mine t e) at b in
              subst (λ u. (interviewed us u w ≡ true) × (unopened M B u w ≡ false) × (ahead.reached u ≤ M.student_tier u w)) (sym e) (hers w b₁))
              (λ ne.
              let b₁ : (C t).bits w ≡ true = rw (theirs t ne) at b in
              let r : (interviewed σ.interviews t w ≡ true) × (unopened M B t w ≡ false) × (σ.reached t ≤ M.student_tier t w) = R.from t w b₁ in
              (rw eu (interviewed_before σ.interviews _ t w r.0), r.1, omega (arith, r.2, update_off σ.reached s (suc (σ.reached s)) t ne)))
              (eq? t s);
          ranked = R.ranked;
          sits = R.sits;
          seat = R.seat;
          size = R.size;
        }

  -- she is done without a place
  pub leaves_tied : (C' : ℕ → Card) → ((t : ℕ) → C' t ≡ C t) → Tied M B O (hand_on M B σ rest σ.held) C' S
  unfolding open?
  leaves_tied C' e =
      record {
        reached = λ t. ap (λ k. k.reached) (e t) ∙ R.reached t;
        held = λ t. ap (λ k. k.held) (e t) ∙ R.held t;
        has = λ t w o. rw (e t) (R.has t w o);
        from = λ t w b. R.from t w (rw (e t) at b);
        ranked = R.ranked;
        sits = R.sits;
        seat = R.seat;
        size = R.size;
      }

  -- a new seating of one workshop
  module _ (c : ℕ) (pos : 0 < c) (held' : ℕ → ℕ) (waiting' : List ℕ) (G : Seating M B O B.met σ c held' waiting') (C' : ℕ → Card) (S' : ℕ → List ℕ)
      (er : (t : ℕ) → (C' t).reached ≡ (C t).reached) (eh : (t : ℕ) → (C' t).held ≡ held' t)
      (gains : (t w : ℕ) → open? M B (close M B (hand_on M B σ waiting' held') c) t w ≡ true → (C t).bits w ≡ true → (C' t).bits w ≡ true)
      (loses : (t w : ℕ) → (C' t).bits w ≡ true → (C t).bits w ≡ true)
      (ranked' : Ranked (O.workshop_rank c) (S' c)) (sits' : (h : ℕ) → Mem h (S' c) → held' h ≡ c) (seat' : (h : ℕ) → held' h ≡ c → Mem h (S' c))
      (size' : length (S' c) ≡ seated M held' c) (off : (d : ℕ) → (d ≡ c → ⊥) → S' d ≡ S d) where
    abbrev closed : State
    closed = close M B (hand_on M B σ waiting' held') c

    open_before : (t w : ℕ) → open? M B closed t w ≡ true → open? M B σ t w ≡ true
    unfolding close
    open_before t w o =
        let k : Open M B closed t w = open_parts M B closed t w o in
        open_make M B σ t w
        (record {
          interview = k.interview;
          tier = k.tier;
          kept = ⊎_elim (λ e. never (close_keeps M B (hand_on M B σ waiting' held') c t w e) k.kept) (λ e. e) (bool_cases (σ.deleted t w));
          welcome = k.welcome;
        })

    pub seated_tied : Tied M B O closed C' S'
    unfolding close
    seated_tied =
        record {
          reached = λ t. er t ∙ R.reached t;
          held = eh;
          has = λ t w o. gains t w o (R.has t w (open_before t w o));
          from = λ t w b. R.from t w (loses t w b);
          ranked = λ d l. ⊎_elim (λ (e : d ≡ c). rw e ranked') (λ ne. rw (off d ne) (R.ranked d l)) (eq? d c);
          sits = λ d h l m.
              ⊎_elim (λ (e : d ≡ c). sits' h (rw e at m) ∙ sym e)
              (λ ne. eqb-true _ _ (G.elsewhere h d ne l ∙ eq-eqb _ _ (R.sits d h l (rw (off d ne) at m)))) (eq? d c);
          seat = λ d h l q.
              ⊎_elim (λ (e : d ≡ c). subst (λ z. Mem h (S' z)) (sym e) (seat' h (q ∙ e)))
              (λ ne. rw (off d ne) (R.seat d h l (eqb-true _ _ (sym (G.elsewhere h d ne l) ∙ eq-eqb _ _ q)))) (eq? d c);
          size = λ d l.
              ⊎_elim (λ (e : d ≡ c). subst (λ z. length (S' z) ≡ seated M held' z) (sym e) size')
              (λ ne. ap length (off d ne) ∙ R.size d l ∙ sym
              (count_same (λ t. eqb (held' t) d) (λ t. eqb (σ.held t) d) M.students (λ t u. G.elsewhere t d ne l))) (eq? d c);
        }

  -- she applies to the workshop c, whose bit is set
  module _ (c₀ : ℕ) (bit : (C s).bits (suc c₀) ≡ true) where
    abbrev c : ℕ
    c = suc c₀

    abbrev zs : List ℕ
    zs = (push M B c (seats_of M c) s (S c)).0

    abbrev out : ℕ
    out = (push M B c (seats_of M c) s (S c)).1

    abbrev joined : ℕ → ℕ
    joined = update σ.held s c

    c_pos : 0 < c
    c_pos = omega arith

    s_seen : Seen M B.met σ s c
    s_seen = bit_seen M B O E σ I C S R s c bit

    free : σ.held s ≡ 0
    free = I.free s in_hand

    not_hand : (h : ℕ) → σ.held h ≡ c → h ≡ s → ⊥
    not_hand h e q = omega (arith, free, ap σ.held q)

    knows : (h : ℕ) → Seen M B.met σ h c → Known (flip M.paired) (flip B.met) c h
    knows h v = known_by M B O B.met E σ h c v

    -- at the storage's capacity, and then at the quota
    at_seats : Pushed (O.workshop_rank c) (seats_of M c) s (S c) zs out
    at_seats =
        pushed M B c (O.workshop_rank c) (λ h. Seen M B.met σ h c × (B.never h c ≡ false))
        (λ x y vx vy e. before_rank M B O B.met E c x y (knows x vx.0) (knows y vy.0) e)
        (λ x y vx vy e. not_before_rank M B O B.met E c x y (knows x vx.0) (knows y vy.0) vy.1 e)
        (seats_of M c) s (S c) (omega (arith, seats_of_lem M c, R.size c c_pos, I.within c c_pos)) (s_seen, bit_possible M B O E σ I C S R s c bit)
        (λ y m. (holder_seen M B O E σ I C S R c y c_pos (R.sits c y c_pos m), holder_possible M B O E σ I C S R c y c_pos (R.sits c y c_pos m)))
        (λ y m e.
        not_hand y (R.sits c y c_pos m)
        (sym (E.full.workshops.strict c s y (knows s s_seen).option (knows y (holder_seen M B O E σ I C S R c y c_pos (R.sits c y c_pos m))).option e)))
        (R.ranked c c_pos)

    pub P : Pushed (O.workshop_rank c) (M.quota c) s (S c) zs out
    P = subst (λ (q : ℕ). Pushed (O.workshop_rank c) q s (S c) zs out) (seats_of_lem M c) at_seats

    joins : (h : ℕ) → (h ≡ s) ⊎ Mem h (S c) → joined h ≡ c
    joins h m = ⊎_elim (λ e. update_at σ.held s c h e) (λ k. let e : σ.held h ≡ c = R.sits c h c_pos k in update_off σ.held s c h (not_hand h e) ∙ e) m

    joiner : (h : ℕ) → joined h ≡ c → (h ≡ s) ⊎ Mem h (S c)
    joiner h e = ⊎_elim inl (λ ne. inr (R.seat c h c_pos (sym (update_off σ.held s c h ne) ∙ e))) (eq? h s)

    joiner_pos : (h : ℕ) → joined h ≡ c → 1 ≤ h
    joiner_pos h e =
        ⊎_elim (λ (q : h ≡ s). omega (arith, (I.range s in_hand).0))
        (λ m. (E.wf.student h c (holder_seen M B O E σ I C S R c h c_pos (R.sits c h c_pos m)).pair).0) (joiner h e)

    -- her card and those of the others, as she applies
    module _ (C₁ : ℕ → Card) (mine₁ : (t : ℕ) → t ≡ s → C₁ t ≡ holding (C s) c) (theirs₁ : (t : ℕ) → (t ≡ s → ⊥) → C₁ t ≡ C t)
        (S' : ℕ → List ℕ) (here_zs : S' c ≡ zs) (off : (d : ℕ) → (d ≡ c → ⊥) → S' d ≡ S d) where
      reached₁ : (t : ℕ) → (C₁ t).reached ≡ (C t).reached
      reached₁ t = ⊎_elim (λ (e : t ≡ s). ap (λ k. k.reached) (mine₁ t e) ∙ ap (λ u. (C u).reached) (sym e))
          (λ ne. ap (λ k. k.reached) (theirs₁ t ne)) (eq? t s)

      bits₁ : (t : ℕ) → (C₁ t).bits ≡ (C t).bits
      bits₁ t = ⊎_elim (λ (e : t ≡ s). ap (λ k. k.bits) (mine₁ t e) ∙ ap (λ u. (C u).bits) (sym e)) (λ ne. ap (λ k. k.bits) (theirs₁ t ne)) (eq? t s)

      held₁ : (t : ℕ) → (C₁ t).held ≡ joined t
      held₁ t =
          ⊎_elim (λ (e : t ≡ s). ap (λ k. k.held) (mine₁ t e) ∙ sym (update_at σ.held s c t e))
          (λ ne. ap (λ k. k.held) (theirs₁ t ne) ∙ R.held t ∙ sym (update_off σ.held s c t ne)) (eq? t s)

      -- the workshop has room
      pub sits_tied : length (S c) < M.quota c → Chosen M B O B.met σ s c → (C' : ℕ → Card) → ((t : ℕ) → C' t ≡ C₁ t)
          → Tied M B O (close M B (joined_state M B σ s rest c) c) C' S'
      sits_tied l k C' e =
          let om : seated M joined c ≡ suc (seated M σ.held c) = one_more M B O B.met E σ I s rest wait c c_pos k in
          seated_tied c c_pos joined rest (seat M B O B.met E σ I s rest wait c c_pos k (omega (arith, R.size c c_pos))) C' S'
          (λ t. ap (λ z. z.reached) (e t) ∙ reached₁ t)
          (λ t. ap (λ z. z.held) (e t) ∙ held₁ t)
          (λ t w o b. rw (e t) (rw (bits₁ t) b))
          (λ t w b. rw (bits₁ t) at (rw (e t) at b))
          (rw here_zs P.ranked)
          (λ h m. joins h (P.inside h (rw here_zs at m)))
          (λ h q. rw here_zs (⊎_elim (λ m. m) (λ z. absurd (omega (arith, (P.room l).0, joiner_pos h q))) (P.kept h (joiner h q))))
          (ap length here_zs ∙ omega (arith, (P.room l).1, R.size c c_pos))
          off

      -- the workshop is full: out is its lowest
      module _ (full : M.quota c ≤ length (S c)) where
        out_joined : joined out ≡ c
        out_joined = joins out (P.full full).0

        out_low : (h : ℕ) → joined h ≡ c → O.workshop_rank c h ≤ O.workshop_rank c out
        out_low h q =
            ⊎_elim (λ m. let l : O.workshop_rank c h < O.workshop_rank c out = (P.full full).2 h m in omega arith)
            (λ (e : h ≡ out). omega (arith, ap (O.workshop_rank c) e)) (P.kept h (joiner h q))

        pub out_pos : 1 ≤ out
        out_pos = joiner_pos out out_joined

        pub out_lowest : Lowest M B O B.met E σ (joined_state M B σ s rest c) c (λ y v. I.seen y c v) out
        out_lowest = record { holder = out_joined; low = out_low }

        stays : (h : ℕ) → Mem h zs → h ≡ out → ⊥
        stays h m e = let l : O.workshop_rank c h < O.workshop_rank c out = (P.full full).2 h m in omega (arith, ap (O.workshop_rank c) e)

        module _ (C' : ℕ → Card) (one : (t : ℕ) → t ≡ out → C' t ≡ told c (C₁ t)) (other : (t : ℕ) → (t ≡ out → ⊥) → C' t ≡ C₁ t) where
          reached₂ : (t : ℕ) → (C' t).reached ≡ (C t).reached
          reached₂ t = ⊎_elim (λ (e : t ≡ out). ap (λ z. z.reached) (one t e)) (λ ne. ap (λ z. z.reached) (other t ne)) (eq? t out) ∙ reached₁ t

          bits_kept : (t w : ℕ) → ((t ≡ out) → (w ≡ c) → ⊥) → (C t).bits w ≡ true → (C' t).bits w ≡ true
          bits_kept t w apart b =
              let b₁ : (C₁ t).bits w ≡ true = rw (bits₁ t) b in
              ⊎_elim (λ (e : t ≡ out). rw (one t e) (rw (ne_eqb w c (apart e)) b₁)) (λ ne. rw (other t ne) b₁) (eq? t out)

          bits_were : (t w : ℕ) → (C' t).bits w ≡ true → (C t).bits w ≡ true
          bits_were t w b =
              rw (bits₁ t) at (⊎_elim (λ (e : t ≡ out). and_right (not (eqb w c)) ((C₁ t).bits w) (rw (one t e) at b)) (λ ne. rw (other t ne) at b) (eq? t out))

          -- and it drops its lowest
          pub drops_tied : (k : Chosen M B O B.met σ s c) → open? M B σ s c ≡ true → M.quota c < seated M joined c
              → Tied M B O (close M B (hand_on M B σ (out ∷ rest) (update joined out 0)) c) C' S'
          unfolding close
          drops_tied k o over =
              seated_tied c c_pos (update joined out 0) (out ∷ rest) (drop M B O B.met E σ I s rest wait c c_pos k out out_lowest) C' S'
              reached₂
              (λ t.
              ⊎_elim (λ (e : t ≡ out). ap (λ z. z.held) (one t e) ∙ sym (update_at joined out 0 t e))
              (λ ne. ap (λ z. z.held) (other t ne) ∙ held₁ t ∙ sym (update_off joined out 0 t ne)) (eq? t out))
              (λ t w ow b. bits_kept t w (λ et ew. never gone (kept_open (rw (et, ew) at ow))) b)
              bits_were
              (rw here_zs P.ranked)
              (λ h m. let m' : Mem h zs = rw here_zs at m in update_off joined out 0 h (stays h m') ∙ joins h (P.inside h m'))
              (λ h q.
              let ne : h ≡ out → ⊥ = λ e. omega (arith, update_at joined out 0 h e) in
              let j : joined h ≡ c = sym (update_off joined out 0 h ne) ∙ q in
              rw here_zs (⊎_elim (λ m. m) (λ e. absurd (ne e)) (P.kept h (joiner h j))))
              (ap length here_zs ∙ (P.full full).1 ∙ sym left_full)
              off
            where
              left_full : seated M (update joined out 0) c ≡ M.quota c
              left_full = drop_full M B O B.met E σ I s rest wait c c_pos k out out_lowest over

              gone : (close M B (hand_on M B σ (out ∷ rest) (update joined out 0)) c).deleted out c ≡ true
              gone = close_deletes M B (hand_on M B σ (out ∷ rest) (update joined out 0)) c out left_full
                  (x_below M B O E σ I s rest wait c c_pos k o out out_lowest over)

              kept_open : open? M B (close M B (hand_on M B σ (out ∷ rest) (update joined out 0)) c) out c ≡ true
                  → (close M B (hand_on M B σ (out ∷ rest) (update joined out 0)) c).deleted out c ≡ false
              kept_open z = (open_parts M B (close M B (hand_on M B σ (out ∷ rest) (update joined out 0)) c) out c z).kept

          -- a stale bit: she is dropped at once, and nothing else has changed
          module _ (shut : open? M B σ s c ≡ false) (a : (h : ℕ) → σ.held h ≡ c → O.workshop_rank c h < O.workshop_rank c s) where
            pub out_hand : out ≡ s
            out_hand = ⊎_elim (λ e. e) (λ m. absurd (omega (arith, a out (R.sits c out c_pos m), out_low s (update_at σ.held s c s refl))))
                (P.full full).0

            pub stale_tied : Tied M B O σ C' S'
            stale_tied =
                record {
                  reached = λ t. reached₂ t ∙ R.reached t;
                  held = λ t.
                      ⊎_elim (λ (e : t ≡ out). ap (λ z. z.held) (one t e) ∙ sym (ap σ.held (e ∙ out_hand) ∙ free))
                      (λ ne. ap (λ z. z.held) (other t ne) ∙ held₁ t ∙ update_off σ.held s c t (λ e. ne (e ∙ sym out_hand))) (eq? t out);
                  has = λ t w o. bits_kept t w (λ et ew. never (rw (et ∙ out_hand, ew) at o) shut) (R.has t w o);
                  from = λ t w b. R.from t w (bits_were t w b);
                  ranked = λ d l. ⊎_elim (λ (e : d ≡ c). rw e (rw here_zs P.ranked)) (λ ne. rw (off d ne) (R.ranked d l)) (eq? d c);
                  sits = λ d h l m.
                      ⊎_elim (λ (e : d ≡ c). in_zs h (rw here_zs at (rw e at m)) ∙ sym e) (λ ne. R.sits d h l (rw (off d ne) at m)) (eq? d c);
                  seat = λ d h l q.
                      ⊎_elim (λ (e : d ≡ c). subst (λ z. Mem h (S' z)) (sym e) (rw here_zs (zs_in h (q ∙ e)))) (λ ne. rw (off d ne) (R.seat d h l q))
                      (eq? d c);
                  size = λ d l.
                      ⊎_elim
                      (λ (e : d ≡ c).
                      subst (λ z. length (S' z) ≡ seated M σ.held z) (sym e)
                      (ap length here_zs ∙ omega (arith, (P.full full).1, R.size c c_pos, I.within c c_pos)))
                      (λ ne. ap length (off d ne) ∙ R.size d l) (eq? d c);
                }
              where
                in_zs : (h : ℕ) → Mem h zs → σ.held h ≡ c
                in_zs h m = ⊎_elim (λ e. absurd (stays h m (e ∙ sym out_hand))) (R.sits c h c_pos) (P.inside h m)

                zs_in : (h : ℕ) → σ.held h ≡ c → Mem h zs
                zs_in h e = ⊎_elim (λ m. m) (λ q. absurd (not_hand h e (q ∙ out_hand))) (P.kept h (inr (R.seat c h c_pos e)))
