-- Steps 2 and 3: the application of the student in hand gives a new seating of the workshop. Within its quota it keeps everybody, and beyond it
-- drops its lowest.
use Prim.Native.Nat.{ℕ, suc, ◌≤◌, ◌<◌}
use mathlib.Core.Path.{◌≡◌, refl, sym, subst, ap, ◌∙◌}
use mathlib.Core.Logic.{◌⊎◌, inl, inr, ⊎_elim}
use mathlib.Core.Bool.{Bool}
use mathlib.Core.List.Memᴰ.{cases_cons}
use mathlib.Core.List.Memᴰ.{head as here}
use mathlib.Core.List.Memᴰ.{tail as later}
use mathlib.Core.List.{List, ◌∷◌, Memᴰ as Mem}
use native.Mathlib.Omega.{arith}
use lib.Dec.{eqb}
use borrow.Author.Tests.{eq-eqb, ne_eqb}
use Rattle.base.specs.Lists.{update}
use Rattle.base.proofs.Tests.{eq?}
use Rattle.base.proofs.Counting.{count_more}
use Rattle.base.proofs.Members.{NoDup, in_first, update_at, update_off}
use Rattle.lgs.specs.Market.{Market, Results}
use Rattle.lgs.specs.Profiles.{Profile, seated}
use Rattle.lgs.specs.Rule.{State, holders, lowest_of, hand_on}
use Rattle.lgs.proofs.Setting.{Setting}
use Rattle.lgs.proofs.Invariant.{Chosen, Inv}
use Rattle.lgs.proofs.Lowest.{Lowest, lowest}
use Rattle.lgs.proofs.Close.{Seating}

module _ (M : Market) (B : Results) (O : Profile) (Vs : ℕ → ℕ → Bool) (E : Setting M B O Vs) (σ : State) (I : Inv M B O Vs σ)
    (s : ℕ) (rest : List ℕ) (wait : σ.waiting ≡ s ∷ rest) where
  in_rest : (t : ℕ) → Mem t rest → Mem t σ.waiting
  in_rest t m = rw wait (later m)

  dups : NoDup (s ∷ rest)
  dups = rw wait at I.distinct

  module _ (c : ℕ) (pos : 0 < c) (k : Chosen M B O Vs σ s c) where
    -- the workshop holds the student too
    abbrev joined : ℕ → ℕ
    joined = update σ.held s c

    abbrev joined_state : State
    joined_state = hand_on M B σ rest joined

    mine : joined s ≡ c
    mine = update_at σ.held s c s refl

    theirs : (t : ℕ) → (t ≡ s → ⊥) → joined t ≡ σ.held t
    theirs t ne = update_off σ.held s c t ne

    elsewhere₁ : (t d : ℕ) → (d ≡ c → ⊥) → 0 < d → eqb (joined t) d ≡ eqb (σ.held t) d
    elsewhere₁ t d ne l =
        ⊎_elim
        (λ (e : t ≡ s).
        ne_eqb (joined t) d (λ q. ne (sym q ∙ ap joined e ∙ mine))
        ∙ sym (ne_eqb (σ.held t) d (λ q. omega (arith, ap σ.held e, I.free s (in_first wait)))))
        (λ off. ap (λ x. eqb x d) (theirs t off))
        (eq? t s)

    pub choosers₁ : (t : ℕ) → joined t ≡ c → Chosen M B O Vs σ t c
    choosers₁ t q =
        ⊎_elim (λ (e : t ≡ s). rw e k)
        (λ off. let h : σ.held t ≡ c = sym (theirs t off) ∙ q in rw h at (I.chosen t (rw h pos)))
        (eq? t s)

    seats₁ : 1 ≤ M.quota c
    seats₁ = (I.seen s c (k.real pos).0).seats

    pub one_more : seated M joined c ≡ suc (seated M σ.held c)
    one_more =
        count_more (λ t. eqb (σ.held t) c) (λ t. eqb (joined t) c) M.students s (I.range s (in_first wait)).0 (I.range s (in_first wait)).1
        (ne_eqb (σ.held s) c (λ q. omega (arith, I.free s (in_first wait)))) (eq-eqb _ _ mine) (λ t ne. ap (λ x. eqb x c) (sym (theirs t ne)))

    -- the lowest of those that the workshop now holds
    pub lowest_joined : Lowest M B O Vs E σ joined_state c (λ y v. I.seen y c v) (lowest_of M B joined_state c (holders M B joined_state c))
    lowest_joined = lowest M B O Vs E σ joined_state c (λ y v. I.seen y c v) (λ h q. (choosers₁ h q).real pos) (omega (arith, one_more))

    chosen₁ : (t : ℕ) → 0 < joined t → Chosen M B O Vs σ t (joined t)
    chosen₁ t l =
        ⊎_elim (λ (e : t ≡ s). subst (λ u. Chosen M B O Vs σ u (joined u)) (sym e) (rw mine k))
        (λ off. rw (theirs t off) (I.chosen t (rw (theirs t off) at l)))
        (eq? t s)

    settled₁ : (t : ℕ) → 1 ≤ t → t ≤ M.students → Mem t rest ⊎ Chosen M B O Vs σ t (joined t)
    settled₁ t l u =
        ⊎_elim (λ (e : t ≡ s). inr (subst (λ v. Chosen M B O Vs σ v (joined v)) (sym e) (rw mine k)))
        (λ off.
        ⊎_elim (λ m. ⊎_elim (λ e. absurd (off e)) inl (cases_cons (rw wait at m))) (λ z. inr (rw (theirs t off) z)) (I.settled t l u))
        (eq? t s)

    free₁ : (t : ℕ) → Mem t rest → joined t ≡ 0
    free₁ t m = theirs t (λ (e : t ≡ s). dups.0 (rw e at m)) ∙ I.free t (in_rest t m)

    -- within its quota, the workshop keeps everybody
    pub seat : seated M joined c ≤ M.quota c → Seating M B O Vs σ c joined rest
    seat fits =
        record {
          elsewhere = elsewhere₁;
          choosers = choosers₁;
          seats = seats₁;
          fits = fits;
          still_full = λ f. absurd (omega (arith, one_more));
          still_above = λ f u a. absurd (omega (arith, one_more));
          chosen = chosen₁;
          settled = settled₁;
          free = free₁;
          range = λ t m. I.range t (in_rest t m);
          distinct = dups.1;
        }

    -- over its quota, it drops its lowest
    module _ (x : ℕ) (low : Lowest M B O Vs E σ joined_state c (λ y v. I.seen y c v) x) where
      abbrev left : ℕ → ℕ
      left = update joined x 0

      gone_x : left x ≡ 0
      gone_x = update_at joined x 0 x refl

      kept : (t : ℕ) → (t ≡ x → ⊥) → left t ≡ joined t
      kept t ne = update_off joined x 0 t ne

      not_x : (t : ℕ) → 0 < left t → t ≡ x → ⊥
      not_x t l e = omega (arith, gone_x, ap left e)

      x_range : (1 ≤ x) × (x ≤ M.students)
      x_range = E.wf.student x c (I.seen x c ((choosers₁ x low.holder).real pos).0).pair

      one_less : seated M joined c ≡ suc (seated M left c)
      one_less =
          count_more (λ t. eqb (left t) c) (λ t. eqb (joined t) c) M.students x x_range.0 x_range.1
          (ne_eqb (left x) c (λ q. omega (arith, gone_x))) (eq-eqb _ _ low.holder) (λ t ne. ap (λ y. eqb y c) (kept t ne))

      above : M.quota c ≤ seated M σ.held c → (u : ℕ) → ((h : ℕ) → σ.held h ≡ c → O.workshop_rank c h < O.workshop_rank c u)
          → (h : ℕ) → left h ≡ c → O.workshop_rank c h < O.workshop_rank c u
      above f u a h q =
          let nx : h ≡ x → ⊥ = not_x h (rw q pos) in
          let j : joined h ≡ c = sym (kept h nx) ∙ q in
          ⊎_elim
          (λ (e : h ≡ s).
          let xs : x ≡ s → ⊥ = λ z. nx (e ∙ sym z) in
          omega (arith, low.low h j, a x (sym (theirs x xs) ∙ low.holder)))
          (λ off. a h (sym (theirs h off) ∙ j))
          (eq? h s)

      pub drop : Seating M B O Vs σ c left (x ∷ rest)
      drop =
          record {
            elsewhere = λ t d ne l.
                ⊎_elim
                (λ (e : t ≡ x).
                ne_eqb (left t) d (λ q. omega (arith, gone_x, ap left e))
                ∙ sym (ne_eqb (joined t) d (λ q. ne (sym q ∙ ap joined e ∙ low.holder)))
                ∙ elsewhere₁ t d ne l)
                (λ off. ap (λ y. eqb y d) (kept t off) ∙ elsewhere₁ t d ne l)
                (eq? t x);
            choosers = λ t q. choosers₁ t (sym (kept t (not_x t (rw q pos))) ∙ q);
            seats = seats₁;
            fits = omega (arith, one_less, one_more, I.within c pos);
            still_full = λ f. omega (arith, one_less, one_more);
            still_above = above;
            chosen = λ t l. let nx : t ≡ x → ⊥ = not_x t l in rw (kept t nx) (chosen₁ t (rw (kept t nx) at l));
            settled = λ t l u.
                ⊎_elim (λ e. inl (here e)) (λ off. ⊎_elim (λ m. inl (later m)) (λ z. inr (rw (kept t off) z)) (settled₁ t l u)) (eq? t x);
            free = λ t m. ⊎_elim (λ (e : t ≡ x). ap left e ∙ gone_x) (λ off. kept t off ∙ ⊎_elim (λ e. absurd (off e)) (free₁ t) (cases_cons m)) (eq? t x);
            range = λ t m. ⊎_elim (λ (e : t ≡ x). rw e x_range) (λ n. I.range t (in_rest t n)) (cases_cons m);
            distinct = (λ m. omega (arith, free₁ x m, low.holder), dups.1);
          }

      -- after a drop the workshop is full
      pub drop_full : M.quota c < seated M joined c → seated M left c ≡ M.quota c
      drop_full over = omega (arith, one_less, one_more, I.within c pos)
