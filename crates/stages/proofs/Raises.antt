-- One workshop: the loops over the students and the tiers, and what they give together.
use Prim.Native.Nat.{ℕ, zero, suc, ◌+◌, ◌-◌, ◌≤◌, ◌<◌, max}
use mathlib.Core.Path.{◌≡◌, refl, sym, ap, ◌∙◌}
use mathlib.Core.Logic.{◌⊎◌, inl, inr, ⊎_elim}
use mathlib.Core.Bool.{Bool, true, false, not, ◌||◌}
use mathlib.Core.List.{List}
use native.Mathlib.Omega.{arith}
use native.Mathlib.Nat.{le-max_left, le-max_right, max-le, max-eq_right, max-eq_left}
use lib.Dec.{eqb}
use lib.ListN.{length, get_or, set, replicate, length-set, length-replicate, get_or-eq_default}
use lib.Seq.{get_or-set_same, get_or-set_other}
use borrow.Author.Tests.{eq-eqb, ne_eqb, eqb-true, eqb-false, not-false}
use Rattle.base.specs.Lists.{count}
use Rattle.base.specs.Below.{any_below}
use Rattle.base.specs.Bits.{member}
use Rattle.base.proofs.Tests.{less?, eq?, or_right, or_false, bool_cases, never}
use Rattle.base.proofs.Below.{any_first, any_fails, any_none}
use Rattle.base.proofs.Members.{all_zero}
use Rattle.lgs.specs.Market.{Market, matters, Rivals, ConsistentStages}
use Rattle.lgs.specs.Stages.{stage_of, FromOne}
use Rattle.lgs.proofs.Valid.{WellFormed}
use Rattle.lgs.proofs.Matters.{matters_true}
use Rattle.lgs.proofs.Stages.{ranked, rank_agree, rank_few}
use Rattle.stages.specs.Raising.{tier_for, stands_for, Enough, Noted, Capped, Rises, Climbed, Lifted, Fit, Raised}

-- ---- the larger of two

larger_of : (a b : ℕ) → ((max a b ≡ a) × (b ≤ a)) ⊎ ((max a b ≡ b) × (a ≤ b))
larger_of a b = ⊎_elim (λ (l : b < a). inl (max-eq_left (omega arith), omega arith)) (λ (l : a ≤ b). inr (max-eq_right l, l)) (less? b a)

-- ---- the students' tiers

module _ (T x : ℕ → ℕ) where
  pub noting_none : Noted T x 0 (replicate 512 0) (replicate 514 0)
  noting_none =
      record {
        sized = length-replicate {A = ℕ} 512 0;
        sized_tops = length-replicate {A = ℕ} 514 0;
        tier = λ k l. absurd (omega arith);
        high = λ k l. absurd (omega arith);
        some = λ g l. absurd (omega (arith, all_zero 514 g));
      }

  pub noting_more : (tiers tops : List ℕ) (n g v : ℕ) → Noted T x n tiers tops → n < 512 → g ≡ T (suc n) → g ≤ 513
      → v ≡ max (get_or tops g 0) (x (suc n))
      → Noted T x (n + 1) (set tiers n g) (set tops g v)
  noting_more tiers tops n g v I l e u q =
      record {
        sized = length-set tiers n g ∙ I.sized;
        sized_tops = length-set tops g v ∙ I.sized_tops;
        tier = λ k h.
            ⊎_elim (λ (m : k < n). get_or-set_other tiers n k g 0 (λ r. omega arith) ∙ I.tier k m)
            (λ (m : n ≤ k). let r : k ≡ n = omega arith in rw r (get_or-set_same tiers n g 0 (omega (arith, I.sized)) ∙ e))
            (less? k n);
        high = λ k h. ⊎_elim (λ (m : k < n). older k m) (λ (m : n ≤ k). let r : k ≡ n = omega arith in rw r newest) (less? k n);
        some = λ h m. ⊎_elim (λ (r : h ≡ g). here h r m) (λ (r : h ≡ g → ⊥). there h r m) (eq? h g);
      }
    where
      at_g : get_or (set tops g v) g 0 ≡ v
      at_g = get_or-set_same tops g v 0 (omega (arith, I.sized_tops))

      off_g : (h : ℕ) → (h ≡ g → ⊥) → get_or (set tops g v) h 0 ≡ get_or tops h 0
      off_g h r = get_or-set_other tops g h v 0 r

      newest : x (suc n) ≤ get_or (set tops g v) (T (suc n)) 0
      newest = rw (sym e, at_g, q) (le-max_right (get_or tops g 0) (x (suc n)))

      older : (k : ℕ) → k < n → x (suc k) ≤ get_or (set tops g v) (T (suc k)) 0
      older k m =
          ⊎_elim
          (λ (r : T (suc k) ≡ g). rw (r, at_g, q) (omega (arith, I.high k m, ap (λ i. get_or tops i 0) r, le-max_left (get_or tops g 0) (x (suc n)))))
          (λ (r : T (suc k) ≡ g → ⊥). rw (off_g (T (suc k)) r) (I.high k m))
          (eq? (T (suc k)) g)

      there : (h : ℕ) → (h ≡ g → ⊥) → 0 < get_or (set tops g v) h 0
          → (k : ℕ) × (k < n + 1) × (T (suc k) ≡ h) × (x (suc k) ≡ get_or (set tops g v) h 0)
      there h r m =
          let w = I.some h (rw (off_g h r) at m) in
          (w.0, omega (arith, w.1), w.2, w.3 ∙ sym (off_g h r))

      here : (h : ℕ) → h ≡ g → 0 < get_or (set tops g v) h 0
          → (k : ℕ) × (k < n + 1) × (T (suc k) ≡ h) × (x (suc k) ≡ get_or (set tops g v) h 0)
      here h r m =
          rw (r, at_g)
          (⊎_elim
          (λ (a : (max (get_or tops g 0) (x (suc n)) ≡ get_or tops g 0) × (x (suc n) ≤ get_or tops g 0)).
          ⊎_elim
          (λ (p : 0 < get_or tops g 0). let w = I.some g p in (w.0, omega (arith, w.1), w.2, w.3 ∙ sym (q ∙ a.0)))
          (λ (p : get_or tops g 0 ≤ 0). absurd (omega (arith, ap (λ i. get_or (set tops g v) i 0) r, m, at_g, q, a.0, p)))
          (less? 0 (get_or tops g 0)))
          (λ (a : (max (get_or tops g 0) (x (suc n)) ≡ x (suc n)) × (get_or tops g 0 ≤ x (suc n))). (n, omega arith, sym e, sym (q ∙ a.0)))
          (larger_of (get_or tops g 0) (x (suc n))))

  -- student k + 1 is in the tier of student n + 1
  abbrev same_as : ℕ → ℕ → Bool
  same_as n k = eqb (T (suc k)) (T (suc n))

  -- a tier has no largest stage yet where its first student comes
  pub first_there : (tiers tops : List ℕ) (n : ℕ) → Noted T x n tiers tops → ((k : ℕ) → k < n → 1 ≤ x (suc k))
      → (eqb (T (suc n)) 0 || eqb (get_or tops (T (suc n)) 0) 0) ≡ stands_for T (suc n)
  first_there tiers tops n I low = ap (λ b. eqb (T (suc n)) 0 || b) (rw less_one (⊎_elim had had_not (bool_cases (any_below (same_as n) n))))
    where
      less_one : suc n - 1 ≡ n
      less_one = omega arith

      had : any_below (same_as n) n ≡ true → eqb (get_or tops (T (suc n)) 0) 0 ≡ not (any_below (same_as n) n)
      had b =
          let f = any_first (same_as n) n b in
          let e = eqb-true (T (suc f.0)) (T (suc n)) f.2 in
          rw (
            b,
            ne_eqb (get_or tops (T (suc n)) 0) 0
                (λ z. omega (arith, z, low f.0 f.1, I.high f.0 f.1, ap (λ g. get_or tops g 0) e)),
          )

      had_not : any_below (same_as n) n ≡ false → eqb (get_or tops (T (suc n)) 0) 0 ≡ not (any_below (same_as n) n)
      had_not b =
          rw (
            b,
            eq-eqb (get_or tops (T (suc n)) 0) 0
                (⊎_elim
                (λ (p : 0 < get_or tops (T (suc n)) 0).
                let k = I.some (T (suc n)) p in
                absurd (never (eq-eqb (T (suc k.0)) (T (suc n)) k.2) (any_fails (same_as n) n b k.0 k.1)))
                (λ (p : get_or tops (T (suc n)) 0 ≤ 0). omega arith)
                (less? 0 (get_or tops (T (suc n)) 0))),
          )

-- no tier's largest stage is above 512 where none is
pub tops_small : (T x : ℕ → ℕ) (n : ℕ) (tiers tops : List ℕ) → Noted T x n tiers tops → ((s : ℕ) → x s ≤ 512) → Capped tops
tops_small T x n tiers tops N f =
    record {
      sized = N.sized_tops;
      small = λ g.
          ⊎_elim (λ (p : 0 < get_or tops g 0). let k = N.some g p in omega (arith, k.3, f (suc k.0))) (λ (p : get_or tops g 0 ≤ 0). omega arith)
          (less? 0 (get_or tops g 0));
    }

-- ---- how many stages there can be: one for each tier of a workshop, and one for each student in none

module _ (M : Market) (wf : WellFormed M) (w : ℕ) where
  abbrev tier : ℕ → ℕ
  tier = tier_for M w

  in_tier_lem : (s : ℕ) → (tier s ≡ 0 → ⊥) → matters M w s ≡ true
  in_tier_lem s n =
      ⊎_elim (λ (b : matters M w s ≡ true). b) (λ (b : matters M w s ≡ false). absurd (n (rw b))) (bool_cases (matters M w s))

  same_stage : (stage : ℕ → ℕ) → ConsistentStages M stage → (r s : ℕ) → (tier s ≡ 0 → ⊥) → tier r ≡ tier s → stage r ≡ stage s
  same_stage stage C r s n e =
      let a = in_tier_lem r (λ z. n (sym e ∙ z)) in
      let b = in_tier_lem s n in
      let f : tier r ≡ M.workshop_tier w r = rw a in
      let g : tier s ≡ M.workshop_tier w s = rw b in
      C.together w r s (record { first = a; second = b }) (sym f ∙ e ∙ g)

  stands : (stage : ℕ → ℕ) → ConsistentStages M stage → (s : ℕ) → 1 ≤ s → s ≤ M.students
      → (r : ℕ) × (1 ≤ r) × (r ≤ M.students) × (stands_for tier r ≡ true) × (stage r ≡ stage s)
  stands stage C s l u =
      ⊎_elim (λ (b : stands_for tier s ≡ true). (s, l, u, b, refl)) (λ (b : stands_for tier s ≡ false). another b) (bool_cases (stands_for tier s))
    where
      another : stands_for tier s ≡ false → (r : ℕ) × (1 ≤ r) × (r ≤ M.students) × (stands_for tier r ≡ true) × (stage r ≡ stage s)
      another b =
          let c = or_false (eqb (tier s) 0) _ b in
          let f = any_first (λ k. eqb (tier (suc k)) (tier s)) (s - 1) (not-false _ c.1) in
          let r = suc f.0 in
          let e : tier r ≡ tier s = eqb-true (tier r) (tier s) f.2 in
          let less : suc f.0 - 1 ≡ f.0 = omega arith in
          let first : any_below (λ k. eqb (tier (suc k)) (tier r)) (suc f.0 - 1) ≡ false =
          rw (less, e) (any_none (λ k. eqb (tier (suc k)) (tier s)) f.0 f.3) in
          (r, omega arith, omega (arith, f.1), or_right (eqb (tier r) 0) _ (ap not first), same_stage stage C r s (eqb-false (tier s) 0 c.0) e)

  pub kinds_enough : Enough M (count (stands_for tier) M.students)
  kinds_enough =
      record {
        within = λ stage C. (
          ranked M (stands_for tier) stage,
          rank_agree M wf (stands_for tier) stage C (stands stage C),
          λ s l u. omega arith,
          rank_few M wf (stands_for tier) stage C (stands stage C),
        );
      }

-- ---- the tiers, from the best on

module _ (tops : List ℕ) where
  -- tiers 1 to g - 1 have climbed, those from g on are as they were, and `best` is the largest so far
  pub record Climbing (now : List ℕ) (best g : ℕ) : Type 0 where
    pub sized : length now ≡ 514
    pub rest : (h : ℕ) → g ≤ h → get_or now h 0 ≡ get_or tops h 0
    pub over : (h : ℕ) → 1 ≤ h → h < g → 0 < get_or tops h 0 → get_or tops h 0 ≤ get_or now h 0
    pub rises : (h i : ℕ) → 1 ≤ h → h < i → i < g → 0 < get_or tops h 0 → 0 < get_or tops i 0 → get_or now h 0 < get_or now i 0
    pub least : (f : ℕ → ℕ) → Rises tops f → (h : ℕ) → 1 ≤ h → h < g → 0 < get_or tops h 0 → get_or now h 0 ≤ f h
    pub most : (h : ℕ) → 1 ≤ h → h < g → get_or now h 0 ≤ best
    pub some : 0 < best → (h : ℕ) × (1 ≤ h) × (h < g) × (0 < get_or tops h 0) × (get_or now h 0 ≡ best)
    pub small : best ≤ 512 + g

  pub climbing_none : Capped tops → Climbing tops 0 1
  climbing_none S =
      record {
        sized = S.sized;
        rest = λ h l. refl;
        over = λ h l u p. absurd (omega arith);
        rises = λ h i l m u p q. absurd (omega arith);
        least = λ f R h l u p. absurd (omega arith);
        most = λ h l u. absurd (omega arith);
        some = λ p. absurd (omega arith);
        small = omega arith;
      }

  -- an empty tier stays empty
  pub climbing_past : (now : List ℕ) (best g : ℕ) → Climbing now best g → 1 ≤ g → get_or now g 0 ≡ 0 → Climbing now best (g + 1)
  climbing_past now best g I l z =
      record {
        sized = I.sized;
        rest = λ h k. I.rest h (omega arith);
        over = λ h k v p. I.over h k (before h v p) p;
        rises = λ h i k j v p q. I.rises h i k j (before i v q) p q;
        least = λ f R h k v p. I.least f R h k (before h v p) p;
        most = λ h k v. ⊎_elim (I.most h k) (λ (q : g ≤ h). let r : h ≡ g = omega arith in omega (arith, ap (λ i. get_or now i 0) r, z)) (less? h g);
        some = λ p. let w = I.some p in (w.0, w.1, omega (arith, w.2), w.3, w.4);
        small = omega (arith, I.small);
      }
    where
      -- a tier with students is another
      before : (h : ℕ) → h < g + 1 → 0 < get_or tops h 0 → h < g
      before h v p =
          ⊎_elim (λ (q : h < g). q)
          (λ (q : g ≤ h). let r : h ≡ g = omega arith in absurd (omega (arith, p, ap (λ i. get_or tops i 0) r, I.rest g (omega arith), z)))
          (less? h g)

  -- another is above all before it and no lower than it was
  module _ (S : Capped tops) (now : List ℕ) (best g need : ℕ) (I : Climbing now best g) (l : 1 ≤ g) (u : g < 514)
      (p : 0 < get_or now g 0) (e : need ≡ max (get_or now g 0) (best + 1)) where
    at_g : get_or (set now g need) g 0 ≡ need
    at_g = get_or-set_same now g need 0 (omega (arith, I.sized))

    off_g : (h : ℕ) → (h ≡ g → ⊥) → get_or (set now g need) h 0 ≡ get_or now h 0
    off_g h r = get_or-set_other now g h need 0 r

    same : get_or now g 0 ≡ get_or tops g 0
    same = I.rest g (omega arith)

    above : (get_or tops g 0 ≤ need) × (best < need)
    above = (omega (arith, same, e, le-max_left (get_or now g 0) (best + 1)), omega (arith, e, le-max_right (get_or now g 0) (best + 1)))

    needed : (f : ℕ → ℕ) → Rises tops f → need ≤ f g
    needed f R = rw e (max-le (omega (arith, same, R.over g l (omega (arith, same)))) (⊎_elim later first (less? 0 best)))
      where
        later : 0 < best → best + 1 ≤ f g
        later q =
            let w = I.some q in
            omega (arith, w.4, I.least f R w.0 w.1 w.2 w.3, R.rises w.0 g w.1 w.2 w.3 (omega (arith, same)))

        first : best ≤ 0 → best + 1 ≤ f g
        first q = omega (arith, q, p, same, R.over g l (omega (arith, same)))

    pub climbing_more : Climbing (set now g need) need (g + 1)
    climbing_more =
        record {
          sized = length-set now g need ∙ I.sized;
          rest = λ h k. off_g h (λ r. omega arith) ∙ I.rest h (omega arith);
          over = λ h k v q. split h v (λ x. get_or tops h 0 ≤ x) (λ r. I.over h k r q) (λ r. let a = above.0 in rw r a);
          rises = rising;
          least = λ f R h k v q. split h v (λ x. x ≤ f h) (λ r. I.least f R h k r q) (λ r. let a = needed f R in rw r a);
          most = λ h k v. split h v (λ x. x ≤ need) (λ r. omega (arith, I.most h k r, above.1)) (λ r. omega arith);
          some = λ q. (g, l, omega arith, omega (arith, same), at_g);
          small = rw e (max-le (omega (arith, same, S.small g)) (omega (arith, I.small)));
        }
      where
        -- what holds of the tiers before, and of this one
        split : (h : ℕ) → h < g + 1 → (P : ℕ → Type 0) → (h < g → P (get_or now h 0)) → (h ≡ g → P need) → P (get_or (set now g need) h 0)
        split h v P old new =
            ⊎_elim (λ (q : h < g). rw (off_g h (λ r. omega arith)) (old q))
            (λ (q : g ≤ h). let r : h ≡ g = omega arith in rw (ap (λ i. get_or (set now g need) i 0) r ∙ at_g) (new r))
            (less? h g)

        rising : (h i : ℕ) → 1 ≤ h → h < i → i < g + 1 → 0 < get_or tops h 0 → 0 < get_or tops i 0
            → get_or (set now g need) h 0 < get_or (set now g need) i 0
        rising h i k j v q r =
            rw (off_g h (λ r. omega arith))
            (split i v (λ x. get_or now h 0 < x) (λ s. I.rises h i k j s q r) (λ s. omega (arith, I.most h k (omega arith), above.1)))

  -- nothing is asked of who is in no tier here
  pub climbed : Capped tops → (now : List ℕ) (best g : ℕ) {none : ℕ} → Climbing now best g → 514 ≤ g → none ≡ 0 → Climbed tops (set now 0 none) best
  climbed S now best g {none = none} I u nothing =
      record {
        sized = length-set now 0 none ∙ I.sized;
        zero = first;
        all = record {
          over = λ h l p. rw (other h l) (I.over h l (inside h p) p);
          rises = λ h i l k p q. rw (other h l, other i (omega arith)) (I.rises h i l k (inside i q) p q);
        };
        least = λ f R h l p. rw (other h l) (I.least f R h l (inside h p) p);
        most = most;
        some = λ p. let w = I.some p in (w.0, w.1, w.3, other w.0 w.1 ∙ w.4);
      }
    where
      first : get_or (set now 0 none) 0 0 ≡ 0
      first = get_or-set_same now 0 none 0 (omega (arith, I.sized)) ∙ nothing

      other : (h : ℕ) → 1 ≤ h → get_or (set now 0 none) h 0 ≡ get_or now h 0
      other h l = get_or-set_other now 0 h none 0 (λ r. omega arith)

      -- a tier with students is one of the list
      inside : (h : ℕ) → 0 < get_or tops h 0 → h < g
      inside h p =
          ⊎_elim (λ (q : h < g). q) (λ (q : g ≤ h). absurd (omega (arith, p, get_or-eq_default tops 0 {n = h} (omega (arith, S.sized)))))
          (less? h g)

      most : (h : ℕ) → get_or (set now 0 none) h 0 ≤ best
      most zero = omega (arith, first)
      most (suc h) =
          rw (other (suc h) (omega arith))
          (⊎_elim (λ (q : suc h < g). I.most (suc h) (omega arith) q)
          (λ (q : g ≤ suc h). omega (arith, get_or-eq_default now 0 {n = suc h} (omega (arith, I.sized))))
          (less? (suc h) g))

-- ---- together

module _ (M : Market) (w n : ℕ) (old new tiers tops needs : List ℕ) (moved top : ℕ)
    (students : M.students ≡ n)
    (named : (s : ℕ) → M.paired s w ≡ true → (1 ≤ s) × (s ≤ n))
    (low : (s : ℕ) → M.paired s w ≡ true → 1 ≤ M.workshop_tier w s)
    (F : Fit M old)
    (N : Noted (tier_for M w) (stage_of old) n tiers tops)
    (C : Climbed tops needs top)
    (L : Lifted M tiers needs n old new moved) where
  -- the tier of a student who matters
  tier_is : (s : ℕ) → matters M w s ≡ true → tier_for M w s ≡ M.workshop_tier w s
  tier_is s m = rw m

  -- of students by number, what is noted by position
  raised_to : (s : ℕ) → 1 ≤ s → s ≤ n → stage_of new s ≡ max (stage_of old s) (get_or needs (tier_for M w s) 0)
  raised_to zero l u = absurd (omega arith)
  raised_to (suc k) l u = rw (sym (N.tier k (omega arith))) (L.stage k (omega arith))

  top_of : (s : ℕ) → 1 ≤ s → s ≤ n → stage_of old s ≤ get_or tops (tier_for M w s) 0
  top_of zero l u = absurd (omega arith)
  top_of (suc k) l u = N.high k (omega arith)

  -- a student who matters is one of the market, her tier has students, and she gets what it needs
  module _ (s : ℕ) (m : matters M w s ≡ true) where
    hers : (1 ≤ s) × (s ≤ n)
    hers = named s (matters_true M w s m).1

    tier_low : 1 ≤ tier_for M w s
    tier_low = omega (arith, tier_is s m, low s (matters_true M w s m).1)

    filled : 0 < get_or tops (tier_for M w s) 0
    filled = omega (arith, F.from_one s hers.0 (omega (arith, hers.1, students)), top_of s hers.0 hers.1)

    gets : stage_of new s ≡ get_or needs (tier_for M w s) 0
    gets =
        raised_to s hers.0 hers.1
        ∙ max-eq_right (omega (arith, top_of s hers.0 hers.1, C.all.over (tier_for M w s) tier_low filled))

  -- somebody in a tier that has students
  one_in : (g : ℕ) → 1 ≤ g → 0 < get_or tops g 0
      → (s : ℕ) × (1 ≤ s) × (s ≤ n) × (tier_for M w s ≡ g) × (stage_of old s ≡ get_or tops g 0) × (matters M w s ≡ true)
  one_in g l p =
      let k = N.some g p in
      (suc k.0, omega arith, omega (arith, k.1), k.2, k.3, matter (suc k.0) k.2)
    where
      matter : (s : ℕ) → tier_for M w s ≡ g → matters M w s ≡ true
      matter s e =
          ⊎_elim (λ (b : matters M w s ≡ true). b)
          (λ (b : matters M w s ≡ false). let z : tier_for M w s ≡ 0 = rw b in absurd (omega (arith, e, z)))
          (bool_cases (matters M w s))

  same_past : (s : ℕ) → ((1 ≤ s) × (s ≤ n) → ⊥) → stage_of new s ≡ stage_of old s
  same_past zero o = refl
  same_past (suc k) o = L.past k (⊎_elim (λ (q : k < n). absurd (o (omega arith, omega arith))) (λ (q : n ≤ k). q) (less? k n))

  grow : (s : ℕ) → stage_of old s ≤ stage_of new s
  grow zero = omega arith
  grow (suc k) =
      ⊎_elim (λ (q : k < n). rw (L.stage k q) (le-max_left (get_or old k 0) (get_or needs (get_or tiers k 0) 0)))
      (λ (q : n ≤ k). omega (arith, L.past k q))
      (less? k n)

  -- no higher than any assignment that agrees
  module _ (σ : ℕ → ℕ) (one : FromOne M σ) (A : ConsistentStages M σ) (under : (s : ℕ) → 1 ≤ s → s ≤ M.students → stage_of old s ≤ σ s) where
    -- the assignment's stage of a tier: that of somebody in it
    stage_at : (g : ℕ) → (0 < get_or tops g 0) ⊎ (get_or tops g 0 ≤ 0) → ℕ
    stage_at g (inl p) = σ (suc (N.some g p).0)
    stage_at g (inr p) = 0

    stage_is : (g s : ℕ) (d : (0 < get_or tops g 0) ⊎ (get_or tops g 0 ≤ 0)) → 1 ≤ g → matters M w s ≡ true → tier_for M w s ≡ g → stage_at g d ≡ σ s
    unfolding stage_at one_in
    stage_is g s (inl p) l m e =
        let o = one_in g l p in
        A.together w o.0 s (record { first = o.5; second = m }) (sym (tier_is o.0 o.5) ∙ o.3 ∙ sym e ∙ tier_is s m)
    stage_is g s (inr p) l m e = absurd (omega (arith, p, ap (λ i. get_or tops i 0) e, filled s m))

    tier_stage : ℕ → ℕ
    tier_stage g = stage_at g (less? 0 (get_or tops g 0))

    tier_stage_is : (s : ℕ) → matters M w s ≡ true → tier_stage (tier_for M w s) ≡ σ s
    unfolding tier_stage
    tier_stage_is s m = stage_is (tier_for M w s) s (less? 0 (get_or tops (tier_for M w s) 0)) (tier_low s m) m refl

    -- it rises over the tiers that have students
    rise : Rises tops tier_stage
    rise = record { over = over; rises = rises }
      where
        over : (g : ℕ) → 1 ≤ g → 0 < get_or tops g 0 → get_or tops g 0 ≤ tier_stage g
        over g l p =
            let o = one_in g l p in
            omega (
              arith,
              o.4,
              under o.0 o.1 (omega (arith, o.2, students)),
              ap tier_stage (sym o.3) ∙ tier_stage_is o.0 o.5,
            )

        rises : (g h : ℕ) → 1 ≤ g → g < h → 0 < get_or tops g 0 → 0 < get_or tops h 0 → tier_stage g < tier_stage h
        rises g h l k p q =
            let o = one_in g l p in
            let r = one_in h (omega arith) q in
            omega (
              arith,
              A.earlier w o.0 r.0 (record { first = o.5; second = r.5 })
                  (omega (arith, k, o.3, r.3, tier_is o.0 o.5, tier_is r.0 r.5)),
              ap tier_stage (sym o.3) ∙ tier_stage_is o.0 o.5,
              ap tier_stage (sym r.3) ∙ tier_stage_is r.0 r.5,
            )

    still_under : (s : ℕ) → 1 ≤ s → s ≤ M.students → stage_of new s ≤ σ s
    still_under s l u =
        ⊎_elim
        (λ (m : matters M w s ≡ true).
        omega (arith, gets s m, C.least tier_stage rise (tier_for M w s) (tier_low s m) (filled s m), tier_stage_is s m))
        (λ (m : matters M w s ≡ false).
        let z : tier_for M w s ≡ 0 = rw m in
        omega (
          arith,
          raised_to s l (omega (arith, u, students)),
          ap (λ g. get_or needs g 0) z ∙ C.zero,
          max-eq_left {n = stage_of old s} {m = get_or needs (tier_for M w s) 0} (omega (arith, ap (λ g. get_or needs g 0) z ∙ C.zero)),
          under s l u,
        ))
        (bool_cases (matters M w s))

  pub raised : Raised M w n old new moved top
  raised =
      record {
        sized = L.sized;
        grows = grow;
        below = λ B. record { least = λ σ one A s l u. still_under σ one A (B.least σ one A) s l u };
        agrees = record { earlier = earlier; together = together };
        noticed = noticed;
        some = raises L.some;
        within = within;
        tall = tall;
      }
    where
      earlier : (s t : ℕ) → Rivals M w s t → M.workshop_tier w s < M.workshop_tier w t → stage_of new s < stage_of new t
      earlier s t R k =
          omega (
            arith,
            gets s R.first,
            gets t R.second,
            C.all.rises (tier_for M w s) (tier_for M w t) (tier_low s R.first) (omega (arith, k, tier_is s R.first, tier_is t R.second))
                (filled s R.first) (filled t R.second),
          )

      together : (s t : ℕ) → Rivals M w s t → M.workshop_tier w s ≡ M.workshop_tier w t → stage_of new s ≡ stage_of new t
      together s t R e =
          gets s R.first ∙ ap (λ g. get_or needs g 0) (tier_is s R.first ∙ e ∙ sym (tier_is t R.second)) ∙ sym (gets t R.second)

      noticed : (s v : ℕ) → stage_of old s < stage_of new s → M.paired s v ≡ true → member moved v ≡ true
      noticed zero v l p = absurd (omega arith)
      noticed (suc k) v l p = L.noticed k v l p

      raises : (moved ≡ 0) ⊎ ((k : ℕ) × (k < n) × (get_or old k 0 < get_or new k 0))
          → (moved ≡ 0) ⊎ ((s : ℕ) × (1 ≤ s) × (s ≤ n) × (stage_of old s < stage_of new s))
      raises (inl z) = inl z
      raises (inr k) = inr (suc k.0, omega arith, omega (arith, k.1), k.2)

      within : (k : ℕ) → top ≤ k → ((s : ℕ) → stage_of old s ≤ k) → (s : ℕ) → stage_of new s ≤ k
      within k l f zero = omega arith
      within k l f (suc i) =
          ⊎_elim (λ (q : i < n). rw (L.stage i q) (max-le (f (suc i)) (omega (arith, l, C.most (get_or tiers i 0)))))
          (λ (q : n ≤ i). omega (arith, L.past i q, f (suc i)))
          (less? i n)

      tall : 0 < top → (s : ℕ) × (1 ≤ s) × (s ≤ n) × (stage_of new s ≡ top)
      tall p =
          let g = C.some p in
          let o = one_in g.0 g.1 g.2 in
          (o.0, o.1, o.2, gets o.0 o.5 ∙ ap (λ i. get_or needs i 0) o.3 ∙ g.3)
