-- Turns, rounds and all rounds: what holds between turns, that the rounds come to an end, and what the stages are then.
use Prim.Native.Nat.{ℕ, zero, suc, ◌+◌, ◌-◌, ◌*◌, ◌≤◌, ◌<◌, min}
use mathlib.Core.Path.{◌≡◌, refl, sym, ◌∙◌}
use mathlib.Core.Logic.{inl, inr, ⊎_elim}
use mathlib.Core.Bool.{Bool, true, false, not, ◌&&◌, ◌||◌}
use mathlib.Core.List.{List}
use native.Mathlib.Omega.{arith}
use native.Mathlib.Nat.{min-le_left, min-eq_left, min-eq_right}
use lib.Dec.{eqb}
use lib.ListN.{length, replicate, take, length-replicate, get_or-replicate}
use lib.Seq.{length-take-le, get_or-take}
use borrow.Author.Tests.{eqb-true, eq-eqb, not-true, not-false}
use Rattle.base.specs.Lists.{one, total}
use Rattle.base.specs.Bits.{member}
use Rattle.base.proofs.Tests.{bool_cases, never, and_left, and_right, or_true, or_false, less?}
use Rattle.base.proofs.Counting.{total_le, total_less, total_within}
use Rattle.base.proofs.Members.{entry_past}
use Rattle.lgs.specs.Market.{Market, matters, Rivals, ConsistentStages}
use Rattle.lgs.specs.Stages.{stage_of, FromOne, LeastStages, NoStages}
use Rattle.lgs.proofs.Valid.{WellFormed}
use Rattle.lgs.proofs.Matters.{matters_true}
use Rattle.lgs.proofs.Stages.{outside, ranked, rank, below_few}
use Rattle.tables.proofs.Laws.{member_zero}
use Rattle.stages.specs.Raising.{Below, Enough, AgreesAt, Raised}
use Rattle.stages.specs.Rounds.{starting, turn_of, TooHigh, Going, Stepped, Rounded, Settled}
use Rattle.stages.specs.declared.rounds.Progress.{Progress}

-- where the first round starts
abbrev pub unsettled : ℕ → Progress
unsettled n = record { resting = 0; moving = true; limit = n }

-- ---- a workshop's turn is one of the round's, and the turn's workshop is that one
module _ (m : ℕ) where
  pub turn_from : (back : Bool) (v : ℕ) → 1 ≤ v → 1 ≤ turn_of m back v
  turn_from true v l = omega arith
  turn_from false v l = l

  pub turn_to : (back : Bool) (v : ℕ) → 1 ≤ v → v ≤ m → turn_of m back v ≤ m
  turn_to true v l u = omega arith
  turn_to false v l u = u

  turn_back : (back : Bool) (v i : ℕ) → 1 ≤ v → v ≤ m → turn_of m back v ≡ i → v ≡ turn_of m back i
  turn_back true v i l u e = omega arith
  turn_back false v i l u e = e

module _ (M : Market) where
  -- ---- one turn

  -- nothing is done
  pub step_skips : (w : ℕ) (own : List ℕ) (p : Progress) → member p.resting w ≡ true → Stepped M w own own p p
  step_skips w own p e =
      record {
        grows = λ s. omega arith;
        moving = λ m. inl m;
        still = λ m. m;
        rested = λ m. e;
        kept = λ m v r. r;
      }

  -- where nobody with a pair at v was raised, v's students agree as before
  agrees_still : (w n : ℕ) (own own' : List ℕ) (moved top v : ℕ) → Raised M w n own own' moved top → member moved v ≡ false → AgreesAt M own v
      → AgreesAt M own' v
  agrees_still w n own own' moved top v R e A =
      record {
        earlier = λ s t k l. omega (arith, A.earlier s t k l, stays s k.first, stays t k.second);
        together = λ s t k q. omega (arith, A.together s t k q, stays s k.first, stays t k.second);
      }
    where
      stays : (s : ℕ) → matters M v s ≡ true → stage_of own' s ≡ stage_of own s
      stays s m =
          ⊎_elim (λ (l : stage_of own s < stage_of own' s). never (R.noticed s v l (matters_true M v s m).1) e)
          (λ (l : stage_of own' s ≤ stage_of own s). omega (arith, R.grows s))
          (less? (stage_of own s) (stage_of own' s))

  -- who is above what is enough for any assignment is above one that agrees
  pub settled_none : (own : List ℕ) → Below M own → TooHigh M own → NoStages M
  settled_none own B r stage C =
      let t = r.1.within stage C in
      let s = r.2 in
      omega (arith, B.least t.0 t.2 t.1 s.0 s.1 s.2, t.3 s.0 s.1 s.2, s.3)

  -- the workshop's students are raised
  module _ (w n : ℕ) (own own' : List ℕ) (p : Progress) (moved top kinds : ℕ) (size : M.students ≡ n) (G : Going M own p)
      (R : Raised M w n own own' moved top) (E : Enough M kinds) where
    -- the smaller of two numbers that are enough
    both : Enough M (min p.limit kinds)
    both =
        ⊎_elim (λ (l : p.limit < kinds). rw (min-eq_left {n = p.limit} {m = kinds} (omega arith)) G.limit)
        (λ (l : kinds ≤ p.limit). rw (min-eq_right {n = kinds} {m = p.limit} l) E)
        (less? p.limit kinds)

    -- somebody is above what stages that agree can do with
    pub too_high : min p.limit kinds < top → NoStages M
    too_high h =
        let r : (s : ℕ) × (1 ≤ s) × (s ≤ n) × (stage_of own' s ≡ top) = R.tall (omega arith) in
        settled_none own' (R.below G.below) (min p.limit kinds, both, (r.0, r.1, omega (arith, r.2), omega (arith, h, r.3)))

    -- what the turn leaves where nobody is too high
    module _ (q : Progress) (move : q.moving ≡ (p.moving || not (eqb moved 0))) (least : q.limit ≡ min p.limit kinds) (low : top ≤ q.limit)
        (set : (x : ℕ) → member q.resting x ≡ (eqb x w || (member p.resting x && not (member moved x)))) where
      raises_going : Going M own' q
      raises_going =
          record {
            sized = R.sized;
            from_one = λ s l u. omega (arith, G.from_one s l u, R.grows s);
            below = R.below G.below;
            within = R.within M.students (omega (arith, low, least, min-le_left p.limit kinds, G.few)) G.within;
            limit = rw least both;
            few = omega (arith, least, min-le_left p.limit kinds, G.few);
            rest = λ v e.
                ⊎_elim (λ (q : eqb v w ≡ true). rw (eqb-true v w q) R.agrees)
                (λ (q : (member p.resting v && not (member moved v)) ≡ true).
                agrees_still w n own own' moved top v R (not-true _ (and_right (member p.resting v) _ q))
                (G.rest v (and_left (member p.resting v) _ q)))
                (or_true (eqb v w) _ (sym (set v) ∙ e));
          }

      raises_stepped : Stepped M w own own' p q
      raises_stepped =
          record {
            grows = R.grows;
            moving = λ m. ⊎_elim inl (λ q. ⊎_elim (λ z. never (eq-eqb moved 0 z) (not-true _ q)) (λ r. inr (r.0, r.1, omega (arith, r.2), r.3)) R.some)
                (or_true p.moving _ (sym move ∙ m));
            still = λ m. (or_false p.moving _ (sym move ∙ m)).0;
            rested = λ m. set w ∙ rw (eq-eqb w w refl);
            kept = λ m v r.
                let z : moved ≡ 0 = eqb-true moved 0 (not-false _ (or_false p.moving _ (sym move ∙ m)).1) in
                let none : member moved v ≡ false = rw z (member_zero v) in
                set v ∙ rw (none, r) (or_last (eqb v w));
          }
        where
          or_last : (b : Bool) → (b || true) ≡ true
          or_last true = refl
          or_last false = refl

      pub step_raises : Going M own' q × Stepped M w own own' p q
      step_raises = (raises_going, raises_stepped)

  -- ---- the turns of a round: those before turn i were taken
  pub record Rounding (back : Bool) (own₀ own : List ℕ) (i : ℕ) (p : Progress) : Type 0 where
    pub going : Going M own p
    pub grows : (s : ℕ) → stage_of own₀ s ≤ stage_of own s
    pub moving : p.moving ≡ true → total (stage_of own₀) M.students < total (stage_of own) M.students
    pub rested : p.moving ≡ false → (v : ℕ) → 1 ≤ v → v ≤ M.workshops → turn_of M.workshops back v < i → member p.resting v ≡ true

  pub rounding_none : (back : Bool) (own : List ℕ) (last : Progress) → Going M own (starting last) → Rounding back own own 1 (starting last)
  rounding_none back own last G =
      record {
        going = G;
        grows = λ s. omega arith;
        moving = λ m. never m refl;
        rested = λ m v l u k. absurd (omega (arith, k, turn_from M.workshops back v l));
      }

  pub rounding_more : (back : Bool) (own₀ own own' : List ℕ) (i : ℕ) (p q : Progress) → Rounding back own₀ own i p
      → Stepped M (turn_of M.workshops back i) own own' p q
      → Going M own' q
      → Rounding back own₀ own' (i + 1) q
  rounding_more back own₀ own own' i p q I S G =
      record {
        going = G;
        grows = λ s. omega (arith, I.grows s, S.grows s);
        moving = λ m.
            ⊎_elim (λ e. omega (arith, I.moving e, total_le (stage_of own) (stage_of own') M.students S.grows))
            (λ (r : (s : ℕ) × (1 ≤ s) × (s ≤ M.students) × (stage_of own s < stage_of own' s)).
            omega (
              arith,
              total_le (stage_of own₀) (stage_of own) M.students I.grows,
              total_less (stage_of own) (stage_of own') M.students r.0 r.1 r.2 S.grows r.3,
            ))
            (S.moving m);
        rested = λ m v l u k.
            ⊎_elim (λ (b : turn_of M.workshops back v < i). S.kept m v (I.rested (S.still m) v l u b))
            (λ (b : i ≤ turn_of M.workshops back v). rw (turn_back M.workshops back v i l u (omega (arith, b, k))) (S.rested m))
            (less? (turn_of M.workshops back v) i);
      }

  pub rounded : (back : Bool) (own₀ own : List ℕ) (i : ℕ) (p : Progress) → Rounding back own₀ own i p → M.workshops < i
      → Going M own p × Rounded M own₀ own p
  rounded back own₀ own i p I all =
      let last = turn_to M.workshops back in
      (I.going, record { grows = I.grows; moving = I.moving; rested = λ m v l u. I.rested m v l u (omega (arith, all, last v l u)) })

  -- ---- the rounds
  pub record Settling (own : List ℕ) (p : Progress) : Type 0 where
    pub going : Going M own p
    pub rested : p.moving ≡ false → (v : ℕ) → 1 ≤ v → v ≤ M.workshops → member p.resting v ≡ true

  pub settling_none : WellFormed M → (n : ℕ) → M.students ≡ n → 1 ≤ n → n ≤ 512 → Settling (replicate 512 1) (unsettled n)
  settling_none wf n size some few =
      record {
        going = record {
          sized = length-replicate {A = ℕ} 512 1;
          from_one = λ s l u. omega (arith, ones s l (omega arith));
          below = record { least = λ stage F C s l u. omega (arith, ones s l (omega arith), F s l u) };
          within = λ s. omega (arith, small s);
          rest = λ v r. never r (member_zero v);
          limit = record {
            within = λ stage C.
                let r = rank M wf stage C in
                (ranked M (λ s. true) stage, r.0, r.1, λ s l u. omega (arith, r.2 s l u, size));
          };
          few = omega arith;
        };
        rested = λ m. never refl m;
      }
    where
      ones : (s : ℕ) → 1 ≤ s → s ≤ 512 → stage_of (replicate 512 1) s ≡ 1
      ones zero l u = absurd (omega arith)
      ones (suc s) l u = get_or-replicate {A = ℕ} 512 s 1 0 (omega arith)

      small : (s : ℕ) → stage_of (replicate 512 1) s ≤ 1
      small zero = omega arith
      small (suc s) =
          ⊎_elim (λ (l : s < 512). omega (arith, ones (suc s) (omega arith) (omega arith)))
          (λ (l : 512 ≤ s). omega (arith, entry_past (replicate 512 1) (suc s) (omega (arith, length-replicate {A = ℕ} 512 1))))
          (less? s 512)

  -- what a round starts from
  pub going_again : (own : List ℕ) (p : Progress) → Going M own p → Going M own (starting p)
  going_again own p G =
      record {
        sized = G.sized;
        from_one = G.from_one;
        below = G.below;
        within = G.within;
        rest = G.rest;
        limit = G.limit;
        few = G.few;
      }

  pub settling_more : (own own' : List ℕ) (q : Progress) → Rounded M own own' q → Going M own' q → Settling own' q
  settling_more own own' q R G = record { going = G; rested = R.rested }

  pub settled : (own : List ℕ) (p : Progress)
      → ((s w : ℕ) → M.paired s w ≡ true → ((1 ≤ s) × (s ≤ M.students)) × ((1 ≤ w) × (w ≤ M.workshops)))
      → Settling own p → p.moving ≡ false → Settled M own
  settled own p named I still =
      record {
        sized = I.going.sized;
        from_one = I.going.from_one;
        below = I.going.below;
        agree = record {
          earlier = λ w s t R. (everywhere w s t R).earlier s t R;
          together = λ w s t R. (everywhere w s t R).together s t R;
        };
      }
    where
      everywhere : (w s t : ℕ) → Rivals M w s t → AgreesAt M own w
      everywhere w s t R =
          let hers = named s w (matters_true M w s R.first).1 in
          I.going.rest w (I.rested still w hers.1.0 hers.1.1)

  -- ---- the rounds come to an end
  abbrev pub left : List ℕ → Progress → ℕ
  left own p = 2 * (M.students * M.students - total (stage_of own) M.students) + one p.moving

  pub left_less : (own own' : List ℕ) (p q : Progress) → p.moving ≡ true → Rounded M own own' q → Going M own' q → left own' q < left own p
  left_less own own' p q e R G =
      rw e
      (⊎_elim
      (λ (f : q.moving ≡ true).
      rw f (omega (arith, R.moving f, total_within (stage_of own') M.students M.students (λ k l u. G.within k))))
      (λ (f : q.moving ≡ false). rw f (omega (arith, total_le (stage_of own) (stage_of own') M.students R.grows)))
      (bool_cases q.moving))

-- ---- what the stages are then
module _ (M : Market) (own : List ℕ) (few : M.students ≤ 512) (size : length own ≡ 512) where
  -- the students' part of the stages
  abbrev part : List ℕ
  part = take M.students own

  part_length : length part ≡ M.students
  part_length = length-take-le M.students own (omega (arith, size))

  part_same : (s : ℕ) → 1 ≤ s → s ≤ M.students → stage_of part s ≡ stage_of own s
  part_same zero l u = absurd (omega arith)
  part_same (suc s) l u = get_or-take M.students own s 0 (omega arith)

  part_below : Below M own → (stage : ℕ → ℕ) → FromOne M stage → ConsistentStages M stage → (s : ℕ) → stage_of part s ≤ stage s
  part_below B stage F C s =
      outside M part part_length (λ v. v ≤ stage s) (omega arith) s (λ l u. omega (arith, part_same s l u, B.least stage F C s l u))

module _ (M : Market) (wf : WellFormed M) (own : List ℕ) (few : M.students ≤ 512) where
  part_agree : length own ≡ 512 → ConsistentStages M (stage_of own) → ConsistentStages M (stage_of (take M.students own))
  part_agree size C =
      record {
        earlier = λ w s t R l. omega (arith, C.earlier w s t R l, same s w R.first, same t w R.second);
        together = λ w s t R e. omega (arith, C.together w s t R e, same s w R.first, same t w R.second);
      }
    where
      same : (s w : ℕ) → matters M w s ≡ true → stage_of (take M.students own) s ≡ stage_of own s
      same s w m = let r = wf.student s w (matters_true M w s m).1 in part_same M own few size s r.0 r.1

  pub settled_least : Settled M own → LeastStages M (take M.students own)
  settled_least S =
      let size : length own ≡ 512 = S.sized in
      let C : ConsistentStages M (stage_of (take M.students own)) = part_agree size S.agree in
      let least : (stage : ℕ → ℕ) → FromOne M stage → ConsistentStages M stage → (s : ℕ) → stage_of (take M.students own) s ≤ stage s =
      part_below M own few size S.below in
      record {
        whole = part_length M own few size;
        from_one = λ s l u. omega (arith, S.from_one s l u, part_same M own few size s l u);
        few = λ s.
            outside M (take M.students own) (part_length M own few size) (λ v. v ≤ M.students) (omega arith) s
            (below_few M wf (stage_of (take M.students own)) C (take M.students own) least s);
        agree = C;
        least = least;
      }
