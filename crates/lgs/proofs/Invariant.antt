-- What holds of every state of the staged rule (`Inv`), under a profile that fits the tiers and the results of the interviews Vs, and what
-- follows at once: what a student has chosen is acceptable, and nothing better can be had.
use Prim.Native.Nat.{ℕ, ◌≤◌, ◌<◌}
use mathlib.Core.Path.{◌≡◌, refl, sym, subst, ◌∙◌}
use mathlib.Core.Logic.{◌⊎◌, inl, inr, ⊎_elim}
use mathlib.Core.Bool.{Bool, true, false, not, ◌&&◌}
use mathlib.Core.List.{Memᴰ as Mem}
use native.Mathlib.Omega.{arith}
use native.Mathlib.Nat.{eq-or-lt_of_le}
use lib.Dec.{eqb}
use borrow.Author.Tests.{eqb-true, eqb-false, eq-eqb, ltb-true, ltb-false, not-true}
use Rattle.base.proofs.Tests.{bool_cases, never, is_false, and_left, and_right, and_false, or_true, or_false, less?}
use Rattle.base.proofs.Members.{NoDup}
use Rattle.lgs.specs.Market.{Market, Results, student_outside, workshop_outside, scored_lower, outscored}
use Rattle.lgs.specs.Profiles.{Profile, Acceptable, Stable, outside_or, flip, seated}
use Rattle.lgs.specs.Rule.{State, start, interviewed, unopened, declined, open?}
use Rattle.lgs.proofs.Valid.{Possible, by_lower_score, outscored_by}
use Rattle.lgs.proofs.Sides.{Known, real, by_score, no_worse}
use Rattle.lgs.proofs.Optimal.{Unattainable}
use Rattle.lgs.proofs.Setting.{Setting}

module _ (M : Market) (B : Results) where
  -- what it is to be open, in its parts
  pub record Open (σ : State) (s w : ℕ) : Type 0 where
    pub interview : interviewed σ.interviews s w ≡ true
    pub tier : M.student_tier s w ≡ σ.reached s
    pub kept : σ.deleted s w ≡ false
    pub welcome : unopened M B s w ≡ false

  pub open_parts : (σ : State) (s w : ℕ) → open? M B σ s w ≡ true → Open σ s w
  unfolding open?
  open_parts σ s w e =
      let r : (eqb (M.student_tier s w) (σ.reached s) && (not (σ.deleted s w) && not (unopened M B s w))) ≡ true =
      and_right (interviewed σ.interviews s w) _ e in
      let q : (not (σ.deleted s w) && not (unopened M B s w)) ≡ true = and_right (eqb (M.student_tier s w) (σ.reached s)) _ r in
      record {
        interview = and_left (interviewed σ.interviews s w) _ e;
        tier = eqb-true _ _ (and_left (eqb (M.student_tier s w) (σ.reached s)) _ r);
        kept = not-true _ (and_left (not (σ.deleted s w)) _ q);
        welcome = not-true _ (and_right (not (σ.deleted s w)) _ q);
      }

  pub open_make : (σ : State) (s w : ℕ) → Open σ s w → open? M B σ s w ≡ true
  unfolding open?
  open_make σ s w k = rw (k.interview, eq-eqb _ _ k.tier, k.kept, k.welcome)

  -- what an interview opened did not end in never
  pub unopened_possible : (s w : ℕ) → unopened M B s w ≡ false → B.never s w ≡ false
  unfolding unopened
  unopened_possible s w e = (or_false (B.never s w) _ e).0

module _ (M : Market) (Vs : ℕ → ℕ → Bool) where
  -- an interview that was held
  pub record Seen (σ : State) (s w : ℕ) : Type 0 where
    pub pair : M.paired s w ≡ true
    pub seen : Vs s w ≡ true
    pub tier : M.student_tier s w ≤ σ.reached s
    pub outside : M.workshop_tier w s ≤ workshop_outside M w
    pub seats : 1 ≤ M.quota w

module _ (M : Market) (O : Profile) where
  -- why a pair is deleted
  pub data Gone (σ : State) (s c : ℕ) : Type 0 where
    seatless : M.quota c ≡ 0 → Gone σ s c
    beyond : workshop_outside M c < M.workshop_tier c s → Gone σ s c
    taken : M.quota c ≤ seated M σ.held c → ((h : ℕ) → σ.held h ≡ c → O.workshop_rank c h < O.workshop_rank c s) → Gone σ s c

module _ (M : Market) (B : Results) (O : Profile) (Vs : ℕ → ℕ → Bool) where
  -- x is the best of what is open to the student, the outside option included
  pub record Chosen (σ : State) (s x : ℕ) : Type 0 where
    pub tier : M.student_tier s x ≡ σ.reached s
    pub known : Known M.paired Vs s x
    pub top : (d : ℕ) → open? M B σ s d ≡ true → O.student_rank s x ≤ O.student_rank s d
    pub none : O.student_rank s x ≤ O.student_rank s 0
    pub real : 0 < x → (interviewed σ.interviews s x ≡ true) × (unopened M B s x ≡ false)

  pub record Inv (σ : State) : Type 0 where
    -- the interviews held; a workshop in a tier reached was interviewed or deleted; one in a tier left behind is deleted or has declined
    pub seen : (s w : ℕ) → interviewed σ.interviews s w ≡ true → Seen M Vs σ s w
    pub swept : (s w : ℕ) → M.paired s w ≡ true → M.student_tier s w ≤ σ.reached s
        → (interviewed σ.interviews s w ≡ true) ⊎ (σ.deleted s w ≡ true)
    pub past : (s w : ℕ)
        → interviewed σ.interviews s w ≡ true
        → M.student_tier s w < σ.reached s
        → (σ.deleted s w ≡ true) ⊎ (unopened M B s w ≡ true)
    pub outside : (s : ℕ) → σ.reached s ≤ student_outside M s
    -- who is held has what she chose, and so has who neither waits nor is held; who waits is held nowhere, is a student, and waits once
    pub chosen : (s : ℕ) → 0 < σ.held s → Chosen σ s (σ.held s)
    pub settled : (s : ℕ) → 1 ≤ s → s ≤ M.students → Mem s σ.waiting ⊎ Chosen σ s (σ.held s)
    pub free : (s : ℕ) → Mem s σ.waiting → σ.held s ≡ 0
    pub range : (s : ℕ) → Mem s σ.waiting → (1 ≤ s) × (s ≤ M.students)
    pub distinct : NoDup σ.waiting
    -- what was deleted at the start stays deleted; what is deleted is gone for a reason, and no stable matching has it
    pub begun : (s w : ℕ) → (start M B).deleted s w ≡ true → σ.deleted s w ≡ true
    pub gone : (s c : ℕ) → M.paired s c ≡ true → σ.deleted s c ≡ true → Gone M O σ s c
    pub lost : (s c : ℕ) → M.paired s c ≡ true → σ.deleted s c ≡ true → Unattainable M O s c
    pub within : (c : ℕ) → 0 < c → seated M σ.held c ≤ M.quota c

module _ (M : Market) (B : Results) (O : Profile) (Vs : ℕ → ℕ → Bool) (E : Setting M B O Vs) where
  -- both sides' comparison by results
  pub student_by_score : (s x y : ℕ) → Known M.paired Vs s x → Known M.paired Vs s y → Possible B.never s x
      → M.student_tier s x ≡ M.student_tier s y → scored_lower B.student_score s x y ≡ false → O.student_rank s x ≤ O.student_rank s y
  student_by_score =
      by_score M.paired Vs B.met B.never M.student_tier (scored_lower B.student_score) O.student_rank E.full.students E.results.students
      E.distinct.students E.known

  pub workshop_by_score : (w x y : ℕ) → Known (flip M.paired) (flip Vs) w x → Known (flip M.paired) (flip Vs) w y
      → Possible (flip B.never) w x → M.workshop_tier w x ≡ M.workshop_tier w y → outscored M B w x y ≡ false
      → O.workshop_rank w x ≤ O.workshop_rank w y
  workshop_by_score =
      by_score (flip M.paired) (flip Vs) (flip B.met) (flip B.never) M.workshop_tier (outscored M B) O.workshop_rank E.full.workshops
      E.results.workshops E.distinct.workshops (λ w s. E.known s w)

  pub student_no_worse : (s x y : ℕ) → outside_or (M.paired s) x ≡ true → outside_or (M.paired s) y ≡ true → O.student_rank s x ≤ O.student_rank s y
      → M.student_tier s x ≤ M.student_tier s y
  student_no_worse =
      no_worse M.paired Vs B.met B.never M.student_tier (scored_lower B.student_score) O.student_rank E.full.students E.results.students
      E.distinct.students E.known

  pub workshop_no_worse : (w x y : ℕ) → outside_or (flip M.paired w) x ≡ true → outside_or (flip M.paired w) y ≡ true
      → O.workshop_rank w x ≤ O.workshop_rank w y
      → M.workshop_tier w x ≤ M.workshop_tier w y
  workshop_no_worse =
      no_worse (flip M.paired) (flip Vs) (flip B.met) (flip B.never) M.workshop_tier (outscored M B) O.workshop_rank E.full.workshops
      E.results.workshops E.distinct.workshops (λ w s. E.known s w)

  pub knows : (σ : State) (s w : ℕ) → Seen M Vs σ s w → Known M.paired Vs s w
  knows σ s w k = record { option = real (M.paired s) w k.pair; seen = real (Vs s) w k.seen }

  pub known_by : (σ : State) (s w : ℕ) → Seen M Vs σ s w → Known (flip M.paired) (flip Vs) w s
  known_by σ s w k = record { option = real (flip M.paired w) s k.pair; seen = real (flip Vs w) s k.seen }

  abbrev none_known : (r : ℕ → ℕ → Bool) (vs : ℕ → ℕ → Bool) (p : ℕ) → Known r vs p 0
  none_known r vs p = record { option = refl; seen = refl }

  -- the profile says never of an interviewed pair where the results do
  pub told_never : (σ : State) (s w : ℕ) → Seen M Vs σ s w → O.never s w ≡ B.never s w
  told_never σ s w k = E.never.same s w k.pair k.seen

  -- whoever the workshop has declined is below its outside option
  declined_below : (σ : State) (s w : ℕ) → Seen M Vs σ s w → declined M B s w ≡ true → O.workshop_rank w 0 < O.workshop_rank w s
  unfolding declined
  declined_below σ s w k t =
      E.results.workshops.higher w 0 s refl (known_by σ s w k).option refl (known_by σ s w k).seen
      (sym (eqb-true _ _ (and_left (eqb (M.workshop_tier w s) (workshop_outside M w)) _ t)))
      (by_lower_score M B w s 0 (ltb-true _ _ (and_right (eqb (M.workshop_tier w s) (workshop_outside M w)) _ t)))

  -- a pair whose interview opened nothing is not acceptable
  pub unopened_out : (σ : State) (s w : ℕ) → Seen M Vs σ s w → unopened M B s w ≡ true → Acceptable M O s w → ⊥
  unfolding unopened
  unopened_out σ s w k t a =
      ⊎_elim (λ n. absurd (never (told_never σ s w k ∙ n) a.possible)) (λ d. omega (arith, declined_below σ s w k d, a.workshop))
      (or_true (B.never s w) _ t)

  -- and whoever else the workshop has interviewed is above its outside option
  pub taken_in : (σ : State) (s w : ℕ) → Seen M Vs σ s w → unopened M B s w ≡ false → O.workshop_rank w s < O.workshop_rank w 0
  unfolding unopened declined
  taken_in σ s w k u = ⊎_elim better same (less? (M.workshop_tier w s) (workshop_outside M w))
    where
      t : declined M B s w ≡ false
      t = (or_false (B.never s w) _ u).1

      better : M.workshop_tier w s < workshop_outside M w → O.workshop_rank w s < O.workshop_rank w 0
      better l = E.full.workshops.keeps w s 0 (known_by σ s w k).option refl l

      apart : O.workshop_rank w s ≤ O.workshop_rank w 0 → O.workshop_rank w s < O.workshop_rank w 0
      apart le =
          ⊎_elim
          (λ e. let z : s ≡ 0 = E.full.workshops.strict w s 0 (known_by σ s w k).option refl e in absurd (omega (arith, E.wf.student s w k.pair)))
          (λ l. l)
          (eq-or-lt_of_le le)

      -- no score equals the outside option's, so that lots do not come in
      above : scored_lower B.workshop_score w s 0 ≡ false → outscored M B w s 0 ≡ true → ⊥
      above f e =
          ⊎_elim (λ l. omega (arith, l, ltb-false (B.workshop_score w s) (B.workshop_score w 0) f))
          (λ r. E.distinct.outside s w k.pair (E.known s w k.seen) r.0)
          (outscored_by M B w s 0 e)

      same : workshop_outside M w ≤ M.workshop_tier w s → O.workshop_rank w s < O.workshop_rank w 0
      same le =
          let g : M.workshop_tier w s ≡ workshop_outside M w = omega (arith, k.outside) in
          ⊎_elim (λ f. absurd (eqb-false _ _ f g))
          (λ f. apart (workshop_by_score w s 0 (known_by σ s w k) (none_known (flip M.paired) (flip Vs) w)
          (λ l. unopened_possible M B s w u) g (is_false _ (above f))))
          (and_false (eqb (M.workshop_tier w s) (workshop_outside M w)) _ t)

  -- what the student holds is acceptable to both
  pub chosen_acceptable : (σ : State) → Inv M B O Vs σ → (s x : ℕ) → 0 < x → Chosen M B O Vs σ s x → Acceptable M O s x
  chosen_acceptable σ I s x pos k =
      let v : Seen M Vs σ s x = I.seen s x (k.real pos).0 in
      record {
        pair = v.pair;
        possible = told_never σ s x v ∙ unopened_possible M B s x (k.real pos).1;
        student = ⊎_elim (λ e. let z : x ≡ 0 = E.full.students.strict s x 0 k.known.option refl e in absurd (omega arith)) (λ l. l)
            (eq-or-lt_of_le k.none);
        workshop = taken_in σ s x v (k.real pos).1;
      }

  -- an interviewed workshop that is not open is deleted or has declined
  pub closed_why : (σ : State) → Inv M B O Vs σ → (s d : ℕ)
      → interviewed σ.interviews s d ≡ true
      → open? M B σ s d ≡ false
      → (σ.deleted s d ≡ true) ⊎ (unopened M B s d ≡ true)
  closed_why σ I s d v o =
      ⊎_elim (λ less. I.past s d v less)
      (λ le. ⊎_elim inl (λ f. ⊎_elim inr (λ g. never (opens le f g) o) (bool_cases (unopened M B s d))) (bool_cases (σ.deleted s d)))
      (less? (M.student_tier s d) (σ.reached s))
    where
      opens : σ.reached s ≤ M.student_tier s d → σ.deleted s d ≡ false → unopened M B s d ≡ false → open? M B σ s d ≡ true
      opens le f g = open_make M B σ s d (record { interview = v; tier = omega (arith, (I.seen s d v).tier); kept = f; welcome = g })

  -- so it cannot be had
  pub closed_lost : (σ : State) → Inv M B O Vs σ → (s d : ℕ) → interviewed σ.interviews s d ≡ true → open? M B σ s d ≡ false → Unattainable M O s d
  closed_lost σ I s d v o =
      ⊎_elim (λ f. I.lost s d (I.seen s d v).pair f)
      (λ f ν st e. unopened_out σ s d (I.seen s d v) f (acceptable_at ν st e))
      (closed_why σ I s d v o)
    where
      acceptable_at : (ν : ℕ → ℕ) → Stable M O ν → ν s ≡ d → Acceptable M O s d
      acceptable_at ν st e = subst (λ z. Acceptable M O s z) e (st.matching.acceptable s (rw e (E.wf.workshop s d (I.seen s d v).pair).0))

  -- nothing better than the choice can be had
  pub better_lost : (σ : State) → Inv M B O Vs σ → (s x d : ℕ) → Chosen M B O Vs σ s x → 0 < d → O.student_rank s d < O.student_rank s x
      → Unattainable M O s d
  better_lost σ I s x d k pos less ν st e =
      let pair : M.paired s d ≡ true = rw e at (st.matching.acceptable s (rw e pos)).pair in
      let g : M.student_tier s d ≤ M.student_tier s x = student_no_worse s d x (real (M.paired s) d pair) k.known.option (omega arith) in
      ⊎_elim
      (λ v.
      ⊎_elim (λ o. absurd (omega (arith, k.top d o))) (λ o. closed_lost σ I s d v o ν st e) (bool_cases (open? M B σ s d)))
      (λ r. I.lost s d pair r ν st e)
      (I.swept s d pair (omega (arith, k.tier)))
