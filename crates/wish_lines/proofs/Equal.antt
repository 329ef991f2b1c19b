-- Two cases write equal lines exactly when they have, by number, the same students, pairs and order of groups.
use Prim.Native.Nat.{ℕ, zero, suc, ◌+◌, ◌≤◌, ◌<◌}
use mathlib.Core.Path.{◌≡◌, refl, sym, ap, ◌∙◌}
use mathlib.Core.Logic.{⊎_elim, ◌↔◌}
use mathlib.Core.Bool.{Bool, true, false}
use mathlib.Core.List.{List, ◌∷◌}
use mathlib.Core.List.{Memᴰ as Mem}
use native.Mathlib.Omega.{arith}
use Rattle.base.specs.Lists.{upto, keep}
use Rattle.base.proofs.Tests.{bool_cases, is_false, less?}
use Rattle.base.proofs.Digits.{keep_suc}
use Rattle.lgs.specs.Market.{Market}
use Rattle.lgs.specs.Profiles.{outside_or}
use Rattle.wish_lines.specs.Lines.{lines_text, times, position}
use Rattle.wish_lines.specs.Wishes.{options_of, groups_from, line_of, lines_from, lines_of, wish_text, Option?, Ranged, SameWishes}
use Rattle.wish_lines.proofs.Named.{keep_agree, Alike, same_groups}
use Rattle.wish_lines.proofs.Grammar.{lines_unique}
use Rattle.wish_lines.proofs.Written.{in_option, named_once, named_never, written_order, lines_formed}

-- ---- lines that are equal, one by one

module _ (M M' : Market) where
  from_same : (n n' k : ℕ) → lines_from M n k ≡ lines_from M' n' k
      → (n ≡ n') × ((s : ℕ) → k < s → s ≤ k + n → line_of M s ≡ line_of M' s)
  unfolding lines_from
  from_same zero zero k e = (refl, λ s l u. absurd (omega arith))
  from_same zero (suc n') k e = let z : ◌≡◌ {A = ℕ} 0 1 = cc in absurd (omega arith)
  from_same (suc n) zero k e = let z : ◌≡◌ {A = ℕ} 0 1 = cc in absurd (omega arith)
  from_same (suc n) (suc n') k e =
      let first : line_of M (suc k) ≡ line_of M' (suc k) = cc in
      let rest : lines_from M n (suc k) ≡ lines_from M' n' (suc k) = cc in
      let r : (n ≡ n') × ((s : ℕ) → suc k < s → s ≤ suc k + n → line_of M s ≡ line_of M' s) = from_same n n' (suc k) rest in (
        ap suc r.0,
        λ s l u.
            ⊎_elim (λ (q : suc k < s). r.1 s q (omega arith))
            (λ (q : s ≤ suc k). let t : s ≡ suc k = omega arith in rw t first)
            (less? (suc k) s),
      )

  same_from : (n k : ℕ) → ((s : ℕ) → k < s → s ≤ k + n → line_of M s ≡ line_of M' s) → lines_from M n k ≡ lines_from M' n k
  unfolding lines_from
  same_from zero k h = refl
  same_from (suc n) k h = rw (h (suc k) (omega arith) (omega arith), same_from n (suc k) (λ s l u. h s (omega arith) (omega arith)))

-- ---- the options, where one case has more workshops

keep_more : (p : ℕ → Bool) (m d : ℕ) → ((x : ℕ) → m < x → p x ≡ false) → keep p (upto (m + d)) ≡ keep p (upto m)
keep_more p m zero h = ap (λ n. keep p (upto n)) (omega arith)
keep_more p m (suc d) h =
    let e : m + suc d ≡ suc (m + d) = omega arith in
    ap (λ n. keep p (upto n)) e
    ∙ (keep_suc p (m + d) ∙ rw (h (suc (m + d)) (omega arith)) (mathlib.Core.List.append-nil _ ∙ keep_more p m d h))

module _ (M M' : Market) (R : Ranged M) (R' : Ranged M') where
  past : (N : Market) → Ranged N → (s x : ℕ) → N.workshops < x → N.paired s x ≡ false
  past N Q s x l = is_false (N.paired s x) (λ e. omega (arith, Q.workshop s x e))

  -- ---- equal lines say the same

  module _ (e : wish_text M ≡ wish_text M') where
    each : (M.students ≡ M'.students) × ((s : ℕ) → 0 < s → s ≤ 0 + M.students → line_of M s ≡ line_of M' s)
    unfolding wish_text lines_of
    each = from_same M M' M.students M'.students 0 (lines_unique (lines_of M) (lines_of M') (lines_formed M R) (lines_formed M' R') e)

    line : (s : ℕ) → 1 ≤ s → s ≤ M.students → line_of M s ≡ line_of M' s
    line s l u = each.1 s l (omega arith)

    pair : (s w : ℕ) → M.paired s w ≡ M'.paired s w
    pair s zero =
        is_false (M.paired s 0) (λ q. omega (arith, R.workshop s 0 q)) ∙ sym (is_false (M'.paired s 0) (λ q. omega (arith, R'.workshop s 0 q)))
    pair s (suc w) =
        ⊎_elim
        (λ (q : M.paired s (suc w) ≡ true).
        ⊎_elim (λ (r : M'.paired s (suc w) ≡ true). q ∙ sym r)
        (λ (r : M'.paired s (suc w) ≡ false). absurd (there q r))
        (bool_cases (M'.paired s (suc w))))
        (λ (q : M.paired s (suc w) ≡ false).
        ⊎_elim (λ (r : M'.paired s (suc w) ≡ true). absurd (back q r))
        (λ (r : M'.paired s (suc w) ≡ false). q ∙ sym r)
        (bool_cases (M'.paired s (suc w))))
        (bool_cases (M.paired s (suc w)))
      where
        there : M.paired s (suc w) ≡ true → M'.paired s (suc w) ≡ false → ⊥
        there q r =
            let k : (1 ≤ s) × (s ≤ M.students) = R.student s (suc w) q in
            omega (
              arith,
              named_once M R s k.0 k.1 (suc w) q,
              named_never M' R' s k.0 (omega (arith, each.0)) (suc w) r,
              ap (times (suc w)) (line s k.0 k.1),
            )

        back : M.paired s (suc w) ≡ false → M'.paired s (suc w) ≡ true → ⊥
        back q r =
            let k : (1 ≤ s) × (s ≤ M'.students) = R'.student s (suc w) r in
            let u : s ≤ M.students = omega (arith, each.0) in
            omega (
              arith,
              named_never M R s k.0 u (suc w) q,
              named_once M' R' s k.0 k.1 (suc w) r,
              ap (times (suc w)) (line s k.0 u),
            )

    option_too : (s x : ℕ) → Option? M s x → Option? M' s x
    option_too s zero q = refl
    option_too s (suc w) q = sym (pair s (suc w)) ∙ q

    equal_says : SameWishes M M'
    equal_says =
        record {
          students = each.0;
          pairs = pair;
          order = λ s x y l u p q.
              let a = written_order M R s l u x y p q in
              let b = written_order M' R' s l (omega (arith, each.0)) x y (option_too s x p) (option_too s y q) in
              let same : (z : ℕ) → position (line_of M s).groups z ≡ position (line_of M' s).groups z = λ z. ap (λ h. position h.groups z) (line s l u) in (
                λ t. b.0.1 (omega (arith, a.0.0 t, same x, same y)),
                λ t. a.0.1 (omega (arith, b.0.0 t, same x, same y)),
              );
        }

  -- ---- the same is written as equal lines

  module _ (S : SameWishes M M') where
    same_option : (s x : ℕ) → outside_or (M.paired s) x ≡ outside_or (M'.paired s) x
    same_option s zero = refl
    same_option s (suc w) = S.pairs s (suc w)

    same_options : (s : ℕ) → options_of M s ≡ options_of M' s
    unfolding options_of keep
    same_options s =
        ap (λ l. 0 ∷ l)
        (sym (keep_more p M.workshops M'.workshops (none M R))
        ∙ (keep_agree p p' (upto (M.workshops + M'.workshops)) (λ x m. same_option s x)
        ∙ (ap (λ n. keep p' (upto n)) (omega arith) ∙ keep_more p' M'.workshops M.workshops (none M' R'))))
      where
        p : ℕ → Bool
        p = outside_or (M.paired s)

        p' : ℕ → Bool
        p' = outside_or (M'.paired s)

        none : (N : Market) → Ranged N → (x : ℕ) → N.workshops < x → outside_or (N.paired s) x ≡ false
        none N Q zero l = absurd (omega arith)
        none N Q (suc x) l = past N Q s (suc x) l

    same_line : (s : ℕ) → 0 < s → s ≤ 0 + M.students → line_of M s ≡ line_of M' s
    unfolding line_of
    same_line s l u =
        ap (λ gs. record { student = s; groups = gs })
        (same_groups 130 (M.student_tier s) (M'.student_tier s) (options_of M s) 65 1 65 1 (omega arith) alike
        ∙ ap (λ xs. groups_from (M'.student_tier s) xs 65 1) (same_options s))
      where
        u' : s ≤ M.students
        u' = omega arith

        v' : s ≤ M'.students
        v' = omega (arith, S.students)

        option : (x : ℕ) → Mem x (options_of M s) → Option? M s x
        option x m = in_option M R s x m

        option' : (x : ℕ) → Mem x (options_of M s) → Option? M' s x
        option' x m = sym (same_option s x) ∙ option x m

        alike : Alike (M.student_tier s) (M'.student_tier s) (options_of M s) 65 1 65 1
        alike =
            record {
              order = λ x y m n. (S.order s x y l u' (option x m) (option y n)).0;
              order' = λ x y m n. (S.order s x y l u' (option x m) (option y n)).1;
              low = λ x m q. (R'.tier s x l v' (option' x m)).0;
              low' = λ x m q. (R.tier s x l u' (option x m)).0;
              high = λ x m. omega (arith, (R.tier s x l u' (option x m)).1);
              high' = λ x m. omega (arith, (R'.tier s x l v' (option' x m)).1);
            }

    same_lines : lines_of M ≡ lines_of M'
    unfolding lines_of
    same_lines = same_from M M' M.students 0 same_line ∙ ap (λ n. lines_from M' n 0) S.students

    same_text : wish_text M ≡ wish_text M'
    unfolding wish_text
    same_text = ap lines_text same_lines

  pub equal_lines : (wish_text M ≡ wish_text M') ↔ SameWishes M M'
  equal_lines = (equal_says, same_text)
