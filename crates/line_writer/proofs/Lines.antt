-- A student's line from the sets of her workshops, and the lines of a case one after the other.
use Prim.Native.Nat.{ℕ, zero, suc, ◌+◌, ◌-◌, ◌*◌, ◌≤◌, ◌<◌}
use mathlib.Core.Path.{◌≡◌, refl, sym, ap, ◌∙◌}
use mathlib.Core.Logic.{⊎_elim}
use mathlib.Core.Bool.{Bool, true, false, ◌&&◌}
use mathlib.Core.List.{List, [], ◌∷◌, ◌++◌, map, flat_map, append_assoc, append-nil}
use Rattle.std.specs.Prelude.{None}
use native.Mathlib.Omega.{arith}
use native.Mathlib.Nat.{eq-or-lt_of_le}
use native.Mathlib.Numerals.{add-one}
use lib.Dec.{eqb}
use lib.ListN.{length, get_or, replicate, length-replicate}
use Rattle.base.specs.Lists.{cons_if, upto, keep}
use Rattle.base.specs.Bits.{member, members}
use Rattle.base.proofs.Tests.{bool_cases, is_false}
use Rattle.base.proofs.Members.{all_zero}
use Rattle.base.proofs.Digits.{keep_suc, keep_same}
use Rattle.lgs.specs.Market.{Market, student_outside}
use Rattle.lgs.specs.Profiles.{outside_or}
use Rattle.format.specs.Printed.{decimal}
use Rattle.format.specs.Layout.{row_at, row_count}
use Rattle.format.specs.Refusals.{case_causes}
use Rattle.format.specs.Engine.{market_in}
use Rattle.format.specs.Buffers.{with_head}
use Rattle.format.proofs.Causes.{table_none}
use Rattle.format.proofs.Cases.{case_clean}
use Rattle.format.proofs.Positions.{student_outside_at}
use Rattle.case_tests.specs.Checked.{pair_count, case_refusal}
use Rattle.putting.specs.Put.{Put}
use Rattle.putting.proofs.Laws.{put_then}
use Rattle.putting.proofs.UpTo.{put_head}
use Rattle.wish_lines.specs.Lines.{joined, group_text, line_text, lines_text}
use Rattle.wish_lines.specs.Wishes.{options_of, at_tier, groups_from, line_of, lines_from, lines_of, wish_text, Ranged}
use Rattle.wish_lines.proofs.Appending.{lines_on}
use Rattle.wish_lines.proofs.Ranged.{student_row, ranged, text_room_lem}
use Rattle.line_writer.specs.Groups.{items_of, groups_of, Empty, Gathered}

pub no_sets : Empty (replicate 66 0)
no_sets = record { sized = length-replicate {A = ℕ} 66 0; zero = all_zero 66 }

-- ---- what is kept of a list

keep_keep : (p q : ℕ → Bool) (xs : List ℕ) → keep p (keep q xs) ≡ keep (λ x. q x && p x) xs
unfolding keep
keep_keep p q [] = refl
keep_keep p q (x ∷ xs) =
    ⊎_elim (λ (e : q x ≡ true). rw e (ap (cons_if (p x) x) (keep_keep p q xs))) (λ (e : q x ≡ false). rw e (keep_keep p q xs)) (bool_cases (q x))

-- nothing beyond m passes
keep_longer : (p : ℕ → Bool) (m n : ℕ) → m ≤ n → ((x : ℕ) → m < x → p x ≡ false) → keep p (upto m) ≡ keep p (upto n)
keep_longer p m zero l f = let e : m ≡ 0 = omega arith in ap (λ k. keep p (upto k)) e
keep_longer p m (suc n) l f =
    ⊎_elim (λ (e : m ≡ suc n). ap (λ k. keep p (upto k)) e)
    (λ (less : m < suc n). keep_longer p m n (omega arith) f ∙ (sym (append-nil _) ∙ sym (keep_suc p n ∙ rw (f (suc n) less))))
    (eq-or-lt_of_le l)

-- ---- the groups of a student

module _ (M : Market) (R : Ranged M) (s : ℕ) (sets : List ℕ) (G : Gathered M s sets) where
  -- her workshops in tier t
  abbrev of_tier : ℕ → ℕ → Bool
  of_tier t w = M.paired s w && eqb (M.student_tier s w) t

  workshops_of : (t : ℕ) → members (get_or sets t 0) ≡ keep (λ x. outside_or (M.paired s) x && eqb (M.student_tier s x) t) (upto M.workshops)
  unfolding members
  workshops_of t =
      keep_same (member (get_or sets t 0)) (of_tier t) 64 (λ x a b. G.set t x)
      ∙ (sym (keep_longer (of_tier t) M.workshops 64 R.workshops beyond)
      ∙ keep_same (of_tier t) (λ x. outside_or (M.paired s) x && eqb (M.student_tier s x) t) M.workshops option)
    where
      beyond : (x : ℕ) → M.workshops < x → of_tier t x ≡ false
      beyond x l =
          let unpaired : M.paired s x ≡ false = is_false (M.paired s x) (λ p. omega (arith, (R.workshop s x p).1)) in
          rw unpaired

      option : (x : ℕ) → 0 < x → x ≤ M.workshops → of_tier t x ≡ (outside_or (M.paired s) x && eqb (M.student_tier s x) t)
      option zero a b = absurd (omega arith)
      option (suc x) a b = refl

  tier_items : (t : ℕ) → items_of (eqb (student_outside M s) t) (get_or sets t 0) ≡ at_tier (M.student_tier s) (options_of M s) t
  unfolding at_tier options_of keep
  tier_items t =
      ap (cons_if (eqb (M.student_tier s 0) t) 0)
      (workshops_of t ∙ sym (keep_keep (λ x. eqb (M.student_tier s x) t) (outside_or (M.paired s)) (upto M.workshops)))

  groups_same : (k t : ℕ) → groups_of sets (student_outside M s) k t ≡ groups_from (M.student_tier s) (options_of M s) k t
  unfolding groups_of groups_from
  groups_same zero t = refl
  groups_same (suc k) t = rw (tier_items t, groups_same k (suc t))

  -- the parts of her line
  line_parts : ((decimal s ++ (58 ∷ []) ++ (32 ∷ [])) ++ joined (map group_text (groups_of sets (student_outside M s) 65 1))) ++ (10 ∷ [])
      ≡ line_text (line_of M s)
  unfolding line_text line_of
  line_parts = rw (append_assoc (decimal s) (58 ∷ []) (32 ∷ []), groups_same 65 1)

-- ---- lines one after the other

module _ (case : List ℕ) where
  pub no_lines_lem : lines_text (lines_from (market_in case) 0 0) ≡ []
  unfolding lines_text lines_from flat_map
  no_lines_lem = refl

  pub next_line : {text mid after : List ℕ} {end end' : ℕ} (n : ℕ)
      → Put (lines_text (lines_from (market_in case) n 0)) 0 text mid end
      → Put (line_text (line_of (market_in case) (n + 1))) end mid after end'
      → Put (lines_text (lines_from (market_in case) (n + 1) 0)) 0 text after end'
  next_line n p q =
      let e : n + 1 ≡ suc (0 + n) = omega arith in
      rw (add-one n, lines_on (market_in case) n 0) (put_then (omega arith) p (rw e at q))

-- ---- a case in which causes 1 to 5 and 13 find nothing

module _ (case : List ℕ) (e : case_refusal case ≡ None) where
  in_range : Ranged (market_in case)
  in_range = ranged case (table_none (case_causes case) e)

  module _ (s : ℕ) (one : 1 ≤ s) (last : s ≤ (market_in case).students) where
    pub student_inside : s - 1 < row_count case
    student_inside = (student_row case (table_none (case_causes case) e) s one last).0

    outside_tier : (row_at case (s - 1)).third ≡ student_outside (market_in case) s
    outside_tier = sym (student_outside_at case (case_clean case (table_none (case_causes case) e)) s one last)

    pub outside_small : (outside : ℕ) → outside ≡ (row_at case (s - 1)).third → outside ≤ 65
    outside_small outside f = omega (arith, f, outside_tier, in_range.tier s 0 one last refl)

    pub line_text_lem : (sets : List ℕ) (outside : ℕ)
        → Gathered (market_in case) s sets
        → outside ≡ (row_at case (s - 1)).third
        → ((decimal s ++ (58 ∷ []) ++ (32 ∷ [])) ++ joined (map group_text (groups_of sets outside 65 1))) ++ (10 ∷ []) ≡ line_text (line_of (market_in case) s)
    line_text_lem sets outside G f = rw (f, outside_tier) (line_parts (market_in case) in_range s sets G)

  -- all lines, in a buffer with room for them
  pub all_lines : {text after : List ℕ} {end : ℕ} (n : ℕ)
      → Put (lines_text (lines_from (market_in case) n 0)) 0 text after end
      → n ≡ (market_in case).students
      → 8 * n + 4 * pair_count case ≤ length text
      → (end ≡ length (wish_text (market_in case))) × (after ≡ with_head (wish_text (market_in case)) text)
  unfolding wish_text lines_of
  all_lines n p f room =
      let q = rw f at p in
      put_head q (omega (arith, f, text_room_lem case (table_none (case_causes case) e)))
