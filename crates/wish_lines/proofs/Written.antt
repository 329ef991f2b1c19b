-- The lines of a case: they are of the form, name every pair once and nothing else, keep the order of the tiers, and are read back.
use Prim.Native.Nat.{ℕ, zero, suc, ◌+◌, ◌≤◌, ◌<◌}
use mathlib.Core.Path.{◌≡◌, refl, ◌∙◌}
use mathlib.Core.Logic.{⊎_elim, ◌↔◌}
use mathlib.Core.Bool.{Bool, true, false, not, ◌&&◌, ◌||◌}
use mathlib.Core.List.{List, [], ◌∷◌, flat_map, flatten}
use mathlib.Core.List.Memᴰ.{cases_cons}
use mathlib.Core.List.Memᴰ.{head as here}
use mathlib.Core.List.Memᴰ.{not-nil}
use mathlib.Core.List.Memᴰ.{tail as later}
use mathlib.Core.List.{Memᴰ as Mem}
use native.Mathlib.Omega.{arith}
use borrow.Author.Tests.{eq-eqb, ne_eqb, lt-ltb}
use lib.Dec.{eqb, ltb}
use Rattle.base.specs.Lists.{any, tally, upto}
use Rattle.base.proofs.Tests.{bool_cases}
use Rattle.base.proofs.Members.{in_upto, upto_in, in_keep, keep_in}
use Rattle.lgs.specs.Market.{Market}
use Rattle.lgs.specs.Profiles.{outside_or}
use Rattle.wish_lines.specs.Lines.{lines_text, times, Formed}
use Rattle.wish_lines.specs.Reading.{misnamed, read}
use Rattle.wish_lines.specs.Lines.{position}
use Rattle.wish_lines.specs.Reading.{read_from, read_lines}
use Rattle.wish_lines.specs.Wishes.{options_of, line_of, lines_from, lines_of, wish_text, Option?, Ranged}
use Rattle.wish_lines.proofs.Groups.{Within, same_order}
use Rattle.wish_lines.proofs.Named.{tally_keep, tally_drop, upto_once, upto_zero, in_all, in_nothing, none_empty}
use Rattle.wish_lines.proofs.Grammar.{read_complete, AllFormed}

pub tally_in : (x : ℕ) (xs : List ℕ) → Mem x xs → 1 ≤ tally (eqb x) xs
unfolding tally
tally_in x [] m = absurd (not-nil m)
tally_in x (y ∷ xs) m =
    ⊎_elim (λ (e : x ≡ y). rw (eq-eqb x y e) (omega arith)) (λ k. omega (arith, tally_in x xs k)) (cases_cons m)

pub any_no : (p : ℕ → Bool) (xs : List ℕ) → ((x : ℕ) → Mem x xs → p x ≡ false) → any p xs ≡ false
unfolding any
any_no p [] h = refl
any_no p (x ∷ xs) h = rw (h x (here refl)) (any_no p xs (λ y m. h y (later m)))

-- the list 0 to m
below_once : (m x : ℕ) → x ≤ m → tally (eqb x) (0 ∷ upto m) ≡ 1
unfolding tally
below_once m zero l = omega (arith, upto_zero m)
below_once m (suc x) l = rw (ne_eqb (suc x) 0 (λ e. omega arith)) (omega (arith, upto_once m (suc x) (omega arith) l))

module _ (M : Market) (R : Ranged M) where
  -- ---- a student's options

  -- an option is none or a workshop of the case
  pub option_below : (s x : ℕ) → Option? M s x → x ≤ M.workshops
  option_below s zero e = omega arith
  option_below s (suc w) e = (R.workshop s (suc w) e).1

  below_in : (m x : ℕ) → x ≤ m → Mem x (0 ∷ upto m)
  below_in m zero l = here refl
  below_in m (suc x) l = later (in_upto m (suc x) (omega arith) l)

  pub option_in : (s x : ℕ) → Option? M s x → Mem x (options_of M s)
  unfolding options_of
  option_in s x e = in_keep (outside_or (M.paired s)) (0 ∷ upto M.workshops) x e (below_in M.workshops x (option_below s x e))

  pub in_option : (s x : ℕ) → Mem x (options_of M s) → Option? M s x
  unfolding options_of
  in_option s x m = (keep_in (outside_or (M.paired s)) (0 ∷ upto M.workshops) x m).0

  module _ (s : ℕ) (one : 1 ≤ s) (last : s ≤ M.students) where
    -- ---- what her line names

    pub named_once : (x : ℕ) → Option? M s x → times x (line_of M s) ≡ 1
    unfolding times line_of options_of
    named_once x e =
        in_all (M.student_tier s) (options_of M s) x 65 1 (R.tier s x one last e).0 (omega (arith, (R.tier s x one last e).1))
        ∙ (tally_keep (outside_or (M.paired s)) x (0 ∷ upto M.workshops) e ∙ below_once M.workshops x (option_below s x e))

    pub named_never : (x : ℕ) → outside_or (M.paired s) x ≡ false → times x (line_of M s) ≡ 0
    unfolding times line_of options_of
    named_never x e =
        in_nothing (M.student_tier s) (options_of M s) x 65 1 (tally_drop (outside_or (M.paired s)) x (0 ∷ upto M.workshops) e)

    pub line_formed : Formed (line_of M s)
    unfolding line_of
    line_formed =
        record { student = one; groups = none_empty (M.student_tier s) (options_of M s) 65 1; none = named_once 0 refl }

    pub well_named : misnamed M (line_of M s) ≡ false
    unfolding misnamed line_of times
    well_named = rw (any_no _ (flatten (line_of M s).groups) no_item) (any_no _ (upto M.workshops) no_pair_lem)
      where
        no_item : (w : ℕ) → Mem w (flatten (line_of M s).groups) → (ltb 0 w && (ltb 1 (times w (line_of M s)) || not (M.paired s w))) ≡ false
        no_item zero m = refl
        no_item (suc w) m =
            ⊎_elim (λ (e : M.paired s (suc w) ≡ true). rw (named_once (suc w) e, e, lt-ltb 0 (suc w) (omega arith)))
            (λ (e : M.paired s (suc w) ≡ false). absurd (omega (arith, named_never (suc w) e, tally_in (suc w) (flatten (line_of M s).groups) m)))
            (bool_cases (M.paired s (suc w)))

        no_pair_lem : (w : ℕ) → Mem w (upto M.workshops) → (M.paired s w && eqb (times w (line_of M s)) 0) ≡ false
        no_pair_lem zero m = absurd (omega (arith, upto_in M.workshops 0 m))
        no_pair_lem (suc w) m =
            ⊎_elim (λ (e : M.paired s (suc w) ≡ true). rw (e, named_once (suc w) e))
            (λ (e : M.paired s (suc w) ≡ false). rw e)
            (bool_cases (M.paired s (suc w)))

    -- ---- the order: "what was written is read as that order", "gaps aside"

    pub written_order : (x y : ℕ) → Option? M s x → Option? M s y
        → ((M.student_tier s x < M.student_tier s y) ↔ (position (line_of M s).groups x < position (line_of M s).groups y))
        × ((M.student_tier s x ≡ M.student_tier s y) ↔ (position (line_of M s).groups x ≡ position (line_of M s).groups y))
    unfolding line_of
    written_order x y e f = same_order (M.student_tier s) (options_of M s) 65 1 x y (within x e) (within y f)
      where
        within : (z : ℕ) → Option? M s z → Within (M.student_tier s) (options_of M s) 65 1 z
        within z e =
            record { member = option_in s z e; low = (R.tier s z one last e).0; high = omega (arith, (R.tier s z one last e).1) }

  -- ---- all lines

  from_formed : (n k : ℕ) → k + n ≤ M.students → AllFormed (lines_from M n k)
  unfolding lines_from
  from_formed zero k l h m = absurd (not-nil m)
  from_formed (suc n) k l h m =
      ⊎_elim (λ (e : h ≡ line_of M (suc k)). rw e (line_formed (suc k) (omega arith) (omega arith)))
      (λ r. from_formed n (suc k) (omega arith) h r)
      (cases_cons m)

  pub lines_formed : AllFormed (lines_of M)
  unfolding lines_of
  lines_formed = from_formed M.students 0 (omega arith)

  line_student : (s : ℕ) → (line_of M s).student ≡ s
  unfolding line_of
  line_student s = refl

  from_read : (n k : ℕ) → k + n ≤ M.students → read_from M n k (lines_text (lines_from M n k)) ≡ read (lines_from M n k)
  unfolding read_from lines_text lines_from flat_map
  from_read zero k l = refl
  from_read (suc n) k l =
      rw (
        read_complete (line_of M (suc k)) (lines_text (lines_from M n (suc k))) (line_formed (suc k) (omega arith) (omega arith)),
        well_named (suc k) (omega arith) (omega arith),
        from_read n (suc k) (omega arith),
        eq-eqb (line_of M (suc k)).student (suc k) (line_student (suc k)),
      )

  -- the lines of a case, read against it, are these lines
  pub read_back_lem : read_lines M (wish_text M) ≡ read (lines_of M)
  unfolding read_lines wish_text lines_of
  read_back_lem = from_read M.students 0 (omega arith)
