-- Items and groups as the code puts them: what is left of a text with commas, and one more of it.
use Prim.Native.Nat.{ℕ, zero, suc, ◌+◌, ◌-◌, ◌≤◌, ◌<◌}
use mathlib.Core.Path.{◌≡◌, refl, ap, ◌∙◌}
use mathlib.Core.Bool.{Bool, true, false, cond}
use mathlib.Core.List.{List, [], ◌∷◌, ◌++◌, map, flat_map, append-nil}
use native.Mathlib.Omega.{arith}
use native.Mathlib.Numerals.{add-one}
use borrow.Author.Tests.{lt-ltb, ne_eqb}
use lib.Dec.{eqb, ltb}
use lib.ListN.{length, get_or}
use Rattle.std.specs.Int.{from_bool}
use Rattle.base.specs.Lists.{count, upto}
use Rattle.base.specs.Bits.{member, members}
use Rattle.base.proofs.Members.{upto_in, keep_in, in_first}
use Rattle.base.proofs.Digits.{keep_count, members_empty}
use Rattle.format.specs.Printed.{decimal}
use Rattle.wish_lines.specs.Lines.{item_text, joined, group_text}
use Rattle.wish_lines.specs.Wishes.{cons_group}
use Rattle.line_writer.specs.Groups.{left, items_of, groups_of, EmptyAbove}

-- ---- texts with commas

pub left_none : (c : Bool) → left c [] ≡ []
unfolding joined flat_map
left_none true = refl
left_none false = refl

left_on : (c : Bool) (t : List ℕ) (ts : List (List ℕ)) → left c (t ∷ ts) ≡ (cond c (44 ∷ []) [] ++ t) ++ left true ts
unfolding joined flat_map
left_on true t ts = refl
left_on false t ts = refl

-- ---- items

item_number : (w : ℕ) → 1 ≤ w → item_text w ≡ decimal w
unfolding item_text
item_number zero l = absurd (omega arith)
item_number (suc w) l = refl

-- none is put, or not
pub items_start : (b : Bool) (set : ℕ) → cond b (45 ∷ []) [] ++ left b (map item_text (members set)) ≡ joined (map item_text (items_of b set))
unfolding joined item_text
items_start true set = refl
items_start false set = refl

member_least : (set w : ℕ) (rest : List ℕ) → members set ≡ w ∷ rest → 1 ≤ w
unfolding members
member_least set w rest e = (upto_in 64 w (keep_in (member set) (upto 64) w (in_first e)).1).0

-- one member of those that are left
pub items_on : (c : Bool) (set w : ℕ) (rest : List ℕ) → members set ≡ w ∷ rest
    → left c (map item_text (members set)) ≡ (cond c (44 ∷ []) [] ++ decimal w) ++ left true (map item_text rest)
items_on c set w rest e =
    ap (λ ws. left c (map item_text ws)) e
    ∙ (left_on c (item_text w) (map item_text rest)
    ∙ ap (λ t. (cond c (44 ∷ []) [] ++ t) ++ left true (map item_text rest)) (item_number w (member_least set w rest e)))

pub items_end : (c : Bool) (ws : List ℕ) → ws ≡ [] → left c (map item_text ws) ≡ []
items_end c ws e = ap (λ ws. left c (map item_text ws)) e ∙ left_none c

-- ---- groups

pub size_is : (b : Bool) (set : ℕ) → from_bool b + count (member set) 64 ≡ length (items_of b set)
unfolding members
size_is true set = omega (arith, keep_count (member set) 64)
size_is false set = omega (arith, keep_count (member set) 64)

-- braces around two or more items
pub braced : (g : List ℕ) → (cond (ltb 1 (length g)) (123 ∷ []) [] ++ joined (map item_text g)) ++ cond (ltb 1 (length g)) (125 ∷ []) [] ≡ group_text g
unfolding group_text joined flat_map
braced [] = refl
braced (x ∷ []) = append-nil _ ∙ append-nil _
braced (x ∷ y ∷ xs) = rw (lt-ltb 1 (length (x ∷ y ∷ xs)) (omega arith))

-- the next group, which has no items or some
cons_none : (g : List ℕ) (gs : List (List ℕ)) → length g ≡ 0 → cons_group g gs ≡ gs
cons_none [] gs e = refl
cons_none (x ∷ xs) gs e = absurd (omega arith)

cons_some : (c : Bool) (g : List ℕ) (gs : List (List ℕ)) → 0 < length g
    → left c (map group_text (cons_group g gs)) ≡ (cond c (44 ∷ []) [] ++ group_text g) ++ left true (map group_text gs)
cons_some c [] gs l = absurd (omega arith)
cons_some c (x ∷ xs) gs l = left_on c (group_text (x ∷ xs)) (map group_text gs)

-- the groups from tier t on: the next, and those after it
module _ (sets : List ℕ) (outside t : ℕ) (below : t < 66) where
  first_group : groups_of sets outside (66 - t) t ≡ cons_group (items_of (eqb outside t) (get_or sets t 0)) (groups_of sets outside (66 - (t + 1)) (t + 1))
  unfolding groups_of
  first_group =
      let e : 66 - t ≡ suc (66 - suc t) = omega arith in
      rw (e, add-one t)

  pub no_group : length (items_of (eqb outside t) (get_or sets t 0)) ≡ 0 → groups_of sets outside (66 - t) t ≡ groups_of sets outside (66 - (t + 1)) (t + 1)
  no_group e = first_group ∙ cons_none _ _ e

  pub next_group : (c : Bool) → 0 < length (items_of (eqb outside t) (get_or sets t 0))
      → left c (map group_text (groups_of sets outside (66 - t) t))
      ≡ (cond c (44 ∷ []) [] ++ group_text (items_of (eqb outside t) (get_or sets t 0)))
      ++ left true (map group_text (groups_of sets outside (66 - (t + 1)) (t + 1)))
  next_group c l = ap (λ gs. left c (map group_text gs)) first_group ∙ cons_some c _ _ l

-- no tier above `last` has a group
groups_above : (sets : List ℕ) (outside last : ℕ) → outside ≤ last → EmptyAbove last sets → (k t : ℕ) → last < t → groups_of sets outside k t ≡ []
unfolding groups_of
groups_above sets outside last o E zero t l = refl
groups_above sets outside last o E (suc k) t l =
    rw (E.zero t l, ne_eqb outside t (λ e. omega arith), members_empty) (groups_above sets outside last o E k (suc t) (omega arith))

pub no_groups_lem : (c : Bool) (sets : List ℕ) (outside last t : ℕ) → outside ≤ last → EmptyAbove last sets → last < t
    → left c (map group_text (groups_of sets outside (66 - t) t)) ≡ []
no_groups_lem c sets outside last t o E l = ap (λ gs. left c (map group_text gs)) (groups_above sets outside last o E (66 - t) t l) ∙ left_none c
