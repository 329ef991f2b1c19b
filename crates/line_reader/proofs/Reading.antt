-- The loop over the groups of a line.
use Prim.Native.Nat.{ℕ, suc, ◌+◌, ◌≤◌}
use mathlib.Core.Path.{◌≡◌, refl, ◌∙◌}
use mathlib.Core.Bool.{Bool, true, false}
use mathlib.Core.List.{List, [], ◌∷◌, ◌++◌}
use native.Mathlib.Omega.{arith}
use lib.ListN.{length, drop, length-append}
use Rattle.std.specs.Prelude.{Some, None}
use Rattle.wish_lines.specs.Reading.{scan, group}
use Rattle.line_reader.specs.declared.Marks.{Marks}
use Rattle.line_reader.specs.declared.Turn.{Turn}
use Rattle.line_reader.specs.declared.Next.{Next}
use Rattle.line_reader.specs.declared.Next.TheVariants.{Item, Group, End}
use Rattle.line_reader.specs.Items.{cap, cap_group, before, Open, after, Turned}
use Rattle.line_reader.specs.Marks.{Noted, Marked, BodyRead}
use Rattle.line_reader.proofs.Noting.{marked_start, marked_group, marked_item}

-- where an item must begin at place i: the whole groups and the items of the group in hand
pub record Going (text : List ℕ) (from i : ℕ) (within : Bool) (g : ℕ) (m : Marks) (groups : List ℕ) : Type 0 where
  pub whole : List (List ℕ)
  pub items : List ℕ
  pub opened : Open within items
  pub same : (s : ℕ) → scan (drop from text) (group s []) ≡ scan (drop i text) (before within s whole items)
  pub fits : i ≤ length text
  pub number : g ≡ cap_group (suc (length whole))
  pub marks : Marked (whole ++ (items ∷ [])) m groups

-- the groups with the item x behind the items of the group in hand
abbrev grown : List (List ℕ) → List ℕ → ℕ → List (List ℕ)
grown gs xs x = gs ++ ((xs ++ (x ∷ [])) ∷ [])

pub going_start : (text : List ℕ) (from : ℕ) (m : Marks) (groups : List ℕ) → from ≤ length text → length groups ≡ 65
    → m.named ≡ 0 → m.stray ≡ false → m.nones ≡ 0 → Going text from from false 1 m groups
going_start text from m groups l z d s n =
    record { whole = []; items = []; opened = refl; same = λ s. refl; fits = l; number = omega arith; marks = marked_start m groups d s n z }

module _ {text : List ℕ} {from i : ℕ} {within : Bool} {g : ℕ} {m : Marks} {groups : List ℕ} (G : Going text from i within g m groups) where
  pub going_small : (m.nones ≤ 1000) × (g ≤ 200)
  going_small = (omega (arith, G.marks.nones), omega (arith, G.number))

  pub going_departs : Turned text i within None → BodyRead text from None groups
  going_departs T = (G.marks.sized, λ s. G.same s ∙ T s G.whole G.items G.opened)

  module _ (t : Turn) (T : Turned text i within (Some t)) {m' : Marks} {groups' : List ℕ} (N : Noted m m' groups groups' t.value g) where
    now_marked : Marked (grown G.whole G.items T.0) m' groups'
    now_marked =
        let noted : Noted m m' groups groups' (cap T.0) g = rw T.1 at N in
        marked_item G.whole G.items T.0 m m' groups groups' g G.marks noted G.number

    leads : (n : Next) → t.next ≡ n → (s : ℕ) → scan (drop from text) (group s []) ≡ after n (drop t.end text) s G.whole (G.items ++ (T.0 ∷ []))
    leads n e s = G.same s ∙ (T.4 s G.whole G.items G.opened ∙ rw e)

    -- the group goes on
    pub going_item : t.next ≡ Item → Going text from t.end true g m' groups'
    going_item e =
        record {
          whole = G.whole;
          items = G.items ++ (T.0 ∷ []);
          opened = omega (arith, length-append G.items (T.0 ∷ []));
          same = leads Item e;
          fits = T.3;
          number = G.number;
          marks = now_marked;
        }

    -- a new one begins
    pub going_group : t.next ≡ Group → Going text from t.end false (cap_group (g + 1)) m' groups'
    going_group e =
        record {
          whole = grown G.whole G.items T.0;
          items = [];
          opened = refl;
          same = leads Group e;
          fits = T.3;
          number = omega (arith, G.number, length-append G.whole ((G.items ++ (T.0 ∷ [])) ∷ []));
          marks = marked_group _ m' groups' now_marked;
        }

    pub going_end : t.next ≡ End → BodyRead text from (Some (record { marks = m'; end = t.end })) groups'
    going_end e = (grown G.whole G.items T.0, leads End e, T.3, now_marked)
