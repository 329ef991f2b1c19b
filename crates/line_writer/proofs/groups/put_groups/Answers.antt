-- `line_writer::groups::put_groups` meets its contract. The invariant: the groups of the tiers before t are put.
use Prim.Native.Nat.{ℕ, ◌+◌, ◌-◌}
use mathlib.Core.Path.{◌≡◌, sym, ◌∙◌}
use mathlib.Core.Bool.{Bool, true}
use mathlib.Core.List.{List, map}
use native.Mathlib.Omega.{arith}
use Rattle.putting.proofs.Laws.{put_then}
use Rattle.wish_lines.specs.Lines.{joined, group_text}
use Rattle.line_writer.specs.Groups.{left, groups_of}
use Rattle.putting.proofs.UpTo.{PutUpTo, upto_within, upto_end, upto_on}
use Rattle.line_writer.proofs.Text.{no_group, next_group, no_groups_lem}
use Rattle.line_writer.proofs.groups.put_groups.Goals as goal
use Rattle.line_writer.proofs.groups.put_groups.Goals.{After-size, After-put_group-end}

-- the groups of the tiers before t are put
abbrev Shown : List ℕ → ℕ → ℕ → List ℕ → Bool → ℕ → List ℕ → ℕ → Type 0
Shown sets outside at old comma t new end =
    PutUpTo (joined (map group_text (groups_of sets outside 65 1))) (left comma (map group_text (groups_of sets outside (66 - t) t))) at old new end

-- the groups up to tier t are put: tier t has none, or it is put
skipped : (c : After-size) → c.size.result ≡ 0
    → Shown c.args.sets.now c.args.outside c.args.at c.args.text.now c.loop-t.comma (c.loop-t.t + 1) c.loop-t.text c.loop-t.end
skipped c none =
    let here = c.loop-t in
    rw (no_group c.args.sets.now c.args.outside here.t (omega (arith, c.requires.outside_le_last.0)) (sym c.size.ensures ∙ none)) at here.invariant

shown : (c : After-put_group-end)
    → Shown c.args.sets.now c.args.outside c.args.at c.args.text.now true (c.loop-t.t + 1) c.put_group-end.new.text c.put_group-end.result
shown c =
    let here = c.loop-t in
    let put = put_then (upto_within here.invariant) c.put_if-end.ensures c.put_group-end.ensures in
    let next = next_group c.args.sets.now c.args.outside here.t (omega (arith, c.requires.outside_le_last.0)) here.comma
    (omega (arith, c.size.ensures, c.if-size-eq0.false)) in
    upto_on c.requires.at_in_bounds.0 next here.invariant put

pub loop-t-preserved-then-size-eq0 : goal.loop-t-preserved-then-size-eq0
loop-t-preserved-then-size-eq0 c = skipped (goal.at.loop-t-preserved-then-size-eq0 c).After-size c.if-size-eq0.true

pub loop-t-preserved : goal.loop-t-preserved
loop-t-preserved c = shown (goal.at.loop-t-preserved c).After-put_group-end

pub returns-then-size-eq0 : goal.returns-then-size-eq0
returns-then-size-eq0 c =
    let pre = c.requires.outside_le_last in
    upto_end (no_groups_lem c.loop-t.comma _ _ _ (c.loop-t.t + 1) pre.0.0 pre.1 (omega arith))
    (skipped (goal.at.returns-then-size-eq0 c).After-size c.if-size-eq0.true)

pub returns-else-size-eq0 : goal.returns-else-size-eq0
returns-else-size-eq0 c =
    let pre = c.requires.outside_le_last in
    upto_end (no_groups_lem true _ _ _ (c.loop-t.t + 1) pre.0.0 pre.1 (omega arith)) (shown (goal.at.returns-else-size-eq0 c).After-put_group-end)

pub returns : goal.returns
returns c =
    let here = c.loop-t in
    let pre = c.requires.outside_le_last in
    upto_end (no_groups_lem here.comma _ _ _ here.t pre.0.0 pre.1 (omega arith)) here.invariant
