-- `stages::input::Input::tier_of` meets its contract. By whether there is a pair, and whether its tier is within reach.
use Prim.Native.Nat.{◌≤◌}
use mathlib.Core.Path.{◌≡◌, sym, ◌∙◌}
use mathlib.Core.Bool.{true}
use native.Mathlib.Omega.{arith}
use Rattle.format.specs.Engine.{market_in}
use Rattle.stages.proofs.Tiers.{unpaired_tier, tier_beyond, tier_within}
use Rattle.stages.proofs.input.Input.tier_of.Goals as goal
use Rattle.stages.proofs.input.Input.tier_of.Goals.{After-workshop_tier-tier}

-- what is read is the tier
tier_read : (c : After-workshop_tier-tier) → (let a = c.args in let M = market_in a.self.now.table.case.now in
    (M.paired a.s a.w ≡ true) × (c.workshop_tier-tier.result ≡ M.workshop_tier a.w a.s) × (1 ≤ M.workshop_tier a.w a.s) × (M.workshop_tier a.w a.s ≤ 513))
tier_read c =
    let a = c.args in
    let paired = sym c.has_pair.ensures ∙ c.if-not-has_pair.false in
    let range = a.self.now.ready.tier a.s a.w paired in
    (paired, c.workshop_tier-tier.ensures ∙ rw c.pair_at-pair.ensures (sym (a.self.now.ready.pair a.s a.w paired).workshop_tier), range.0, range.1)

pub returns-then-not-has_pair : goal.returns-then-not-has_pair
returns-then-not-has_pair c =
    let a = c.args in
    (unpaired_tier (market_in a.self.now.table.case.now) a.w a.s (sym c.has_pair.ensures ∙ c.if-not-has_pair.true), omega arith)

pub returns-then-reach-tier : goal.returns-then-reach-tier
returns-then-reach-tier c =
    let a = c.args in
    let t = tier_read (goal.at.returns-then-reach-tier c).After-workshop_tier-tier in
    (tier_beyond (market_in a.self.now.table.case.now) a.w a.s t.2 (omega (arith, t.1)), omega arith)

pub returns-else-reach-tier : goal.returns-else-reach-tier
returns-else-reach-tier c =
    let a = c.args in
    let t = tier_read (goal.at.returns-else-reach-tier c).After-workshop_tier-tier in
    (t.1 ∙ tier_within (market_in a.self.now.table.case.now) a.w a.s t.2 t.0 (omega (arith, t.1)), omega (arith, t.1, t.3))
