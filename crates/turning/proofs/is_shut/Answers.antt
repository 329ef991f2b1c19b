-- `turning::is_shut` meets its contract. By the tests that led there.
use Prim.Native.Nat.{◌≤◌, ◌<◌}
use mathlib.Core.Path.{◌≡◌}
use native.Mathlib.Omega.{arith}
use Rattle.std.proofs.Common.{rules}
use Rattle.lgs.specs.Market.{seats_of}
use Rattle.format.specs.Engine.{market_in}
use Rattle.model.specs.Store.{last_of}
use Rattle.turning.proofs.Due.{shut_empty, shut_beyond, shut_full}
use Rattle.turning.proofs.is_shut.Goals as goal
use Rattle.turning.proofs.is_shut.Goals.{Else-is_empty}

-- there are seats
some : (c : Else-is_empty) → (seats_of (market_in c.args.table.now.case.now) c.args.w ≡ 0 → ⊥)
some c z = let l : c.args.own.start < c.args.own.end = search rules in omega (arith, c.requires.own_value.1, z)

pub returns-then-is_empty : goal.returns-then-is_empty
returns-then-is_empty c = λ B s e.
    let a = c.args in
    let l : a.own.end ≤ a.own.start = search rules in
    shut_empty (market_in a.table.now.case.now) B a.w s (last_of (market_in a.table.now.case.now) a.seats.now a.w) a.tier e
    (omega (arith, c.requires.own_value.1))

pub returns-then-workshop_outside-tier : goal.returns-then-workshop_outside-tier
returns-then-workshop_outside-tier c = λ B s e.
    let a = c.args in
    shut_beyond (market_in a.table.now.case.now) B a.w s (last_of (market_in a.table.now.case.now) a.seats.now a.w) a.tier e
    (some (goal.at.returns-then-workshop_outside-tier c).Else-is_empty) (omega arith)

pub returns : goal.returns
returns c = λ B s e.
    let a = c.args in
    let M = market_in a.table.now.case.now in
    let q = c.last_of.ensures M a.w c.requires.own_value.0 c.requires.own_value.1 in
    shut_full M B a.w s (last_of M a.seats.now a.w) a.tier e (some (goal.at.returns c).Else-is_empty) (omega arith) c.is_full_above.result
    (c.is_full_above.ensures _ q)
