-- `seating::last_of` meets its contract. The last seat is read, where there is one.
use Prim.Native.Nat.{◌≤◌, ◌<◌}
use mathlib.Core.Path.{◌≡◌, refl, ap, ◌∙◌}
use native.Mathlib.Omega.{arith}
use Rattle.std.proofs.Common.{rules}
use Rattle.lgs.specs.Market.{seats_of}
use Rattle.seating.specs.Seats.{named}
use Rattle.seating.proofs.Laws.{last_none, last_some}
use Rattle.seating.proofs.last_of.Goals as goal

pub returns-then-is_empty : goal.returns-then-is_empty
returns-then-is_empty c = λ M w e f.
    let a = c.args in
    let l : a.own.end ≤ a.own.start = search rules in
    let z : seats_of M w ≡ 0 = omega arith in
    ap named (last_none M a.seats.now w a.own.start (seats_of M w) e refl z)

pub returns : goal.returns
returns c = λ M w e f.
    let a = c.args in
    let l : a.own.start < a.own.end = search rules in
    c.holder.ensures ∙ ap named (rw f (last_some M a.seats.now w a.own.start (seats_of M w) e refl (λ z. omega arith)))
