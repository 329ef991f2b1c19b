-- `tables::members_below` meets its contract. The ones under the mask are the members below w (`below_law`).
use Prim.Native.Nat.{◌-◌}
use native.Mathlib.Omega.{arith}
use Rattle.base.specs.Bits.{member}
use Rattle.base.proofs.Counting.{count_le}
use Rattle.tables.proofs.Reading.{below_law}
use Rattle.tables.proofs.members_below.Goals as goal

pub returns : goal.returns
returns c =
    let e = below_law c.args.set c.args.w (omega arith) (omega arith) in
    (e, omega (arith, e, count_le (member c.args.set) (c.args.w - 1)))
