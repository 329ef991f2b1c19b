-- `bits::Members` gives the members of its set (`members_low`).
use mathlib.Core.Path.{ap}
use native.Mathlib.Omega.{arith}
use lib.ListN.{length}
use Rattle.base.proofs.Digits.{members_empty, members_low}
use Rattle.bits.proofs.MembersIterator.next.Goals as goal

pub returns-then-self-eq0-clause-steps : goal.returns-then-self-eq0-clause-steps
returns-then-self-eq0-clause-steps c = rw c.if-self-eq0.true (members_empty, members_empty)

pub returns-clause-steps : goal.returns-clause-steps
returns-clause-steps c =
    let w = c.lowest-w in
    members_low c.args.self.now.0 c.without_lowest-self.result w.result w.ensures (c.without_lowest-self.ensures.by_index w.result w.ensures)

pub returns-clause-goes : goal.returns-clause-goes
returns-clause-goes c =
    record { on = λ f. (tt, tt, omega (arith, ap length (returns-clause-steps c))); keeps = tt; rests = λ f. tt }
