-- `wishes::judge` meets its contract. The invariant: k lines are read, up to place `at`, and their groups are noted.
use mathlib.Core.Path.{◌≡◌}
use lib.ListN.{length}
use Rattle.format.specs.Engine.{market_in}
use Rattle.wishes.proofs.Judging.{Passed}
use Rattle.wishes.proofs.judge.Given as goal

abbrev pub invariant-loop-k : goal.invariant-loop-k
invariant-loop-k l = (length l.groups ≡ 33280) × Passed (market_in l.input.table.case.now) l.text l.k l.at l.groups
