-- `stages::raising::note_tops` meets its contract. The invariant: the tiers and tops of the first s students (`Noted`), and how many kinds they have.
use mathlib.Core.Path.{◌≡◌}
use Rattle.base.specs.Lists.{count}
use Rattle.lgs.specs.Stages.{stage_of}
use Rattle.format.specs.Engine.{market_in}
use Rattle.stages.specs.Raising.{tier_for, stands_for, Noted}
use Rattle.stages.proofs.raising.note_tops.Given as goal

abbrev pub invariant-loop-s : goal.invariant-loop-s
invariant-loop-s l =
    (l.kinds ≡ count (stands_for (tier_for (market_in l.input.table.case.now) l.w)) l.s)
    × Noted (tier_for (market_in l.input.table.case.now) l.w) (stage_of l.own) l.s l.tiers l.tops
