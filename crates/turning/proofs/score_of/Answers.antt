-- `turning::score_of` meets its contract. The outside option has the score of 0.
use mathlib.Core.Path.{sym}
use Rattle.base.specs.Words.{biased}
use Rattle.format.specs.Layout.{results_of}
use Rattle.turning.proofs.score_of.Goals as goal

pub returns-then-w-eq0 : goal.returns-then-w-eq0
unfolding biased results_of
returns-then-w-eq0 c = sym (rw c.if-w-eq0.true)
