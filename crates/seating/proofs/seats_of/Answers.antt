-- `seating::seats_of` meets its contract: today a workshop's seats are its quota.
use mathlib.Core.Path.{sym, ◌∙◌}
use native.Mathlib.Omega.{arith}
use Rattle.format.specs.Engine.{market_in}
use Rattle.model.proofs.Storage.{seats_of_lem}
use Rattle.seating.proofs.seats_of.Goals as goal

pub returns : goal.returns
returns c = let a = c.args in (c.quota_of.ensures ∙ sym (seats_of_lem (market_in a.case.now) a.w), omega arith)
