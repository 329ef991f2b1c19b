-- `records::score_at` meets its contract. A signed result is kept as bits: `to_z-of_z` reads it back, from its range `.ok`.
use mir.Syntax.{w16}
use mir.ValLaws.{to_z-of_z}
use Rattle.base.specs.Words.{signed}
use Rattle.records.proofs.score_at.Goals as goal

pub returns : goal.returns
unfolding signed
returns c = rw (to_z-of_z w16 c.score_of.result (record { sfits = c.score_of.type_inv }), c.score_of.ensures, c.u16_at.ensures)
