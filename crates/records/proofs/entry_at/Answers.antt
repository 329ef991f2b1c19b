-- `records::entry_at` meets its contract. Each field by what its reader ensures; a score is read back from its bits.
use mir.Syntax.{w16}
use mir.ValLaws.{to_z-of_z}
use Rattle.format.specs.Layout.{entry_at}
use Rattle.records.proofs.entry_at.Goals as goal

pub returns : goal.returns
unfolding entry_at
returns c = rw (
  to_z-of_z w16 c.score_at-2.result (record { sfits = c.score_at-2.type_inv }),
  to_z-of_z w16 c.score_at.result
      (record { sfits = c.score_at.type_inv }),
) cc
