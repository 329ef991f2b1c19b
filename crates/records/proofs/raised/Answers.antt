-- `records::raised` meets its contract. Raised in 16 bits (`raised_16`).
use mir.Syntax.{w16}
use mir.ValLaws.{to_z-of_z}
use Rattle.base.proofs.Signed.{raised_16}
use Rattle.records.proofs.raised.Goals as goal

pub returns : goal.returns
returns c = rw (c.cast_unsigned.ensures, to_z-of_z w16 c.args.score c.ranges.score) (raised_16 c.args.score c.ranges.score)
