-- `records::score_of` meets its contract. Sixteen bits read as a signed number (`signed_16`).
use mir.Syntax.{w16}
use mir.ValLaws.{of_z-to_z}
use Rattle.base.proofs.Signed.{signed_16}
use Rattle.records.proofs.score_of.Goals as goal

pub returns : goal.returns
returns c = rw (c.cast_signed.ensures, of_z-to_z w16 c.args.v c.ranges.v) (signed_16 c.args.v c.ranges.v.fits)
