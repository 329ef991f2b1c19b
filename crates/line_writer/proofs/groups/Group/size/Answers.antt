-- `line_writer::groups::Group::size` meets its contract: one for none, and one for each member of the set.
use native.Mathlib.Omega.{arith}
use Rattle.line_writer.proofs.Text.{size_is}
use Rattle.line_writer.proofs.groups.Group.size.Goals as goal

pub returns : goal.returns
returns c = omega (arith, size_is c.args.self.outside c.args.self.set, c.from.ensures, c.count.ensures)
