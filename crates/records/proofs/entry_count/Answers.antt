-- `records::entry_count` meets its contract. The shift is the quotient (`shift_counts`).
use mathlib.Core.Path.{◌∙◌}
use Rattle.base.proofs.Digits.{shifted_is}
use Rattle.format.proofs.Shift.{shift_counts}
use Rattle.records.proofs.entry_count.Goals as goal

pub returns : goal.returns
returns c = (shifted_is c.args.len 3, shifted_is c.args.len 3 ∙ shift_counts.quotient c.args.len)
