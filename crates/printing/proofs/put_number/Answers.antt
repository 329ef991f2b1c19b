-- `printing::put_number` meets its contract: a space, and then the digits.
use Rattle.putting.proofs.Laws.{put_then}
use Rattle.printing.proofs.put_number.Goals as goal

pub returns : goal.returns
returns c = put_then c.requires c.put_byte-end.ensures c.put_decimal.ensures
