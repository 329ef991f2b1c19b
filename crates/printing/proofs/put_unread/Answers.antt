-- `printing::put_unread` meets its contract: the word, and then the end of the line.
use native.Mathlib.Omega.{arith}
use Rattle.putting.proofs.Laws.{put_then, put_whole}
use Rattle.format.specs.Printed.{unread, numbers}
use Rattle.printing.proofs.put_unread.Goals as goal

pub returns-clause-put : goal.returns-clause-put
unfolding unread numbers
returns-clause-put c = put_then (omega arith) c.put_bytes-end.ensures c.put_byte.ensures

pub returns-clause-whole : goal.returns-clause-whole
unfolding unread numbers
returns-clause-whole c = let p = put_then (omega arith) c.put_bytes-end.ensures c.put_byte.ensures in λ l. put_whole p (omega arith)
