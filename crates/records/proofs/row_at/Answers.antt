-- `records::row_at` meets its contract. Each field by its reader.
use Rattle.format.specs.Layout.{row_at}
use Rattle.records.proofs.row_at.Goals as goal

pub returns : goal.returns
unfolding row_at
returns c = cc
