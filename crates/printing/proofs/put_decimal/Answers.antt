-- `printing::put_decimal` meets its contract: the digits that the kit's `decimal` gives are those of the definition.
use mathlib.Core.Path.{◌∙◌}
use Rattle.printing.proofs.Decimal.{kit_digits}
use Rattle.printing.proofs.put_decimal.Goals as goal

pub returns : goal.returns
returns c =
    let made = c.decimal-k in
    rw (made.ensures.digits ∙ kit_digits made.result c.args.n made.ensures.len) at c.put_bytes.ensures
