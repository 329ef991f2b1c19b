-- `tables::Table::pairs_of` meets its contract. The records of a student's pairs (`stretch`).
use native.Mathlib.Omega.{arith}
use Rattle.tables.proofs.Reading.{stretch, stretch_as}
use Rattle.tables.proofs.Table.pairs_of.Goals as goal

pub returns-clause-stretch : goal.returns-clause-stretch
returns-clause-stretch c =
    let own = stretch _ _ c.args.self.now.tabled c.args.s c.requires.0 c.requires.1 in
    stretch_as _ _ _ _ _ _ c.first_of-first.ensures.0 (omega (arith, c.count.ensures)) own
