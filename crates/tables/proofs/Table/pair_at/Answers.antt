-- `tables::Table::pair_at` meets its contract. The place of a pair by the table (`Tabled.place`); where she has all workshops those below w are w - 1.
use mathlib.Core.Path.{sym, ◌∙◌}
use native.Mathlib.Omega.{arith}
use borrow.Author.Tests.{eqb-true}
use Rattle.tables.proofs.Reading.{all_below}
use Rattle.tables.proofs.Table.pair_at.Goals as goal

pub returns-then-has_all : goal.returns-then-has_all
returns-then-has_all c =
    let a = c.args in
    let known = a.self.now.tabled in
    omega (
      arith,
      known.place a.s a.w c.requires,
      all_below a.self.now.case.now a.self.now.words.now known a.s a.w c.requires (eqb-true _ _ (sym c.has_all.ensures ∙ c.if-has_all.true)),
    )
