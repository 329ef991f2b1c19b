-- `ties::IndexedBook::first_tie` meets its contract. The invariant: `low` is lowered by the students before s.
use Prim.Native.Nat.{◌<◌}
use Rattle.format.specs.Layout.{entry_at, entry_count}
use Rattle.ties.specs.Ties.{Lowered}
use Rattle.ties.proofs.IndexedBook.first_tie.Given as goal

abbrev pub invariant-loop-s : goal.invariant-loop-s
invariant-loop-s l =
    Lowered l.self.table.case.now l.self.book.now (λ i j. (entry_at l.self.book.now i).student < l.s) (entry_count l.self.book.now) l.low
