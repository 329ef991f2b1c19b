-- `ties::IndexedBook::shares` meets its contract. The invariant: the slots of her records before the next pair are met, and no two of them tie.
use Prim.Native.Nat.{◌≤◌}
use mathlib.Core.Path.{◌≡◌}
use lib.ListN.{length}
use Rattle.ties.proofs.Sharing.{Apart}
use Rattle.ties.proofs.IndexedBook.shares.Given as goal

abbrev pub invariant-loop-pair : goal.invariant-loop-pair
invariant-loop-pair l =
    ((l.initial.pair-iterator.start ≤ l.pair-iterator.start) × (l.pair-iterator.end ≡ l.initial.pair-iterator.end) × (length l.seen ≡ 128))
    × Apart l.self.table.case.now l.self.book.now l.s l.pair-iterator.start l.seen
