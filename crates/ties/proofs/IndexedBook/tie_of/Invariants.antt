-- `ties::IndexedBook::tie_of` meets its contract. The invariant: her records before the next pair are gathered, their slots are met, and `after` is lowered
-- by them.
use Prim.Native.Nat.{◌+◌, ◌≤◌}
use mathlib.Core.Path.{◌≡◌}
use lib.ListN.{length, take}
use Rattle.ties.specs.Seen.{Marked, slot_of}
use Rattle.ties.specs.Ties.{Lowered}
use Rattle.ties.proofs.Gathering.{Gathered, Before}
use Rattle.ties.proofs.IndexedBook.tie_of.Given as goal

abbrev pub invariant-loop-pair : goal.invariant-loop-pair
invariant-loop-pair l =
    ((l.initial.pair-iterator.start + l.m ≤ l.pair-iterator.start) × (l.pair-iterator.end ≡ l.initial.pair-iterator.end)
    × (length l.noted ≡ 64) × (length l.seen ≡ 64))
    × Gathered l.self.table.case.now l.self.book.now l.s l.pair-iterator.start (take l.m l.noted)
    × Marked (slot_of 64 1) (take l.m l.noted) l.seen
    × Lowered l.self.table.case.now l.self.book.now (Before l.self.table.case.now l.self.book.now l.s l.pair-iterator.start) l.low l.after
