-- `book_tests::fill` meets its contract. The invariant: the index of the first i records, which are not bad (`Filled`), and the reader stands before record i.
use Rattle.std.proofs.Common.{◌≡◌, length}
use Rattle.book_tests.specs.Index.{Filled}
use Rattle.book_tests.proofs.fill.Given as goal

abbrev pub invariant-loop-i : goal.invariant-loop-i
invariant-loop-i l = record {
  filled : Filled l.table.case.now l.book (length l.initial.index) l.i l.index;
  book : l.reader.book.now ≡ l.book;
  next : l.reader.next ≡ l.i;
}
