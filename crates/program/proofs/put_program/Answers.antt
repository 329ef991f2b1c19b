-- `program::put_program` meets its contract: whether both files may be answered decides which text is put.
use mathlib.Core.Path.{◌≡◌}
use native.Mathlib.Omega.{arith}
use Rattle.format.specs.Printed.{program_prints, unread}
use Rattle.program.specs.Files.{file_of}
use Rattle.program.proofs.Files.{case_unread, book_unread, both_read}
use Rattle.program.proofs.put_program.Goals as goal
use Rattle.program.proofs.put_program.Goals.{in_default-via-in-Some+in_default, in_default-via-in_default}

pub returns-in-Some-Some : goal.returns-in-Some-Some
returns-in-Some-Some c =
    let r = c.in-Some-Some in
    rw (both_read _ _ r.case.now r.book.now r.ensures r.ensures') c.put_text.ensures

pub returns-in_default : goal.returns-in_default
returns-in_default c =
    let a = c.args in
    let none : program_prints (file_of a.casefile a.case.now) (file_of a.bookfile a.book.now) ≡ unread =
    elim c.in_default.branch [
      | in_default-via-in-Some+in_default w ↦ book_unread _ _ w.in_default.ensures'
      | in_default-via-in_default w ↦ case_unread _ _ w.in_default.ensures
    ] in
    let put = c.put_unread.ensures in
    rw none (record { put = put.put; whole = put.whole (omega (arith, c.requires)) })
