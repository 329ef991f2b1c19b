-- `wishes::read_into` meets its contract: the text's first refusal, or the copy.
use mathlib.Core.Path.{sym}
use lib.ListN.{length}
use Rattle.std.proofs.lemmas.Result.{err_from_is_err_and}
use Rattle.wishes.proofs.Working.{passed, read_by_line, read_done}
use Rattle.wishes.proofs.Records.{wished_long}
use Rattle.wishes.proofs.read_into.Goals as goal

pub returns-in_err-judge : goal.returns-in_err-judge
returns-in_err-judge c =
    let a = c.args in
    let p = err_from_is_err_and c.from_residual.result c.from_residual.ensures.1 in
    rw (p.1, p.2) (read_by_line a.input.now.table.case.now a.text.now a.copy.now c.args.input.now.clean.0 c.requires _ c.in_err-judge.ensures)

pub returns : goal.returns
returns c =
    let case = c.args.input.now.table.case.now in
    let p = c.requires in
    let ls = c.in_ok-judge.ensures in
    read_done case c.args.text.now c.args.copy.now c.args.input.now.clean.0 c.requires ls.0 (length case) _ ls.1
    (sym (wished_long case (passed case c.args.input.now.clean.0) ls.0))
    (c.put_wishes.ensures ls.0 ls.2)
