-- `ties::IndexedBook::tested_at` meets its contract. Without a record there is none; else the score is tested.
use Prim.Native.Nat.{◌-◌}
use mathlib.Core.Path.{◌≡◌, ◌∙◌, sym, ap}
use mir.Syntax.{w16}
use mir.Val.{SFits}
use native.Mathlib.Omega.{arith}
use lib.ListN.{get_or}
use Rattle.std.proofs.Common.{rules}
use Rattle.std.proofs.lemmas.Int.{to_z-of_z}
use Rattle.format.specs.Layout.{entry_at, says_never}
use Rattle.ties.specs.Ties.{tested}
use Rattle.ties.proofs.Interviews.{tested_none, tested_by}
use Rattle.ties.proofs.IndexedBook.tested_at.Goals as goal

pub returns-in_err-i : goal.returns-in_err-i
returns-in_err-i c =
    let a = c.args.self.now in
    let z : get_or a.index.now (c.args.pair - a.from) 0 ≡ 0 = omega (arith, c.in_err-i.ensures) in
    c.from_residual.ensures ∙ sym (ap (tested a.book.now) z ∙ tested_none a.book.now)

pub returns : goal.returns
returns c =
    let book = c.args.self.now.book.now in
    let s = c.in_ok-i.ensures in
    let fits : SFits w16 c.entry_at.result.student_score = search rules in
    c.then_some.ensures
    ∙ tested_by book _ c.in_ok-i.i s.0 s.1 c.is_never-never.result
    (rw (to_z-of_z w16 _ fits) at c.is_never-never.ensures
    ∙ ap (λ e. says_never e.student_score) (c.entry_at.ensures ∙ ap (entry_at book) c.from.ensures))
