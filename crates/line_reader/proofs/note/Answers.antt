-- `line_reader::note` meets its contract.
use mathlib.Core.Path.{refl}
use native.Mathlib.Omega.{arith}
use Rattle.line_reader.proofs.Noting.{note_none}
use Rattle.line_reader.proofs.note.Goals as goal

pub returns-then-w-eq0 : goal.returns-then-w-eq0
returns-then-w-eq0 c =
    let a = c.args in
    note_none a.m _ a.groups.now _ a.x a.g c.requires.1 (omega arith) refl refl c.min.ensures refl
