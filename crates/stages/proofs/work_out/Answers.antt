-- `stages::work_out` meets its contract. By whether the rounds have settled.
use mathlib.Core.Path.{sym, ◌∙◌, ap}
use mathlib.Core.List.{◌++◌}
use lib.ListN.{drop}
use Rattle.std.specs.Prelude.{Err}
use Rattle.stages.proofs.Working.{worked, unworked}
use Rattle.stages.proofs.work_out.Goals as goal

pub returns-in_default-clause-value : goal.returns-in_default-clause-value
returns-in_default-clause-value c =
    let a = c.args in
    let i = a.input.now in
    ap Err c.at.ensures
    ∙ (unworked i.table.case.now c.requires.0 i.students a.stages.now (sym i.ready.students) c.requires.1 c.in_default.ensures).0

pub returns-in_default-clause-stages_after : goal.returns-in_default-clause-stages_after
returns-in_default-clause-stages_after c =
    let a = c.args in
    let i = a.input.now in
    (unworked i.table.case.now c.requires.0 i.students a.stages.now (sym i.ready.students) c.requires.1 c.in_default.ensures).1

pub returns-clause-value : goal.returns-clause-value
returns-clause-value c =
    let a = c.args in
    let i = a.input.now in
    (worked i.table.case.now c.requires.0 i.students c.settle.new.own a.stages.now (sym i.ready.students) c.requires.1 c.in-Some.ensures).0

pub returns-clause-stages_after : goal.returns-clause-stages_after
returns-clause-stages_after c =
    let a = c.args in
    let i = a.input.now in
    ap (λ l. l ++ drop i.students a.stages.now) c.copy_from_slice.ensures.after
    ∙ (worked i.table.case.now c.requires.0 i.students c.settle.new.own a.stages.now (sym i.ready.students) c.requires.1 c.in-Some.ensures).1
