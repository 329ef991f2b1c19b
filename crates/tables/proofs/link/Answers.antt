-- `tables::link` meets its contract. The invariant: the students from s on are linked (`Linking`).
use Prim.Native.Nat.{ℕ, ◌-◌}
use mathlib.Core.Path.{ap, ◌∙◌}
use native.Mathlib.Omega.{arith}
use Rattle.tables.proofs.Links.{linking_more, stage_read}
use Rattle.tables.proofs.link.Goals as goal

pub loop-s-preserved : goal.loop-s-preserved
loop-s-preserved c =
    let here = c.loop-s in
    let s : ℕ = here.s - 1 in
    let x = c.from-stage.result in
    let st =
    stage_read _ c.args.students s x c.requires.staged (omega arith) (omega arith) (c.from-stage.ensures ∙ ap (λ r. r.second) c.row_at.ensures) in (
      omega arith,
      omega arith,
      linking_more _ c.args.students s x c.args.table.now here.table
          c.requires.table_len here.invariant.2 st.0 (omega arith) (omega arith) c.requires.staged.many st.1 st.2
          c.with_next.result c.with_head.result c.with_next.ensures c.with_head.ensures,
    )
