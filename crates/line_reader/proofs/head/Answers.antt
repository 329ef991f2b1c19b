-- `line_reader::head` meets its contract.
use mathlib.Core.Path.{sym, ◌∙◌}
use Rattle.line_reader.proofs.Scanning.{started, no_colon, no_blank, head_right}
use Rattle.line_reader.proofs.head.Goals.{else-stands-via-then-stands+else-stands-2, else-stands-via-else-stands}
use Rattle.line_reader.proofs.head.Goals as goal

pub returns-in_err-value : goal.returns-in_err-value
returns-in_err-value c =
    rw c.from_residual.ensures (rw (sym c.number_at.ensures ∙ c.in_err-value.was) at (started c.args.text.now c.args.from))

pub returns-then-stands-2 : goal.returns-then-stands-2
returns-then-stands-2 c =
    let S = rw (sym c.number_at.ensures ∙ c.in_ok-value.was) at (started c.args.text.now c.args.from) in
    head_right _ _ _ S (sym c.stands.ensures ∙ c.if-stands.true) (sym c.stands-then-stands.ensures ∙ c.if-stands-2.true)

pub returns : goal.returns
returns c =
    let S = rw (sym c.number_at.ensures ∙ c.in_ok-value.was) at (started c.args.text.now c.args.from) in
    elim c.else-stands.branch [
      | else-stands-via-then-stands+else-stands-2 w ↦
          no_blank _ _ _ S (sym c.stands.ensures ∙ w.if-stands.true) (sym w.stands-then-stands.ensures ∙ w.if-stands-2.false)
      | else-stands-via-else-stands w ↦ no_colon _ _ _ S (sym c.stands.ensures ∙ w.if-stands.false)
    ]
