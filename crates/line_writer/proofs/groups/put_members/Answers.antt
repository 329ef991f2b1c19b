-- `line_writer::groups::put_members` meets its contract. The invariant: all is put but the members that are left.
use Rattle.putting.proofs.Laws.{put_then}
use Rattle.putting.proofs.UpTo.{upto_within, upto_end, upto_on}
use Rattle.line_writer.proofs.Text.{items_on, items_end}
use Rattle.line_writer.proofs.groups.put_members.Goals as goal

pub loop-w-preserved : goal.loop-w-preserved
loop-w-preserved c =
    let here = c.loop-w in
    let put = put_then (upto_within here.invariant) c.put_if-end.ensures c.put_decimal-end.ensures in
    upto_on c.requires (items_on here.comma here.w-iterator.0 c.in-Some.w _ c.in-Some.ensures.steps) here.invariant put

pub returns : goal.returns
returns c = upto_end (items_end c.loop-w.comma _ c.in-None.ensures.steps.0) c.loop-w.invariant
