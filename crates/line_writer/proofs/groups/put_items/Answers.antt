-- `line_writer::groups::put_items` meets its contract: none where it is of the group, and then the members.
use Rattle.putting.proofs.Laws.{put_then}
use Rattle.line_writer.proofs.Text.{items_start}
use Rattle.line_writer.proofs.groups.put_items.Goals as goal

pub returns : goal.returns
returns c =
    let whole = put_then c.requires c.put_if-end.ensures c.put_members.ensures in
    rw (← items_start c.args.group.outside c.args.group.set) whole
