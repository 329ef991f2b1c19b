-- `line_writer::groups::put_group` meets its contract: a brace or none, the items, and a brace or none.
use Rattle.putting.proofs.Laws.{put_then}
use Rattle.line_writer.specs.Groups.{items_of}
use Rattle.line_writer.proofs.Text.{braced}
use Rattle.line_writer.proofs.groups.put_group.Goals as goal

pub returns : goal.returns
returns c =
    let opened = put_then c.requires c.put_if-end.ensures c.put_items-end.ensures in
    let whole = put_then c.requires opened c.put_if.ensures in
    rw (← braced (items_of c.args.group.outside c.args.group.set)) (rw c.size-braces.ensures at whole)
