-- `putting::put_bytes` meets its contract: the part of the text that fits is copied.
use Prim.Native.Nat.{◌+◌, ◌-◌}
use mathlib.Core.Path.{◌≡◌}
use native.Mathlib.Omega.{arith}
use Rattle.putting.proofs.Laws.{put_part}
use Rattle.putting.proofs.put_bytes.Goals as goal

pub returns : goal.returns
returns c =
    let a = c.args in
    let n = c.min-n.result in
    let many : a.at + n - a.at ≡ n = omega arith in
    rw (many, c.copy_from_slice.ensures.after) (put_part a.text.now a.out.now a.at n c.requires c.min-n.ensures)
