use Rattle.std.proofs.Common.{◌+◌, ◌*◌, ◌≤◌, length, refl}
use Rattle.frame.proofs.Cutting.{table}
use Rattle.frame.proofs.table.Table.cut.Goals as goal

pub returns : goal.returns
returns g c =
    let chunks = c.as_chunks.ensures in
    let inside : c.from-first.result + g.row.SIZE * c.from.result ≤ length c.args.bytes.now = rw (c.from-first.ensures, c.from.ensures) c.requires.inside in
    rw (c.from-first.ensures, c.from.ensures) at (table g.row.SIZE c.from.result c.from-first.result c.args.bytes.now c.requires.size.0 inside _ _ refl chunks.front_len chunks.front)
