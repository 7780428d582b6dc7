use Rattle.std.proofs.Common.{append_assoc, append-nil, arith}
use Rattle.listing.specs.Lines.{spaced}
use Rattle.listing.proofs.Printed.{texts_more}
use Rattle.listing.proofs.lines.push_superiors.Goals as goal

pub loop-s-preserved : goal.loop-s-preserved
loop-s-preserved c =
    let board = c.args.board.now in
    let more = texts_more (spaced board) board.order.superiors _ c.loop-s.s c.args.device c.has.result c.superiors-superiors.ensures c.has.ensures in
    grind (arith, append_assoc, append-nil, more)
