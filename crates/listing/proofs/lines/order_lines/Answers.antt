use Rattle.listing.proofs.Rising.{by_number}
use Rattle.listing.proofs.lines.order_lines.Goals as goal

pub returns-clause-by_number : goal.returns-clause-by_number
returns-clause-by_number c = by_number c.args.board.now
