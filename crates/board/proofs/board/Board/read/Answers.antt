use Rattle.board.proofs.Exactness.{exact}
use Rattle.boardfile.proofs.Naming.{laws}
use Rattle.board.proofs.board.Board.read.Goals as goal

pub returns : goal.returns
returns c = record { reads = c.load.ensures; exact = exact c.args.bytes.now c.load.result c.load.ensures; laws = laws c.args.bytes.now }
