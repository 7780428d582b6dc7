use Rattle.board.proofs.Exactness.{exactly}
use Rattle.board.proofs.board.Board.check.Goals as goal

pub returns-clause-exactly : goal.returns-clause-exactly
returns-clause-exactly c = exactly _ _ c.order_in.ensures
