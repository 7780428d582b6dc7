use Rattle.run.proofs.Ready.{starts}
use Rattle.run.proofs.running.run.Goals as goal

pub returns-clause-starts : goal.returns-clause-starts
returns-clause-starts c = starts c.args.board.now c.args.sheet.now
