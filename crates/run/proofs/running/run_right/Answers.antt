use Rattle.board.specs.Checking.{file_of}
use Rattle.run.proofs.Attempting.{has_run}
use Rattle.run.proofs.running.run_right.Goals as goal

pub returns : goal.returns
returns c = has_run (file_of c.args.board.now) c.args.sheet.now c.requires c.in_ok-board.board c.in_ok-board.ensures _ c.in_ok-bank.ensures c.report_over.result c.report_over.ensures
