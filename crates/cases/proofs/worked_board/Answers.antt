use Rattle.cases.proofs.Proved.{all_hold, all_checked, all_printed}
use Rattle.cases.proofs.worked_board.Goals as goal

pub returns-clause-hold : goal.returns-clause-hold
returns-clause-hold c = all_hold

pub returns-clause-checked : goal.returns-clause-checked
returns-clause-checked c = all_checked

pub returns-clause-printed : goal.returns-clause-printed
returns-clause-printed c = all_printed
