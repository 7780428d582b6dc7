use Rattle.std.proofs.Common.{rules}
use Rattle.attempt.proofs.Running.{attempted_so}
use Rattle.attempt.proofs.attempt.Attempt.run.Goals as goal

pub returns : goal.returns
returns g c = attempted_so g.B.Bank g.met.B.Bank.lawful g.met.B.Bank.kept c.args.order c.args.bank c.in_ok-engine.engine c.in_ok-attempt.field-0 (search rules) c.in_ok-attempt.ensures
