use Rattle.attempt.proofs.Running.{goes}
use Rattle.attempt.proofs.attempt.running.go.Goals as goal

pub returns : goal.returns
returns g c = goes g.B.Bank g.met.B.Bank.lawful g.met.B.Bank.kept c.args.engine.now c.call.new.engine c.call.result c.requires c.call.ensures
