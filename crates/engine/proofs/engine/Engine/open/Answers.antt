use Rattle.std.proofs.Common.{rules}
use Rattle.history.specs.declared.call.Call.TheVariants.{Open}
use Rattle.engine.proofs.Law.{keeps_law}
use Rattle.engine.proofs.engine.Engine.open.Goals as goal

pub returns-in_err-begin-clause-law : goal.returns-in_err-begin-clause-law
returns-in_err-begin-clause-law g c = keeps_law g.B.Bank.kind g.met.B.Bank.lawful c.args.self.now.order Open _ _ _ tt (search rules) (search rules)

pub returns-clause-law : goal.returns-clause-law
returns-clause-law g c = keeps_law g.B.Bank.kind g.met.B.Bank.lawful c.args.self.now.order Open _ _ _ tt (search rules) (search rules)
