use Rattle.std.proofs.Common.{rules}
use Rattle.history.specs.declared.call.Call.TheVariants.{Close}
use Rattle.engine.proofs.Law.{keeps_law}
use Rattle.engine.proofs.engine.Engine.close.Goals as goal

pub returns-in-Ok-clause-law : goal.returns-in-Ok-clause-law
returns-in-Ok-clause-law g c = keeps_law g.B.Bank.kind g.met.B.Bank.lawful c.args.self.now.order Close _ _ _ tt (search rules) (search rules)

pub returns-in-Err-clause-law : goal.returns-in-Err-clause-law
returns-in-Err-clause-law g c = keeps_law g.B.Bank.kind g.met.B.Bank.lawful c.args.self.now.order Close _ _ _ tt (search rules) (search rules)
