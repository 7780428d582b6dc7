use Rattle.std.proofs.Common.{rules}
use Rattle.history.specs.declared.call.Call.TheVariants.{Put}
use Rattle.engine.proofs.Law.{keeps_law}
use Rattle.engine.proofs.engine.Engine.put.Goals as goal

pub returns-clause-law : goal.returns-clause-law
returns-clause-law g c = keeps_law g.B.Bank.kind g.met.B.Bank.lawful c.args.self.now.order (Put c.args.device c.args.word) _ _ _ c.ranges.word.fits (search rules) (search rules)
