use Rattle.std.proofs.Common.{ap, length, ◌∙◌}
use Rattle.engine.specs.States.{state}
use Rattle.engine.proofs.Law.{tells_journal}
use Rattle.engine.proofs.engine.Engine.entry_count.Goals as goal

pub returns-clause-told : goal.returns-clause-told
returns-clause-told g c = λ h led. c.noted.ensures ∙ ap length (tells_journal g.B.Bank.kind g.met.B.Bank.lawful c.args.self.now.order h (state g.B.Bank c.args.self.now) led)
