use Rattle.std.proofs.Common.{ap, ◌∙◌}
use Rattle.history.specs.Attempts.{stage_of}
use Rattle.engine.specs.States.{state}
use Rattle.engine.proofs.Law.{tells_standing}
use Rattle.engine.proofs.engine.Engine.stage.Goals as goal

pub returns-clause-told : goal.returns-clause-told
returns-clause-told g c = λ h led. c.stage.ensures ∙ ap stage_of (tells_standing g.B.Bank.kind g.met.B.Bank.lawful c.args.self.now.order h (state g.B.Bank c.args.self.now) led)
