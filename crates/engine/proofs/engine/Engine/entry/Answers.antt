use Rattle.std.proofs.Common.{subst}
use Rattle.engine.specs.Answers.{EntryAt}
use Rattle.engine.specs.States.{state}
use Rattle.engine.proofs.Law.{tells_journal}
use Rattle.engine.proofs.engine.Engine.entry.Goals as goal

pub returns-clause-told : goal.returns-clause-told
returns-clause-told g c = λ h led.
    subst (λ js. EntryAt js c.args.index c.noted_at.result) (tells_journal g.B.Bank.kind g.met.B.Bank.lawful c.args.self.now.order h (state g.B.Bank c.args.self.now) led) c.noted_at.ensures
