use Rattle.std.proofs.Common.{◌∙◌, ap}
use Rattle.history.specs.Schedule.{device_of}
use Rattle.engine.proofs.Bank.{is_made}
use Rattle.engine.proofs.banks.make.Goals as goal

pub returns : goal.returns
returns g c =
    is_made g.B.Bank.kind g.met.B.Bank.lawful c.args.order.now _ _ _ _ _ (g.met.B.Bank.kept c.args.bank.now) c.requires.scheduled c.requires.next c.requires.more (c.of-turn.ensures.device ∙ ap (λ order. device_of order c.args.lowering) c.devices.ensures.value) c.lower.ensures.answer c.lower.ensures.after
