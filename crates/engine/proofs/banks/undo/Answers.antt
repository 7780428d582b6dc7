use Rattle.std.proofs.Common.{arith}
use Rattle.std.proofs.Common.{◌∙◌, ap}
use Rattle.history.specs.Schedule.{device_of}
use Rattle.engine.proofs.Bank.{is_undone}
use Rattle.engine.proofs.banks.undo.Goals as goal

pub returns : goal.returns
returns g c =
    is_undone g.B.Bank.kind g.met.B.Bank.lawful c.args.order.now _ _ _ _ _ (g.met.B.Bank.kept c.args.bank.now) c.requires.scheduled (omega (arith, c.requires.last)) (c.of-turn.ensures.device ∙ ap (λ order. device_of order c.args.lowering) c.devices.ensures.value) c.raise.ensures.answer c.raise.ensures.after
