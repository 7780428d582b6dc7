use Rattle.order.proofs.Bits.{has_decides}
use Rattle.order.proofs.set.DeviceSet.has.Goals as goal

pub returns : goal.returns
returns c = has_decides c.args.self.bits c.args.device
