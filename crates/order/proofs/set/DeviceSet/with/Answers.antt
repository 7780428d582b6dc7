use Rattle.order.proofs.Bits.{with_one}
use Rattle.order.proofs.set.DeviceSet.with.Goals as goal

pub returns : goal.returns
returns c = with_one c.args.self c.args.device c.requires
