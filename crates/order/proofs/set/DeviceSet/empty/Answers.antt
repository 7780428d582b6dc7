use Rattle.order.proofs.Bits.{none_in}
use Rattle.order.proofs.set.DeviceSet.empty.Goals as goal

pub returns : goal.returns
returns c = none_in
