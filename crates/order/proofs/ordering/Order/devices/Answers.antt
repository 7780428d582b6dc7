use Rattle.std.proofs.Common.{sym, subst}
use Rattle.order.specs.Orders.{IsTheOrder}
use Rattle.order.specs.Answers.{Superior}
use Rattle.order.proofs.Exactness.{ordered}
use Rattle.order.proofs.ordering.Order.devices.Goals as goal

pub returns : goal.returns
returns c =
    let order = c.args.self.now in
    record { value = c.taken.ensures; ordered = subst (IsTheOrder order.superiors.count (Superior order.superiors)) (sym c.taken.ensures) (ordered order) }
