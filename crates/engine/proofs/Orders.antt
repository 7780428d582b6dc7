-- What an order keeps in its type, as the schedule needs it.
use Rattle.std.proofs.Common.{◌≡◌, ◌≤◌, length, subst, sym, arith}
use Rattle.order.specs.declared.ordering.Order.{Order}
use Rattle.order.specs.Answers.{Superior, devices}
use Rattle.order.specs.Orders.{Permutes, Precedes}
use Rattle.order.proofs.Exactness.{ordered}

module _ (order : Order) where
  counted : length (devices order) ≡ order.superiors.count
  counted = (ordered order).0.permutes.long

  pub permutes : Permutes (length (devices order)) (devices order)
  permutes = subst (λ n. Permutes n (devices order)) (sym counted) (ordered order).0.permutes

  pub precedes : Precedes (length (devices order)) (Superior order.superiors) (devices order)
  precedes = subst (λ n. Precedes n (Superior order.superiors) (devices order)) (sym counted) (ordered order).0

  pub some_device : 1 ≤ length (devices order)
  some_device = omega (arith, order.superiors.some, counted)
