use Rattle.order.proofs.Placing.{Runs}
use Rattle.order.proofs.superiors.Superiors.order.Given as goal

abbrev pub invariant-loop-place : goal.invariant-loop-place
invariant-loop-place l = Runs l.self l.place-items l.place-index l.placed
