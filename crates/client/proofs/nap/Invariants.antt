use Rattle.std.proofs.Common.{◌≡◌, true}
use Rattle.order.specs.Answers.{Superior, devices}
use Rattle.history.specs.Attempts.{History}
use Rattle.history.specs.Law.{LedTo}
use Rattle.engine.specs.States.{state}
use Rattle.engine.specs.Tickets.{is_open}
use Rattle.client.specs.Naps.{slept}
use Rattle.client.proofs.Naps.{Since}
use Rattle.client.proofs.nap.Given as goal

-- the attempt is still the one that was opened
abbrev pub invariant-loop : goal.invariant-loop
invariant-loop g l =
    let kind = g.B.Bank.kind in
    let order = devices l.fn.engine.order in
    record {
      same : l.engine.order ≡ l.fn.engine.order;
      gone : state g.B.Bank l.engine ≡ slept g.B.Bank l.fn.engine l.counter;
      opened : is_open l.engine.standing ≡ true;
      since : (h : History) → LedTo kind order h (state g.B.Bank l.fn.engine) → Since kind (Superior l.fn.engine.order.superiors) order (kind.devices (g.B.Bank.model l.fn.engine.bank)) (state g.B.Bank l.engine);
    }
