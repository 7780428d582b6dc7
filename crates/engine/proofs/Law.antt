-- The law, for an engine's order.
use Rattle.std.proofs.Common.{◌≡◌, ℕ}
use Rattle.std.specs.Prelude.{Result}
use Rattle.order.specs.declared.ordering.Order.{Order}
use Rattle.order.specs.Answers.{Superior, devices}
use Rattle.bank.specs.Laws.{Kind, Laws}
use Rattle.history.specs.declared.call.Call.{Call}
use Rattle.history.specs.declared.answer.Answer.{Answer}
use Rattle.history.specs.declared.fault.EngineFault.{EngineFault}
use Rattle.history.specs.Rules.{State, said, next}
use Rattle.history.specs.Law.{FitsCall, LedTo, Obeys, journal}
use Rattle.history.specs.Attempts.{History, standing}
use Rattle.history.proofs.Facts.{facts}
use Rattle.history.proofs.Lawfulness.{obeys}
use Rattle.engine.proofs.Orders.{permutes, precedes, some_device}

module _ {M : Type 0} {limit : ℕ} (kind : Kind M) (laws : Laws limit kind) (order : Order) where
  pub keeps_law : (call : Call) (s later : State M) (answer : Result Answer EngineFault) → FitsCall call → answer ≡ said kind (devices order) s call → later ≡ next kind (devices order) s call
      → Obeys kind (Superior order.superiors) (devices order) call s answer later
  keeps_law call s later answer fits a t = rw (a, t) (obeys kind laws (Superior order.superiors) (devices order) (precedes order) (some_device order) call s fits)

  -- what a history tells of the engine to which it led
  pub tells_standing : (h : History) (s : State M) → LedTo kind (devices order) h s → s.standing ≡ standing (devices order) h (kind.devices s.model)
  tells_standing h s led = (facts kind laws (devices order) (permutes order) (some_device order) h s led).stands

  pub tells_journal : (h : History) (s : State M) → LedTo kind (devices order) h s → s.journal ≡ journal (devices order) h
  tells_journal h s led = (facts kind laws (devices order) (permutes order) (some_device order) h s led).records
