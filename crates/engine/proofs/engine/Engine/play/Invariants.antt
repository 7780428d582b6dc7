use Rattle.std.proofs.Common.{◌≡◌, ℕ, ◌<◌, ◌≤◌, ◌++◌, true, false, length, drop, vec_capacity}
use Rattle.std.specs.Prelude.{slice_index_or}
use Rattle.order.specs.Answers.{devices}
use Rattle.history.specs.declared.call.Call.TheVariants.{Open}
use Rattle.history.specs.Rules.{all_said, after_all}
use Rattle.history.specs.Law.{FitsCall}
use Rattle.engine.specs.States.{state}
use Rattle.engine.specs.Tickets.{owes, is_open}
use Rattle.engine.proofs.engine.Engine.play.Given as goal

-- what is said so far and what is left to say are all that is said, there is room for that, and the calls so far fit
abbrev pub invariant-loop-call : goal.invariant-loop-call
invariant-loop-call g l =
    let kind = g.B.Bank.kind in
    let order = devices l.fn.self.order in
    record {
      same : l.self.order ≡ l.fn.self.order;
      room : length l.fn.calls ≤ vec_capacity l.answers;
      count : length l.answers.items ≡ l.call-index;
      said : l.answers.items ++ all_said kind order (state g.B.Bank l.self) (drop l.call-index l.fn.calls) ≡ all_said kind order (state g.B.Bank l.fn.self) l.fn.calls;
      after : after_all kind order (state g.B.Bank l.self) (drop l.call-index l.fn.calls) ≡ after_all kind order (state g.B.Bank l.fn.self) l.fn.calls;
      owed : owes false l.answers.items ≡ l.owed;
      opened : l.owed ≡ true → is_open l.self.standing ≡ true;
      fits : (i : ℕ) → i < l.call-index → FitsCall (slice_index_or l.fn.calls i Open);
    }
