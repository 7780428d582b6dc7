use Rattle.std.proofs.Common.{◌≡◌, ◌+◌, true, false, refl, ap, subst, ◌∙◌, arith}
use Rattle.std.specs.Prelude.{Ok, Err}
use Rattle.order.specs.Answers.{Superior, devices}
use Rattle.history.specs.declared.answer.Answer.TheVariants.{Opened, Stepped, Closed}
use Rattle.history.specs.declared.call.Call.TheVariants.{Open, Step, Close}
use Rattle.history.specs.Law.{Obeys}
use Rattle.history.specs.Rules.{next}
use Rattle.engine.specs.States.{state, answered}
use Rattle.engine.specs.Tickets.{owes_after}
use Rattle.engine.proofs.Playing.{opens_more}
use Rattle.client.proofs.Naps.{opened, stepped, closed, one_more, closed_so, said_so}
use Rattle.client.proofs.nap.Goals as goal

pub loop-init : goal.loop-init
loop-init g c =
    let kind = g.B.Bank.kind in
    let order = c.args.engine.now.order in
    let is : answered (λ _. Opened) c.open.result ≡ Ok Opened = ap (answered (λ _. Opened)) c.in_ok-ticket.was in
    record {
      same = c.open.ensures.after.1;
      gone = c.open.ensures.after.0;
      opened = opens_more kind (devices order) (state g.B.Bank c.args.engine.now) (state g.B.Bank c.open.new.self) Open (answered (λ _. Opened) c.open.result) false c.open.ensures.answer c.open.ensures.after.0 (λ e. grind arith) (ap (owes_after false) is);
      since = λ h led. opened kind (Superior order.superiors) (devices order) (state g.B.Bank c.args.engine.now) (state g.B.Bank c.open.new.self) _ c.open.ensures.law is h led;
    }

pub returns-clause-words : goal.returns-clause-words
returns-clause-words g c =
    let kind = g.B.Bank.kind in
    let so = c.loop.invariant in
    let order = c.args.engine.now.order in
    let law : Obeys kind (Superior order.superiors) (devices order) Close (state g.B.Bank c.loop.engine) (Ok (Closed c.close.result)) (state g.B.Bank c.close.new.engine) =
    subst (λ o. Obeys kind (Superior o.superiors) (devices o) Close (state g.B.Bank c.loop.engine) (Ok (Closed c.close.result)) (state g.B.Bank c.close.new.engine))
    so.same c.close.ensures.law in
    λ h led. closed kind (Superior order.superiors) (devices order) _ (state g.B.Bank c.loop.engine) (state g.B.Bank c.close.new.engine) _ law (so.since h led)

pub returns-clause-napped : goal.returns-clause-napped
returns-clause-napped g c =
    let so = c.loop.invariant in
    let all : c.loop.counter ≡ c.args.steps = omega arith in
    record {
      leaves = closed_so g.B.Bank.kind (devices c.args.engine.now.order) (devices c.loop.engine.order) _ _ (ap devices so.same) (rw all at so.gone) _ c.close.ensures.after.0;
      answers = said_so g.B.Bank.kind (devices c.args.engine.now.order) (devices c.loop.engine.order) _ _ (ap devices so.same) (rw all at so.gone) _ c.close.ensures.answer;
    }

pub loop-preserved : goal.loop-preserved
loop-preserved g c =
    let kind = g.B.Bank.kind in
    let so = c.loop.invariant in
    let order = c.args.engine.now.order in
    let law : Obeys kind (Superior order.superiors) (devices order) Step (state g.B.Bank c.loop.engine) (answered Stepped c.step-answer.result) (state g.B.Bank c.step-answer.new.self) =
    subst (λ o. Obeys kind (Superior o.superiors) (devices o) Step (state g.B.Bank c.loop.engine) (answered Stepped c.step-answer.result) (state g.B.Bank c.step-answer.new.self)) so.same c.step-answer.ensures.law in
    record {
      same = c.step-answer.ensures.after.1 ∙ so.same;
      gone = one_more kind (devices order) (devices c.loop.engine.order) (next kind (devices order) (state g.B.Bank c.args.engine.now) Open) _ _ c.loop.counter (c.loop.counter + 1) (omega arith) (ap devices so.same) so.gone c.step-answer.ensures.after.0;
      opened = opens_more kind (devices c.loop.engine.order) (state g.B.Bank c.loop.engine) (state g.B.Bank c.step-answer.new.self) Step (answered Stepped c.step-answer.result) true c.step-answer.ensures.answer c.step-answer.ensures.after.0 (λ _. so.opened) (owed_step c.step-answer.result);
      since = λ h led. stepped kind (Superior order.superiors) (devices order) _ (state g.B.Bank c.loop.engine) (state g.B.Bank c.step-answer.new.self) _ law (so.since h led);
    }
  where
    owed_step : (r : _) → owes_after true (answered Stepped r) ≡ true
    owed_step (Ok x) = refl
    owed_step (Err x) = refl
