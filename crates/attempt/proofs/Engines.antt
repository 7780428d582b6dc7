-- Engines on their way to rest.
use Rattle.std.proofs.Common.{◌≡◌, ℕ, Bool, true, false, ◌+◌, refl, ap, sym, subst, ◌∙◌}
use Rattle.bank.specs.declared.bank.Bank.{Ghosts}
use Rattle.bank.specs.Laws.{Laws}
use Rattle.bank.specs.Meaning.{greatest_errno}
use Rattle.history.specs.declared.call.Call.TheVariants.{Step}
use Rattle.history.specs.Keeping.{InRange}
use Rattle.history.specs.Rules.{State, next}
use Rattle.history.specs.Schedule.{full}
use Rattle.order.specs.declared.ordering.Order.{Order}
use Rattle.order.specs.Answers.{devices}
use Rattle.engine.specs.declared.engine.Engine.{Engine}
use Rattle.engine.specs.States.{state, Becomes}
use Rattle.engine.specs.Tickets.{is_open}
use Rattle.engine.proofs.Orders.{permutes, some_device}
use Rattle.attempt.specs.Runs.{is_at_rest}
use Rattle.attempt.specs.Settling.{Settled}
use Rattle.attempt.proofs.Steps.{Keeps, step_open}
use Rattle.attempt.proofs.Settling.{Halfway, starts, goes_on, Arrived, arrived}

module _ {B : Type 0} (members : Ghosts B) where
  -- after so many steps of an attempt that is open
  pub record IsHalfway (before after : Engine B members) (steps : ℕ) : Type 0 where
    pub same : after.order ≡ before.order
    pub opened : is_open after.standing ≡ true
    pub halfway : Halfway members.kind (devices before.order) (state members before) (state members after) steps

  -- it was asked whether the engine is at rest, and it is
  pub settled : (before after : Engine B members) (steps : ℕ) (rest : Bool) → rest ≡ is_at_rest after.standing → rest ≡ true
      → IsHalfway before after steps → Settled members before after steps
  settled before after steps rest asked told h =
      let e : is_at_rest after.standing ≡ true = sym asked ∙ told in
      let a : Arrived members.kind (devices before.order) (state members before) (state members after) steps =
      arrived members.kind (devices before.order) (state members before) (state members after) steps h.halfway e in
      record { count = a.count; most = a.most; steps = a.state; rests = e; order = h.same }

module _ {B : Type 0} (members : Ghosts B) (laws : Laws greatest_errno members.kind) (kept : (bank : B) → members.kind.sound (members.model bank)) where
  keeps : (engine : Engine B members) (order : Order) → engine.order ≡ order
      → Keeps members.kind laws (devices order) (permutes order) (some_device order) (state members engine)
  keeps engine order e =
      subst (λ o. Keeps members.kind laws (devices o) (permutes o) (some_device o) (state members engine)) e
      (record {
        sound = kept engine.bank;
        scheduled = engine.scheduled;
        in_range = subst (λ k. InRange (full (devices engine.order)) engine.standing k) engine.adds_up engine.in_range;
      })

  pub halfway_none : (engine : Engine B members) → is_open engine.standing ≡ true → IsHalfway members engine engine 0
  halfway_none engine o =
      record {
        same = refl;
        opened = o;
        halfway = starts members.kind laws (devices engine.order) (permutes engine.order) (some_device engine.order) (state members engine)
            (keeps engine engine.order refl);
      }

  -- it is not, and one more step is made
  pub halfway_more : (before between after : Engine B members) (steps : ℕ) (rest : Bool) → rest ≡ is_at_rest between.standing → rest ≡ false
      → IsHalfway members before between steps → Becomes members Step between after → IsHalfway members before after (steps + 1)
  halfway_more before between after steps rest asked told h (becomes, kept_order) =
      let order : Order = before.order in
      let is : state members after ≡ next members.kind (devices order) (state members between) Step =
      subst (λ o. state members after ≡ next members.kind (devices o) (state members between) Step) h.same becomes in
      record {
        same = kept_order ∙ h.same;
        opened = ap (λ (s : State members.Model). is_open s.standing) is ∙ step_open members.kind (devices order) (state members between) h.opened;
        halfway = subst (λ s. Halfway members.kind (devices order) (state members before) s (steps + 1)) (sym is)
            (goes_on members.kind laws (devices order) (permutes order) (some_device order) (state members before) (state members between) steps h.halfway
            (keeps between order h.same) h.opened (sym asked ∙ told));
      }
