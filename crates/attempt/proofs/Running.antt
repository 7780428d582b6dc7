-- Engines that are just made, and run.
use Rattle.std.proofs.Common.{◌≡◌, ℕ, ◌+◌, ◌≤◌, List, length, length-append, ap, sym, subst, ◌∙◌, arith}
use Rattle.std.specs.Prelude.{Ok, Err, Result, vec_items}
use Rattle.std.proofs.lemmas.List.{length-replicate}
use Rattle.bank.specs.declared.bank.Bank.{Ghosts}
use Rattle.bank.specs.Laws.{Kind, Laws}
use Rattle.bank.specs.Meaning.{greatest_errno}
use Rattle.history.specs.declared.outcome.Outcome.{Outcome}
use Rattle.history.specs.declared.standing.Standing.TheVariants.{Awake}
use Rattle.history.specs.Rules.{State}
use Rattle.history.specs.Keeping.{InRange}
use Rattle.history.specs.Schedule.{full, level_sum}
use Rattle.history.proofs.Schedules.{all_running}
use Rattle.order.specs.declared.ordering.Order.{Order}
use Rattle.order.specs.Answers.{devices}
use Rattle.order.proofs.Exactness.{ordered}
use Rattle.engine.specs.declared.engine.Engine.{Engine}
use Rattle.engine.specs.Making.{IsReady, Makes}
use Rattle.engine.specs.States.{state}
use Rattle.engine.proofs.Orders.{permutes, some_device}
use Rattle.program.specs.declared.fault.Called.{Called}
use Rattle.attempt.specs.declared.attempt.Attempt.{Attempt}
use Rattle.attempt.specs.Attempts.{Attempted}
use Rattle.attempt.specs.Keeping.{AreKnown, IsKnown}
use Rattle.attempt.specs.Runs.{just_made, step_count, run_calls}
use Rattle.attempt.specs.Settling.{resting, Ran, Calls, Goes, Ended}
use Rattle.attempt.proofs.Attempting.{closes_so, last, attempted}
use Rattle.attempt.proofs.Blaming.{Closes}
use Rattle.attempt.proofs.Knowing as knowing

few_devices : (order : Order) → length (devices order) ≤ 64
few_devices order = omega (arith, (ordered order).0.permutes.long, order.superiors.few)

-- an opening, the steps and a close, and the making before them
run_length : {M : Type 0} (kind : Kind M) (order : List ℕ) (m : M) → 1 + length (run_calls kind order m) ≡ 3 + step_count kind order m
run_length kind order m = simp (length-append, length-replicate) (omega arith)

module _ {B : Type 0} (members : Ghosts B) (laws : Laws greatest_errno members.kind) (kept : (bank : B) → members.kind.sound (members.model bank)) where
  ready : (engine : Engine B members) → state members engine ≡ just_made (members.model engine.bank) → IsReady (devices engine.order) (members.kind.devices (members.model engine.bank))
  ready engine made =
      let order : Order = engine.order in
      let awake : engine.standing ≡ Awake = ap (λ (s : State members.Model). s.standing) made in
      let none : level_sum (members.kind.devices (members.model engine.bank)) ≡ 0 =
      let r : InRange (full (devices order)) Awake engine.lowered = subst (λ st. InRange (full (devices order)) st engine.lowered) awake engine.in_range in
      omega (arith, r.limit, engine.adds_up) in
      record { count = engine.scheduled.count; running = all_running (devices order) (permutes order) (some_device order) _ engine.scheduled none }

  closed : (before after : Engine B members) (steps : ℕ) (outcome : Outcome) → state members before ≡ just_made (members.model before.bank) → Ran members before after steps outcome
      → Closes members.kind laws (devices before.order) (permutes before.order) (some_device before.order) (members.model before.bank)
      (resting members.kind (devices before.order) (members.model before.bank)) outcome
  closed before after steps outcome made ran =
      closes_so members.kind laws before.order (members.model before.bank) (kept before.bank) (ready before made) outcome (sym ran.answer)

  -- the journal and the outcome name devices of the order alone
  journal_known : (before after : Engine B members) (steps : ℕ) (outcome : Outcome) → state members before ≡ just_made (members.model before.bank)
      → Ran members before after steps outcome → AreKnown (length (devices before.order)) (vec_items after.journal)
  journal_known before after steps outcome made ran =
      let c = closed before after steps outcome made ran in
      let is : vec_items after.journal ≡ _ = ap (λ (s : State members.Model). s.journal) ran.becomes ∙ c.journal in
      subst (AreKnown (length (devices before.order))) (sym is)
      (knowing.entries_known members.kind (devices before.order) (permutes before.order) (some_device before.order) (members.model before.bank) outcome c.blames)

  outcome_known : (before after : Engine B members) (steps : ℕ) (outcome : Outcome) → state members before ≡ just_made (members.model before.bank)
      → Ran members before after steps outcome → IsKnown (length (devices before.order)) outcome
  outcome_known before after steps outcome made ran =
      let c = closed before after steps outcome made ran in
      knowing.outcome_known members.kind (devices before.order) (permutes before.order) (some_device before.order) (members.model before.bank) outcome c.blames
      (few_devices before.order) (omega (arith, c.errno))

  pub goes : (before after : Engine B members) (r : Result (ℕ × Outcome) Called) → state members before ≡ just_made (members.model before.bank)
      → Calls members before after r → Goes members before after r
  goes before after (Ok (steps, outcome)) made ran = (ran, journal_known before after steps outcome made ran, outcome_known before after steps outcome made ran)
  goes before after (Err called) made none = none

  -- an attempt over an engine that was made so
  pub attempted_so : (order : Order) (bank : B) (engine : Engine B members) (attempt : Attempt) → Makes members order bank (Ok engine)
      → Ended members.kind (devices order) (members.model engine.bank) attempt
      → IsReady (devices order) (members.kind.devices (members.model bank)) × Attempted members.kind (members.model bank) order attempt
  attempted_so order bank engine attempt (ready, same, kept_bank, awake, blank) ended =
      let e : members.model engine.bank ≡ members.model bank = ap members.model kept_bank in
      let is : Ended members.kind (devices order) (members.model bank) attempt = subst (λ m. Ended members.kind (devices order) m attempt) e ended in (
        ready,
        attempted members.kind laws order (members.model bank) (kept bank) ready attempt
            (is.journal ∙ ap (λ (s : State members.Model). s.journal) (sym (last members.kind laws order (members.model bank) (kept bank) ready)))
            (sym is.outcome) (is.count ∙ sym (run_length members.kind (devices order) (members.model bank))) is.number,
      )
