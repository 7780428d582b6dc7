-- What each call makes of the bank: one lowering, one raising, the raisings of a close, one put, or nothing.
use Rattle.std.proofs.Common.{◌≡◌, ◌≢◌, ℕ, Bool, true, false, ◌<◌, ◌+◌, List, length, refl, ap, ◌∙◌, arith}
use Rattle.std.specs.Prelude.{None, Ok, Err, Result, ◌==◌}
use Rattle.std.proofs.lemmas.Bool.{cond_both, eqb-true}
use Rattle.bank.specs.Meaning.{Device, hindrance}
use Rattle.bank.specs.Laws.{Kind}
use Rattle.history.specs.declared.answer.Answer.{Answer}
use Rattle.history.specs.declared.answer.Answer.TheVariants.{Stepped, Closed, Written}
use Rattle.history.specs.declared.answer.StepAnswer.TheVariants.{Lowered, Raised, Hindered}
use Rattle.history.specs.declared.call.Call.{Call}
use Rattle.history.specs.declared.call.Call.TheVariants.{Open, Step, Alarm, Close, Put, Look}
use Rattle.history.specs.declared.fault.EngineFault.{EngineFault}
use Rattle.history.specs.declared.outcome.Outcome.{Outcome}
use Rattle.history.specs.declared.standing.Standing.{Standing}
use Rattle.history.specs.declared.standing.Standing.TheVariants.{Awake, GoingDown, Asleep, ComingUp, Landed}
use Rattle.history.specs.declared.standing.Stage.TheVariants as stage
use Rattle.history.specs.Attempts.{goes_on, next_device, stage_of}
use Rattle.history.specs.Rules.{State, shown, said, next, alarm_answer, answer_to, model_after, stands_after, recorded}
use Rattle.history.specs.Law.{is_lowering}
use Rattle.history.proofs.Refusals.{by_device}
use Rattle.history.proofs.Transitions.{sum_after}

-- whether a call that is answered so alters the bank
abbrev pub alters : Result Answer EngineFault → Bool
alters (Ok (Stepped Lowered)) = true
alters (Ok (Stepped Raised)) = true
alters (Ok (Closed end)) = true
alters (Ok Written) = true
alters answer = false

-- where it does not, neither the levels nor the count of lowerings change
pub idle : (answer : Result Answer EngineFault) → alters answer ≡ false → (k : ℕ) → (sum_after answer k ≡ k) × (is_lowering answer ≡ 0)
idle (Ok (Stepped Lowered)) e k = absurd (cc)
idle (Ok (Stepped Raised)) e k = absurd (cc)
idle (Ok (Stepped Hindered)) e k = (refl, refl)
idle (Ok (Closed end)) e k = absurd (cc)
idle (Ok Written) e k = absurd (cc)
idle answer e k = (refl, refl)

-- what a call makes of the bank, from where the engine stands and what is answered
pub data Effect (order : List ℕ) (now : List Device) (call : Call) (st : Standing) (answer : Result Answer EngineFault) : Type 0 where
  lowers : call ≡ Step → st ≡ GoingDown None → hindrance now (next_device order now) ≡ 0 → answer ≡ Ok (Stepped Lowered) → Effect order now call st answer
  raises : (end : Outcome) → call ≡ Step → st ≡ ComingUp end → answer ≡ Ok (Stepped Raised) → Effect order now call st answer
  closes : (end : Outcome) → call ≡ Close → st ≢ Awake → answer ≡ Ok (Closed end) → Effect order now call st answer
  puts : (d w : ℕ) → call ≡ Put d w → st ≡ Awake → d < length order → answer ≡ Ok Written → Effect order now call st answer
  rests : alters answer ≡ false → Effect order now call st answer

module _ (order : List ℕ) (now : List Device) where
  pub effect : (call : Call) (st : Standing) → Effect order now call st (answer_to order st call now)
  effect Open Awake = rests refl
  effect Open st = rests refl
  effect Step (GoingDown None) =
      cond_both (hindrance now (next_device order now) == 0) (Stepped Lowered) (Stepped Hindered) (λ a. Effect order now Step (GoingDown None) (Ok a))
      (λ e. lowers refl refl (eqb-true _ 0 e) refl) (λ e. rests refl)
  effect Step (ComingUp end) = raises end refl refl refl
  effect Step st = rests refl
  effect (Alarm d) st = by_device order now d (alarm_answer order st) (Effect order now (Alarm d) st) (λ l. rests (heard st)) (λ l. rests refl)
    where
      heard : (st : Standing) → alters (alarm_answer order st) ≡ false
      heard Awake = refl
      heard (GoingDown None) = refl
      heard st = refl
  effect Close Awake = rests refl
  effect Close (GoingDown alarm) = closes _ refl (λ e. cc) refl
  effect Close Asleep = closes _ refl (λ e. cc) refl
  effect Close (ComingUp end) = closes _ refl (λ e. cc) refl
  effect Close (Landed end) = closes _ refl (λ e. cc) refl
  effect (Put d w) Awake = by_device order now d _ (Effect order now (Put d w) Awake) (λ l. puts d w refl refl l refl) (λ l. rests refl)
  effect (Put d w) st = by_device order now d _ (Effect order now (Put d w) st) (λ l. rests refl) (λ l. rests refl)
  effect (Look d) st = by_device order now d _ (Effect order now (Look d) st) (λ l. rests refl) (λ l. rests refl)

  -- going down, the levels add up to one more for each lowering
  pub adds : (call : Call) (st : Standing) (answer : Result Answer EngineFault) (k : ℕ) → Effect order now call st answer
      → goes_on call true ≡ true → stage_of st ≡ stage.GoingDown → sum_after answer k ≡ is_lowering answer + k
  adds call st answer k (lowers c s z e) g i = ap (λ (a : Result Answer EngineFault). sum_after a k) e ∙ omega (arith, ap is_lowering e)
  adds call st answer k (raises end c s e) g i = absurd (cc (i, ap stage_of s))
  adds call st answer k (closes end c n e) g i = absurd (cc (g, ap (λ (x : Call). goes_on x true) c))
  adds call st answer k (puts d w c s l e) g i = absurd (cc (i, ap stage_of s))
  adds call st answer k (rests e) g i = omega (arith, (idle answer e k).0, (idle answer e k).1)

module _ {M : Type 0} (kind : Kind M) (order : List ℕ) where
  -- what such a call leaves as it is
  pub stays : (call : Call) (answer : Result Answer EngineFault) (m : M) → alters answer ≡ false → model_after kind order call answer m ≡ m
  stays call (Ok (Stepped Lowered)) m e = absurd (cc)
  stays call (Ok (Stepped Raised)) m e = absurd (cc)
  stays call (Ok (Stepped Hindered)) m e = refl
  stays call (Ok (Closed end)) m e = absurd (cc)
  stays call (Ok Written) m e = absurd (cc)
  stays call answer m e = refl

  -- the model after a call, by its answer
  pub model_told : (s : State M) (call : Call) (answer : Result Answer EngineFault) → said kind order s call ≡ answer
      → (next kind order s call).model ≡ model_after kind order call answer s.model
  model_told s call answer e = ap (λ (r : Result Answer EngineFault). model_after kind order call r s.model) e

  -- only a step, a close and a put alter it
  pub stays_still : (call : Call) (st : Standing) (now : List Device) (m : M) → call ≢ Step → call ≢ Close → answer_to order st call now ≢ Ok Written
      → model_after kind order call (answer_to order st call now) m ≡ m
  stays_still call st now m a b n = grind (arith, effect order now call st, stays call (answer_to order st call now) m)

  -- a refusal alters nothing
  pub unaltered : (s : State M) (call : Call) (fault : EngineFault) → said kind order s call ≡ Err fault → next kind order s call ≡ s
  unaltered s call fault e =
      ap (λ (r : Result Answer EngineFault). let later : State M = record {
        model = model_after kind order call r s.model;
        standing = stands_after order s.standing call r (shown kind order s);
        journal = recorded order r (shown kind order s) s.journal;
      } in later) e
