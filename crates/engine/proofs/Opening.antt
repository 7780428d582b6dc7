-- While a ticket is owed, an attempt is open.
use Rattle.std.proofs.Common.{◌≡◌, ℕ, Bool, true, false, zero, suc, List, refl, arith}
use Rattle.std.specs.Prelude.{Some, None, ◌==◌, nat_lt, length, if◌then◌else◌, Ok, Err, Result}
use Rattle.bank.specs.Meaning.{Device, hindrance}
use Rattle.history.specs.declared.call.Call.{Call}
use Rattle.history.specs.declared.call.Call.TheVariants.{Open, Step, Alarm, Close, Put, Look}
use Rattle.history.specs.declared.outcome.Outcome.{Outcome}
use Rattle.history.specs.declared.standing.Standing.{Standing}
use Rattle.history.specs.declared.standing.Standing.TheVariants.{Awake, GoingDown, Asleep, ComingUp, Landed}
use Rattle.history.specs.Schedule.{full, level_sum}
use Rattle.history.specs.Attempts.{next_device, rising}
use Rattle.history.specs.Rules.{alarm_answer, put_answer, answer_to, stands_after}
use Rattle.history.specs.declared.fault.EngineFault.{EngineFault}
use Rattle.history.specs.declared.answer.Answer.{Answer}
use Rattle.history.specs.declared.answer.Answer.TheVariants.{Stepped}
use Rattle.history.specs.declared.answer.StepAnswer.TheVariants.{Lowered, Hindered}
use Rattle.engine.specs.Tickets.{owes_after, is_open}

risen_open : (outcome : Outcome) (k : ℕ) → is_open (rising outcome k) ≡ true
risen_open outcome zero = refl
risen_open outcome (suc k) = refl

module _ (order : List ℕ) (now : List Device) where
  -- where an engine stands after a call
  abbrev pub after : Standing → Call → Standing
  after standing call = stands_after order standing call (answer_to order standing call now) now

  -- a step of the descent, by whether the next device has no hindrance
  lowering_open : (free : Bool) → is_open (stands_after order (GoingDown None) Step (Ok (if free then Stepped Lowered else Stepped Hindered)) now) ≡ true
  lowering_open true = asleep_open (suc (level_sum now) == full order)
    where
      asleep_open : (last : Bool) → is_open (if last then Asleep else GoingDown None) ≡ true
      asleep_open true = refl
      asleep_open false = refl
  lowering_open false = risen_open _ _

  -- a call for a device, by whether there is one
  known_open : (known : Bool) (owed : Bool) (standing : Standing) (call : Call) (answer : Result Answer EngineFault) (fault : EngineFault)
      → (owed ≡ true → is_open standing ≡ true)
      → (owes_after owed answer ≡ true → is_open (stands_after order standing call answer now) ≡ true)
      → owes_after owed (if known then answer else Err fault) ≡ true → is_open (stands_after order standing call (if known then answer else Err fault) now) ≡ true
  known_open true owed standing call answer fault was after o = after o
  known_open false owed standing call answer fault was after o = was o

  alarm_open : (owed : Bool) (standing : Standing) (d : ℕ) → (owed ≡ true → is_open standing ≡ true) → owes_after owed (alarm_answer order standing) ≡ true
      → is_open (stands_after order standing (Alarm d) (alarm_answer order standing) now) ≡ true
  alarm_open owed Awake d was o = was o
  alarm_open owed (GoingDown None) d was o = refl
  alarm_open owed (GoingDown (Some e)) d was o = refl
  alarm_open owed Asleep d was o = risen_open _ _
  alarm_open owed (ComingUp outcome) d was o = refl
  alarm_open owed (Landed outcome) d was o = refl

  put_open : (owed : Bool) (standing : Standing) (d w : ℕ) → (owed ≡ true → is_open standing ≡ true) → owes_after owed (put_answer order standing) ≡ true
      → is_open (stands_after order standing (Put d w) (put_answer order standing) now) ≡ true
  put_open owed Awake d w was o = was o
  put_open owed (GoingDown alarm) d w was o = refl
  put_open owed Asleep d w was o = refl
  put_open owed (ComingUp outcome) d w was o = refl
  put_open owed (Landed outcome) d w was o = refl

  pub stays_open : (owed : Bool) (standing : Standing) (call : Call) → (owed ≡ true → is_open standing ≡ true) → owes_after owed (answer_to order standing call now) ≡ true
      → is_open (after standing call) ≡ true
  stays_open owed Awake Open was o = refl
  stays_open owed (GoingDown alarm) Open was o = refl
  stays_open owed Asleep Open was o = refl
  stays_open owed (ComingUp outcome) Open was o = refl
  stays_open owed (Landed outcome) Open was o = refl
  stays_open owed Awake Step was o = was o
  stays_open owed (GoingDown (Some d)) Step was o = risen_open _ _
  stays_open owed (GoingDown None) Step was o = lowering_open (hindrance now (next_device order now) == 0)
  stays_open owed Asleep Step was o = refl
  stays_open owed (ComingUp outcome) Step was o = risen_open _ _
  stays_open owed (Landed outcome) Step was o = refl
  stays_open owed standing (Alarm d) was o = known_open (nat_lt d (length order)) owed standing (Alarm d) (alarm_answer order standing) _ was (alarm_open owed standing d was) o
  stays_open owed Awake Close was o = was o
  stays_open owed (GoingDown alarm) Close was o = grind arith
  stays_open owed Asleep Close was o = grind arith
  stays_open owed (ComingUp outcome) Close was o = grind arith
  stays_open owed (Landed outcome) Close was o = grind arith
  stays_open owed standing (Put d w) was o = known_open (nat_lt d (length order)) owed standing (Put d w) (put_answer order standing) _ was (put_open owed standing d w was) o
  stays_open owed standing (Look d) was o = known_open (nat_lt d (length order)) owed standing (Look d) _ _ was was o
