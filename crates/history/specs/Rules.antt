-- What each call answers and makes of an engine, over any kind of bank and from wherever the engine stands.
use Rattle.std.specs.Prelude.{ℕ, zero, suc, ◌-◌, ℤ, pos, neg_ℤ, if◌then◌else◌, ◌==◌, nat_lt, List, [], ◌∷◌, ◌++◌, length, Some, None, Option, Ok, Err, Result}
use Rattle.bank.specs.Meaning.{Device, level, word, hindrance}
use Rattle.bank.specs.Laws.{Kind}
use Rattle.bank.specs.declared.fault.BankFault.TheVariants.{NoDevice}
use Rattle.history.specs.declared.call.Call.{Call}
use Rattle.history.specs.declared.call.Call.TheVariants.{Open, Step, Alarm, Close, Put, Look}
use Rattle.history.specs.declared.answer.Answer.{Answer}
use Rattle.history.specs.declared.answer.Answer.TheVariants.{Opened, Stepped, Heard, Closed, Written, Seen}
use Rattle.history.specs.declared.answer.StepAnswer.TheVariants.{Lowered, Raised, Hindered, Alarmed}
use Rattle.history.specs.declared.answer.AlarmAnswer.TheVariants.{Ignored, Kept}
use Rattle.history.specs.declared.entry.Entry.{Entry}
use Rattle.history.specs.declared.entry.Direction.{Direction}
use Rattle.history.specs.declared.entry.Direction.TheVariants.{Down, Up}
use Rattle.history.specs.declared.fault.EngineFault.{EngineFault}
use Rattle.history.specs.declared.fault.EngineFault.TheVariants.{Bank, InAttempt, NothingOpen, AtRest}
use Rattle.history.specs.declared.outcome.Outcome.{Outcome}
use Rattle.history.specs.declared.standing.Standing.{Standing}
use Rattle.history.specs.declared.standing.Standing.TheVariants.{Awake, GoingDown, Asleep, ComingUp, Landed}
use Rattle.history.specs.Schedule.{phase, device_of, full, level_sum}
use Rattle.history.specs.Attempts.{next_device, by_fault, cut_short, slept_with, rising}

module _ (order : List ℕ) where
  -- ---- what is answered

  -- a number that is no device's is refused as the bank refuses it
  abbrev pub if_device : List Device → ℕ → Result Answer EngineFault → Result Answer EngineFault
  if_device now d answer = if nat_lt d (length order) then answer else Err (Bank (NoDevice d) (level_sum now))

  abbrev pub open_answer : Standing → Result Answer EngineFault
  open_answer Awake = Ok Opened
  open_answer (GoingDown alarm) = Err InAttempt
  open_answer Asleep = Err InAttempt
  open_answer (ComingUp outcome) = Err InAttempt
  open_answer (Landed outcome) = Err InAttempt

  -- going down, an alarm that is kept comes before a hindrance
  abbrev pub down_answer : Option ℕ → List Device → Answer
  down_answer (Some d) now = Stepped Alarmed
  down_answer None now = if hindrance now (next_device order now) == 0 then Stepped Lowered else Stepped Hindered

  abbrev pub step_answer : Standing → List Device → Result Answer EngineFault
  step_answer Awake now = Err NothingOpen
  step_answer (GoingDown alarm) now = Ok (down_answer alarm now)
  step_answer Asleep now = Err AtRest
  step_answer (ComingUp outcome) now = Ok (Stepped Raised)
  step_answer (Landed outcome) now = Err AtRest

  abbrev pub alarm_answer : Standing → Result Answer EngineFault
  alarm_answer Awake = Err NothingOpen
  alarm_answer (GoingDown None) = Ok (Heard Kept)
  alarm_answer (GoingDown (Some d)) = Ok (Heard Ignored)
  alarm_answer Asleep = Ok (Heard Kept)
  alarm_answer (ComingUp outcome) = Ok (Heard Ignored)
  alarm_answer (Landed outcome) = Ok (Heard Ignored)

  -- how the attempt ends that is closed now, if one is open, with levels that add up to k
  abbrev pub outcome_from : Standing → ℕ → Option Outcome
  outcome_from Awake k = None
  outcome_from (GoingDown alarm) k = Some (cut_short order alarm k)
  outcome_from Asleep k = Some (slept_with order None)
  outcome_from (ComingUp outcome) k = Some outcome
  outcome_from (Landed outcome) k = Some outcome

  abbrev pub close_answer : Option Outcome → Result Answer EngineFault
  close_answer None = Err NothingOpen
  close_answer (Some outcome) = Ok (Closed outcome)

  abbrev pub put_answer : Standing → Result Answer EngineFault
  put_answer Awake = Ok Written
  put_answer (GoingDown alarm) = Err InAttempt
  put_answer Asleep = Err InAttempt
  put_answer (ComingUp outcome) = Err InAttempt
  put_answer (Landed outcome) = Err InAttempt

  -- the answer to a call, from where the engine stands
  abbrev pub answer_to : Standing → Call → List Device → Result Answer EngineFault
  answer_to standing Open now = open_answer standing
  answer_to standing Step now = step_answer standing now
  answer_to standing (Alarm d) now = if_device now d (alarm_answer standing)
  answer_to standing Close now = close_answer (outcome_from standing (level_sum now))
  answer_to standing (Put d w) now = if_device now d (put_answer standing)
  answer_to standing (Look d) now = if_device now d (Ok (Seen (level now d) (word now d) (hindrance now d)))

  -- ---- the journal

  abbrev pub entry : Direction → ℕ → ℤ → Entry
  entry direction j code = record { device = device_of order j; phase = phase (length order) j; direction = direction; code = code }

  -- the raisings that undo lowerings k − 1 down to 0
  abbrev pub entries_up : ℕ → List Entry
  entries_up zero = []
  entries_up (suc k) = entry Up k (pos 0) ∷ entries_up k

  -- the journal after a call that is answered so, with the devices as they stood before it
  abbrev pub recorded : Result Answer EngineFault → List Device → List Entry → List Entry
  recorded (Ok Opened) now journal = []
  recorded (Ok (Stepped Lowered)) now journal = journal ++ entry Down (level_sum now) (pos 0) ∷ []
  recorded (Ok (Stepped Raised)) now journal = journal ++ entry Up (level_sum now - 1) (pos 0) ∷ []
  recorded (Ok (Stepped Hindered)) now journal = journal ++ entry Down (level_sum now) (neg_ℤ (pos (hindrance now (next_device order now)))) ∷ []
  recorded (Ok (Closed outcome)) now journal = journal ++ entries_up (level_sum now)
  recorded answer now journal = journal

  -- ---- where the engine stands afterwards

  -- after a lowering, with levels that add up to k
  abbrev pub lowered_to : ℕ → Standing
  lowered_to k = if k == full order then Asleep else GoingDown None

  -- once the descent has ended so, with levels that add up to k
  abbrev pub risen_to : Option Outcome → ℕ → Standing
  risen_to None k = Awake
  risen_to (Some outcome) k = rising outcome k

  abbrev pub stands_after : Standing → Call → Result Answer EngineFault → List Device → Standing
  stands_after standing call (Ok Opened) now = GoingDown None
  stands_after standing call (Ok (Stepped Lowered)) now = lowered_to (suc (level_sum now))
  stands_after standing call (Ok (Stepped Raised)) now = risen_to (outcome_from standing (level_sum now)) (level_sum now - 1)
  stands_after standing call (Ok (Stepped Hindered)) now = rising (by_fault order now) (level_sum now)
  stands_after standing call (Ok (Stepped Alarmed)) now = risen_to (outcome_from standing (level_sum now)) (level_sum now)
  stands_after (GoingDown alarm) (Alarm d) (Ok (Heard Kept)) now = GoingDown (Some d)
  stands_after Asleep (Alarm d) (Ok (Heard Kept)) now = rising (slept_with order (Some d)) (level_sum now)
  stands_after standing call (Ok (Closed outcome)) now = Awake
  stands_after standing call answer now = standing

-- ---- over a kind of bank

-- an engine, as far as its calls depend on it
pub record State (M : Type 0) : Type 0 where
  -- what its bank stands for
  pub model : M
  pub standing : Standing
  pub journal : List Entry

module _ {M : Type 0} (kind : Kind M) (order : List ℕ) where
  -- the devices that its bank shows
  abbrev pub shown : State M → List Device
  shown s = kind.devices s.model

  -- the model after the raisings that undo lowerings k − 1 down to 0
  abbrev pub all_raised : ℕ → M → M
  all_raised zero m = m
  all_raised (suc k) m = all_raised k (kind.raised m (device_of order k))

  -- what a call that is answered so makes of the bank
  abbrev pub model_after : Call → Result Answer EngineFault → M → M
  model_after call (Ok (Stepped Lowered)) m = kind.lowered m (next_device order (kind.devices m))
  model_after call (Ok (Stepped Raised)) m = kind.raised m (device_of order (level_sum (kind.devices m) - 1))
  model_after call (Ok (Closed outcome)) m = all_raised (level_sum (kind.devices m)) m
  model_after (Put d w) (Ok Written) m = kind.written m d w
  model_after call answer m = m

  abbrev pub said : State M → Call → Result Answer EngineFault
  said s call = answer_to order s.standing call (shown s)

  abbrev pub next : State M → Call → State M
  next s call =
      record {
        model = model_after call (said s call) s.model;
        standing = stands_after order s.standing call (said s call) (shown s);
        journal = recorded order (said s call) (shown s) s.journal;
      }

  -- calls one after another: what they answer, and the engine after them
  abbrev pub all_said : State M → List Call → List (Result Answer EngineFault)
  all_said s [] = []
  all_said s (call ∷ calls) = said s call ∷ all_said (next s call) calls

  abbrev pub after_all : State M → List Call → State M
  after_all s [] = s
  after_all s (call ∷ calls) = after_all (next s call) calls
