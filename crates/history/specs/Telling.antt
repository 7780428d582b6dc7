-- What a history tells of the next call, of the journal, and of where the engine stands.
use Rattle.std.specs.Prelude.{◌≡◌, ℕ, ◌+◌, ◌<◌, ◌≤◌, ◌⊎◌, true, false, if◌then◌else◌, List, [], ◌∷◌, length, Ok, Result, IsSome}
use Rattle.bank.specs.Meaning.{Device, hindrance}
use Rattle.bank.specs.declared.fault.BankFault.TheVariants.{NoDevice}
use Rattle.history.specs.declared.call.Call.{Call}
use Rattle.history.specs.declared.call.Call.TheVariants.{Open, Step, Alarm, Close, Put, Look}
use Rattle.history.specs.declared.answer.Answer.{Answer}
use Rattle.history.specs.declared.answer.Answer.TheVariants.{Stepped}
use Rattle.history.specs.declared.answer.StepAnswer.TheVariants.{Lowered}
use Rattle.history.specs.declared.entry.Entry.{Entry}
use Rattle.history.specs.declared.fault.EngineFault.{EngineFault}
use Rattle.history.specs.declared.fault.EngineFault.TheVariants.{Bank, InAttempt, NothingOpen, AtRest}
use Rattle.history.specs.declared.standing.Stage.{Stage}
use Rattle.history.specs.declared.standing.Stage.TheVariants as stage
use Rattle.history.specs.Schedule.{level_sum}
use Rattle.history.specs.Attempts.{History, under_way, descent, next_device, standing, stage_of}
use Rattle.history.specs.Rules.{answer_to, recorded}

abbrev pub is_lowering : Result Answer EngineFault → ℕ
is_lowering (Ok (Stepped Lowered)) = 1
is_lowering answer = 0

module _ (order : List ℕ) where
  -- what a call answers after this history
  abbrev pub answer_after : History → Call → List Device → Result Answer EngineFault
  answer_after h call now = answer_to order (standing order h now) call now

  -- the journal
  abbrev pub journal : History → List Entry
  journal [] = []
  journal (m ∷ h) = recorded order (answer_after h m.call m.before) m.before (journal h)

  -- how many calls of the attempt under way lowered a device
  abbrev pub lowerings : History → ℕ
  lowerings [] = 0
  lowerings (m ∷ h) = if under_way h then is_lowering (answer_after h m.call m.before) + lowerings h else 0

  -- the engine is in this stage after this history
  abbrev pub IsAt : Stage → History → List Device → Type 0
  IsAt s h now = stage_of (standing order h now) ≡ s

  -- an alarm is kept, or the next device has a hindrance
  abbrev pub Stopped : History → List Device → Type 0
  Stopped h now = IsSome (descent order h).kept ⊎ (0 < hindrance now (next_device order now))

  -- refused as the bank refuses a number that is no device's
  abbrev pub NoSuch : List Device → ℕ → EngineFault → Type 0
  NoSuch now d fault = (length order ≤ d) × (fault ≡ Bank (NoDevice d) (level_sum now))

  -- the rules of refusal: the number of a device first, then what is open
  abbrev pub Refuses : History → List Device → Call → EngineFault → Type 0
  Refuses h now Open fault = (under_way h ≡ true) × (fault ≡ InAttempt)
  Refuses h now Step fault = ((under_way h ≡ false) × (fault ≡ NothingOpen)) ⊎ ((IsAt stage.Asleep h now ⊎ IsAt stage.Landed h now) × (fault ≡ AtRest))
  Refuses h now (Alarm d) fault = NoSuch now d fault ⊎ ((d < length order) × (under_way h ≡ false) × (fault ≡ NothingOpen))
  Refuses h now Close fault = (under_way h ≡ false) × (fault ≡ NothingOpen)
  Refuses h now (Put d w) fault = NoSuch now d fault ⊎ ((d < length order) × (under_way h ≡ true) × (fault ≡ InAttempt))
  Refuses h now (Look d) fault = NoSuch now d fault
