-- What a history of calls tells: from the calls alone, and from the devices as the bank shows them just before each, of which levels
-- and hindrances are read; words are only handed on.
use Rattle.std.specs.Prelude.{ℕ, zero, suc, Bool, true, false, if◌then◌else◌, not, ◌&&◌, ◌||◌, ◌==◌, nat_lt, List, [], ◌∷◌, length, Some, None, Option}
use Rattle.bank.specs.Meaning.{Device, hindrance}
use Rattle.history.specs.declared.call.Call.{Call}
use Rattle.history.specs.declared.call.Call.TheVariants.{Open, Step, Alarm as Alarms, Close, Put, Look}
use Rattle.history.specs.declared.outcome.Outcome.{Outcome}
use Rattle.history.specs.declared.outcome.Outcome.TheVariants.{Slept, Fault, Alarm, Cancelled}
use Rattle.history.specs.declared.standing.Standing.{Standing}
use Rattle.history.specs.declared.standing.Standing.TheVariants.{Awake, GoingDown, Asleep, ComingUp, Landed}
use Rattle.history.specs.declared.standing.Stage.{Stage}
use Rattle.history.specs.declared.standing.Stage.TheVariants as stage
use Rattle.history.specs.Schedule.{phase, device_of, full, level_sum}

-- a call, and the devices as they stood just before it
pub record Moment : Type 0 where
  pub call : Call
  pub before : List Device

-- the calls that an engine was given since it was made, the newest first
abbrev pub History : Type 0
History = List Moment

abbrev pub at : Call → List Device → Moment
at call devices = record { call = call; before = devices }

-- ---- attempts: each runs from an obeyed open to the next obeyed close

-- whether an attempt is under way after a call, given whether one was before it
abbrev pub goes_on : Call → Bool → Bool
goes_on Open before = true
goes_on Close before = false
goes_on Step before = before
goes_on (Alarms d) before = before
goes_on (Put d w) before = before
goes_on (Look d) before = before

-- whether an attempt is under way
abbrev pub under_way : History → Bool
under_way [] = false
under_way (m ∷ h) = goes_on m.call (under_way h)

-- the devices as the opening of the attempt found them
abbrev pub opening : History → List Device
opening [] = []
opening (m ∷ h) = if under_way h then opening h else m.before

-- ---- the descent of an attempt

-- What the calls of an attempt tell of its descent.
pub record Descent : Type 0 where
  -- the alarm kept: the attempt's first that names a device of the board, if no step had ended the descent early before it
  pub kept : Option ℕ
  -- the outcome that a step gave, if one ended the descent early
  pub turned : Option Outcome
  -- whether the board was asleep just before one of the calls
  pub slept : Bool

-- of an attempt that is just opened
abbrev pub just_opened : Descent
just_opened = record { kept = None; turned = None; slept = false }

-- the first of the two that is there
abbrev pub or_else : {A : Type 0} → Option A → Option A → Option A
or_else (Some x) other = Some x
or_else None other = other

abbrev pub if_none : {A B : Type 0} → Option A → Option B → Option B
if_none (Some x) other = None
if_none None other = other

abbrev pub is_step : Call → Bool
is_step Open = false
is_step Step = true
is_step (Alarms d) = false
is_step Close = false
is_step (Put d w) = false
is_step (Look d) = false

-- after the descent, with levels that add up to k
abbrev pub rising : Outcome → ℕ → Standing
rising outcome zero = Landed outcome
rising outcome (suc k) = ComingUp outcome

module _ (order : List ℕ) where
  abbrev pub all_down : List Device → Bool
  all_down now = level_sum now == full order

  abbrev pub next_device : List Device → ℕ
  next_device now = device_of order (level_sum now)

  -- an alarm of device d that ends the descent where the levels add up to k
  abbrev pub by_alarm : ℕ → ℕ → Outcome
  by_alarm d k = Alarm d (phase (length order) k) k

  -- the next device's hindrance as an outcome
  abbrev pub by_fault : List Device → Outcome
  by_fault now = Fault (hindrance now (next_device now)) (next_device now) (phase (length order) (level_sum now)) (level_sum now)

  -- how a step that goes down ends the descent, if it does: with an alarm kept, or with a hindrance at the next device
  abbrev pub turning : Option ℕ → List Device → Option Outcome
  turning (Some d) now = Some (by_alarm d (level_sum now))
  turning None now = if hindrance now (next_device now) == 0 then None else Some (by_fault now)

  -- the device that a call names by an alarm, if it is one of the board
  abbrev pub alarm_of : Call → Option ℕ
  alarm_of Open = None
  alarm_of Step = None
  alarm_of (Alarms d) = if nat_lt d (length order) then Some d else None
  alarm_of Close = None
  alarm_of (Put d w) = None
  alarm_of (Look d) = None

  -- with one call more
  abbrev pub continued : Descent → Moment → Descent
  continued t m =
      record {
        kept = or_else t.kept (if_none t.turned (alarm_of m.call));
        turned = or_else t.turned (if is_step m.call && not (t.slept || all_down m.before) then turning t.kept m.before else None);
        slept = t.slept || all_down m.before;
      }

  -- the descent of the attempt that is under way
  abbrev pub descent : History → Descent
  descent [] = just_opened
  descent (m ∷ h) = if under_way h then continued (descent h) m else just_opened

  -- whether the descent has ended, with the devices as they are now: by a step, or at sleep
  abbrev pub has_ended : Descent → List Device → Bool
  has_ended t now = elim t.turned [ None ↦ t.slept || all_down now | Some outcome ↦ true ]

  -- ---- how an attempt ends that is closed now, and where it stands

  -- closed going down: by the alarm that is kept, or cancelled
  abbrev pub cut_short : Option ℕ → ℕ → Outcome
  cut_short (Some d) k = by_alarm d k
  cut_short None k = Cancelled (phase (length order) k) k

  abbrev pub slept_with : Option ℕ → Outcome
  slept_with alarm = Slept alarm (full order)

  -- the outcome of an attempt
  abbrev pub outcome : Descent → List Device → Outcome
  outcome t now = elim t.turned [ None ↦ if t.slept || all_down now then slept_with t.kept else cut_short t.kept (level_sum now) | Some turned ↦ turned ]

  -- asleep; an alarm has the board come up
  abbrev pub resting : Option ℕ → ℕ → Standing
  resting None k = Asleep
  resting (Some d) k = rising (slept_with (Some d)) k

  abbrev pub standing_in : Descent → List Device → Standing
  standing_in t now =
      elim t.turned [
        | None ↦ if t.slept || all_down now then resting t.kept (level_sum now) else GoingDown t.kept
        | Some turned ↦ rising turned (level_sum now)
      ]

  -- where an engine stands after this history, with the devices as they are now
  abbrev pub standing : History → List Device → Standing
  standing h now = if under_way h then standing_in (descent h) now else Awake

-- the stage alone
abbrev pub stage_of : Standing → Stage
stage_of Awake = stage.Awake
stage_of (GoingDown alarm) = stage.GoingDown
stage_of Asleep = stage.Asleep
stage_of (ComingUp outcome) = stage.ComingUp
stage_of (Landed outcome) = stage.Landed
