-- The number of each answer, phase and direction, and the values of each outcome.
use Rattle.std.specs.Prelude.{ℕ, ℤ, pos, neg_ℤ, Some, None, Option}
use Rattle.history.specs.declared.answer.StepAnswer.{StepAnswer}
use Rattle.history.specs.declared.answer.StepAnswer.TheVariants.{Lowered, Raised, Hindered, Alarmed}
use Rattle.history.specs.declared.answer.AlarmAnswer.{AlarmAnswer}
use Rattle.history.specs.declared.answer.AlarmAnswer.TheVariants.{Ignored, Kept}
use Rattle.history.specs.declared.phase.Phase.{Phase}
use Rattle.history.specs.declared.phase.Phase.TheVariants.{Prepare, Suspend, Late, Noirq}
use Rattle.history.specs.declared.entry.Direction.{Direction}
use Rattle.history.specs.declared.entry.Direction.TheVariants.{Down, Up}
use Rattle.history.specs.declared.outcome.Outcome.{Outcome}
use Rattle.history.specs.declared.outcome.Outcome.TheVariants.{Slept, Fault, Alarm, Cancelled}
use Rattle.history.specs.declared.outcome.Values.{Values}

abbrev pub step_number : StepAnswer → ℕ
step_number Lowered = 1
step_number Raised = 2
step_number Hindered = 3
step_number Alarmed = 4

abbrev pub alarm_number : AlarmAnswer → ℕ
alarm_number Ignored = 0
alarm_number Kept = 1

abbrev pub phase_number : Phase → ℕ
phase_number Prepare = 1
phase_number Suspend = 2
phase_number Late = 3
phase_number Noirq = 4

abbrev pub direction_sign : Direction → ℤ
direction_sign Down = pos 1
direction_sign Up = neg_ℤ (pos 1)

-- 255 where there is none
abbrev pub device_or_none : Option ℕ → ℕ
device_or_none None = 255
device_or_none (Some d) = d

-- EBUSY, the errno of an alarm
abbrev pub alarm_errno : ℕ
alarm_errno = 16

-- kind, errno (0 for none), device (255 for none), phase (0 for none) and lowerings taken
abbrev pub outcome_values : Outcome → Values
outcome_values (Slept alarm taken) = record { kind = 0; errno = 0; device = device_or_none alarm; phase = 0; taken = taken }
outcome_values (Fault errno device phase taken) = record { kind = 1; errno = errno; device = device; phase = phase_number phase; taken = taken }
outcome_values (Alarm device phase taken) = record { kind = 2; errno = alarm_errno; device = device; phase = phase_number phase; taken = taken }
outcome_values (Cancelled phase taken) = record { kind = 3; errno = 0; device = 255; phase = phase_number phase; taken = taken }
