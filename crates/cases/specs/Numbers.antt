-- The worked cases of numbers: the values of each kind of outcome, and the number of each answer, phase and direction.
use Rattle.std.specs.Prelude.{List, [], ◌∷◌, Some, None, pos, neg_ℤ}
use Rattle.history.specs.declared.answer.AlarmAnswer.TheVariants.{Ignored, Kept}
use Rattle.history.specs.declared.answer.StepAnswer.TheVariants.{Lowered, Raised, Hindered, Alarmed}
use Rattle.history.specs.declared.entry.Direction.TheVariants.{Down, Up}
use Rattle.history.specs.declared.outcome.Outcome.TheVariants as outcome
use Rattle.history.specs.declared.phase.Phase.TheVariants.{Prepare, Suspend, Late, Noirq}
use Rattle.cases.specs.Case.{Case, values_outcome, numbers_step, numbers_alarm, numbers_phase, signs}

abbrev pub of_numbers : List Case
of_numbers =
    values_outcome (outcome.Slept None 12) (record { kind = 0; errno = 0; device = 255; phase = 0; taken = 12 })
    ∷ values_outcome (outcome.Slept (Some 2) 12) (record { kind = 0; errno = 0; device = 2; phase = 0; taken = 12 })
    ∷ values_outcome (outcome.Fault 110 1 Suspend 4) (record { kind = 1; errno = 110; device = 1; phase = 2; taken = 4 })
    ∷ values_outcome (outcome.Alarm 2 Prepare 0) (record { kind = 2; errno = 16; device = 2; phase = 1; taken = 0 })
    ∷ values_outcome (outcome.Cancelled Noirq 10) (record { kind = 3; errno = 0; device = 255; phase = 4; taken = 10 })
    ∷ numbers_step Lowered 1
    ∷ numbers_step Raised 2
    ∷ numbers_step Hindered 3
    ∷ numbers_step Alarmed 4
    ∷ numbers_alarm Ignored 0
    ∷ numbers_alarm Kept 1
    ∷ numbers_phase Prepare 1
    ∷ numbers_phase Suspend 2
    ∷ numbers_phase Late 3
    ∷ numbers_phase Noirq 4
    ∷ signs Down (pos 1)
    ∷ signs Up (neg_ℤ (pos 1))
    ∷ []
