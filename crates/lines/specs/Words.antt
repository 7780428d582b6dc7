-- The words of lines.
use Rattle.std.specs.Prelude.{ℕ, List, codes}
use Rattle.history.specs.declared.entry.Direction.{Direction}
use Rattle.history.specs.declared.entry.Direction.TheVariants.{Down, Up}
use Rattle.history.specs.declared.outcome.Outcome.{Outcome}
use Rattle.history.specs.declared.outcome.Outcome.TheVariants.{Slept, Fault, Alarm, Cancelled}
use Rattle.history.specs.declared.phase.Phase.{Phase}
use Rattle.history.specs.declared.phase.Phase.TheVariants.{Prepare, Suspend, Late, Noirq}

-- the callback of a lowering goes by the phase, that of a raising by the level that is left
abbrev pub callback : Direction → Phase → List ℕ
callback Down Prepare = codes "prepare"
callback Down Suspend = codes "suspend"
callback Down Late = codes "suspend_late"
callback Down Noirq = codes "suspend_noirq"
callback Up Prepare = codes "complete"
callback Up Suspend = codes "resume"
callback Up Late = codes "resume_early"
callback Up Noirq = codes "resume_noirq"

-- the kind of an outcome
abbrev pub kind_word : Outcome → List ℕ
kind_word (Slept alarm taken) = codes "slept"
kind_word (Fault errno device phase taken) = codes "fault"
kind_word (Alarm device phase taken) = codes "alarm"
kind_word (Cancelled phase taken) = codes "cancel"

-- what stands for no device and no phase
abbrev pub none : List ℕ
none = codes "-"

-- the name of a phase
abbrev pub phase_name : Phase → List ℕ
phase_name Prepare = codes "prepare"
phase_name Suspend = codes "suspend"
phase_name Late = codes "late"
phase_name Noirq = codes "noirq"

-- the phase of an outcome
abbrev pub phase_word : Outcome → List ℕ
phase_word (Slept alarm taken) = none
phase_word (Fault errno device phase taken) = phase_name phase
phase_word (Alarm device phase taken) = phase_name phase
phase_word (Cancelled phase taken) = phase_name phase
