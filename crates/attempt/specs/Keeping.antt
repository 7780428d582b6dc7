-- What every attempt keeps.
use Rattle.std.specs.Prelude.{◌≡◌, ℕ, ◌<◌, List, length, slice_index_or, Some, None, Option, pos}
use Rattle.history.specs.declared.entry.Entry.{Entry}
use Rattle.history.specs.declared.entry.Direction.TheVariants.{Down}
use Rattle.history.specs.declared.outcome.Outcome.{Outcome}
use Rattle.history.specs.declared.outcome.Outcome.TheVariants.{Slept, Fault, Alarm, Cancelled}
use Rattle.history.specs.declared.phase.Phase.TheVariants.{Prepare}
use Rattle.history.specs.Numbers.{outcome_values}

-- what stands where no entry does
abbrev pub no_entry : Entry
no_entry = record { device = 0; phase = Prepare; direction = Down; code = pos 0 }

-- each entry's device is one of n
abbrev pub AreKnown : ℕ → List Entry → Type 0
AreKnown n entries = (i : ℕ) → i < length entries → (slice_index_or entries i no_entry).device < n

-- the device that an outcome names, if it names one
abbrev pub device_in : Outcome → Option ℕ
device_in (Slept alarm taken) = alarm
device_in (Fault errno device phase taken) = Some device
device_in (Alarm device phase taken) = Some device
device_in (Cancelled phase taken) = None

-- it is one of n; errno and taken have at most three digits
pub record IsKnown (n : ℕ) (outcome : Outcome) : Type 0 where
  pub device : (d : ℕ) → device_in outcome ≡ Some d → d < n
  pub errno : (outcome_values outcome).errno < 1000
  pub taken : (outcome_values outcome).taken < 1000
