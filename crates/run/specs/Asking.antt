-- What a what-if answers.
use Rattle.std.specs.Prelude.{◌≡◌, ◌≢◌, ◌↔◌, ℕ, ◌+◌, ◌-◌, ◌*◌, ◌<◌, ◌≤◌, true, List, set, is_ok, Ok, Err, Result}
use Rattle.bankrules.specs.Injections.{cell_into_next}
use Rattle.boardfile.specs.Layout.{device_count}
use Rattle.history.specs.declared.outcome.Outcome.{Outcome}
use Rattle.lines.specs.declared.report.Report.{Report}
use Rattle.program.specs.declared.fault.ProgramFault.{ProgramFault}
use Rattle.program.specs.declared.fault.ProgramFault.TheVariants.{Board, Sheet, Buffer, NoDevice, NoLevel, Engine}
use Rattle.program.specs.declared.fault.RunFault.{RunFault}
use Rattle.program.specs.declared.fault.RunFault.TheVariants.{Program, Memory}
use Rattle.run.specs.Files.{Fit, RefusesFiles, device_cells}
use Rattle.run.specs.Running.{Ran}

-- a level that a lowering leads to
pub record IsLevel (level : ℕ) : Type 0 where
  pub least : 1 ≤ level
  pub most : level ≤ 4

-- the place of the cell of a device for a level
abbrev pub cell : ℕ → ℕ → ℕ
cell device level = device_cells * device + level - 1

-- the byte is what an injector then has for the device on its way into that level; for any other device or level nothing changes
pub record WritesCell (sheet : List ℕ) (device level byte : ℕ) : Type 0 where
  pub there : cell_into_next (set sheet (cell device level) byte) device (level - 1) ≡ byte
  pub elsewhere : (d l : ℕ) → ((d ≡ device) × (l + 1 ≡ level) → ⊥) → cell_into_next (set sheet (cell device level) byte) d l ≡ cell_into_next sheet d l

-- the outcome of a run, or want of memory; the files are not refused
abbrev pub OutcomeOf : List ℕ → List ℕ → Result Outcome RunFault → Type 0
OutcomeOf bs sheet (Ok outcome) = (report : Report) × Ran bs sheet report × (outcome ≡ report.attempt.outcome)
OutcomeOf bs sheet (Err (Program fault)) = ⊥
OutcomeOf bs sheet (Err Memory) = Unit {0}

module _ (bs sheet : List ℕ) (device level : ℕ) where
  -- a what-if that is not refused
  pub record CanAsk : Type 0 where
    pub files : Fit bs sheet
    pub known : device < device_count bs
    pub leads : IsLevel level

  -- the cell that is written is that of the device for the level
  abbrev pub WritesRightCell : ℕ → Type 0
  WritesRightCell byte = CanAsk → WritesCell sheet device level byte

  -- refused so: the files are tested first, then the device, then the level
  abbrev pub RefusesAsking : ProgramFault → Type 0
  RefusesAsking (Board fault) = RefusesFiles bs sheet (Board fault)
  RefusesAsking Sheet = RefusesFiles bs sheet Sheet
  RefusesAsking Buffer = ⊥
  RefusesAsking (NoDevice named) = Fit bs sheet × (device_count bs ≤ device) × (named ≡ device)
  RefusesAsking NoLevel = Fit bs sheet × (device < device_count bs) × (IsLevel level → ⊥)
  RefusesAsking (Engine fault calls) = ⊥

  -- the outcome of a run with another byte in the cell
  abbrev pub Asks : ℕ → Result Outcome RunFault → Type 0
  Asks byte (Ok outcome) = CanAsk × OutcomeOf bs (set sheet (cell device level) byte) (Ok outcome)
  Asks byte (Err (Program fault)) = RefusesAsking fault
  Asks byte (Err Memory) = CanAsk

  -- the answer as equivalences
  pub record ExactAnswer (r : Result Outcome RunFault) : Type 0 where
    pub answers : (r ≢ Err Memory) → (is_ok r ≡ true) ↔ CanAsk
    pub refuses : (fault : ProgramFault) → (r ≡ Err (Program fault)) ↔ RefusesAsking fault
