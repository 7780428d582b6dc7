-- Engines that are just made.
use Rattle.std.specs.Prelude.{◌≡◌, ◌≢◌, ◌⊎◌, ℕ, ◌*◌, ◌<◌, ◌≤◌, [], List, length, Ok, Err, Result, Vec, vec_items, vec_capacity}
use Rattle.std.specs.declared.alloc.Global.{Global}
use Rattle.bank.specs.declared.bank.Bank.{Ghosts}
use Rattle.bank.specs.Meaning.{Device, level}
use Rattle.history.specs.declared.entry.Entry.{Entry}
use Rattle.history.specs.Schedule.{full}
use Rattle.history.specs.declared.fault.EngineFault.{EngineFault}
use Rattle.history.specs.declared.fault.EngineFault.TheVariants.{CountsDiffer, NotRunning}
use Rattle.history.specs.declared.standing.Standing.TheVariants.{Awake}
use Rattle.order.specs.declared.ordering.Order.{Order}
use Rattle.order.specs.Answers.{devices}
use Rattle.engine.specs.declared.engine.Engine.{Engine}
use Rattle.engine.specs.declared.engine.making.MakeFault.{MakeFault}
use Rattle.engine.specs.declared.engine.making.MakeFault.TheVariants.{Engine as Refused, Memory}
use Rattle.engine.specs.declared.engine.making.Unmade.{Unmade}

-- as many devices as the order has, all of them at level 0
pub record IsReady (order : List ℕ) (now : List Device) : Type 0 where
  pub count : length now ≡ length order
  pub running : (d : ℕ) → level now d ≡ 0

-- why they are not; the count is tested first
abbrev pub Unready : List ℕ → List Device → EngineFault → Type 0
Unready order now fault =
    ((length now ≢ length order) × (fault ≡ CountsDiffer))
    ⊎ ((length now ≡ length order) × ((d : ℕ) × (d < length order) × (0 < level now d)) × (fault ≡ NotRunning))

-- whether they are
abbrev pub Readies : List ℕ → List Device → Result (Unit {0}) EngineFault → Type 0
Readies order now (Ok done) = IsReady order now
Readies order now (Err fault) = Unready order now fault

-- refused; or, where it is not, want of memory
abbrev pub WhyUnmade : List ℕ → List Device → MakeFault → Type 0
WhyUnmade order now (Refused fault) = Unready order now fault
WhyUnmade order now Memory = IsReady order now

-- room for two entries for each lowering
abbrev pub Rooms : List ℕ → List Device → Result (Vec Entry Global) MakeFault → Type 0
Rooms order now (Ok journal) = IsReady order now × (vec_items journal ≡ []) × (2 * full order ≤ vec_capacity journal)
Rooms order now (Err fault) = WhyUnmade order now fault

-- an engine of this order and this bank, awake and with nothing in its journal; or the bank comes back as it was
abbrev pub Makes : {B : Type 0} (members : Ghosts B) → Order → B → Result (Engine B members) (Unmade B) → Type 0
Makes members order bank (Ok engine) =
    IsReady (devices order) (members.kind.devices (members.model bank))
    × (engine.order ≡ order) × (engine.bank ≡ bank) × (engine.standing ≡ Awake) × (vec_items engine.journal ≡ [])
Makes members order bank (Err unmade) = (unmade.bank ≡ bank) × WhyUnmade (devices order) (members.kind.devices (members.model bank)) unmade.fault
