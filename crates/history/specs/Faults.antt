-- The refusals of an engine.
use Rattle.std.specs.Prelude.{ℕ}
use Rattle.bank.specs.Faults as bank
use Rattle.history.specs.declared.fault.EngineFault.{EngineFault}
use Rattle.history.specs.declared.fault.EngineFault.TheVariants.{Bank, CountsDiffer, NotRunning, InAttempt, NothingOpen, AtRest, NoEntry}
use Rattle.refusal.specs.declared.layer.Layer.TheVariants.{Engine}
use Rattle.refusal.specs.declared.refusal.Refusal.{Refusal}

-- a refusal of the engine's own; its place is 0
abbrev pub own : ℕ → Refusal
own number = record { layer = Engine; number = number; place = 0 }

-- layer, number and place of each refusal: what came up from the bank is told as the bank tells it
abbrev pub told : EngineFault → Refusal
told (Bank fault lowered) = bank.told fault
told CountsDiffer = own 20
told NotRunning = own 21
told InAttempt = own 22
told NothingOpen = own 23
told AtRest = own 24
told NoEntry = own 25
