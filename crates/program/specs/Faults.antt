-- The refusals of files and programs.
use Rattle.std.specs.Prelude.{ℕ}
use Rattle.bank.specs.declared.fault.MakeFault.{MakeFault as BankMakeFault}
use Rattle.bank.specs.declared.fault.MakeFault.TheVariants.{Bank as NoBank, Memory as NoBankMemory}
use Rattle.boardfile.specs.Faults as board
use Rattle.boardfile.specs.declared.fault.ReadFault.{ReadFault}
use Rattle.boardfile.specs.declared.fault.ReadFault.TheVariants.{Board as NoBoard, Memory as NoBoardMemory}
use Rattle.engine.specs.declared.engine.making.MakeFault.{MakeFault}
use Rattle.engine.specs.declared.engine.making.MakeFault.TheVariants.{Engine as NoEngine, Memory as NoEngineMemory}
use Rattle.history.specs.Faults as engine
use Rattle.history.specs.declared.fault.EngineFault.TheVariants.{Bank}
use Rattle.program.specs.declared.fault.ProgramFault.{ProgramFault}
use Rattle.program.specs.declared.fault.ProgramFault.TheVariants.{Board, Sheet, Buffer, NoDevice, NoLevel, Engine}
use Rattle.program.specs.declared.fault.RunFault.{RunFault}
use Rattle.program.specs.declared.fault.RunFault.TheVariants.{Program, Memory}
use Rattle.refusal.specs.declared.layer.Layer.TheVariants.{File}
use Rattle.refusal.specs.declared.refusal.Refusal.{Refusal}

-- a refusal of the program's own
abbrev pub own : ℕ → ℕ → Refusal
own number place = record { layer = File; number = number; place = place }

-- layer, number and place of each refusal: what came up from the board's reader or from the engine is told as they tell it
abbrev pub told : ProgramFault → Refusal
told (Board fault) = board.told fault
told Sheet = own 8 0
told Buffer = own 11 0
told (NoDevice device) = own 12 device
told NoLevel = own 13 0
told (Engine fault calls) = engine.told fault

-- a fault of the board's reader, handed on
abbrev pub board_unread : ReadFault → RunFault
board_unread (NoBoard fault) = Program (Board fault)
board_unread NoBoardMemory = Memory

-- one of a bank's making, when nothing is lowered and before any call
abbrev pub bank_unmade : BankMakeFault → RunFault
bank_unmade (NoBank fault) = Program (Engine (Bank fault 0) 0)
bank_unmade NoBankMemory = Memory

-- and one of the engine's making, before any call
abbrev pub engine_unmade : MakeFault → RunFault
engine_unmade (NoEngine fault) = Program (Engine fault 0)
engine_unmade NoEngineMemory = Memory
