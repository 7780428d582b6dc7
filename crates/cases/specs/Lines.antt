-- The worked cases of lines: of refusals, of entries and of outcomes; and faults that come up from below.
use Rattle.std.specs.Prelude.{List, [], ◌∷◌, codes, Some, None, pos, neg_ℤ}
use Rattle.bank.specs.declared.fault.BankFault.TheVariants.{NoDevice as NoBankDevice, WrongLevel, TooMany}
use Rattle.bank.specs.declared.fault.MakeFault.TheVariants.{Bank as NoBank, Memory as NoBankMemory}
use Rattle.boardfile.specs.declared.device.Device.{Device}
use Rattle.boardfile.specs.declared.fault.BoardFault.TheVariants.{Size, Mark, Counts, Tables, DeviceRecord, LinkRecord, Circle}
use Rattle.boardfile.specs.declared.fault.ReadFault.TheVariants.{Board as NoBoard, Memory as NoBoardMemory}
use Rattle.engine.specs.declared.engine.making.MakeFault.TheVariants.{Engine as NoEngine, Memory as NoEngineMemory}
use Rattle.history.specs.declared.fault.EngineFault.TheVariants.{Bank as OfBank, CountsDiffer, NotRunning, InAttempt, NothingOpen, AtRest, NoEntry}
use Rattle.history.specs.declared.outcome.Outcome.TheVariants as outcome
use Rattle.history.specs.declared.phase.Phase.TheVariants.{Prepare, Suspend, Late, Noirq}
use Rattle.program.specs.declared.fault.ProgramFault.TheVariants.{Board as OfBoard, Sheet, Buffer, NoDevice, NoLevel, Engine as OfEngine}
use Rattle.program.specs.declared.fault.RunFault.TheVariants.{Program, Memory}
use Rattle.program.specs.Faults.{board_unread, bank_unmade, engine_unmade}
use Rattle.cases.specs.Case.{Case, tells, comes_up, writes_entry, writes_outcome}
use Rattle.cases.specs.Engines.{down, up}

-- every number, in its layer and with its place; the calls and lowerings that come up with a refusal are not told
abbrev pub of_refusals : List Case
of_refusals =
    tells (OfBoard Size) (codes "! 3 1 0")
    ∷ tells (OfBoard (Mark 4080)) (codes "! 3 2 4080")
    ∷ tells (OfBoard (Counts 16)) (codes "! 3 3 16")
    ∷ tells (OfBoard (Tables 52)) (codes "! 3 4 52")
    ∷ tells (OfBoard (DeviceRecord 1008)) (codes "! 3 5 1008")
    ∷ tells (OfBoard (LinkRecord 48)) (codes "! 3 6 48")
    ∷ tells (OfBoard (Circle 63)) (codes "! 3 7 63")
    ∷ tells Sheet (codes "! 3 8 0")
    ∷ tells Buffer (codes "! 3 11 0")
    ∷ tells (NoDevice 9) (codes "! 3 12 9")
    ∷ tells NoLevel (codes "! 3 13 0")
    ∷ tells (OfEngine CountsDiffer 3) (codes "! 2 20 0")
    ∷ tells (OfEngine NotRunning 3) (codes "! 2 21 0")
    ∷ tells (OfEngine InAttempt 3) (codes "! 2 22 0")
    ∷ tells (OfEngine NothingOpen 3) (codes "! 2 23 0")
    ∷ tells (OfEngine AtRest 3) (codes "! 2 24 0")
    ∷ tells (OfEngine NoEntry 12) (codes "! 2 25 0")
    ∷ tells (OfEngine (OfBank (NoBankDevice 9) 5) 2) (codes "! 1 12 9")
    ∷ tells (OfEngine (OfBank (WrongLevel 7) 5) 2) (codes "! 1 26 7")
    ∷ tells (OfEngine (OfBank TooMany 5) 2) (codes "! 1 27 0")
    ∷ []

-- what stops a run before any call: the making of a bank or an engine comes up with no lowerings and no calls
abbrev pub of_makings : List Case
of_makings =
    comes_up (board_unread (NoBoard (DeviceRecord 32))) (Program (OfBoard (DeviceRecord 32)))
    ∷ comes_up (board_unread NoBoardMemory) Memory
    ∷ comes_up (bank_unmade (NoBank TooMany)) (Program (OfEngine (OfBank TooMany 0) 0))
    ∷ comes_up (bank_unmade NoBankMemory) Memory
    ∷ comes_up (engine_unmade (NoEngine NotRunning)) (Program (OfEngine NotRunning 0))
    ∷ comes_up (engine_unmade NoEngineMemory) Memory
    ∷ []

-- clk, i2c and lcd
abbrev named : List Device
named =
    record { name = record { padded = 0x63 ∷ 0x6C ∷ 0x6B ∷ 0 ∷ 0 ∷ 0 ∷ 0 ∷ 0 ∷ [] }; parent = None; word = 1 }
    ∷ record { name = record { padded = 0x69 ∷ 0x32 ∷ 0x63 ∷ 0 ∷ 0 ∷ 0 ∷ 0 ∷ 0 ∷ [] }; parent = None; word = 2 }
    ∷ record { name = record { padded = 0x6C ∷ 0x63 ∷ 0x64 ∷ 0 ∷ 0 ∷ 0 ∷ 0 ∷ 0 ∷ [] }; parent = Some 1; word = 3 }
    ∷ []

-- each callback, and each phase in which a device refuses
abbrev pub of_entries : List Case
of_entries =
    writes_entry named (down 0 Prepare (pos 0)) (codes "clk prepare 0")
    ∷ writes_entry named (down 1 Suspend (pos 0)) (codes "i2c suspend 0")
    ∷ writes_entry named (down 2 Late (pos 0)) (codes "lcd suspend_late 0")
    ∷ writes_entry named (down 0 Noirq (pos 0)) (codes "clk suspend_noirq 0")
    ∷ writes_entry named (up 1 Noirq) (codes "i2c resume_noirq 0")
    ∷ writes_entry named (up 2 Late) (codes "lcd resume_early 0")
    ∷ writes_entry named (up 0 Suspend) (codes "clk resume 0")
    ∷ writes_entry named (up 1 Prepare) (codes "i2c complete 0")
    ∷ writes_entry named (down 2 Prepare (neg_ℤ (pos 16))) (codes "lcd prepare -16")
    ∷ writes_entry named (down 1 Suspend (neg_ℤ (pos 110))) (codes "i2c suspend -110")
    ∷ writes_entry named (down 0 Late (neg_ℤ (pos 5))) (codes "clk suspend_late -5")
    ∷ writes_entry named (down 2 Noirq (neg_ℤ (pos 255))) (codes "lcd suspend_noirq -255")
    ∷ []

-- each kind, and each phase
abbrev pub of_outcomes : List Case
of_outcomes =
    writes_outcome named (outcome.Slept None 12) (codes "= slept 0 - - 12")
    ∷ writes_outcome named (outcome.Slept (Some 2) 12) (codes "= slept 0 lcd - 12")
    ∷ writes_outcome named (outcome.Fault 110 1 Suspend 4) (codes "= fault 110 i2c suspend 4")
    ∷ writes_outcome named (outcome.Fault 255 0 Noirq 11) (codes "= fault 255 clk noirq 11")
    ∷ writes_outcome named (outcome.Alarm 2 Suspend 3) (codes "= alarm 16 lcd suspend 3")
    ∷ writes_outcome named (outcome.Alarm 0 Prepare 0) (codes "= alarm 16 clk prepare 0")
    ∷ writes_outcome named (outcome.Cancelled Late 7) (codes "= cancel 0 - late 7")
    ∷ writes_outcome named (outcome.Cancelled Noirq 10) (codes "= cancel 0 - noirq 10")
    ∷ []
