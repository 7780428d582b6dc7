-- The calls of the worked cases of the engine, what they are answered, and the journal after them.
use Rattle.std.specs.Prelude.{ℕ, List, [], ◌∷◌, ℤ, pos, neg_ℤ, None, Ok, Result}
use Rattle.history.specs.declared.call.Call.{Call}
use Rattle.history.specs.declared.call.Call.TheVariants.{Open, Step, Alarm, Close}
use Rattle.history.specs.declared.answer.Answer.{Answer}
use Rattle.history.specs.declared.answer.Answer.TheVariants.{Opened, Stepped, Heard, Closed}
use Rattle.history.specs.declared.answer.StepAnswer.{StepAnswer}
use Rattle.history.specs.declared.answer.StepAnswer.TheVariants.{Lowered, Raised, Hindered, Alarmed}
use Rattle.history.specs.declared.answer.AlarmAnswer.TheVariants.{Kept}
use Rattle.history.specs.declared.entry.Entry.{Entry}
use Rattle.history.specs.declared.entry.Direction.TheVariants.{Down, Up}
use Rattle.history.specs.declared.fault.EngineFault.{EngineFault}
use Rattle.history.specs.declared.outcome.Outcome.{Outcome}
use Rattle.history.specs.declared.outcome.Outcome.TheVariants as outcome
use Rattle.history.specs.declared.phase.Phase.{Phase}
use Rattle.history.specs.declared.phase.Phase.TheVariants.{Prepare, Suspend, Late, Noirq}
use Rattle.boardbank.specs.Boards.{Parts}

-- clk, i2c and lcd, of which a cell hinders i2c by this errno on its way into level 2
abbrev pub three_parts : ℕ → Parts
three_parts errno = record { registers = 0x21A1B2C3 ∷ []; buses = 0 ∷ 0x500 ∷ []; quiets = []; cells = 0 ∷ 0 ∷ 0 ∷ 0 ∷ 0 ∷ errno ∷ 0 ∷ 0 ∷ 0 ∷ 0 ∷ 0 ∷ 0 ∷ [] }

-- one quiet device
abbrev pub one_quiet : Parts
one_quiet = record { registers = []; buses = []; quiets = 7 ∷ []; cells = [] }

-- a step is answered so
abbrev pub steps : StepAnswer → Result Answer EngineFault
steps answer = Ok (Stepped answer)

-- a close is answered so
abbrev pub ends : Outcome → Result Answer EngineFault
ends outcome = Ok (Closed outcome)

-- an entry of a lowering, and one of a raising
abbrev pub down : ℕ → Phase → ℤ → Entry
down device phase code = record { device = device; phase = phase; direction = Down; code = code }

abbrev pub up : ℕ → Phase → Entry
up device phase = record { device = device; phase = phase; direction = Up; code = pos 0 }

-- an alarm by lcd before the first step
abbrev pub alarm_first : List Call
alarm_first = Open ∷ Alarm 2 ∷ Step ∷ []

abbrev pub alarm_first_answers : List (Result Answer EngineFault)
alarm_first_answers = Ok Opened ∷ Ok (Heard Kept) ∷ steps Alarmed ∷ []

abbrev pub by_lcd : Outcome
by_lcd = outcome.Alarm 2 Prepare 0

-- one device goes to sleep
abbrev pub one_sleeps : List Call
one_sleeps = Open ∷ Step ∷ Step ∷ Step ∷ Step ∷ []

abbrev pub one_sleeps_answers : List (Result Answer EngineFault)
one_sleeps_answers = Ok Opened ∷ steps Lowered ∷ steps Lowered ∷ steps Lowered ∷ steps Lowered ∷ []

abbrev pub one_sleeps_journal : List Entry
one_sleeps_journal = down 0 Prepare (pos 0) ∷ down 0 Suspend (pos 0) ∷ down 0 Late (pos 0) ∷ down 0 Noirq (pos 0) ∷ []

abbrev pub one_wakes_journal : List Entry
one_wakes_journal = up 0 Noirq ∷ up 0 Late ∷ up 0 Suspend ∷ up 0 Prepare ∷ []

abbrev pub slept_alone : Outcome
slept_alone = outcome.Slept None 4

-- a device whose highest bit is set refuses to be suspended
abbrev pub busy : List Call
busy = Open ∷ Step ∷ Step ∷ Close ∷ []

abbrev pub busy_answers : List (Result Answer EngineFault)
busy_answers = Ok Opened ∷ steps Lowered ∷ steps Hindered ∷ ends (outcome.Fault 16 0 Suspend 1) ∷ []

abbrev pub busy_journal : List Entry
busy_journal = down 0 Prepare (pos 0) ∷ down 0 Suspend (neg_ℤ (pos 16)) ∷ up 0 Prepare ∷ []

-- i2c refuses to be suspended
abbrev pub refusing : List Call
refusing = Open ∷ Step ∷ Step ∷ Step ∷ Step ∷ Step ∷ Step ∷ Step ∷ Step ∷ Step ∷ Close ∷ []

abbrev pub refusing_answers : List (Result Answer EngineFault)
refusing_answers =
    Ok Opened ∷ steps Lowered ∷ steps Lowered ∷ steps Lowered ∷ steps Lowered ∷ steps Hindered
    ∷ steps Raised ∷ steps Raised ∷ steps Raised ∷ steps Raised ∷ ends (outcome.Fault 110 1 Suspend 4) ∷ []

abbrev pub refusing_journal : List Entry
refusing_journal =
    down 0 Prepare (pos 0) ∷ down 1 Prepare (pos 0) ∷ down 2 Prepare (pos 0) ∷ down 2 Suspend (pos 0) ∷ down 1 Suspend (neg_ℤ (pos 110))
    ∷ up 2 Suspend ∷ up 2 Prepare ∷ up 1 Prepare ∷ up 0 Prepare ∷ []
