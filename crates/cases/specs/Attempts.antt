-- More calls of engines, what they are answered, and the journal after them: alarms asleep, refusals awake, going down, asleep and
-- landed, closes going down, and all of the schedule.
use Rattle.std.specs.Prelude.{ℕ, List, [], ◌∷◌, ◌++◌, pos, Some, None, Ok, Err, Result}
use Rattle.bank.specs.declared.fault.BankFault.TheVariants.{NoDevice}
use Rattle.history.specs.declared.call.Call.{Call}
use Rattle.history.specs.declared.call.Call.TheVariants.{Open, Step, Alarm, Close, Put, Look}
use Rattle.history.specs.declared.answer.Answer.{Answer}
use Rattle.history.specs.declared.answer.Answer.TheVariants.{Opened, Heard, Written, Seen}
use Rattle.history.specs.declared.answer.AlarmAnswer.TheVariants.{Ignored, Kept}
use Rattle.history.specs.declared.answer.StepAnswer.TheVariants.{Lowered, Raised}
use Rattle.history.specs.declared.entry.Entry.{Entry}
use Rattle.history.specs.declared.fault.EngineFault.{EngineFault}
use Rattle.history.specs.declared.fault.EngineFault.TheVariants.{Bank, InAttempt, NothingOpen, AtRest}
use Rattle.history.specs.declared.outcome.Outcome.TheVariants as outcome
use Rattle.history.specs.declared.phase.Phase.TheVariants.{Prepare, Suspend, Late, Noirq}
use Rattle.history.specs.declared.standing.Stage.TheVariants as stage
use Rattle.cases.specs.Case.{Case, plays}
use Rattle.cases.specs.Engines.{three_parts, one_quiet, steps, ends, down, up, one_sleeps_journal, one_wakes_journal}

-- the calls, and what they are answered

abbrev Answers : Type 0
Answers = List (Result Answer EngineFault)

-- a number that is no device of the bank is refused when the levels add up to k
abbrev no_device : ℕ → ℕ → Result Answer EngineFault
no_device number k = Err (Bank (NoDevice number) k)

-- ---- one quiet device, woken by its own alarm

-- it sleeps, where a step is refused, and its alarm is kept
abbrev woken : List Call
woken = Open ∷ Step ∷ Step ∷ Step ∷ Step ∷ Step ∷ Alarm 0 ∷ []

abbrev woken_answers : Answers
woken_answers = Ok Opened ∷ steps Lowered ∷ steps Lowered ∷ steps Lowered ∷ steps Lowered ∷ Err AtRest ∷ Ok (Heard Kept) ∷ []

-- coming up a second alarm is ignored, and one more where it has landed; a step is refused there
abbrev landing : List Call
landing = Alarm 0 ∷ Step ∷ Step ∷ Step ∷ Step ∷ Alarm 0 ∷ Step ∷ []

abbrev landing_answers : Answers
landing_answers = Ok (Heard Ignored) ∷ steps Raised ∷ steps Raised ∷ steps Raised ∷ steps Raised ∷ Ok (Heard Ignored) ∷ Err AtRest ∷ []

-- ---- clk, i2c and lcd

-- nothing is open, and lcd is given a word
abbrev awake : List Call
awake = Step ∷ Close ∷ Alarm 2 ∷ Alarm 3 ∷ Look 3 ∷ Put 3 1 ∷ Put 2 0x700 ∷ Look 2 ∷ []

abbrev awake_answers : Answers
awake_answers =
    Err NothingOpen ∷ Err NothingOpen ∷ Err NothingOpen ∷ no_device 3 0 ∷ no_device 3 0 ∷ no_device 3 0 ∷ Ok Written ∷ Ok (Seen 0 0x700 0) ∷ []

-- clk is prepared, and then nothing is obeyed but looks
abbrev descending : List Call
descending = Open ∷ Open ∷ Step ∷ Open ∷ Put 2 9 ∷ Put 3 9 ∷ Alarm 3 ∷ Look 3 ∷ Look 2 ∷ Look 0 ∷ []

abbrev descending_answers : Answers
descending_answers =
    Ok Opened ∷ Err InAttempt ∷ steps Lowered ∷ Err InAttempt ∷ Err InAttempt ∷ no_device 3 1 ∷ no_device 3 1 ∷ no_device 3 1 ∷ Ok (Seen 0 0x700 0)
    ∷ Ok (Seen 1 0x21A1B2C3 0) ∷ []

-- all are prepared, and lcd and i2c suspended
abbrev five_steps : List Call
five_steps = Open ∷ Step ∷ Step ∷ Step ∷ Step ∷ Step ∷ []

abbrev five_answers : Answers
five_answers = Ok Opened ∷ steps Lowered ∷ steps Lowered ∷ steps Lowered ∷ steps Lowered ∷ steps Lowered ∷ []

abbrev five_journal : List Entry
five_journal =
    down 0 Prepare (pos 0) ∷ down 1 Prepare (pos 0) ∷ down 2 Prepare (pos 0) ∷ down 2 Suspend (pos 0) ∷ down 1 Suspend (pos 0)
    ∷ up 1 Suspend ∷ up 2 Suspend ∷ up 2 Prepare ∷ up 1 Prepare ∷ up 0 Prepare ∷ []

-- all the way down in the order i2c, lcd, clk, twelve lowerings and no more
abbrev twelve_steps : List Call
twelve_steps = Open ∷ Step ∷ Step ∷ Step ∷ Step ∷ Step ∷ Step ∷ Step ∷ Step ∷ Step ∷ Step ∷ Step ∷ Step ∷ Step ∷ []

abbrev twelve_answers : Answers
twelve_answers =
    Ok Opened ∷ steps Lowered ∷ steps Lowered ∷ steps Lowered ∷ steps Lowered ∷ steps Lowered ∷ steps Lowered ∷ steps Lowered ∷ steps Lowered ∷ steps Lowered
    ∷ steps Lowered ∷ steps Lowered ∷ steps Lowered ∷ Err AtRest ∷ []

abbrev twelve_down : List Entry
twelve_down =
    down 1 Prepare (pos 0) ∷ down 2 Prepare (pos 0) ∷ down 0 Prepare (pos 0) ∷ down 0 Suspend (pos 0) ∷ down 2 Suspend (pos 0) ∷ down 1 Suspend (pos 0)
    ∷ down 0 Late (pos 0) ∷ down 2 Late (pos 0) ∷ down 1 Late (pos 0) ∷ down 0 Noirq (pos 0) ∷ down 2 Noirq (pos 0) ∷ down 1 Noirq (pos 0) ∷ []

abbrev twelve_up : List Entry
twelve_up =
    up 1 Noirq ∷ up 2 Noirq ∷ up 0 Noirq ∷ up 1 Late ∷ up 2 Late ∷ up 0 Late ∷ up 1 Suspend ∷ up 2 Suspend ∷ up 0 Suspend ∷ up 0 Prepare ∷ up 2 Prepare
    ∷ up 1 Prepare ∷ []

-- ---- the cases

abbrev pub of_attempts : List Case
of_attempts =
    plays one_quiet (0 ∷ []) woken woken_answers one_sleeps_journal stage.ComingUp
    ∷ plays one_quiet (0 ∷ []) (woken ++ landing) (woken_answers ++ landing_answers) (one_sleeps_journal ++ one_wakes_journal) stage.Landed
    ∷ plays one_quiet
    (0 ∷ [])
    (woken ++ (landing ++ Close ∷ []))
    (woken_answers ++ (landing_answers ++ ends (outcome.Slept (Some 0) 4) ∷ []))
    (one_sleeps_journal ++ one_wakes_journal)
    stage.Awake
    ∷ plays (three_parts 0) (0 ∷ 1 ∷ 2 ∷ []) awake awake_answers [] stage.Awake
    ∷ plays (three_parts 0) (0 ∷ 1 ∷ 2 ∷ []) (awake ++ descending) (awake_answers ++ descending_answers) (down 0 Prepare (pos 0) ∷ []) stage.GoingDown
    ∷ plays (three_parts 0)
    (0 ∷ 1 ∷ 2 ∷ [])
    (five_steps ++ Alarm 1 ∷ Alarm 2 ∷ Close ∷ [])
    (five_answers ++ Ok (Heard Kept) ∷ Ok (Heard Ignored) ∷ ends (outcome.Alarm 1 Suspend 5) ∷ [])
    five_journal
    stage.Awake
    ∷ plays (three_parts 0) (0 ∷ 1 ∷ 2 ∷ []) (five_steps ++ Close ∷ []) (five_answers ++ ends (outcome.Cancelled Suspend 5) ∷ []) five_journal stage.Awake
    ∷ plays (three_parts 0) (1 ∷ 2 ∷ 0 ∷ []) twelve_steps twelve_answers twelve_down stage.Asleep
    ∷ plays (three_parts 0)
    (1 ∷ 2 ∷ 0 ∷ [])
    (twelve_steps ++ Close ∷ [])
    (twelve_answers ++ ends (outcome.Slept None 12) ∷ [])
    (twelve_down ++ twelve_up)
    stage.Awake
    ∷ []
