-- What it is that a worked case holds.
use Rattle.std.specs.Prelude.{◌≡◌, ℕ, List, Vec, Ok, Err, vec_items, Result, String, string_bytes}
use Rattle.std.specs.declared.alloc.Global.{Global}
use Rattle.order.specs.declared.ordering.Order.{Order}
use Rattle.order.specs.Answers.{devices}
use Rattle.board.specs.declared.board.Board.{Board}
use Rattle.boardfile.specs.declared.fault.BoardFault.{BoardFault}
use Rattle.boardfile.specs.declared.fault.ReadFault.{ReadFault}
use Rattle.boardfile.specs.declared.fault.ReadFault.TheVariants.{Board as BrokenBy, Memory}
use Rattle.boardfile.specs.Contents.{text}
use Rattle.boardfile.specs.Faults.{told}
use Rattle.board.specs.Checking.{Checks}
use Rattle.board.specs.Reading.{Reads}
use Rattle.listing.specs.declared.printing.ListFault.{ListFault}
use Rattle.listing.specs.declared.printing.ListFault.TheVariants.{Refused as IsRefused, Memory as NoMemory}
use Rattle.listing.specs.Printing.{Lists, printed}
use Rattle.bank.specs.declared.call.Reply.{Reply}
use Rattle.bank.specs.declared.fault.BankFault.{BankFault}
use Rattle.bank.specs.declared.fault.MakeFault.{MakeFault}
use Rattle.bank.specs.declared.fault.MakeFault.TheVariants.{Bank as IsUnmade, Memory as NoRoom}
use Rattle.history.specs.declared.answer.Answer.{Answer}
use Rattle.history.specs.declared.entry.Entry.{Entry}
use Rattle.history.specs.declared.fault.EngineFault.{EngineFault}
use Rattle.history.specs.declared.standing.Stage.{Stage}
use Rattle.sessions.specs.declared.session.Session.{Session}
use Rattle.sessions.specs.declared.session.SessionFault.{SessionFault}
use Rattle.sessions.specs.declared.session.SessionFault.TheVariants.{Bank as BankRefuses, Engine as EngineRefuses, Memory as NoSpace}
use Rattle.sessions.specs.Sessions.{SessionAnswers}
use Rattle.sessions.specs.Injected.{BoardAnswers}
use Rattle.sessions.specs.Registers.{RegistersAnswer}
use Rattle.lines.specs.declared.report.Report.{Report}
use Rattle.program.specs.declared.fault.ProgramFault.{ProgramFault}
use Rattle.program.specs.Faults.{told as run_told}
use Rattle.refusal.specs.Lines.{line as refusal_line}
use Rattle.history.specs.declared.outcome.Outcome.{Outcome}
use Rattle.run.specs.Asking.{Asks}
use Rattle.program.specs.declared.fault.RunFault.{RunFault}
use Rattle.program.specs.declared.fault.RunFault.TheVariants.{Program, Memory as NoRunMemory}
use Rattle.run.specs.Running.{Runs}
use Rattle.runlisting.specs.declared.printing.Ending.TheVariants.{Ran, Refused as IsRefusal}
use Rattle.runlisting.specs.Printing.{printed as run_printed, end_of}
use Rattle.history.specs.Numbers.{outcome_values, step_number, alarm_number, phase_number, direction_sign}
use Rattle.lines.specs.Lines.{entry_line, outcome_line}
use Rattle.cases.specs.Case.{Case, Contents, contents, reads, refuses, registers, whole, plays, runs, is_refused, asks, asks_wrongly, tells, comes_up, writes_entry, writes_outcome, values_outcome, numbers_step, numbers_alarm, numbers_phase, signs}

-- a board with these contents, or want of memory
abbrev pub HasRead : Contents → Result Board ReadFault → Type 0
HasRead expected (Ok board) = contents board ≡ expected
HasRead expected (Err (BrokenBy fault)) = ⊥
HasRead expected (Err Memory) = Unit {0}

-- these answers, or want of memory
abbrev pub HasAnswered : List (Result Reply BankFault) → Result (Vec (Result Reply BankFault) Global) MakeFault → Type 0
HasAnswered expected (Ok answers) = vec_items answers ≡ expected
HasAnswered expected (Err (IsUnmade fault)) = ⊥
HasAnswered expected (Err NoRoom) = Unit {0}

-- these answers, this journal and this stage, or want of memory
abbrev pub HasPlayed : List (Result Answer EngineFault) → List Entry → Stage → Result Session SessionFault → Type 0
HasPlayed answers journal stage (Ok session) = (vec_items session.answers ≡ answers) × (vec_items session.journal ≡ journal) × (session.stage ≡ stage)
HasPlayed answers journal stage (Err (BankRefuses fault)) = ⊥
HasPlayed answers journal stage (Err (EngineRefuses fault)) = ⊥
HasPlayed answers journal stage (Err NoSpace) = Unit {0}

-- so many calls were made, the making among them, this text is printed, and the program ends well; or memory is wanting
abbrev pub HasRun : ℕ → List ℕ → Result Report RunFault → Type 0
HasRun calls expected (Ok report) = (report.attempt.calls ≡ calls) × (run_printed (Ok report) ≡ expected) × (end_of (Ok report) ≡ Ran)
HasRun calls expected (Err (Program fault)) = ⊥
HasRun calls expected (Err NoRunMemory) = Unit {0}

-- this refusal comes, this line is printed, and the program ends so
abbrev pub IsRefusedSo : ProgramFault → List ℕ → Result Report RunFault → Type 0
IsRefusedSo fault expected ran = (ran ≡ Err (Program fault)) × (run_printed ran ≡ expected) × (end_of ran ≡ IsRefusal)

-- this outcome, or memory is wanting
abbrev pub HasAsked : Outcome → Result Outcome RunFault → Type 0
HasAsked expected (Ok outcome) = outcome ≡ expected
HasAsked expected (Err (Program fault)) = ⊥
HasAsked expected (Err NoRunMemory) = Unit {0}

-- whatever answer the contract of `Board::read`, `register_answers`, `board_answers`, `run_session`, `run` or `what_if` allows is
-- the expected one; a refusal, an entry and an outcome have the line that is expected; a fault that comes up is the one that is
-- expected; and values, numbers and signs are those that are expected
abbrev pub Holds : Case → Type 0
Holds (reads bytes expected printed) = (r : Result Board ReadFault) → Reads bytes r → HasRead expected r
Holds (refuses bytes fault printed) = (r : Result Board ReadFault) → Reads bytes r → r ≡ Err (BrokenBy fault)
Holds (registers words calls answers) = (r : Result (Vec (Result Reply BankFault) Global) MakeFault) → RegistersAnswer words calls r → HasAnswered answers r
Holds (whole parts calls answers) = (r : Result (Vec (Result Reply BankFault) Global) MakeFault) → BoardAnswers parts calls r → HasAnswered answers r
Holds (plays parts order calls answers journal stage) = (r : Result Session SessionFault) → SessionAnswers parts order calls r → HasPlayed answers journal stage r
Holds (runs board sheet order calls shown) = (ran : Result Report RunFault) → Runs board sheet ran → HasRun calls shown ran
Holds (is_refused board sheet fault shown) = (ran : Result Report RunFault) → Runs board sheet ran → IsRefusedSo fault shown ran
Holds (asks board sheet order device level byte outcome) = (r : Result Outcome RunFault) → Asks board sheet device level byte r → HasAsked outcome r
Holds (asks_wrongly board sheet device level byte fault) = (r : Result Outcome RunFault) → Asks board sheet device level byte r → r ≡ Err (Program fault)
Holds (tells fault shown) = refusal_line (run_told fault) ≡ shown
Holds (comes_up found fault) = found ≡ fault
Holds (writes_entry devices entry shown) = entry_line devices entry ≡ shown
Holds (writes_outcome devices outcome shown) = outcome_line devices outcome ≡ shown
Holds (values_outcome outcome values) = outcome_values outcome ≡ values
Holds (numbers_step answer number) = step_number answer ≡ number
Holds (numbers_alarm answer number) = alarm_number answer ≡ number
Holds (numbers_phase phase number) = phase_number phase ≡ number
Holds (signs direction sign) = direction_sign direction ≡ sign

-- this order, and no refusal
abbrev pub HasOrder : List ℕ → Result Order BoardFault → Type 0
HasOrder expected (Ok order) = devices order ≡ expected
HasOrder expected (Err fault) = ⊥

-- whatever answer the contract of the check without memory allows is the expected one
abbrev pub IsChecked : Case → Type 0
IsChecked (reads bytes expected printed) = (r : Result Order BoardFault) → Checks bytes r → HasOrder expected.order r
IsChecked (refuses bytes fault printed) = (r : Result Order BoardFault) → Checks bytes r → r ≡ Err fault
IsChecked other = Unit {0}

-- this text, or want of memory
abbrev pub HasPrinted : List ℕ → Result (String Global) ListFault → Type 0
HasPrinted expected (Ok text) = string_bytes text ≡ expected
HasPrinted expected (Err (IsRefused refusal)) = ⊥
HasPrinted expected (Err NoMemory) = Unit {0}

-- whatever answer the contract of `list` allows is the expected one, and the bytes that are printed of a refusal are the expected ones
abbrev pub IsPrinted : Case → Type 0
IsPrinted (reads bytes expected shown) = (r : Result (String Global) ListFault) → Lists bytes r → HasPrinted shown r
IsPrinted (refuses bytes fault shown) = (r : Result (String Global) ListFault) → Lists bytes r → (r ≡ Err (IsRefused (told fault))) × (printed r ≡ shown)
IsPrinted other = Unit {0}
