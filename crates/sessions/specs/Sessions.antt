-- What an engine over the bank of a board answers that is just made, and where it stands afterwards.
use Rattle.std.specs.Prelude.{◌≡◌, ℕ, ◌<◌, List, Ok, Err, Result, vec_items}
use Rattle.bank.specs.declared.fault.BankFault.TheVariants.{TooMany}
use Rattle.bank.specs.declared.fault.MakeFault.{MakeFault as BankMakeFault}
use Rattle.bank.specs.declared.fault.MakeFault.TheVariants.{Bank as Refused, Memory as NoRoom}
use Rattle.engine.specs.declared.engine.making.MakeFault.{MakeFault as EngineMakeFault}
use Rattle.engine.specs.declared.engine.making.MakeFault.TheVariants.{Engine as EngineRefused, Memory as NoJournal}
use Rattle.bank.specs.Laws.{Kind}
use Rattle.bank.specs.Meaning.{most_devices}
use Rattle.history.specs.declared.call.Call.{Call}
use Rattle.history.specs.Attempts.{stage_of}
use Rattle.history.specs.Rules.{all_said, after_all}
use Rattle.attempt.specs.Runs.{just_made}
use Rattle.engine.specs.Making.{Unready}
use Rattle.engine.specs.Tickets.{Owes}
use Rattle.boardbank.specs.Boards.{Parts, board_kind, board_model, total_devices}
use Rattle.sessions.specs.declared.session.Session.{Session}
use Rattle.sessions.specs.declared.session.SessionFault.{SessionFault}
use Rattle.sessions.specs.declared.session.SessionFault.TheVariants.{Bank, Engine, Memory}

-- what calls of an engine of this order over a bank that stands for m answer; no refusal of a bank comes, since the bank is there
abbrev pub RunAnswers : {M : Type 0} → Kind M → M → List ℕ → List Call → Result Session SessionFault → Type 0
RunAnswers kind m order calls (Ok session) =
    (vec_items session.answers ≡ all_said kind order (just_made m) calls)
    × (vec_items session.journal ≡ (after_all kind order (just_made m) calls).journal)
    × (session.stage ≡ stage_of (after_all kind order (just_made m) calls).standing)
    × Owes (vec_items session.answers) session.ticket
RunAnswers kind m order calls (Err (Bank fault)) = ⊥
RunAnswers kind m order calls (Err (Engine fault)) = Unready order (kind.devices m) fault
RunAnswers kind m order calls (Err Memory) = Unit {0}

-- the same over the bank of a board that is made of these parts
abbrev pub SessionAnswers : Parts → List ℕ → List Call → Result Session SessionFault → Type 0
SessionAnswers parts order calls (Ok session) = RunAnswers board_kind (board_model parts) order calls (Ok session)
SessionAnswers parts order calls (Err (Bank fault)) = (most_devices < total_devices parts) × (fault ≡ TooMany)
SessionAnswers parts order calls (Err (Engine fault)) = Unready order (board_kind.devices (board_model parts)) fault
SessionAnswers parts order calls (Err Memory) = Unit {0}

abbrev pub bank_unmade : BankMakeFault → SessionFault
bank_unmade (Refused fault) = Bank fault
bank_unmade NoRoom = Memory

abbrev pub engine_unmade : EngineMakeFault → SessionFault
engine_unmade (EngineRefused fault) = Engine fault
engine_unmade NoJournal = Memory
