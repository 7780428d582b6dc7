-- What a run over two files answers.
use Rattle.std.specs.Prelude.{◌≡◌, ◌≢◌, ◌↔◌, ℕ, true, List, [], is_ok, Ok, Err, Result}
use Rattle.attempt.specs.Attempts.{Attempts, Attempted}
use Rattle.attempt.specs.Runs.{just_made, run_calls}
use Rattle.boardfile.specs.Contents.{SuperiorIn}
use Rattle.history.specs.Law.{AreLawful}
use Rattle.history.specs.Rules.{all_said, after_all}
use Rattle.order.specs.Answers.{devices}
use Rattle.bank.specs.Laws.{Kind}
use Rattle.board.specs.declared.board.Board.{Board}
use Rattle.board.specs.Reading.{Says}
use Rattle.boardbank.specs.Boards.{board_kind, board_model}
use Rattle.lines.specs.declared.report.Report.{Report}
use Rattle.program.specs.declared.fault.ProgramFault.{ProgramFault}
use Rattle.program.specs.declared.fault.RunFault.{RunFault}
use Rattle.program.specs.declared.fault.RunFault.TheVariants.{Program, Memory}
use Rattle.run.specs.Files.{Fit, RefusesFiles, parts}

-- a report of this board, and of an attempt of an engine of its order over a bank that stands for m
abbrev pub ReportsOver : {M : Type 0} → Kind M → M → Board → Result Report RunFault → Type 0
ReportsOver kind m board (Ok report) = (report.board ≡ board) × Attempts kind m board.order (Ok report.attempt)
ReportsOver kind m board (Err fault) = Attempts kind m board.order (Err fault)

-- the law holds of the calls of a run over the bank of these files, of which the devices have this order, for the parents and the
-- suppliers of the file as superiors
abbrev pub KeepsLaw : List ℕ → List ℕ → List ℕ → Type 0
KeepsLaw bs sheet order =
    let m = board_model (parts bs sheet) in
    let calls = run_calls board_kind order m in
    AreLawful board_kind (SuperiorIn bs) order [] (just_made m) calls (all_said board_kind order (just_made m) calls) (after_all board_kind order (just_made m) calls)

-- the report has the board that the bytes describe, and the attempt of an engine of its order over the bank of the board
pub record Ran (bs sheet : List ℕ) (report : Report) : Type 0 where
  pub board : Says bs report.board
  pub attempt : Attempted board_kind (board_model (parts bs sheet)) report.board.order report.attempt
  pub law : KeepsLaw bs sheet (devices report.board.order)

-- the answer, by cases; want of memory comes only where the files are not refused
abbrev pub Runs : List ℕ → List ℕ → Result Report RunFault → Type 0
Runs bs sheet (Ok report) = Fit bs sheet × Ran bs sheet report
Runs bs sheet (Err (Program fault)) = RefusesFiles bs sheet fault
Runs bs sheet (Err Memory) = Fit bs sheet

-- the answer as equivalences
pub record ExactRun (bs sheet : List ℕ) (r : Result Report RunFault) : Type 0 where
  -- where memory suffices, a report comes exactly for files that are not refused
  pub runs : (r ≢ Err Memory) → (is_ok r ≡ true) ↔ Fit bs sheet
  -- each refusal comes exactly for the files that are refused so
  pub refuses : (fault : ProgramFault) → (r ≡ Err (Program fault)) ↔ RefusesFiles bs sheet fault
