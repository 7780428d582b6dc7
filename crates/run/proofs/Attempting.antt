-- From an attempt over the bank of a board to the run of its file.
use Rattle.std.proofs.Common.{◌≡◌, ℕ, List, [], Ok, Err, Result, subst, sym, ◌∙◌, ap}
use Rattle.attempt.specs.Attempts.{Attempts, Attempted}
use Rattle.attempt.specs.Runs.{just_made, run_calls}
use Rattle.history.specs.Rules.{all_said, after_all}
use Rattle.board.specs.declared.board.Board.{Board}
use Rattle.board.specs.Reading.{Says}
use Rattle.boardbank.specs.Boards.{board_kind, board_model}
use Rattle.lines.specs.declared.report.Report.{Report}
use Rattle.boardfile.specs.Contents.{SuperiorIn}
use Rattle.order.specs.Answers.{Superior, devices}
use Rattle.program.specs.declared.fault.ProgramFault.{ProgramFault}
use Rattle.program.specs.declared.fault.ProgramFault.TheVariants.{Board as OfBoard, Sheet, Buffer, NoDevice, NoLevel, Engine}
use Rattle.program.specs.declared.fault.RunFault.{RunFault}
use Rattle.program.specs.declared.fault.RunFault.TheVariants.{Program, Memory}
use Rattle.run.specs.Files.{Fit, parts, parts_in}
use Rattle.run.specs.Running.{Runs, ReportsOver, KeepsLaw}
use Rattle.run.proofs.Laws.{all_among}
use Rattle.run.proofs.Ready.{ready, not_unready}
use Rattle.run.proofs.Words.{same_parts}

module _ (bs sheet : List ℕ) (fit : Fit bs sheet) (board : Board) (says : Says bs board) (m : (List (List ℕ) × (List (List ℕ) × List (List ℕ))) × List ℕ)
    (made : m ≡ board_model (parts_in board sheet)) where
  stands : m ≡ board_model (parts bs sheet)
  stands = made ∙ ap board_model (same_parts bs sheet board says)

  never : (fault : ProgramFault) → Attempts board_kind (board_model (parts bs sheet)) board.order (Err (Program fault)) → ⊥
  never (OfBoard f) none = none
  never Sheet none = none
  never Buffer none = none
  never (NoDevice d) none = none
  never NoLevel none = none
  never (Engine f k) (_, why) = not_unready (devices board.order) (board_kind.devices (board_model (parts bs sheet))) f (ready bs sheet board says) why

  -- the engine of a board is never refused
  unrefused : (fault : RunFault) → Attempts board_kind m board.order (Err fault) → Runs bs sheet (Err fault)
  unrefused (Program fault) why = absurd (never fault (subst (λ m. Attempts board_kind m board.order (Err (Program fault))) stands why))
  unrefused Memory why = fit

  pub has_run : (r : Result Report RunFault) → ReportsOver board_kind m board r → Runs bs sheet r
  has_run (Ok report) (same, is) =
      let made : Attempted board_kind (board_model (parts bs sheet)) board.order report.attempt =
      subst (λ x. Attempted board_kind x board.order report.attempt) stands is.1 in
      let law : KeepsLaw bs sheet (devices board.order) =
      let start = just_made (board_model (parts bs sheet)) in
      let calls = run_calls board_kind (devices board.order) (board_model (parts bs sheet)) in
      all_among board_kind (SuperiorIn bs) (Superior board.order.superiors) says.superiors.adds (devices board.order) calls [] start
      (all_said board_kind (devices board.order) start calls) (after_all board_kind (devices board.order) start calls) made.law in
      (fit, record { board = subst (λ (b : Board). Says bs b) (sym same) says; attempt = rw same made; law = subst (λ (b : Board). KeepsLaw bs sheet (devices b.order)) (sym same) law })
  has_run (Err fault) why = unrefused fault why
