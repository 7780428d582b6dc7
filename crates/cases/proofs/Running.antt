-- What is printed of a run, computed from the bytes of both files.
use Rattle.std.proofs.Common.{◌≡◌, ◌+◌, ◌*◌, ◌<◌, ℕ, List, ◌∷◌, ◌++◌, length, replicate, set, Ok, Err, Result, refl, ap, sym, ◌∙◌}
use Rattle.std.specs.List.{flat_map}
use Rattle.std.specs.Prelude.{None}
use Rattle.attempt.specs.Runs.{just_made, step_count, run_calls}
use Rattle.boardbank.specs.Boards.{board_kind, board_model}
use Rattle.boardfile.specs.Contents.{devices_of, SuperiorIn}
use Rattle.boardfile.specs.Faults.{Right}
use Rattle.boardfile.specs.Layout.{device_count}
use Rattle.history.specs.declared.answer.Answer.{Answer}
use Rattle.history.specs.declared.answer.Answer.TheVariants.{Opened, Stepped, Heard, Closed, Written, Seen}
use Rattle.history.specs.declared.call.Call.TheVariants.{Open, Step, Close}
use Rattle.history.specs.declared.entry.Entry.{Entry}
use Rattle.history.specs.declared.fault.EngineFault.{EngineFault}
use Rattle.history.specs.declared.outcome.Outcome.{Outcome}
use Rattle.history.specs.declared.outcome.Outcome.TheVariants.{Slept}
use Rattle.history.specs.Rules.{said, after_all}
use Rattle.lines.specs.declared.report.Report.{Report}
use Rattle.lines.specs.Lines.{entry_line, outcome_line}
use Rattle.order.specs.Answers.{devices}
use Rattle.order.specs.Orders.{IsTheOrder}
use Rattle.order.proofs.Exactness.{order_same}
use Rattle.program.specs.declared.fault.ProgramFault.{ProgramFault}
use Rattle.program.specs.declared.fault.RunFault.{RunFault}
use Rattle.program.specs.declared.fault.RunFault.TheVariants.{Program, Memory}
use Rattle.run.specs.Files.{Fit, RefusesFiles, device_cells, parts}
use Rattle.run.specs.Running.{Runs, Ran}
use Rattle.run.specs.Asking.{Asks, IsLevel, cell}
use Rattle.run.proofs.Exact.{files_unfit, files_once, asking_unfit}
use Rattle.runlisting.specs.Printing.{ended, printed, report_lines}
use Rattle.cases.specs.Holding.{HasRun, IsRefusedSo, HasAsked}

-- the outcome in the answer to a close
abbrev outcome_in : Result Answer EngineFault → Outcome
outcome_in (Ok (Closed outcome)) = outcome
outcome_in (Ok Opened) = Slept None 0
outcome_in (Ok (Stepped answer)) = Slept None 0
outcome_in (Ok (Heard answer)) = Slept None 0
outcome_in (Ok Written) = Slept None 0
outcome_in (Ok (Seen level word hindrance)) = Slept None 0
outcome_in (Err fault) = Slept None 0

module _ (bs sheet : List ℕ) where
  -- the outcome of a run of an engine of this order
  abbrev pub run_outcome : List ℕ → Outcome
  run_outcome order =
      let m = board_model (parts bs sheet) in
      outcome_in (said board_kind order (after_all board_kind order (just_made m) (Open ∷ replicate (step_count board_kind order m) Step)) Close)

  -- how many calls it has, with the making
  abbrev pub run_count : List ℕ → ℕ
  run_count order = 1 + length (run_calls board_kind order (board_model (parts bs sheet)))

  -- the lines of the run of an engine of this order
  abbrev pub run_text : List ℕ → List ℕ
  run_text order =
      let m = board_model (parts bs sheet) in
      let end = after_all board_kind order (just_made m) (run_calls board_kind order m) in
      flat_map (λ (entry : Entry). ended (entry_line (devices_of bs) entry)) end.journal ++ ended (outcome_line (devices_of bs) (run_outcome order))

  module _ (order : List ℕ) (right : Right bs) (is : IsTheOrder (device_count bs) (SuperiorIn bs) order) (long : length sheet ≡ device_cells * device_count bs) where
    fit : Fit bs sheet
    fit = record { right = right; cells = long }

    same_order : (report : Report) → Ran bs sheet report → devices report.board.order ≡ order
    same_order report ran = order_same (device_count bs) (SuperiorIn bs) (devices report.board.order) order ran.board.order is

    pub ends_so : (report : Report) → Ran bs sheet report → report.attempt.outcome ≡ run_outcome order
    ends_so report ran =
        let m = board_model (parts bs sheet) in
        sym (ap outcome_in ran.attempt.outcome)
        ∙ ap (λ (os : List ℕ). outcome_in (said board_kind os (after_all board_kind os (just_made m) (Open ∷ replicate (step_count board_kind os m) Step)) Close)) (same_order report ran)

    prints : (report : Report) → Ran bs sheet report → report_lines report ≡ run_text order
    prints report ran =
        let m = board_model (parts bs sheet) in
        let j : report.attempt.journal.items ≡ (after_all board_kind order (just_made m) (run_calls board_kind order m)).journal =
        ran.attempt.journal ∙ ap (λ (os : List ℕ). (after_all board_kind os (just_made m) (run_calls board_kind os m)).journal) (same_order report ran) in
        rw (ran.board.devices, j, ends_so report ran) refl

    counts : (report : Report) → Ran bs sheet report → report.attempt.calls ≡ run_count order
    counts report ran = ran.attempt.count ∙ ap (λ (os : List ℕ). 1 + length (run_calls board_kind os (board_model (parts bs sheet)))) (same_order report ran)

    pub runs_so : (calls : ℕ) → run_count order ≡ calls → (shown : List ℕ) → run_text order ≡ shown → (r : Result Report RunFault) → Runs bs sheet r → HasRun calls shown r
    runs_so calls count shown same (Ok report) (_, ran) = (counts report ran ∙ count, prints report ran ∙ same, refl)
    runs_so calls count shown same (Err (Program fault)) refused = absurd (files_unfit bs sheet fault refused fit)
    runs_so calls count shown same (Err Memory) _ = tt

  pub refused_so : (fault : ProgramFault) → RefusesFiles bs sheet fault → (shown : List ℕ) → printed (Err (Program fault)) ≡ shown
      → (r : Result Report RunFault) → Runs bs sheet r → IsRefusedSo fault shown r
  refused_so fault refused shown same (Ok report) (fits, _) = absurd (files_unfit bs sheet fault refused fits)
  refused_so fault refused shown same (Err (Program other)) so =
      let e : Err (Program other) ≡ Err (Program fault) = ap (λ f. Err (Program f)) (files_once bs sheet other fault so refused) in (e, ap printed e ∙ same, refl)
  refused_so fault refused shown same (Err Memory) fits = absurd (files_unfit bs sheet fault refused fits)

-- a what-if whose changed sheet has this outcome
module _ (bs sheet : List ℕ) (order : List ℕ) (right : Right bs) (is : IsTheOrder (device_count bs) (SuperiorIn bs) order) (device level byte : ℕ)
    (long : length sheet ≡ device_cells * device_count bs) (known : device < device_count bs) (leads : IsLevel level)
    (still : length (set sheet (cell device level) byte) ≡ device_cells * device_count bs) where
  pub asks_so : (outcome : Outcome) → run_outcome bs (set sheet (cell device level) byte) order ≡ outcome
      → (r : Result Outcome RunFault) → Asks bs sheet device level byte r → HasAsked outcome r
  asks_so outcome same (Ok found) (_, (report, ran, so)) = so ∙ ends_so bs (set sheet (cell device level) byte) order right is still report ran ∙ same
  asks_so outcome same (Err (Program fault)) refused =
      absurd (asking_unfit bs sheet device level fault refused (record { files = record { right = right; cells = long }; known = known; leads = leads }))
  asks_so outcome same (Err Memory) _ = tt
