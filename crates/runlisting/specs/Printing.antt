-- What is printed of a run: from the bytes of both files to the bytes of every line.
use Rattle.std.specs.Prelude.{◌≡◌, ℕ, List, [], ◌++◌, codes, slice_index_or, Ok, Err, Option, Result}
use Rattle.std.specs.Io.KnownBytes.{Appends}
use Rattle.std.specs.List.{flat_map}
use Rattle.attempt.specs.Keeping.{no_entry}
use Rattle.history.specs.declared.entry.Entry.{Entry}
use Rattle.lines.specs.declared.report.Report.{Report}
use Rattle.lines.specs.Lines.{entry_line, outcome_line}
use Rattle.lines.specs.Writing.{board_devices, journal}
use Rattle.program.specs.declared.fault.RunFault.{RunFault}
use Rattle.program.specs.declared.fault.RunFault.TheVariants.{Program, Memory}
use Rattle.program.specs.Faults.{told}
use Rattle.refusal.specs.Lines.{line as refusal_line}
use Rattle.run.specs.Running.{Runs}
use Rattle.runlisting.specs.declared.printing.Ending.{Ending}
use Rattle.runlisting.specs.declared.printing.Ending.TheVariants.{Ran, Refused, WantsMemory}

-- a line with its end
abbrev pub ended : List ℕ → List ℕ
ended line = line ++ codes "\n"

-- the line of an entry of the journal
abbrev pub entry_text : Report → ℕ → List ℕ
entry_text report index = ended (entry_line (board_devices report) (slice_index_or (journal report) index no_entry))

abbrev pub outcome_text : Report → List ℕ
outcome_text report = ended (outcome_line (board_devices report) report.attempt.outcome)

-- the lines of the journal, the oldest first, and then the line of the outcome
abbrev pub report_lines : Report → List ℕ
report_lines report = flat_map (λ (entry : Entry). ended (entry_line (board_devices report) entry)) (journal report) ++ outcome_text report

-- these, or the line of the refusal; nothing where memory was wanting
abbrev pub printed : Result Report RunFault → List ℕ
printed (Ok report) = report_lines report
printed (Err (Program fault)) = ended (refusal_line (told fault))
printed (Err Memory) = []

-- how a program ends that prints this
abbrev pub end_of : Result Report RunFault → Ending
end_of (Ok report) = Ran
end_of (Err (Program fault)) = Refused
end_of (Err Memory) = WantsMemory

-- the files are run, and what is printed of it is added to the bytes that a writer holds
abbrev pub Sleeps : List ℕ → List ℕ → Option (List ℕ) → Option (List ℕ) → Ending → Type 0
Sleeps bs sheet before after end =
    (ran : Result Report RunFault) × Runs bs sheet ran × Appends before after (printed ran) × (end ≡ end_of ran)
