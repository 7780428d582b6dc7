-- All worked cases hold: each is computed, and what the contracts say of it follows.
use Rattle.std.specs.List.{AllByRecursion}
use Rattle.cases.specs.Cases.{AllHold, AllChecked, AllPrinted, cases, groups}
use Rattle.cases.proofs.Showing.{Passes, holds, is_checked, is_printed, of_each, all_of}
use Rattle.cases.proofs.PassingBoards.{of_boards_pass}
use Rattle.cases.proofs.PassingBanks.{of_banks_pass}
use Rattle.cases.proofs.PassingEngines.{of_engines_pass, of_attempts_pass}
use Rattle.cases.proofs.PassingRuns.{of_runs_pass}
use Rattle.cases.proofs.PassingLimits.{wrong_trailers_pass, wrong_records_pass, right_files_pass}
use Rattle.cases.proofs.PassingLines.{of_refusals_pass, of_makings_pass, of_entries_pass, of_outcomes_pass, of_numbers_pass}

all_pass : AllByRecursion Passes cases
all_pass =
    all_of groups (of_boards_pass, (of_banks_pass, (of_engines_pass, (of_attempts_pass, (of_runs_pass, (wrong_trailers_pass, (wrong_records_pass, (right_files_pass, (of_refusals_pass, (of_makings_pass, (of_entries_pass, (of_outcomes_pass, (of_numbers_pass, tt)))))))))))))

pub all_hold : AllHold
all_hold = of_each holds cases all_pass

pub all_checked : AllChecked
all_checked = of_each is_checked cases all_pass

pub all_printed : AllPrinted
all_printed = of_each is_printed cases all_pass
