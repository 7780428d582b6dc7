-- What the exported calls answer of a run and of a what-if.
use Rattle.std.specs.Prelude.{◌≡◌, ℕ, List, [], ◌∷◌, ◌++◌, drop, Ok, Err, Result}
use Rattle.history.specs.declared.outcome.Outcome.{Outcome}
use Rattle.history.specs.Numbers.{outcome_values}
use Rattle.lines.specs.declared.report.Report.{Report}
use Rattle.program.specs.declared.fault.RunFault.{RunFault}
use Rattle.program.specs.declared.fault.RunFault.TheVariants.{Program, Memory}
use Rattle.program.specs.Faults.{told}
use Rattle.run.specs.Running.{Runs}
use Rattle.run.specs.Asking.{Asks}

-- kind, errno, device, phase and taken
abbrev pub five_numbers : Outcome → List ℕ
five_numbers outcome = (outcome_values outcome).kind ∷ (outcome_values outcome).errno ∷ (outcome_values outcome).device ∷ (outcome_values outcome).phase ∷ (outcome_values outcome).taken ∷ []

abbrev pub number_of_fault : RunFault → ℕ
number_of_fault (Program fault) = (told fault).number
number_of_fault Memory = 255

abbrev pub outcome_in : Result Report RunFault → Result Outcome RunFault
outcome_in (Ok report) = Ok report.attempt.outcome
outcome_in (Err fault) = Err fault

-- an outcome: 0, its numbers stand at the front, and what stood after them stands there still; a fault: its number, and nothing has
-- changed
abbrev pub OutcomeTold : Result Outcome RunFault → List ℕ → List ℕ → ℕ → Type 0
OutcomeTold (Ok outcome) before after n = (n ≡ 0) × (after ≡ five_numbers outcome ++ drop 5 before)
OutcomeTold (Err fault) before after n = (n ≡ number_of_fault fault) × (after ≡ before)

-- each speaks of an answer that the run, or the what-if, of these bytes may give

abbrev pub RunTold : List ℕ → List ℕ → List ℕ → List ℕ → ℕ → Type 0
RunTold bs sheet before after n = (r : Result Report RunFault) × Runs bs sheet r × OutcomeTold (outcome_in r) before after n

abbrev pub AskTold : List ℕ → List ℕ → ℕ → ℕ → ℕ → List ℕ → List ℕ → ℕ → Type 0
AskTold bs sheet device level byte before after n = (r : Result Outcome RunFault) × Asks bs sheet device level byte r × OutcomeTold r before after n
