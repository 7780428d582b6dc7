-- From a run with a changed sheet to the answer of a what-if.
use Rattle.std.proofs.Common.{◌≡◌, ℕ, List, set, Ok, Err, Result}
use Rattle.history.specs.declared.outcome.Outcome.{Outcome}
use Rattle.program.specs.declared.fault.RunFault.{RunFault}
use Rattle.program.specs.declared.fault.RunFault.TheVariants.{Program, Memory}
use Rattle.run.specs.Asking.{CanAsk, OutcomeOf, Asks, cell}

pub answered : (bs sheet : List ℕ) (device level byte place : ℕ) → CanAsk bs sheet device level → place ≡ cell device level
    → (r : Result Outcome RunFault) → OutcomeOf bs (set sheet place byte) r → Asks bs sheet device level byte r
answered bs sheet device level byte place can at (Ok outcome) is = (can, rw (← at) is)
answered bs sheet device level byte place can at (Err (Program fault)) is = absurd is
answered bs sheet device level byte place can at (Err Memory) is = can
