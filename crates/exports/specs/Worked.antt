-- Worked cases of the numbers that go out.
use Rattle.std.specs.Prelude.{◌≡◌, [], ◌∷◌, Some, None, Err}
use Rattle.boardfile.specs.declared.fault.BoardFault.TheVariants.{DeviceRecord, Circle}
use Rattle.history.specs.declared.outcome.Outcome.TheVariants.{Slept, Fault, Alarm, Cancelled}
use Rattle.history.specs.declared.phase.Phase.TheVariants.{Prepare, Suspend, Noirq}
use Rattle.program.specs.declared.fault.ProgramFault.TheVariants.{Board, Sheet, NoDevice, NoLevel}
use Rattle.program.specs.declared.fault.RunFault.TheVariants.{Program, Memory}
use Rattle.exports.specs.Exports.{number, place}
use Rattle.exports.specs.Runs.{five_numbers, number_of_fault}

-- kind, errno, device, phase and taken of each kind of outcome; and the number of a refusal, or of want of memory
pub record RunsWorked : Type 0 where
  pub slept : five_numbers (Slept None 12) ≡ 0 ∷ 0 ∷ 255 ∷ 0 ∷ 12 ∷ []
  pub woken : five_numbers (Slept (Some 2) 12) ≡ 0 ∷ 0 ∷ 2 ∷ 0 ∷ 12 ∷ []
  pub fault : five_numbers (Fault 110 1 Suspend 4) ≡ 1 ∷ 110 ∷ 1 ∷ 2 ∷ 4 ∷ []
  pub alarm : five_numbers (Alarm 2 Prepare 0) ≡ 2 ∷ 16 ∷ 2 ∷ 1 ∷ 0 ∷ []
  pub cancelled : five_numbers (Cancelled Noirq 10) ≡ 3 ∷ 0 ∷ 255 ∷ 4 ∷ 10 ∷ []
  pub board : number_of_fault (Program (Board (DeviceRecord 16))) ≡ 5
  pub sheet : number_of_fault (Program Sheet) ≡ 8
  pub device : number_of_fault (Program (NoDevice 3)) ≡ 12
  pub level : number_of_fault (Program NoLevel) ≡ 13
  pub memory : number_of_fault Memory ≡ 255

-- number and place of a refusal
pub record RefusalsWorked : Type 0 where
  pub record_number : number (Err (DeviceRecord 16)) ≡ 5
  pub record_place : place (Err (DeviceRecord 16)) ≡ 16
  pub circle_number : number (Err (Circle 2)) ≡ 7
  pub circle_place : place (Err (Circle 2)) ≡ 2
