-- The bank of a board that is just made: an injector on a pair of a register bank and a pair of a bus and a quiet bank.
use Rattle.std.specs.Prelude.{◌≡◌, ℕ, ◌+◌, ◌<◌, List, length, Ok, Err, Result}
use Rattle.bank.specs.declared.fault.BankFault.TheVariants.{TooMany}
use Rattle.bank.specs.declared.fault.MakeFault.{MakeFault}
use Rattle.bank.specs.declared.fault.MakeFault.TheVariants.{Bank as Unmade, Memory}
use Rattle.bank.specs.Laws.{Kind}
use Rattle.bank.specs.Meaning.{greatest_errno, most_devices}
use Rattle.bankrules.specs.Rules.{each_with_one}
use Rattle.bankrules.specs.Register.{register_kind}
use Rattle.bankrules.specs.Bus.{bus_kind}
use Rattle.bankrules.specs.Quiet.{quiet_kind}
use Rattle.bankrules.specs.Pairs.{pair_kind}
use Rattle.bankrules.specs.Injections.{injector_kind}

-- the words of the devices of each bank, by rising number, and the cells
pub record Parts : Type 0 where
  pub registers : List ℕ
  pub buses : List ℕ
  pub quiets : List ℕ
  pub cells : List ℕ

abbrev pub board_kind : Kind ((List (List ℕ) × (List (List ℕ) × List (List ℕ))) × List ℕ)
board_kind = injector_kind greatest_errno (pair_kind register_kind (pair_kind bus_kind quiet_kind))

abbrev pub board_model : Parts → (List (List ℕ) × (List (List ℕ) × List (List ℕ))) × List ℕ
board_model parts = ((each_with_one parts.registers, (each_with_one parts.buses, each_with_one parts.quiets)), parts.cells)

abbrev pub total_devices : Parts → ℕ
total_devices parts = length parts.registers + (length parts.buses + length parts.quiets)

-- a bank that stands for these parts; or the fault that they are too many; or want of memory
abbrev pub MakesBoard : {B : Type 0} → (B → (List (List ℕ) × (List (List ℕ) × List (List ℕ))) × List ℕ) → Parts → Result B MakeFault → Type 0
MakesBoard model parts (Ok bank) = model bank ≡ board_model parts
MakesBoard model parts (Err (Unmade fault)) = (most_devices < total_devices parts) × (fault ≡ TooMany)
MakesBoard model parts (Err Memory) = Unit {0}
