-- Banks that are just made. The ghost members of the trait for a type come as one record.
use Rattle.std.specs.Prelude.{◌≡◌, ℕ, ◌<◌, ◌≤◌, length, Ok, Err, Result}
use Rattle.bank.specs.declared.bank.Bank.{Ghosts}
use Rattle.bank.specs.declared.fault.MakeFault.{MakeFault}
use Rattle.bank.specs.declared.fault.MakeFault.TheVariants.{Bank as Refused, Memory}
use Rattle.bank.specs.declared.fault.BankFault.TheVariants.{TooMany}
use Rattle.bank.specs.Meaning.{most_devices}

-- a bank of n devices that stands for this model; or the fault that they are too many; or, where they are not, want of memory
abbrev pub Makes : {B : Type 0} (members : Ghosts B) → members.Model → ℕ → Result B MakeFault → Type 0
Makes members m n (Ok bank) = (n ≤ most_devices) × (members.model bank ≡ m) × (length (members.kind.devices m) ≡ n)
Makes members m n (Err (Refused fault)) = (most_devices < n) × (fault ≡ TooMany)
Makes members m n (Err Memory) = n ≤ most_devices
