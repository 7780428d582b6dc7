-- What a register bank answers that is just made.
use Rattle.std.specs.Prelude.{◌≡◌, ℕ, ◌<◌, ◌≤◌, List, length, Ok, Err, Result, Vec, vec_items}
use Rattle.std.specs.declared.alloc.Global.{Global}
use Rattle.bank.specs.declared.call.Call.{Call}
use Rattle.bank.specs.declared.call.Reply.{Reply}
use Rattle.bank.specs.declared.fault.BankFault.{BankFault}
use Rattle.bank.specs.declared.fault.BankFault.TheVariants.{TooMany}
use Rattle.bank.specs.declared.fault.MakeFault.{MakeFault}
use Rattle.bank.specs.declared.fault.MakeFault.TheVariants.{Bank as Unmade, Memory}
use Rattle.bank.specs.Meaning.{most_devices}
use Rattle.bank.specs.Runs.{answers_to}
use Rattle.bankrules.specs.Rules.{each_with_one}
use Rattle.bankrules.specs.Register.{register_kind}

abbrev pub RegistersAnswer : List ℕ → List Call → Result (Vec (Result Reply BankFault) Global) MakeFault → Type 0
RegistersAnswer words calls (Ok answers) = vec_items answers ≡ answers_to register_kind (each_with_one words) calls
RegistersAnswer words calls (Err (Unmade fault)) = (most_devices < length words) × (fault ≡ TooMany)
RegistersAnswer words calls (Err Memory) = length words ≤ most_devices
