-- What the bank of a board answers that is just made.
use Rattle.std.specs.Prelude.{◌≡◌, ◌<◌, List, Ok, Err, Result, Vec, vec_items}
use Rattle.std.specs.declared.alloc.Global.{Global}
use Rattle.bank.specs.declared.call.Call.{Call}
use Rattle.bank.specs.declared.call.Reply.{Reply}
use Rattle.bank.specs.declared.fault.BankFault.{BankFault}
use Rattle.bank.specs.declared.fault.BankFault.TheVariants.{TooMany}
use Rattle.bank.specs.declared.fault.MakeFault.{MakeFault}
use Rattle.bank.specs.declared.fault.MakeFault.TheVariants.{Bank as Unmade, Memory}
use Rattle.bank.specs.Meaning.{most_devices}
use Rattle.bank.specs.Runs.{answers_to}
use Rattle.boardbank.specs.Boards.{Parts, board_kind, board_model, total_devices}

abbrev pub BoardAnswers : Parts → List Call → Result (Vec (Result Reply BankFault) Global) MakeFault → Type 0
BoardAnswers parts calls (Ok answers) = vec_items answers ≡ answers_to board_kind (board_model parts) calls
BoardAnswers parts calls (Err (Unmade fault)) = (most_devices < total_devices parts) × (fault ≡ TooMany)
BoardAnswers parts calls (Err Memory) = Unit {0}
