-- What can be seen of any bank, whatever its kind: devices that change as the meaning of a bank allows, and answers that tell of
-- them.
use Rattle.std.specs.Prelude.{◌≡◌, ◌≢◌, List, [], ◌∷◌, pos, Ok, Result}
use Rattle.bank.specs.declared.call.Call.{Call}
use Rattle.bank.specs.declared.call.Call.TheVariants.{Put, Lower, Raise}
use Rattle.bank.specs.declared.call.Reply.{Reply}
use Rattle.bank.specs.declared.call.Reply.TheVariants.{Code}
use Rattle.bank.specs.declared.fault.BankFault.{BankFault}
use Rattle.bank.specs.Meaning.{Device, AreDevices, greatest_errno}
use Rattle.bank.specs.Laws.{GainsWord, LosesWord, HoldsWord}
use Rattle.bank.specs.Runs.{answer_to}

-- what a call that is answered so may make of these devices
abbrev pub MayBecome : Call → Result Reply BankFault → List Device → List Device → Type 0
MayBecome (Put d w) (Ok reply) before after = HoldsWord before d w after
MayBecome (Lower d) (Ok (Code code)) before after = (code ≡ pos 0 → GainsWord before d after) × (code ≢ pos 0 → after ≡ before)
MayBecome (Raise d) (Ok reply) before after = LosesWord before d after
MayBecome call answer before after = after ≡ before

-- Devices as they are before, called so, answer so, and are those after. At each moment there are at most 64 of them, with one to
-- five words each and hindrances up to the greatest.
abbrev pub Behaves : List Device → List Call → List (Result Reply BankFault) → List Device → Type 0
Behaves before [] [] after = (after ≡ before) × AreDevices greatest_errno after
Behaves before [] (answer ∷ answers) after = ⊥
Behaves before (call ∷ calls) [] after = ⊥
Behaves before (call ∷ calls) (answer ∷ answers) after =
    AreDevices greatest_errno before × (answer ≡ answer_to before call) × ((next : List Device) × MayBecome call answer before next × Behaves next calls answers after)
