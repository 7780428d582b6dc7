-- Calls of a bank one after another.
use Rattle.std.specs.Prelude.{◌≡◌, ℕ, ◌<◌, ◌^◌, if◌then◌else◌, List, [], ◌∷◌, length, Ok, Err, Result, Vec, vec_items}
use Rattle.std.specs.declared.alloc.Global.{Global}
use Rattle.std.specs.declared.alloc.AllocError.{AllocError}
use Rattle.bank.specs.declared.call.Call.{Call}
use Rattle.bank.specs.declared.call.Call.TheVariants.{Count, Look, Put, Lower, Raise}
use Rattle.bank.specs.declared.call.Reply.{Reply}
use Rattle.bank.specs.declared.call.Reply.TheVariants.{Counted, Seen, Done, Code}
use Rattle.bank.specs.declared.fault.BankFault.{BankFault}
use Rattle.bank.specs.Meaning.{Device, seen, put_answer, lower_answer, raise_answer, is_put, is_lowered, is_raised}
use Rattle.bank.specs.Laws.{Kind}

-- a word that is put has 32 bits
abbrev pub FitsCall : Call → Type 0
FitsCall Count = Unit {0}
FitsCall (Look d) = Unit {0}
FitsCall (Put d w) = w < 2 ^ 32
FitsCall (Lower d) = Unit {0}
FitsCall (Raise d) = Unit {0}

-- what is answered, as a reply
abbrev pub replied : {A : Type 0} → (A → Reply) → Result A BankFault → Result Reply BankFault
replied reply (Ok x) = Ok (reply x)
replied reply (Err fault) = Err fault

-- the answer to a call of a bank that has these devices
abbrev pub answer_to : List Device → Call → Result Reply BankFault
answer_to devices Count = Ok (Counted (length devices))
answer_to devices (Look d) = replied (λ (s : ℕ × ℕ × ℕ). Seen s.0 s.1 s.2) (seen devices d)
answer_to devices (Put d w) = replied (λ _. Done) (put_answer devices d)
answer_to devices (Lower d) = replied Code (lower_answer devices d)
answer_to devices (Raise d) = replied Code (raise_answer devices d)

-- the model after a call
abbrev pub after : {M : Type 0} → Kind M → M → Call → M
after kind m Count = m
after kind m (Look d) = m
after kind m (Put d w) = if is_put (kind.devices m) d then kind.written m d w else m
after kind m (Lower d) = if is_lowered (kind.devices m) d then kind.lowered m d else m
after kind m (Raise d) = if is_raised (kind.devices m) d then kind.raised m d else m

-- the answers to calls one after another
abbrev pub answers_to : {M : Type 0} → Kind M → M → List Call → List (Result Reply BankFault)
answers_to kind m [] = []
answers_to kind m (call ∷ calls) = answer_to (kind.devices m) call ∷ answers_to kind (after kind m call) calls

-- the model after them
abbrev pub after_all : {M : Type 0} → Kind M → M → List Call → M
after_all kind m [] = m
after_all kind m (call ∷ calls) = after_all kind (after kind m call) calls

-- these answers, wherever there is memory for them
abbrev pub Plays : {M : Type 0} → Kind M → M → List Call → Result (Vec (Result Reply BankFault) Global) AllocError → Type 0
Plays kind m calls (Ok answers) = vec_items answers ≡ answers_to kind m calls
Plays kind m calls (Err e) = Unit {0}
