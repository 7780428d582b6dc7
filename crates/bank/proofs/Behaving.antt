-- One run of calls after another.
use Rattle.std.proofs.Common.{ℕ, ◌<◌, List, [], ◌∷◌, ◌++◌, ◌+◌, take, get_or, length, Result, subst}
use Rattle.bank.specs.declared.call.Call.{Call}
use Rattle.bank.specs.declared.call.Reply.{Reply}
use Rattle.bank.specs.declared.fault.BankFault.{BankFault}
use Rattle.bank.specs.Meaning.{Device}
use Rattle.bank.specs.Behaviour.{Behaves}
use Rattle.std.proofs.lemmas.List.{take_more}

-- what comes after what came before
pub behaves_on : (first : List Device) (calls : List Call) (answers : List (Result Reply BankFault)) (between : List Device) (more : List Call) (others : List (Result Reply BankFault)) (last : List Device)
    → Behaves first calls answers between → Behaves between more others last → Behaves first (calls ++ more) (answers ++ others) last
behaves_on first [] [] between more others last (so, _) then = subst (λ (ds : List Device). Behaves ds more others last) so then
behaves_on first [] (a ∷ more_a) between more others last so then = absurd so
behaves_on first (c ∷ cs) [] between more others last so then = absurd so
behaves_on first (c ∷ cs) (a ∷ more_a) between more others last (are, is, (next, becomes, rest)) then = (are, is, (next, becomes, behaves_on next cs more_a between more others last rest then))

-- one call more, as a loop makes them
pub behaves_more : (first : List Device) (calls : List Call) (i : ℕ) (answers : List (Result Reply BankFault)) (between : List Device) (call : Call) (answer : Result Reply BankFault) (last : List Device)
    → i < length calls → Behaves first (take i calls) answers between → Behaves between (get_or calls i call ∷ []) (answer ∷ []) last → Behaves first (take (i + 1) calls) (answers ++ answer ∷ []) last
behaves_more first calls i answers between call answer last h so then =
    rw (take_more calls i call h) (behaves_on first (take i calls) answers between (get_or calls i call ∷ []) (answer ∷ []) last so then)
