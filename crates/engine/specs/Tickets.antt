-- When a list of calls leaves a ticket to its caller.
use Rattle.std.specs.Prelude.{◌≡◌, Bool, true, false, List, [], ◌∷◌, Some, None, Option, Ok, Result}
use Rattle.history.specs.declared.answer.Answer.{Answer}
use Rattle.history.specs.declared.answer.Answer.TheVariants.{Opened, Closed}
use Rattle.history.specs.declared.fault.EngineFault.{EngineFault}
use Rattle.history.specs.declared.standing.Standing.{Standing}
use Rattle.history.specs.declared.standing.Standing.TheVariants.{Awake}
use Rattle.engine.specs.declared.ticket.Ticket.{Ticket}

-- whether a ticket is owed after one answer more
abbrev pub owes_after : Bool → Result Answer EngineFault → Bool
owes_after owed (Ok Opened) = true
owes_after owed (Ok (Closed outcome)) = false
owes_after owed answer = owed

-- whether an opening of the list was obeyed, and no close after it
abbrev pub owes : Bool → List (Result Answer EngineFault) → Bool
owes owed [] = owed
owes owed (answer ∷ answers) = owes (owes_after owed answer) answers

-- then its ticket comes with the answers, and otherwise none
abbrev pub Owes : List (Result Answer EngineFault) → Option Ticket → Type 0
Owes answers None = owes false answers ≡ false
Owes answers (Some ticket) = (owes false answers ≡ true) × (ticket.number ≡ 1)

-- an attempt is open
abbrev pub is_open : Standing → Bool
is_open Awake = false
is_open standing = true
