-- What is told of a board file without memory for its board: the order of the devices, or the rule that is broken.
use Rattle.std.specs.Prelude.{◌≡◌, ℕ, true, ◌↔◌, List, is_ok, Ok, Err, Result}
use Rattle.order.specs.declared.ordering.Order.{Order}
use Rattle.boardfile.specs.declared.fault.BoardFault.{BoardFault}
use Rattle.boardfile.specs.Faults.{Refused, Right}
use Rattle.board.specs.Wiring.{Ordered}
use Rattle.board.specs.declared.board.checked.Checked.{Checked}

-- the bytes of a checked file
abbrev pub file_of : Checked → List ℕ
file_of checked = checked.records.frame.file.now

-- the answer, by cases
abbrev pub Checks : List ℕ → Result Order BoardFault → Type 0
Checks bs (Ok order) = Right bs × Ordered bs order
Checks bs (Err fault) = Refused bs fault

-- the answer as equivalences
pub record Exactly (bs : List ℕ) (r : Result Order BoardFault) : Type 0 where
  -- an order comes exactly for the bytes that keep all rules
  pub accepts : (is_ok r ≡ true) ↔ Right bs
  -- each refusal comes exactly for the bytes that are refused so
  pub refuses : (fault : BoardFault) → (r ≡ Err fault) ↔ Refused bs fault
