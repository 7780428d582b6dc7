-- What the reader answers: a board that says what the bytes say, or the rule that they break.
use Rattle.std.specs.Prelude.{◌≡◌, ℕ, true, ◌↔◌, List, is_ok, Ok, Err, vec_items, Result, ◌≢◌}
use Rattle.order.specs.Orders.{IsTheOrder}
use Rattle.order.specs.Answers.{devices as in_order}
use Rattle.board.specs.declared.board.Board.{Board}
use Rattle.boardfile.specs.declared.fault.BoardFault.{BoardFault}
use Rattle.boardfile.specs.declared.fault.ReadFault.{ReadFault}
use Rattle.boardfile.specs.declared.fault.ReadFault.TheVariants.{Board as BrokenBy, Memory}
use Rattle.boardfile.specs.Layout.{device_count}
use Rattle.boardfile.specs.Contents.{devices_of, links_of, kinds_of, SuperiorIn}
use Rattle.boardfile.specs.Faults.{Refused, Right}
use Rattle.board.specs.Wiring.{Wired}

-- the board has what the bytes say
pub record Says (bs : List ℕ) (board : Board) : Type 0 where
  pub devices : vec_items board.devices ≡ devices_of bs
  pub links : vec_items board.links ≡ links_of bs
  pub kinds : board.kinds ≡ kinds_of bs
  pub superiors : Wired bs board.order.superiors
  pub order : IsTheOrder (device_count bs) (SuperiorIn bs) (in_order board.order)

-- the answer, by cases; want of memory comes only where the bytes keep all rules
abbrev pub Reads : List ℕ → Result Board ReadFault → Type 0
Reads bs (Ok board) = Right bs × Says bs board
Reads bs (Err (BrokenBy fault)) = Refused bs fault
Reads bs (Err Memory) = Right bs

-- the answer as equivalences
pub record Exact (bs : List ℕ) (r : Result Board ReadFault) : Type 0 where
  -- where memory suffices, a board comes exactly for the bytes that keep all rules
  pub reads : (r ≢ Err Memory) → (is_ok r ≡ true) ↔ Right bs
  -- each refusal comes exactly for the bytes that are refused so
  pub refuses : (fault : BoardFault) → (r ≡ Err (BrokenBy fault)) ↔ Refused bs fault
