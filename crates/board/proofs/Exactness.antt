-- From the answer by cases to the answer as equivalences.
use Rattle.std.proofs.Common.{ℕ, List, Ok, Err, Result, arith}
use Rattle.order.specs.declared.ordering.Order.{Order}
use Rattle.boardfile.specs.declared.fault.BoardFault.{BoardFault}
use Rattle.boardfile.specs.declared.fault.ReadFault.{ReadFault}
use Rattle.boardfile.specs.declared.fault.ReadFault.TheVariants.{Board as BrokenBy, Memory}
use Rattle.boardfile.proofs.Exclusion.{refused_once, refused_wrong}
use Rattle.board.specs.declared.board.Board.{Board}
use Rattle.board.specs.Checking.{Checks, Exactly}
use Rattle.board.specs.Reading.{Reads, Exact}

pub exact : (bs : List ℕ) (r : Result Board ReadFault) → Reads bs r → Exact bs r
exact bs (Ok board) y = grind (arith, refused_wrong)
exact bs (Err (BrokenBy g)) y = grind (arith, refused_wrong, refused_once)
exact bs (Err Memory) y = grind (arith, refused_wrong)

pub exactly : (bs : List ℕ) (r : Result Order BoardFault) → Checks bs r → Exactly bs r
exactly bs (Ok order) y = grind (arith, refused_wrong)
exactly bs (Err g) y = grind (arith, refused_wrong, refused_once)
