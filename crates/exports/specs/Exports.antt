-- What the exported calls answer of the bytes of a board file.
use Rattle.std.specs.Prelude.{◌≡◌, ℕ, ◌<◌, ◌≤◌, List, ◌++◌, length, drop, Some, None, Ok, Err, Option, Result, unwrap_or}
use Rattle.order.specs.declared.ordering.Order.{Order}
use Rattle.order.specs.Answers.{devices as in_order}
use Rattle.refusal.specs.declared.refusal.Refusal.{Refusal}
use Rattle.boardfile.specs.declared.fault.BoardFault.{BoardFault}
use Rattle.boardfile.specs.Faults.{told}
use Rattle.board.specs.Checking.{Checks}

-- the devices stand at the front, and what stood after them stands there still; or there was too little room, and nothing has changed
abbrev pub Writes : List ℕ → List ℕ → List ℕ → Option ℕ → Type 0
Writes devices before after (Some n) = (length devices ≤ length before) × (n ≡ length devices) × (after ≡ devices ++ drop (length devices) before)
Writes devices before after None = (length before < length devices) × (after ≡ before)

-- the order is written, or nothing
abbrev pub Answers : Result Order BoardFault → List ℕ → List ℕ → ℕ → Type 0
Answers (Ok order) before after n = (m : Option ℕ) × Writes (in_order order) before after m × (n ≡ unwrap_or m 0)
Answers (Err fault) before after n = (n ≡ 0) × (after ≡ before)

abbrev pub refusal : Result Order BoardFault → Option Refusal
refusal (Ok order) = None
refusal (Err fault) = Some (told fault)

abbrev pub number : Result Order BoardFault → ℕ
number (Ok order) = 0
number (Err fault) = (told fault).number

abbrev pub place : Result Order BoardFault → ℕ
place (Ok order) = 0
place (Err fault) = (told fault).place

-- each speaks of an answer that the check of these bytes may give

abbrev pub OrderWritten : List ℕ → List ℕ → List ℕ → ℕ → Type 0
OrderWritten bs before after n = (r : Result Order BoardFault) × Checks bs r × Answers r before after n

abbrev pub Tells : List ℕ → Option Refusal → Type 0
Tells bs o = (r : Result Order BoardFault) × Checks bs r × (o ≡ refusal r)

abbrev pub NumberOf : List ℕ → ℕ → Type 0
NumberOf bs n = (r : Result Order BoardFault) × Checks bs r × (n ≡ number r)

abbrev pub PlaceOf : List ℕ → ℕ → Type 0
PlaceOf bs p = (r : Result Order BoardFault) × Checks bs r × (p ≡ place r)
