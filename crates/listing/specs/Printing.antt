-- What is printed of a board file: the lines of its board, or the line of its refusal.
use Rattle.std.specs.Prelude.{◌≡◌, ℕ, List, [], ◌++◌, codes, Ok, Err, Result, String, string_bytes}
use Rattle.std.specs.declared.alloc.Global.{Global}
use Rattle.refusal.specs.Lines.{line as refusal_line}
use Rattle.refusal.specs.declared.refusal.Refusal.{Refusal}
use Rattle.board.specs.declared.board.Board.{Board}
use Rattle.boardfile.specs.declared.fault.BoardFault.{BoardFault}
use Rattle.boardfile.specs.declared.fault.ReadFault.{ReadFault}
use Rattle.boardfile.specs.declared.fault.ReadFault.TheVariants.{Board as BrokenBy, Memory as NoMemory}
use Rattle.boardfile.specs.Faults.{Refused as RefusedAs, Right, told}
use Rattle.board.specs.Reading.{Says}
use Rattle.listing.specs.declared.printing.ListFault.{ListFault}
use Rattle.listing.specs.declared.printing.ListFault.TheVariants.{Refused, Memory}
use Rattle.listing.specs.Lines.{lines}

-- the bytes keep all rules, and the lines are those of the board that they describe
abbrev pub OfBoard : List ℕ → List ℕ → Type 0
OfBoard bs text = (board : Board) × Right bs × Says bs board × (text ≡ lines board)

-- the bytes break a rule, and the refusal tells which
abbrev pub OfRefusal : List ℕ → Refusal → Type 0
OfRefusal bs refusal = (fault : BoardFault) × RefusedAs bs fault × (refusal ≡ told fault)

-- the answer, by cases; want of memory comes only where the bytes keep all rules
abbrev pub Lists : List ℕ → Result (String Global) ListFault → Type 0
Lists bs (Ok text) = OfBoard bs (string_bytes text)
Lists bs (Err (Refused refusal)) = OfRefusal bs refusal
Lists bs (Err Memory) = Right bs

-- a fault of the reader, handed on
abbrev pub handed_on : ReadFault → ListFault
handed_on (BrokenBy fault) = Refused (told fault)
handed_on NoMemory = Memory

-- the bytes that are printed: the lines, or the line of the refusal with its end
abbrev pub printed : Result (String Global) ListFault → List ℕ
printed (Ok text) = string_bytes text
printed (Err (Refused refusal)) = refusal_line refusal ++ codes "\n"
printed (Err Memory) = []
