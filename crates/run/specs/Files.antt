-- A board file and a fault sheet: when they are refused, and the bank of their board.
use Rattle.std.specs.Prelude.{◌≡◌, ◌≢◌, ℕ, ◌+◌, ◌*◌, List, [], ◌∷◌, length, map, take, drop, vec_items, Ok, Err, Result}
use Rattle.std.specs.List.{range_with_len}
use Rattle.bank.specs.Meaning.{piles}
use Rattle.board.specs.declared.board.Board.{Board}
use Rattle.boardbank.specs.Boards.{Parts, board_kind, board_model}
use Rattle.boardfile.specs.declared.device.Device.{Device}
use Rattle.boardfile.specs.Faults.{Refused, Right}
use Rattle.boardfile.specs.Layout.{device_count, register_count, bus_count, quiet_count, word}
use Rattle.program.specs.declared.fault.RunFault.{RunFault}
use Rattle.program.specs.declared.fault.RunFault.TheVariants.{Program, Memory}
use Rattle.program.specs.declared.fault.ProgramFault.{ProgramFault}
use Rattle.program.specs.declared.fault.ProgramFault.TheVariants.{Board as OfBoard, Sheet, Buffer, NoDevice, NoLevel, Engine}

-- how many cells a device has: one for each level from 1 to 4
abbrev pub device_cells : ℕ
device_cells = 4

-- the board file keeps all rules, and the sheet has as many cells as its devices have
pub record Fit (bs sheet : List ℕ) : Type 0 where
  pub right : Right bs
  pub cells : length sheet ≡ device_cells * device_count bs

-- refused so: the board file is tested first
abbrev pub RefusesFiles : List ℕ → List ℕ → ProgramFault → Type 0
RefusesFiles bs sheet (OfBoard fault) = Refused bs fault
RefusesFiles bs sheet Sheet = Right bs × (length sheet ≢ device_cells * device_count bs)
RefusesFiles bs sheet Buffer = ⊥
RefusesFiles bs sheet (NoDevice device) = ⊥
RefusesFiles bs sheet NoLevel = ⊥
RefusesFiles bs sheet (Engine fault calls) = ⊥

-- the words of k devices from device a on
abbrev pub words : List ℕ → ℕ → ℕ → List ℕ
words bs a k = map (word bs) (range_with_len a k)

-- the bank of the board: first the devices in registers, then those on the bus, then the quiet ones, with the sheet's cells
abbrev pub parts : List ℕ → List ℕ → Parts
parts bs sheet =
    record {
      registers = words bs 0 (register_count bs);
      buses = words bs (register_count bs) (bus_count bs);
      quiets = words bs (register_count bs + bus_count bs) (quiet_count bs);
      cells = sheet;
    }

-- The numbers of the file are those of its bank: device d begins at level 0, with the word of its record. The three banks have the
-- counts of the trailer, and the cells are the sheet's.
pub record Starts (bs sheet : List ℕ) : Type 0 where
  pub piles : piles (board_kind.devices (board_model (parts bs sheet))) ≡ map (λ (d : ℕ). word bs d ∷ []) (range_with_len 0 (device_count bs))
  pub registers : length (parts bs sheet).registers ≡ register_count bs
  pub buses : length (parts bs sheet).buses ≡ bus_count bs
  pub quiets : length (parts bs sheet).quiets ≡ quiet_count bs
  pub cells : (parts bs sheet).cells ≡ sheet

-- the words that a board holds
abbrev pub held : Board → List ℕ
held board = map (λ (device : Device). device.word) (vec_items board.devices)

-- the same, cut out of a board's words
abbrev pub parts_in : Board → List ℕ → Parts
parts_in board sheet =
    record {
      registers = take board.kinds.register (held board);
      buses = take board.kinds.bus (drop board.kinds.register (held board));
      quiets = drop board.kinds.bus (drop board.kinds.register (held board));
      cells = sheet;
    }

-- a bank that stands for these parts, or want of memory; a board never has too many devices for one
abbrev pub BankOf : {B : Type 0} → (B → (List (List ℕ) × (List (List ℕ) × List (List ℕ))) × List ℕ) → Parts → Result B RunFault → Type 0
BankOf model given (Ok bank) = model bank ≡ board_model given
BankOf model given (Err (Program fault)) = ⊥
BankOf model given (Err Memory) = Unit {0}
