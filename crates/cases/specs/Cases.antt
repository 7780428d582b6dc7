-- The worked cases, as one list.
use Rattle.std.specs.Prelude.{ℕ, List, [], ◌∷◌, ◌++◌, filter_map, Some, None, codes, Option}
use Rattle.std.specs.List.{AllByRecursion, flat_map}
use Rattle.boardfile.specs.declared.fault.BoardFault.TheVariants.{Size, Mark, Counts, Tables, DeviceRecord, LinkRecord, Circle}
use Rattle.listing.specs.Printing.{printed}
use Rattle.cases.specs.Calls.{down_and_up, down_and_up_answers, too_busy, too_busy_answers, cell_hinders, cell_hinders_answers, controller_past, controller_past_answers, not_busy, not_busy_answers, low_bytes, low_bytes_answers, past_and_busy, past_and_busy_answers}
use Rattle.history.specs.declared.call.Call.TheVariants.{Close}
use Rattle.history.specs.declared.standing.Stage.TheVariants as stage
use Rattle.cases.specs.Engines.{three_parts, one_quiet, alarm_first, alarm_first_answers, by_lcd, one_sleeps, one_sleeps_answers, one_sleeps_journal, one_wakes_journal, slept_alone, busy, busy_answers, busy_journal, refusing, refusing_answers, refusing_journal, ends}
use Rattle.cases.specs.Boards.{three_devices, four_devices, short, later_edition, no_devices, near_table, same_names, self_link, circle, one_device, busy_device}
use Rattle.cases.specs.Files.{i2c_refuses, i2c_refuses_text, d_refuses, d_refuses_text, no_faults, one_sleeps_text, busy_text, short_sheet}
use Rattle.program.specs.declared.fault.ProgramFault.TheVariants.{Board as OfBoard, Sheet, NoDevice, NoLevel}
use Rattle.history.specs.declared.outcome.Outcome.TheVariants as outcome
use Rattle.history.specs.declared.phase.Phase.TheVariants.{Prepare}
use Rattle.cases.specs.Case.{Case, reads, refuses, registers, whole, plays, runs, is_refused, asks, asks_wrongly}
use Rattle.cases.specs.Holding.{Holds, IsChecked, IsPrinted}
use Rattle.cases.specs.Attempts.{of_attempts}
use Rattle.cases.specs.Limits.{wrong_trailers, wrong_records, right_files}
use Rattle.cases.specs.Lines.{of_refusals, of_makings, of_entries, of_outcomes}
use Rattle.cases.specs.Numbers.{of_numbers}

-- boards that are read, and a file for each refusal of one
abbrev pub of_boards : List Case
of_boards =
    reads three_devices
    (record {
      names = codes "clk" ∷ codes "i2c" ∷ codes "lcd" ∷ [];
      parents = None ∷ None ∷ Some 1 ∷ [];
      words = 0x21A1B2C3 ∷ 0 ∷ 0x500 ∷ [];
      links = record { consumer = 1; supplier = 0 } ∷ [];
      kinds = record { register = 1; bus = 2; quiet = 0 };
      order = 0 ∷ 1 ∷ 2 ∷ [];
    })
    (codes "clk\ni2c clk\nlcd i2c\n")
    ∷ reads four_devices
    (record {
      names = codes "a" ∷ codes "b" ∷ codes "c" ∷ codes "d" ∷ [];
      parents = None ∷ None ∷ Some 0 ∷ None ∷ [];
      words = 0 ∷ 0 ∷ 0 ∷ 0 ∷ [];
      links = record { consumer = 0; supplier = 3 } ∷ [];
      kinds = record { register = 4; bus = 0; quiet = 0 };
      order = 1 ∷ 3 ∷ 0 ∷ 2 ∷ [];
    })
    (codes "b\nd\na d\nc a\n")
    ∷ refuses short Size (codes "! 3 1 0\n")
    ∷ refuses later_edition (Mark 16) (codes "! 3 2 16\n")
    ∷ refuses no_devices (Counts 16) (codes "! 3 3 16\n")
    ∷ refuses near_table (Tables 16) (codes "! 3 4 16\n")
    ∷ refuses same_names (DeviceRecord 16) (codes "! 3 5 16\n")
    ∷ refuses self_link (LinkRecord 32) (codes "! 3 6 32\n")
    ∷ refuses circle (Circle 0) (codes "! 3 7 0\n")
    ∷ []

-- calls of banks
abbrev pub of_banks : List Case
of_banks =
    registers (0x21A1B2C3 ∷ []) down_and_up down_and_up_answers
    ∷ registers (0x80000000 ∷ []) too_busy too_busy_answers
    ∷ registers (0x7FFFFFFF ∷ []) not_busy not_busy_answers
    ∷ whole
    (record { registers = 0x21A1B2C3 ∷ []; buses = 0 ∷ 0x500 ∷ []; quiets = 7 ∷ []; cells = 0 ∷ 0 ∷ 0 ∷ 0 ∷ 0 ∷ 110 ∷ [] })
    cell_hinders
    cell_hinders_answers
    ∷ whole
    (record { registers = 0x80000000 ∷ []; buses = 0 ∷ 0x501 ∷ []; quiets = []; cells = [] })
    controller_past
    controller_past_answers
    ∷ whole
    (record { registers = []; buses = 0xFF ∷ 1 ∷ 2 ∷ 4 ∷ 8 ∷ 16 ∷ 32 ∷ 64 ∷ 128 ∷ 0xFFFFFF00 ∷ []; quiets = []; cells = [] })
    low_bytes
    low_bytes_answers
    ∷ whole (record { registers = []; buses = 9 ∷ 0x580 ∷ []; quiets = 7 ∷ []; cells = [] }) past_and_busy past_and_busy_answers
    ∷ []

-- calls of engines
abbrev pub of_engines : List Case
of_engines =
    plays (three_parts 0) (0 ∷ 1 ∷ 2 ∷ []) alarm_first alarm_first_answers [] stage.Landed
    ∷ plays (three_parts 0) (0 ∷ 1 ∷ 2 ∷ []) (alarm_first ++ Close ∷ []) (alarm_first_answers ++ ends by_lcd ∷ []) [] stage.Awake
    ∷ plays one_quiet (0 ∷ []) one_sleeps one_sleeps_answers one_sleeps_journal stage.Asleep
    ∷ plays one_quiet (0 ∷ []) (one_sleeps ++ Close ∷ []) (one_sleeps_answers ++ ends slept_alone ∷ []) (one_sleeps_journal ++ one_wakes_journal) stage.Awake
    ∷ plays (record { registers = 0x80000000 ∷ []; buses = []; quiets = []; cells = [] }) (0 ∷ []) busy busy_answers busy_journal stage.Awake
    ∷ plays (three_parts 110) (0 ∷ 1 ∷ 2 ∷ []) refusing refusing_answers refusing_journal stage.Awake
    ∷ []

-- runs of whole files, and what-ifs
abbrev pub of_runs : List Case
of_runs =
    runs three_devices i2c_refuses (0 ∷ 1 ∷ 2 ∷ []) 12 i2c_refuses_text
    ∷ runs four_devices d_refuses (1 ∷ 3 ∷ 0 ∷ 2 ∷ []) 24 d_refuses_text
    ∷ runs one_device no_faults (0 ∷ []) 7 one_sleeps_text
    ∷ runs busy_device no_faults (0 ∷ []) 6 busy_text
    ∷ is_refused circle [] (OfBoard (Circle 0)) (codes "! 3 7 0\n")
    ∷ is_refused three_devices short_sheet Sheet (codes "! 3 8 0\n")
    ∷ is_refused short [] (OfBoard Size) (codes "! 3 1 0\n")
    ∷ asks three_devices i2c_refuses (0 ∷ 1 ∷ 2 ∷ []) 1 2 0 (outcome.Slept None 12)
    ∷ asks three_devices i2c_refuses (0 ∷ 1 ∷ 2 ∷ []) 2 1 7 (outcome.Fault 7 2 Prepare 2)
    -- the board is tested first, then the sheet, the device and the level
    ∷ asks_wrongly circle [] 3 0 7 (OfBoard (Circle 0))
    ∷ asks_wrongly three_devices short_sheet 3 0 7 Sheet
    ∷ asks_wrongly three_devices i2c_refuses 3 0 7 (NoDevice 3)
    ∷ asks_wrongly three_devices i2c_refuses 255 1 7 (NoDevice 255)
    ∷ asks_wrongly three_devices i2c_refuses 2 0 7 NoLevel
    ∷ asks_wrongly three_devices i2c_refuses 2 5 7 NoLevel
    ∷ []

-- the list, by what its cases are of
abbrev pub groups : List (List Case)
groups =
    of_boards ∷ of_banks ∷ of_engines ∷ of_attempts ∷ of_runs ∷ wrong_trailers ∷ wrong_records ∷ right_files ∷ of_refusals ∷ of_makings ∷ of_entries ∷ of_outcomes
    ∷ of_numbers ∷ []

abbrev pub cases : List Case
cases = flat_map (λ group. group) groups

-- the board file of a case, if it has one
abbrev pub board_of : Case → Option (List ℕ)
board_of (reads bytes expected printed) = Some bytes
board_of (refuses bytes fault printed) = Some bytes
board_of other = None

abbrev pub boards : List (List ℕ)
boards = filter_map board_of cases

abbrev pub AllHold : Type 0
AllHold = AllByRecursion Holds cases

abbrev pub AllChecked : Type 0
AllChecked = AllByRecursion IsChecked cases

abbrev pub AllPrinted : Type 0
AllPrinted = AllByRecursion IsPrinted cases
