-- What the writing of a line answers, and what it leaves in the buffer.
use Rattle.std.specs.Prelude.{◌≡◌, ◌≢◌, ℕ, ◌<◌, ◌≤◌, ◌^◌, List, length, unsigned_abs, Ok, Err, Result, slice_index_or, vec_items}
use Rattle.attempt.specs.Keeping.{IsKnown, no_entry}
use Rattle.boardfile.specs.declared.device.Device.{Device}
use Rattle.history.specs.declared.entry.Entry.{Entry}
use Rattle.history.specs.declared.fault.EngineFault.TheVariants.{NoEntry}
use Rattle.history.specs.declared.outcome.Outcome.{Outcome}
use Rattle.lines.specs.declared.report.Report.{Report}
use Rattle.lines.specs.Fields.{over}
use Rattle.lines.specs.Lines.{line_room, entry_line, outcome_line}
use Rattle.program.specs.declared.fault.ProgramFault.{ProgramFault}
use Rattle.refusal.specs.Lines.{line as refusal_line}
use Rattle.refusal.specs.declared.refusal.Refusal.{Refusal}
use Rattle.program.specs.declared.fault.ProgramFault.TheVariants.{Board, Sheet, Buffer, NoDevice, NoLevel, Engine}

-- the line stands at the front of the buffer, and its length is answered; what stands behind it stays
pub record Written (line before after : List ℕ) (size : ℕ) : Type 0 where
  pub room : line_room ≤ length before
  pub count : size ≡ length line
  pub most : size ≤ line_room
  pub bytes : after ≡ over line before

-- too short a buffer is refused, and stays as it is
abbrev pub TooShort : List ℕ → List ℕ → Type 0
TooShort before after = (length before < line_room) × (after ≡ before)

-- a line whatever the buffer holds; refused for too short a buffer only
abbrev pub WritesLine : List ℕ → List ℕ → List ℕ → Result ℕ ProgramFault → Type 0
WritesLine line before after (Ok size) = Written line before after size
WritesLine line before after (Err (Board fault)) = ⊥
WritesLine line before after (Err Sheet) = ⊥
WritesLine line before after (Err Buffer) = TooShort before after
WritesLine line before after (Err (NoDevice device)) = ⊥
WritesLine line before after (Err NoLevel) = ⊥
WritesLine line before after (Err (Engine fault calls)) = ⊥

module _ (report : Report) where
  abbrev pub board_devices : List Device
  board_devices = vec_items report.board.devices

  abbrev pub journal : List Entry
  journal = vec_items report.attempt.journal

  -- the entry of this index, if there is one
  abbrev pub Finds : ℕ → Result Entry ProgramFault → Type 0
  Finds index (Ok entry) = (index < length journal) × (entry ≡ slice_index_or journal index no_entry)
  Finds index (Err fault) = (length journal ≤ index) × (fault ≡ Engine NoEntry report.attempt.calls)

  -- the line of the entry of this index; the buffer is tested first, and then whether there is such an entry
  abbrev pub WritesEntry : ℕ → List ℕ → List ℕ → Result ℕ ProgramFault → Type 0
  WritesEntry index before after (Ok size) = (index < length journal) × Written (entry_line board_devices (slice_index_or journal index no_entry)) before after size
  WritesEntry index before after (Err (Board fault)) = ⊥
  WritesEntry index before after (Err Sheet) = ⊥
  WritesEntry index before after (Err Buffer) = TooShort before after
  WritesEntry index before after (Err (NoDevice device)) = ⊥
  WritesEntry index before after (Err NoLevel) = ⊥
  WritesEntry index before after (Err (Engine fault calls)) =
      (line_room ≤ length before) × (length journal ≤ index) × (fault ≡ NoEntry) × (calls ≡ report.attempt.calls) × (after ≡ before)

-- ---- lines can be read back

-- an entry of one of n devices, with a code of 16 bits
pub record IsEntry (n : ℕ) (entry : Entry) : Type 0 where
  pub device : entry.device < n
  pub code : unsigned_abs entry.code ≤ 2 ^ 15

-- Of the entries that a board of these devices can have, no two have the same line, nor have two of the outcomes; and no line of an
-- entry, of an outcome and of a refusal is one of another of these three.
pub record ReadBack (devices : List Device) : Type 0 where
  pub entries : (e f : Entry) → IsEntry (length devices) e → IsEntry (length devices) f → entry_line devices e ≡ entry_line devices f → e ≡ f
  pub outcomes : (o p : Outcome) → IsKnown (length devices) o → IsKnown (length devices) p → outcome_line devices o ≡ outcome_line devices p → o ≡ p
  pub entry_or_outcome : (e : Entry) (o : Outcome) → entry_line devices e ≢ outcome_line devices o
  pub entry_or_refusal : (e : Entry) (r : Refusal) → entry_line devices e ≢ refusal_line r
  pub outcome_or_refusal : (o : Outcome) (r : Refusal) → outcome_line devices o ≢ refusal_line r
