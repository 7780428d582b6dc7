-- What a worked case is.
use Rattle.std.specs.Prelude.{ℕ, ℤ, List, map, vec_items, Option, Result}
use Rattle.order.specs.Answers.{devices}
use Rattle.board.specs.declared.board.Board.{Board}
use Rattle.boardfile.specs.declared.device.Device.{Device}
use Rattle.boardfile.specs.declared.device.Kinds.{Kinds}
use Rattle.boardfile.specs.declared.device.Link.{Link}
use Rattle.boardfile.specs.declared.fault.BoardFault.{BoardFault}
use Rattle.boardfile.specs.Contents.{text}
use Rattle.bank.specs.declared.call.Call.{Call}
use Rattle.bank.specs.declared.call.Reply.{Reply}
use Rattle.bank.specs.declared.fault.BankFault.{BankFault}
use Rattle.history.specs.declared.call.Call as engine_call
use Rattle.history.specs.declared.answer.Answer.{Answer}
use Rattle.history.specs.declared.entry.Entry.{Entry}
use Rattle.history.specs.declared.fault.EngineFault.{EngineFault}
use Rattle.history.specs.declared.standing.Stage.{Stage}
use Rattle.boardbank.specs.Boards.{Parts}
use Rattle.program.specs.declared.fault.ProgramFault.{ProgramFault}
use Rattle.history.specs.declared.outcome.Outcome.{Outcome}
use Rattle.program.specs.declared.fault.RunFault.{RunFault}
use Rattle.history.specs.declared.outcome.Values.{Values}
use Rattle.history.specs.declared.answer.StepAnswer.{StepAnswer}
use Rattle.history.specs.declared.answer.AlarmAnswer.{AlarmAnswer}
use Rattle.history.specs.declared.phase.Phase.{Phase}
use Rattle.history.specs.declared.entry.Direction.{Direction}

-- ---- what a board has

pub record Contents : Type 0 where
  pub names : List (List ℕ)
  pub parents : List (Option ℕ)
  pub words : List ℕ
  pub links : List Link
  pub kinds : Kinds
  pub order : List ℕ

abbrev pub contents : Board → Contents
contents board =
    record {
      names = map (λ (d : Device). text d.name) (vec_items board.devices);
      parents = map (λ (d : Device). d.parent) (vec_items board.devices);
      words = map (λ (d : Device). d.word) (vec_items board.devices);
      links = vec_items board.links;
      kinds = board.kinds;
      order = devices board.order;
    }

-- ---- the cases

pub data Case : Type 0 where
  -- these bytes are read as a board with these contents, and this text is printed of it
  reads : List ℕ → Contents → List ℕ → Case
  -- these bytes are refused so, and this line is printed of it
  refuses : List ℕ → BoardFault → List ℕ → Case
  -- a register bank that is made of these words answers these calls so
  registers : List ℕ → List Call → List (Result Reply BankFault) → Case
  -- the bank of a board that is made of these parts answers these calls so
  whole : Parts → List Call → List (Result Reply BankFault) → Case
  -- an engine of this order over such a bank answers these calls so; then it has this journal, and stands in this stage
  plays : Parts → List ℕ → List engine_call.Call → List (Result Answer EngineFault) → List Entry → Stage → Case
  -- the board of this file is run with this sheet by so many calls, and this text is printed of it; its order helps to compute that
  runs : List ℕ → List ℕ → List ℕ → ℕ → List ℕ → Case
  -- this file is refused so where it is run with this sheet, and this line is printed of it
  is_refused : List ℕ → List ℕ → ProgramFault → List ℕ → Case
  -- a what-if of these files, of this device and level and with this byte, has this outcome; the board's order helps to compute that
  asks : List ℕ → List ℕ → List ℕ → ℕ → ℕ → ℕ → Outcome → Case
  -- and one of this device and level and with this byte is refused so
  asks_wrongly : List ℕ → List ℕ → ℕ → ℕ → ℕ → ProgramFault → Case
  -- this is the line of a refusal
  tells : ProgramFault → List ℕ → Case
  -- a fault of a run that comes up from below is this one
  comes_up : RunFault → RunFault → Case
  -- this is the line of an entry, and of an outcome, of a board with these devices
  writes_entry : List Device → Entry → List ℕ → Case
  writes_outcome : List Device → Outcome → List ℕ → Case
  -- an outcome has these values, an answer to a step or to an alarm and a phase have this number, and a direction has this sign
  values_outcome : Outcome → Values → Case
  numbers_step : StepAnswer → ℕ → Case
  numbers_alarm : AlarmAnswer → ℕ → Case
  numbers_phase : Phase → ℕ → Case
  signs : Direction → ℤ → Case
