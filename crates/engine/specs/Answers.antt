-- What a close and the queries answer.
use Rattle.std.specs.Prelude.{◌≡◌, ℕ, ◌<◌, ◌≤◌, List, length, slice_index_or, Ok, Err, Result}
use Rattle.history.specs.declared.answer.Answer.{Answer}
use Rattle.history.specs.declared.answer.Answer.TheVariants.{Closed}
use Rattle.history.specs.declared.entry.Entry.{Entry}
use Rattle.history.specs.declared.fault.EngineFault.{EngineFault}
use Rattle.history.specs.declared.fault.EngineFault.TheVariants.{NoEntry}
use Rattle.history.specs.declared.outcome.Outcome.{Outcome}
use Rattle.engine.specs.declared.engine.calls.Unclosed.{Unclosed}
use Rattle.engine.specs.declared.engine.Engine.{Engine}
use Rattle.engine.specs.States.{state}
use Rattle.bank.specs.declared.bank.Bank.{Ghosts}
use Rattle.order.specs.Answers.{devices}
use Rattle.history.specs.declared.standing.Stage.{Stage}
use Rattle.history.specs.Attempts.{History, standing, stage_of}
use Rattle.history.specs.Law.{journal, LedTo}

-- a close's answer as an answer to any call
abbrev pub closing : Result Outcome Unclosed → Result Answer EngineFault
closing (Ok outcome) = Ok (Closed outcome)
closing (Err unclosed) = Err unclosed.fault

-- the entry of this index; refused exactly where there is none
abbrev pub EntryAt : List Entry → ℕ → Result Entry EngineFault → Type 0
EntryAt journal index (Ok entry) = (index < length journal) × (entry ≡ slice_index_or journal index entry)
EntryAt journal index (Err fault) = (length journal ≤ index) × (fault ≡ NoEntry)

-- what a history tells of the engine to which it led
module _ {B : Type 0} (members : Ghosts B) where
  abbrev pub TellsStage : Engine B members → Stage → Type 0
  TellsStage engine answer = (h : History) → LedTo members.kind (devices engine.order) h (state members engine)
      → answer ≡ stage_of (standing (devices engine.order) h (members.kind.devices (members.model engine.bank)))

  abbrev pub TellsJournal : Engine B members → List Entry → Type 0
  TellsJournal engine entries = (h : History) → LedTo members.kind (devices engine.order) h (state members engine) → entries ≡ journal (devices engine.order) h

  abbrev pub TellsCount : Engine B members → ℕ → Type 0
  TellsCount engine answer = (h : History) → LedTo members.kind (devices engine.order) h (state members engine) → answer ≡ length (journal (devices engine.order) h)

  abbrev pub TellsEntry : Engine B members → ℕ → Result Entry EngineFault → Type 0
  TellsEntry engine index answer = (h : History) → LedTo members.kind (devices engine.order) h (state members engine) → EntryAt (journal (devices engine.order) h) index answer
