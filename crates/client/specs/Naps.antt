-- What an attempt that is opened and closed leaves.
use Rattle.std.specs.Prelude.{◌≡◌, ℕ, zero, suc, List, Ok}
use Rattle.bank.specs.declared.bank.Bank.{Ghosts}
use Rattle.bank.specs.Meaning.{piles}
use Rattle.order.specs.Answers.{devices}
use Rattle.engine.specs.declared.engine.Engine.{Engine}
use Rattle.engine.specs.States.{state}
use Rattle.history.specs.Attempts.{History}
use Rattle.history.specs.Law.{LedTo}
use Rattle.history.specs.Rules.{State, said, next}
use Rattle.history.specs.declared.answer.Answer.TheVariants.{Closed}
use Rattle.history.specs.declared.call.Call.TheVariants.{Open, Step, Close}
use Rattle.history.specs.declared.outcome.Outcome.{Outcome}
use Rattle.bank.specs.Laws.{Kind}

-- whatever history led to the engine, each device has the words that it had before, and some history leads to the engine after it
abbrev pub GivesBack : {B : Type 0} (members : Ghosts B) → Engine B members → Engine B members → Type 0
GivesBack members before after =
    (h : History) → LedTo members.kind (devices before.order) h (state members before)
    → (piles (members.kind.devices (members.model after.bank)) ≡ piles (members.kind.devices (members.model before.bank)))
    × ((longer : History) × LedTo members.kind (devices before.order) longer (state members after))

-- what an engine is after so many steps, whatever they answer
abbrev pub after_steps : {M : Type 0} → Kind M → List ℕ → State M → ℕ → State M
after_steps kind order s zero = s
after_steps kind order s (suc k) = next kind order (after_steps kind order s k) Step

-- the engine after an open and so many steps
abbrev pub slept : {B : Type 0} (members : Ghosts B) → Engine B members → ℕ → State members.Model
slept members before steps = after_steps members.kind (devices before.order) (next members.kind (devices before.order) (state members before) Open) steps

-- the engine is as an open, so many steps and a close leave it, and this outcome is what the close answers
pub record Napped {B : Type 0} (members : Ghosts B) (before after : Engine B members) (steps : ℕ) (outcome : Outcome) : Type 0 where
  pub leaves : state members after ≡ next members.kind (devices before.order) (slept members before steps) Close
  pub answers : Ok (Closed outcome) ≡ said members.kind (devices before.order) (slept members before steps) Close
