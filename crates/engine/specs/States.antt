-- An engine as the rules and the law see it.
use Rattle.std.specs.Prelude.{◌≡◌, ℕ, if◌then◌else◌, nat_lt, List, length, Ok, Err, Result, vec_items}
use Rattle.bank.specs.declared.bank.Bank.{Ghosts}
use Rattle.bank.specs.declared.fault.BankFault.{BankFault}
use Rattle.history.specs.declared.answer.Answer.{Answer}
use Rattle.history.specs.declared.call.Call.{Call}
use Rattle.history.specs.declared.fault.EngineFault.{EngineFault}
use Rattle.history.specs.declared.fault.EngineFault.TheVariants.{Bank, InAttempt}
use Rattle.history.specs.declared.standing.Standing.{Standing}
use Rattle.history.specs.declared.standing.Standing.TheVariants.{Awake}
use Rattle.bank.specs.declared.fault.BankFault.TheVariants.{NoDevice}
use Rattle.history.specs.Rules.{State, said, next}
use Rattle.engine.specs.declared.engine.Engine.{Engine}
use Rattle.order.specs.Answers.{Superior, devices}
use Rattle.history.specs.Law.{Obeys}

-- an answer to one kind of call as an answer to any
abbrev pub answered : {A : Type 0} → (A → Answer) → Result A EngineFault → Result Answer EngineFault
answered says (Ok x) = Ok (says x)
answered says (Err fault) = Err fault

-- what a bank answers, with its fault inside the engine's
abbrev pub travelled : {A : Type 0} → ℕ → Result A BankFault → Result A EngineFault
travelled lowered (Ok x) = Ok x
travelled lowered (Err fault) = Err (Bank fault lowered)

abbrev pub if_awake : Standing → Result (Unit {0}) EngineFault
if_awake Awake = Ok tt
if_awake standing = Err InAttempt

abbrev pub if_known : List ℕ → ℕ → ℕ → Result ℕ EngineFault
if_known order lowered d = if nat_lt d (length order) then Ok d else Err (Bank (NoDevice d) lowered)

-- `members` says what the bank does
module _ {B : Type 0} (members : Ghosts B) where
  -- what an engine's calls depend on
  abbrev pub state : Engine B members → State members.Model
  state engine = record { model = members.model engine.bank; standing = engine.standing; journal = vec_items engine.journal }

  -- the call is answered as the rules say
  abbrev pub Says : Call → Engine B members → Result Answer EngineFault → Type 0
  Says call engine answer = answer ≡ said members.kind (devices engine.order) (state engine) call

  -- and makes of the engine what the rules say
  abbrev pub Becomes : Call → Engine B members → Engine B members → Type 0
  Becomes call before after = (state after ≡ next members.kind (devices before.order) (state before) call) × (after.order ≡ before.order)

  -- and keeps the law: it is lawful after every history that led to the engine, for the superiors of the engine's order
  abbrev pub KeepsLaw : Call → Engine B members → Result Answer EngineFault → Engine B members → Type 0
  KeepsLaw call before answer after = Obeys members.kind (Superior before.order.superiors) (devices before.order) call (state before) answer (state after)
