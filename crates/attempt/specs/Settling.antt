-- Steps until an engine is asleep or landed, and the calls of a run.
use Rattle.std.specs.Prelude.{◌≡◌, ℕ, ◌+◌, ◌*◌, ◌<◌, true, List, ◌∷◌, length, replicate, vec_items, Ok, Err, Result}
use Rattle.bank.specs.declared.bank.Bank.{Ghosts}
use Rattle.bank.specs.Laws.{Kind}
use Rattle.engine.specs.declared.engine.Engine.{Engine}
use Rattle.engine.specs.States.{state}
use Rattle.history.specs.declared.answer.Answer.TheVariants.{Closed}
use Rattle.history.specs.declared.call.Call.TheVariants.{Open, Step, Close}
use Rattle.history.specs.declared.outcome.Outcome.{Outcome}
use Rattle.history.specs.Rules.{State, said, next, after_all}
use Rattle.history.specs.Schedule.{full}
use Rattle.order.specs.Answers.{devices}
use Rattle.history.specs.declared.fault.EngineFault.{EngineFault}
use Rattle.program.specs.declared.fault.Called.{Called}
use Rattle.attempt.specs.declared.attempt.Attempt.{Attempt}
use Rattle.attempt.specs.Keeping.{AreKnown, IsKnown}
use Rattle.attempt.specs.Runs.{just_made, is_at_rest, steps_to_rest, step_count}

-- a refusal with the number of calls that were obeyed before it
abbrev pub called : {A : Type 0} → Result A EngineFault → ℕ → Result A Called
called (Ok x) calls = Ok x
called (Err fault) calls = Err (record { fault = fault; calls = calls })

-- where an engine stands at the end of its steps that was just made over a bank that stands for this model
abbrev pub resting : {M : Type 0} (kind : Kind M) → List ℕ → M → State M
resting kind order m = after_all kind order (just_made m) (Open ∷ replicate (step_count kind order m) Step)

-- the attempt of an engine that was just made over a bank that stands for this model
pub record Ended {M : Type 0} (kind : Kind M) (order : List ℕ) (m : M) (attempt : Attempt) : Type 0 where
  pub journal : vec_items attempt.journal ≡ (next kind order (resting kind order m) Close).journal
  pub outcome : Ok (Closed attempt.outcome) ≡ said kind order (resting kind order m) Close
  pub count : attempt.calls ≡ 3 + step_count kind order m
  pub number : attempt.devices ≡ length order

module _ {B : Type 0} (members : Ghosts B) where
  -- an engine that is given so many steps is at rest then, and not before
  pub record Settled (before after : Engine B members) (t : ℕ) : Type 0 where
    pub count : t ≡ steps_to_rest members.kind (devices before.order) (2 * full (devices before.order)) (state members before)
    pub most : t < 2 * full (devices before.order)
    pub steps : state members after ≡ after_all members.kind (devices before.order) (state members before) (replicate t Step)
    pub rests : is_at_rest after.standing ≡ true
    pub order : after.order ≡ before.order

  -- an engine that is just made is given the calls of a run: so many steps, and a close that answers this outcome
  pub record Ran (before after : Engine B members) (t : ℕ) (outcome : Outcome) : Type 0 where
    pub count : t ≡ step_count members.kind (devices before.order) (members.model before.bank)
    pub most : t < 2 * full (devices before.order)
    pub answer : Ok (Closed outcome) ≡ said members.kind (devices before.order) (resting members.kind (devices before.order) (members.model before.bank)) Close
    pub becomes : state members after ≡ next members.kind (devices before.order) (resting members.kind (devices before.order) (members.model before.bank)) Close
    pub order : after.order ≡ before.order

  -- an engine that is just made is opened
  pub record Opens (before after : Engine B members) : Type 0 where
    pub becomes : state members after ≡ next members.kind (devices before.order) (just_made (members.model before.bank)) Open
    pub order : after.order ≡ before.order

  -- it is given the calls of a run; none of them is refused
  abbrev pub Calls : Engine B members → Engine B members → Result (ℕ × Outcome) Called → Type 0
  Calls before after (Ok (t, outcome)) = Ran before after t outcome
  Calls before after (Err called) = ⊥

  -- and journal and outcome name devices of the order alone
  abbrev pub Goes : Engine B members → Engine B members → Result (ℕ × Outcome) Called → Type 0
  Goes before after (Ok (t, outcome)) =
      Ran before after t outcome × AreKnown (length (devices before.order)) (vec_items after.journal) × IsKnown (length (devices before.order)) outcome
  Goes before after (Err called) = ⊥
