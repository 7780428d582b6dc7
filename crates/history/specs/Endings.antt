-- How attempts end, in the words of levels: a phase takes a device into the level of its number.
use Rattle.std.specs.Prelude.{◌≡◌, ℕ, ◌+◌, ◌*◌, ◌<◌, true, List, ◌∷◌, length, Some, None, Ok, Result}
use Rattle.bank.specs.Laws.{Kind}
use Rattle.bank.specs.Meaning.{Device, level, word, hindrance}
use Rattle.history.specs.declared.call.Call.{Call}
use Rattle.history.specs.declared.call.Call.TheVariants.{Close, Look}
use Rattle.history.specs.declared.answer.Answer.{Answer}
use Rattle.history.specs.declared.answer.Answer.TheVariants.{Stepped, Closed, Seen}
use Rattle.history.specs.declared.answer.StepAnswer.TheVariants.{Hindered, Alarmed}
use Rattle.history.specs.declared.fault.EngineFault.{EngineFault}
use Rattle.history.specs.declared.outcome.Outcome.{Outcome}
use Rattle.history.specs.declared.outcome.Outcome.TheVariants.{Slept, Fault, Alarm, Cancelled}
use Rattle.history.specs.declared.phase.Phase.{Phase}
use Rattle.history.specs.declared.standing.Stage.TheVariants as stage
use Rattle.history.specs.Numbers.{phase_number, outcome_values}
use Rattle.history.specs.Schedule.{level_sum}
use Rattle.history.specs.Attempts.{History, at, under_way, descent}
use Rattle.history.specs.Rules.{State, shown}
use Rattle.history.specs.Telling.{IsAt, lowerings}
use Rattle.history.specs.Journals.{next_of, hinders_next}

-- the phase that leads device x from its level to the next
abbrev pub LeadsOn : List Device → ℕ → Phase → Type 0
LeadsOn now x phase = phase_number phase ≡ level now x + 1

module _ {M : Type 0} (kind : Kind M) (order : List ℕ) where
  pub record Endings (h : History) (call : Call) (s : State M) (answer : Result Answer EngineFault) : Type 0 where
    -- a hindrance ends the descent as a fault: with the hindrance, its device, its phase, and what the levels add up to
    pub hindered : answer ≡ Ok (Stepped Hindered)
        → (phase : Phase) × LeadsOn (shown kind order s) (next_of kind order s) phase × (0 < hinders_next kind order s)
        × ((descent order (at call (shown kind order s) ∷ h)).turned
        ≡ Some (Fault (hinders_next kind order s) (next_of kind order s) phase (level_sum (shown kind order s))))
    -- an alarm that is kept ends it with its device, the phase of the next lowering, and what the levels add up to
    pub alarmed : answer ≡ Ok (Stepped Alarmed)
        → (d : ℕ) × (phase : Phase) × ((descent order h).kept ≡ Some d) × LeadsOn (shown kind order s) (next_of kind order s) phase
        × ((descent order (at call (shown kind order s) ∷ h)).turned ≡ Some (Alarm d phase (level_sum (shown kind order s))))
    -- a close answers the early end, if a step ended the descent early
    pub early : (outcome : Outcome) → call ≡ Close → under_way h ≡ true → (descent order h).turned ≡ Some outcome → answer ≡ Ok (Closed outcome)
    -- if no step did and the board slept, it answers so, with the alarm that woke it
    pub slept : call ≡ Close → under_way h ≡ true → (descent order h).turned ≡ None → (IsAt order stage.GoingDown h (shown kind order s) → ⊥)
        → answer ≡ Ok (Closed (Slept (descent order h).kept (4 * length order)))
    -- a close that comes going down is itself the early end: by the alarm that is kept, or cancelled
    pub going_down : call ≡ Close → IsAt order stage.GoingDown h (shown kind order s)
        → (phase : Phase) × LeadsOn (shown kind order s) (next_of kind order s) phase
        × ((d : ℕ) → (descent order h).kept ≡ Some d → answer ≡ Ok (Closed (Alarm d phase (level_sum (shown kind order s)))))
        × ((descent order h).kept ≡ None → answer ≡ Ok (Closed (Cancelled phase (level_sum (shown kind order s)))))
    -- taken is the number of the attempt's lowerings
    pub taken : (outcome : Outcome) → answer ≡ Ok (Closed outcome) → (outcome_values outcome).taken ≡ lowerings order h
    -- a look tells level, working word and hindrance as they are
    pub sees : (d : ℕ) → call ≡ Look d → d < length order
        → answer ≡ Ok (Seen (level (shown kind order s) d) (word (shown kind order s) d) (hindrance (shown kind order s) d))
