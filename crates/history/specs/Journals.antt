-- What each call leaves in the journal, in the words of levels: a phase takes a device into the level of its number.
use Rattle.std.specs.Prelude.{◌≡◌, ◌≢◌, ℕ, zero, ◌+◌, ℤ, pos, neg_ℤ, List, [], ◌∷◌, ◌++◌, reverse, Ok, Result}
use Rattle.bank.specs.Laws.{Kind}
use Rattle.bank.specs.Meaning.{Device, level, hindrance}
use Rattle.history.specs.declared.call.Call.{Call}
use Rattle.history.specs.declared.call.Call.TheVariants.{Open, Step, Close}
use Rattle.history.specs.declared.answer.Answer.{Answer}
use Rattle.history.specs.declared.answer.Answer.TheVariants.{Opened, Stepped, Closed}
use Rattle.history.specs.declared.answer.StepAnswer.TheVariants.{Lowered, Raised, Hindered, Alarmed}
use Rattle.history.specs.declared.entry.Entry.{Entry}
use Rattle.history.specs.declared.entry.Direction.{Direction}
use Rattle.history.specs.declared.entry.Direction.TheVariants.{Down, Up}
use Rattle.history.specs.declared.fault.EngineFault.{EngineFault}
use Rattle.history.specs.declared.outcome.Outcome.{Outcome}
use Rattle.history.specs.declared.phase.Phase.{Phase}
use Rattle.history.specs.Numbers.{phase_number}
use Rattle.history.specs.Attempts.{next_device}
use Rattle.history.specs.Rules.{State, shown}
use Rattle.history.specs.Sentences.{OneHigher}

-- the journal has one entry more: device x is lowered from its level, with this code
abbrev pub NotesDown : ℕ → ℤ → List Device → List Entry → List Entry → Type 0
NotesDown x code now journal longer =
    (phase : Phase) × (phase_number phase ≡ level now x + 1) × (longer ≡ journal ++ record { device = x; phase = phase; direction = Down; code = code } ∷ [])

-- the journal has one entry more: device x is raised from its level
abbrev pub NotesUp : ℕ → List Device → List Entry → List Entry → Type 0
NotesUp x now journal longer =
    (phase : Phase) × (phase_number phase ≡ level now x) × (longer ≡ journal ++ record { device = x; phase = phase; direction = Up; code = pos 0 } ∷ [])

-- device and phase of an entry, if it is of this direction and its code is 0
abbrev pub if_taken : Direction → Direction → ℤ → ℕ × Phase → List (ℕ × Phase) → List (ℕ × Phase)
if_taken Down Down (pos zero) turn rest = turn ∷ rest
if_taken Up Up (pos zero) turn rest = turn ∷ rest
if_taken way direction code turn rest = rest

-- device and phase of the lowerings that were taken, or of the raisings, in their order
abbrev pub way : Direction → List Entry → List (ℕ × Phase)
way direction [] = []
way direction (e ∷ journal) = if_taken direction e.direction e.code (e.device, e.phase) (way direction journal)

-- only raisings, with code 0
abbrev pub AreRaisings : List Entry → Type 0
AreRaisings [] = Unit {0}
AreRaisings (e ∷ entries) = (e.direction ≡ Up) × (e.code ≡ pos 0) × AreRaisings entries

module _ {M : Type 0} (kind : Kind M) (order : List ℕ) where
  -- the device of the next lowering, and what hinders it
  abbrev pub next_of : State M → ℕ
  next_of s = next_device order (shown kind order s)

  abbrev pub hinders_next : State M → ℕ
  hinders_next s = hindrance (shown kind order s) (next_of s)

  pub record Notes (call : Call) (s : State M) (answer : Result Answer EngineFault) (later : State M) : Type 0 where
    -- an opening empties the journal
    pub opening : answer ≡ Ok Opened → later.journal ≡ []
    -- a lowering is noted, with its device, the phase that leads from the device's level to the next, and code 0
    pub lowering : answer ≡ Ok (Stepped Lowered) → NotesDown (next_of s) (pos 0) (shown kind order s) s.journal later.journal
    -- and so is one that is hindered, with the hindrance negated
    pub hindered : answer ≡ Ok (Stepped Hindered)
        → NotesDown (next_of s) (neg_ℤ (pos (hinders_next s))) (shown kind order s) s.journal later.journal
    -- a raising is noted, with its device and the phase that led into the level that the device leaves
    pub raising : answer ≡ Ok (Stepped Raised)
        → (x : ℕ) × OneHigher x (shown kind order s) (shown kind order later) × NotesUp x (shown kind order s) s.journal later.journal
    -- a close notes nothing but raisings
    pub closing : (outcome : Outcome) → answer ≡ Ok (Closed outcome) → (entries : List Entry) × (later.journal ≡ s.journal ++ entries) × AreRaisings entries
    -- once an attempt is closed, its journal has the way back exactly as the way down: the last device lowered is the first raised, from
    -- the same phase, and so on
    pub mirrored : (outcome : Outcome) → answer ≡ Ok (Closed outcome) → way Up later.journal ≡ reverse (way Down later.journal)
    -- nothing else is noted: not a turn by an alarm, nor any other call
    pub alarmed : answer ≡ Ok (Stepped Alarmed) → later.journal ≡ s.journal
    pub others : call ≢ Open → call ≢ Step → call ≢ Close → later.journal ≡ s.journal
