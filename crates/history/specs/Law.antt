-- The law over histories of calls, over any kind of bank. `superior s d` says that s is a superior of d.
use Rattle.std.specs.Prelude.{◌≡◌, ℕ, ◌^◌, ◌<◌, ◌≢◌, ◌↔◌, true, List, [], ◌∷◌, length, None, Ok, Err, Result, IsSome}
use Rattle.bank.specs.Meaning.{level, piles, deepest}
use Rattle.bank.specs.Laws.{Kind, HoldsWord}
use Rattle.history.specs.declared.call.Call.{Call}
use Rattle.history.specs.declared.call.Call.TheVariants.{Open, Step, Alarm, Close, Put, Look}
use Rattle.history.specs.declared.answer.Answer.{Answer}
use Rattle.history.specs.declared.answer.Answer.TheVariants.{Stepped, Heard, Closed, Written}
use Rattle.history.specs.declared.answer.StepAnswer.TheVariants.{Lowered, Raised}
use Rattle.history.specs.declared.answer.AlarmAnswer.TheVariants.{Kept}
use Rattle.history.specs.declared.fault.EngineFault.{EngineFault}
use Rattle.history.specs.declared.standing.Standing.TheVariants.{Awake}
use Rattle.history.specs.declared.standing.Stage.TheVariants as stage
use Rattle.history.specs.Schedule.{full, level_sum}
use Rattle.history.specs.Attempts.{History, at, under_way, opening, descent, next_device, outcome, standing}
use Rattle.history.specs.Rules.{State, shown, next}
pub use Rattle.history.specs.Sentences.{if_deep, first_with, HoldsFirstWords, Depths, OneLower, OneHigher}
pub use Rattle.history.specs.Telling.{is_lowering, answer_after, journal, lowerings, IsAt, Stopped, NoSuch, Refuses}
use Rattle.history.specs.Journals.{Notes}
use Rattle.history.specs.Endings.{Endings}

-- ---- the law

-- a word that is put has 32 bits
abbrev pub FitsCall : Call → Type 0
FitsCall Open = Unit {0}
FitsCall Step = Unit {0}
FitsCall (Alarm d) = Unit {0}
FitsCall Close = Unit {0}
FitsCall (Put d w) = w < 2 ^ 32
FitsCall (Look d) = Unit {0}

module _ {M : Type 0} (kind : Kind M) (order : List ℕ) where
  -- an engine that is just made: of this order, with every device at level 0, nothing open, and nothing in the journal
  pub record Made (s : State M) : Type 0 where
    pub count : length (shown kind order s) ≡ length order
    pub running : (d : ℕ) → level (shown kind order s) d ≡ 0
    pub awake : s.standing ≡ Awake
    pub blank : s.journal ≡ []

  -- the history h led to this engine: it was just made, and was given the calls of h, the last one first in the list
  abbrev pub LedTo : History → State M → Type 0
  LedTo [] s = kind.sound s.model × Made s
  LedTo (m ∷ h) s =
      kind.sound s.model
      × FitsCall m.call
      × ((before : State M) × LedTo h before × (m.before ≡ shown kind order before) × (s ≡ next kind order before m.call))

module _ {M : Type 0} (kind : Kind M) (superior : ℕ → ℕ → Type 0) (order : List ℕ) where
  -- After the history h, the call is answered so and takes the engine from `s` to `later`.
  pub record Lawful (h : History) (call : Call) (s : State M) (answer : Result Answer EngineFault) (later : State M) : Type 0 where
    -- it answers what the history tells, and is refused exactly where the rules refuse it; a refusal alters nothing
    pub answers : answer ≡ answer_after order h call (shown kind order s)
    pub refuses : (fault : EngineFault) → (answer ≡ Err fault) ↔ Refuses order h (shown kind order s) call fault
    pub unaltered : (fault : EngineFault) → answer ≡ Err fault → later ≡ s
    -- a step going down lowers exactly one device, by one level, unless an alarm is kept or the next device has a hindrance
    pub lowers : call ≡ Step → IsAt order stage.GoingDown h (shown kind order s) → (Stopped order h (shown kind order s) → ⊥)
        → (answer ≡ Ok (Stepped Lowered)) × OneLower (next_device order (shown kind order s)) (shown kind order s) (shown kind order later)
    -- then it lowers none
    pub stops : call ≡ Step → IsAt order stage.GoingDown h (shown kind order s) → Stopped order h (shown kind order s) → later.model ≡ s.model
    -- exactly then a step ends the descent early; a close that comes going down does too, by `going_down` of `Endings`
    pub ends_early : under_way h ≡ true → (descent order h).turned ≡ None
        → IsSome (descent order (at call (shown kind order s) ∷ h)).turned
        ↔ ((call ≡ Step) × IsAt order stage.GoingDown h (shown kind order s) × Stopped order h (shown kind order s))
    -- an alarm is kept exactly where it is the attempt's first that names a device, and no step had ended the descent early
    pub keeps : (d : ℕ) → call ≡ Alarm d
        → (answer ≡ Ok (Heard Kept)) ↔ ((d < length order) × (under_way h ≡ true) × ((descent order h).kept ≡ None) × ((descent order h).turned ≡ None))
    -- after a step that lowers, the levels add up to the lowerings of the attempt; once they are four for each device, all are at
    -- level 4
    pub adds_up : answer ≡ Ok (Stepped Lowered) → level_sum (shown kind order later) ≡ lowerings order (at call (shown kind order s) ∷ h)
    pub all_deepest : level_sum (shown kind order later) ≡ full order → (d : ℕ) → d < length order → level (shown kind order later) d ≡ deepest
    -- a step coming up raises exactly one device, by one level
    pub raises : call ≡ Step → IsAt order stage.ComingUp h (shown kind order s)
        → (answer ≡ Ok (Stepped Raised)) × ((x : ℕ) × OneHigher x (shown kind order s) (shown kind order later))
    -- a close obeyed answers the outcome of its attempt, and leaves each device the words that its opening found
    pub closes : call ≡ Close → under_way h ≡ true
        → (answer ≡ Ok (Closed (outcome order (descent order h) (shown kind order s)))) × (piles (shown kind order later) ≡ piles (opening h))
    -- a put obeyed gives its device that word alone; an opening, an alarm and a look leave the bank as it is
    pub puts : (d w : ℕ) → call ≡ Put d w → answer ≡ Ok Written → HoldsWord (shown kind order s) d w (shown kind order later)
    pub rests : call ≢ Step → call ≢ Close → answer ≢ Ok Written → later.model ≡ s.model
    -- when the levels of an attempt add up to k, every device holds exactly the words that it held when they first did, going down
    pub words : under_way (at call (shown kind order s) ∷ h) ≡ true → HoldsFirstWords order (at call (shown kind order s) ∷ h) (shown kind order later)
    pub depths : Depths superior (length order) (shown kind order later)
    -- the engine stands where the history tells, and its journal is exactly the entries that the calls tell
    pub stands : later.standing ≡ standing order (at call (shown kind order s) ∷ h) (shown kind order later)
    pub records : later.journal ≡ journal order (at call (shown kind order s) ∷ h)
    -- what each call notes, and how attempts end, told once more in the words of levels
    pub notes : Notes kind order call s answer later
    pub endings : Endings kind order h call s answer

  -- whatever history led to the engine s, the call is lawful after it, and the history with the call leads to the engine `later`
  pub record Obeys (call : Call) (s : State M) (answer : Result Answer EngineFault) (later : State M) : Type 0 where
    pub lawful : (h : History) → LedTo kind order h s → Lawful h call s answer later
    pub leads : (h : History) → LedTo kind order h s → LedTo kind order (at call (shown kind order s) ∷ h) later

  -- calls one after another, each of them lawful after those before it
  abbrev pub AreLawful : History → State M → List Call → List (Result Answer EngineFault) → State M → Type 0
  AreLawful h s [] [] later = (later ≡ s) × LedTo kind order h later
  AreLawful h s [] (answer ∷ answers) later = ⊥
  AreLawful h s (call ∷ calls) [] later = ⊥
  AreLawful h s (call ∷ calls) (answer ∷ answers) later =
      (after : State M) × Lawful h call s answer after × AreLawful (at call (shown kind order s) ∷ h) after calls answers later

  -- whatever history led to the engine s
  pub record ObeyAll (calls : List Call) (s : State M) (answers : List (Result Answer EngineFault)) (later : State M) : Type 0 where
    pub lawful : (h : History) → LedTo kind order h s → AreLawful h s calls answers later
