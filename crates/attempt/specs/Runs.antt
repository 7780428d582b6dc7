-- The calls of a run: an open, steps until the engine is asleep or landed, and a close.
use Rattle.std.specs.Prelude.{ℕ, zero, suc, ◌*◌, Bool, true, false, if◌then◌else◌, List, [], ◌∷◌, ◌++◌, replicate}
use Rattle.bank.specs.Laws.{Kind}
use Rattle.history.specs.declared.call.Call.{Call}
use Rattle.history.specs.declared.call.Call.TheVariants.{Open, Step, Close}
use Rattle.history.specs.declared.standing.Standing.{Standing}
use Rattle.history.specs.declared.standing.Standing.TheVariants.{Awake, GoingDown, Asleep, ComingUp, Landed}
use Rattle.history.specs.Rules.{State, next}
use Rattle.history.specs.Schedule.{full}

-- an engine that is just made over a bank that stands for this model
abbrev pub just_made : {M : Type 0} → M → State M
just_made m = record { model = m; standing = Awake; journal = [] }

-- asleep or landed
abbrev pub is_at_rest : Standing → Bool
is_at_rest Awake = false
is_at_rest (GoingDown alarm) = false
is_at_rest Asleep = true
is_at_rest (ComingUp outcome) = false
is_at_rest (Landed outcome) = true

module _ {M : Type 0} (kind : Kind M) (order : List ℕ) where
  -- how many steps it takes from here until the engine is at rest, if no more than `most` are needed
  abbrev pub steps_to_rest : ℕ → State M → ℕ
  steps_to_rest zero s = 0
  steps_to_rest (suc most) s = if is_at_rest s.standing then 0 else suc (steps_to_rest most (next kind order s Step))

  -- how many steps a run has over a bank that stands for this model; two for each lowering of the schedule are always enough
  abbrev pub step_count : M → ℕ
  step_count m = steps_to_rest (2 * full order) (next kind order (just_made m) Open)

  -- the calls of a run
  abbrev pub run_calls : M → List Call
  run_calls m = Open ∷ (replicate (step_count m) Step ++ Close ∷ [])
