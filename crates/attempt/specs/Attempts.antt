-- What a run over a bank of any kind answers.
use Rattle.std.specs.Prelude.{◌≡◌, ℕ, ◌+◌, ◌*◌, ◌<◌, true, false, [], ◌∷◌, length, replicate, All, is_ok, Ok, Err, Result, vec_items}
use Rattle.bank.specs.Laws.{Kind}
use Rattle.history.specs.declared.call.Call.TheVariants.{Open, Step, Close}
use Rattle.history.specs.declared.answer.Answer.TheVariants.{Closed}
use Rattle.history.specs.Law.{AreLawful}
use Rattle.history.specs.Rules.{said, all_said, after_all}
use Rattle.history.specs.Schedule.{full}
use Rattle.order.specs.declared.ordering.Order.{Order}
use Rattle.order.specs.Answers.{Superior, devices}
use Rattle.engine.specs.Making.{IsReady, Unready}
use Rattle.program.specs.declared.fault.ProgramFault.TheVariants.{Board, Sheet, Buffer, NoDevice, NoLevel, Engine}
use Rattle.program.specs.declared.fault.RunFault.{RunFault}
use Rattle.program.specs.declared.fault.RunFault.TheVariants.{Program, Memory}
use Rattle.attempt.specs.declared.attempt.Attempt.{Attempt}
use Rattle.attempt.specs.Runs.{just_made, is_at_rest, step_count, run_calls}
use Rattle.attempt.specs.Blames.{Blames, run_journal}

module _ {M : Type 0} (kind : Kind M) (m : M) (order : Order) where
  -- journal and outcome are those of the one history of a run
  pub record Attempted (attempt : Attempt) : Type 0 where
    pub journal : vec_items attempt.journal ≡ (after_all kind (devices order) (just_made m) (run_calls kind (devices order) m)).journal
    pub outcome : said kind (devices order) (after_all kind (devices order) (just_made m) (Open ∷ replicate (step_count kind (devices order) m) Step)) Close ≡ Ok (Closed attempt.outcome)
    -- none of its calls is refused
    pub obeyed : All (λ answer. is_ok answer ≡ true) (all_said kind (devices order) (just_made m) (run_calls kind (devices order) m))
    -- its steps go on until the engine is asleep or landed, and no further
    pub rests : is_at_rest (after_all kind (devices order) (just_made m) (Open ∷ replicate (step_count kind (devices order) m) Step)).standing ≡ true
    pub not_before : (t : ℕ) → t < step_count kind (devices order) m → is_at_rest (after_all kind (devices order) (just_made m) (Open ∷ replicate t Step)).standing ≡ false
    pub most : step_count kind (devices order) m < 2 * full (devices order)
    -- calls are counted from the making on
    pub count : attempt.calls ≡ 1 + length (run_calls kind (devices order) m)
    pub number : attempt.devices ≡ length (devices order)
    -- the law over histories holds of the whole of it, for the superiors of the order
    pub law : AreLawful kind (Superior order.superiors) (devices order) [] (just_made m) (run_calls kind (devices order) m)
        (all_said kind (devices order) (just_made m) (run_calls kind (devices order) m)) (after_all kind (devices order) (just_made m) (run_calls kind (devices order) m))
    -- the outcome blames the first device that refuses, or none; and the journal is the way down to there and the same way back
    pub blames : Blames kind (devices order) m attempt.outcome
    pub ways : vec_items attempt.journal ≡ run_journal kind (devices order) m attempt.outcome

  -- refused exactly where no engine is made; otherwise such an attempt, or want of memory
  abbrev pub Attempts : Result Attempt RunFault → Type 0
  Attempts (Ok attempt) = IsReady (devices order) (kind.devices m) × Attempted attempt
  Attempts (Err (Program (Board fault))) = ⊥
  Attempts (Err (Program Sheet)) = ⊥
  Attempts (Err (Program Buffer)) = ⊥
  Attempts (Err (Program (NoDevice device))) = ⊥
  Attempts (Err (Program NoLevel)) = ⊥
  Attempts (Err (Program (Engine fault calls))) = (calls ≡ 0) × Unready (devices order) (kind.devices m) fault
  Attempts (Err Memory) = IsReady (devices order) (kind.devices m)
