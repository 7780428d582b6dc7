use Rattle.std.proofs.Common.{◌-◌, ◌*◌}
use Rattle.order.specs.Answers.{devices}
use Rattle.history.specs.Schedule.{full}
use Rattle.attempt.proofs.Engines.{IsHalfway}
use Rattle.attempt.proofs.attempt.running.settle.Given as goal

-- the engine is on its way to rest
abbrev pub invariant-loop-engine : goal.invariant-loop-engine
invariant-loop-engine g l = IsHalfway g.B.Bank l.fn.engine l.engine l.steps

-- it gets there in fewer steps
abbrev pub decreases-loop-engine : goal.decreases-loop-engine
decreases-loop-engine g l = 2 * full (devices l.initial.engine.order) - l.steps
