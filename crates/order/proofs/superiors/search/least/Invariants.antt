use Rattle.std.proofs.Common.{ℕ, false, ◌<◌}
use Rattle.order.proofs.superiors.search.least.Given as goal

-- the numbers so far do not pass
abbrev pub invariant-loop-number : goal.invariant-loop-number
invariant-loop-number g l = (e : ℕ) → e < l.number → goal.F-post g l.test e false
