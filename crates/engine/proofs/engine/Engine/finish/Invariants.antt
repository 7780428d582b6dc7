use Rattle.std.specs.Prelude.{◌≡◌, ◌++◌}
use Rattle.order.specs.Answers.{devices}
use Rattle.history.specs.Attempts.{rising}
use Rattle.history.specs.Rules.{all_raised, entries_up}
use Rattle.engine.proofs.engine.Engine.finish.Given as goal

-- what is left to raise gives what was to be raised at first
abbrev pub invariant-loop-self : goal.invariant-loop-self
invariant-loop-self g l =
    (l.self.order ≡ l.fn.self.order)
    × (l.self.standing ≡ rising l.outcome l.self.lowered)
    × (all_raised g.B.Bank.kind (devices l.fn.self.order) l.self.lowered (g.B.Bank.model l.self.bank) ≡ all_raised g.B.Bank.kind (devices l.fn.self.order) l.fn.self.lowered (g.B.Bank.model l.fn.self.bank))
    × (l.self.journal.items ++ entries_up (devices l.fn.self.order) l.self.lowered ≡ l.fn.self.journal.items ++ entries_up (devices l.fn.self.order) l.fn.self.lowered)

abbrev pub decreases-loop-self : goal.decreases-loop-self
decreases-loop-self g l = l.self.lowered
