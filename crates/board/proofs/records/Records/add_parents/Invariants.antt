use Rattle.board.specs.Wiring.{Gains}
use Rattle.board.proofs.Gathering.{ParentBelow}
use Rattle.board.proofs.records.Records.add_parents.Given as goal

-- the parents of the devices so far
abbrev pub invariant-loop-i : goal.invariant-loop-i
invariant-loop-i l = Gains (ParentBelow l.self.frame.file.now l.i) l.initial.superiors l.superiors
