use Rattle.board.specs.Wiring.{Gains}
use Rattle.board.proofs.Gathering.{LinkedBelow}
use Rattle.board.proofs.records.Records.add_links.Given as goal

-- the links so far
abbrev pub invariant-loop-record : goal.invariant-loop-record
invariant-loop-record l = Gains (LinkedBelow l.self.frame.file.now l.record-index) l.initial.superiors l.superiors
