use Rattle.runlisting.proofs.Written.{WrittenTo}
use Rattle.runlisting.proofs.printing.write_report.Given as goal

-- the lines of the entries before this one are written
abbrev pub invariant-loop-index : goal.invariant-loop-index
invariant-loop-index g l = WrittenTo l.fn.report (g.W.Write.contents l.fn.out) (g.W.Write.contents l.out) l.index
