use Rattle.std.proofs.Common.{sym, ◌∙◌}
use Rattle.board.proofs.Gathering.{no_parent, one_parent}
use Rattle.board.proofs.records.Records.add_parents.Goals as goal
use Rattle.board.proofs.records.Records.add_parents.Goals.{in-Some, in_default}

pub unwrap-requires : goal.unwrap-requires
unwrap-requires c =
    (one_parent c.args.self.now _ _ c.loop-i-test.true c.records-record-items.ensures _ _ _ _ _ c.loop-i.invariant c.requires (sym c.parent_in.ensures ∙ c.in-Some.is) c.add.ensures).0

pub loop-i-preserved : goal.loop-i-preserved
loop-i-preserved c =
    elim c.match-parent_in.branch [
      | in-Some w ↦ rw w.superiors-is (one_parent c.args.self.now _ _ c.loop-i-test.true c.records-record-items.ensures _ _ _ _ _ c.loop-i.invariant c.requires (sym c.parent_in.ensures ∙ w.in-Some.is) w.add.ensures).1
      | in_default w ↦ rw w.superiors-is (no_parent c.args.self.now _ _ c.loop-i-test.true c.records-record-items.ensures _ _ c.loop-i.invariant (sym c.parent_in.ensures ∙ w.in_default.is))
    ]
