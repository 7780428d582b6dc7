use Rattle.std.proofs.Common.{sym, ◌∙◌}
use Rattle.board.proofs.Gathering.{no_link, one_link}
use Rattle.board.proofs.records.Records.add_links.Goals as goal
use Rattle.board.proofs.records.Records.add_links.Goals.{in-Some, in_default}

pub unwrap-requires : goal.unwrap-requires
unwrap-requires c =
    (one_link c.args.self.now _ _ c.loop-record-test.true c.records-record-items.ensures _ _ _ _ _ c.loop-record.invariant c.requires (sym c.link_in.ensures ∙ c.in-Some.is) c.add.ensures).0

pub loop-record-preserved : goal.loop-record-preserved
loop-record-preserved c =
    elim c.match-link_in.branch [
      | in-Some w ↦ rw w.superiors-is (one_link c.args.self.now _ _ c.loop-record-test.true c.records-record-items.ensures _ _ _ _ _ c.loop-record.invariant c.requires (sym c.link_in.ensures ∙ w.in-Some.is) w.add.ensures).1
      | in_default w ↦ absurd (no_link c.args.self.now _ _ c.loop-record-test.true c.records-record-items.ensures (sym c.link_in.ensures ∙ w.in_default.is))
    ]
