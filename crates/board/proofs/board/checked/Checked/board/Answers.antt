use Rattle.board.specs.Checking.{file_of}
use Rattle.board.proofs.Wires.{said}
use Rattle.board.proofs.board.checked.Checked.board.Goals as goal

pub returns : goal.returns
returns c =
    let self = c.args.self.now in
    said (file_of self) _ (c.in_ok-devices.ensures.0) (c.in_ok-links.ensures) self.records.frame.kinds_known self.wired
