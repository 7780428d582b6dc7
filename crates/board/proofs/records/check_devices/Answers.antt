use Rattle.std.proofs.Common.{arith}
use Rattle.board.proofs.Known.{framed_known}
use Rattle.board.proofs.records.check_devices.Goals as goal

pub returns-in-Some : goal.returns-in-Some
returns-in-Some c =
    (framed_known c.args.frame.now.framed, (c.in-Some.i, omega (arith, c.place.ensures, c.args.frame.now.devices_known.begins), c.in-Some.ensures))
