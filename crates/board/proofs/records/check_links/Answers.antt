use Rattle.std.proofs.Common.{arith}
use Rattle.board.proofs.Known.{framed_known}
use Rattle.board.proofs.records.check_links.Goals as goal

pub returns-in-Some : goal.returns-in-Some
returns-in-Some c =
    (framed_known c.args.frame.now.framed, c.requires, (c.in-Some.j, omega (arith, c.place.ensures, c.args.frame.now.links_known.begins), c.in-Some.ensures))
