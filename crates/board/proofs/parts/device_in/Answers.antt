use Rattle.std.proofs.Common.{rules, arith, take}
use Rattle.std.proofs.lemmas.Bool.Decides.{nat_tests}
use Rattle.std.proofs.lemmas.List.{length-take-le}
use Rattle.board.proofs.Names.{named_decides, no_from_decides}
use Rattle.board.proofs.parts.device_in.Goals as goal

pub returns-in_default : goal.returns-in_default
returns-in_default c =
    let bytes = c.args.bytes.now in
    rw (no_from_decides _ (named_decides (take 8 bytes)) (λ named. c.in_default.ensures (length-take-le 8 bytes (omega (arith, c.told-bytes)), named))) (search rules)

pub returns-then-bytes-ne0 : goal.returns-then-bytes-ne0
returns-then-bytes-ne0 c = rw ((named_decides (take 8 c.args.bytes.now)).1 c.in-Ok.ensures.1) (grind (arith, nat_tests))

pub returns : goal.returns
returns c = rw ((named_decides (take 8 c.args.bytes.now)).1 c.in-Ok.ensures.1) (search rules)
