use Rattle.std.proofs.Common.{◌≡◌, take, string_bytes}
use Rattle.std.specs.List.{flat_map}
use Rattle.order.specs.Answers.{devices}
use Rattle.listing.specs.Lines.{line}
use Rattle.listing.proofs.lines.push_lines.Given as goal

abbrev pub invariant-loop-device : goal.invariant-loop-device
invariant-loop-device l = string_bytes l.text ≡ flat_map (line l.board) (take l.device-index (devices l.board.order))
