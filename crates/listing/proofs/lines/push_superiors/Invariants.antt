use Rattle.std.proofs.Common.{◌≡◌, ◌++◌, string_bytes}
use Rattle.std.specs.List.{flat_map}
use Rattle.listing.specs.Lines.{spaced}
use Rattle.listing.proofs.Printed.{superiors_below}
use Rattle.listing.proofs.lines.push_superiors.Given as goal

abbrev pub invariant-loop-s : goal.invariant-loop-s
invariant-loop-s l =
    string_bytes l.text ≡ string_bytes l.initial.text ++ flat_map (spaced l.board) (superiors_below l.board.order.superiors l.device l.s)
