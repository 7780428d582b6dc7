-- The worked cases of boards, computed.
use Rattle.std.proofs.Common.{refl}
use Rattle.std.specs.List.{AllByRecursion}
use Rattle.std.specs.Fmt.{digits}
use Rattle.cases.specs.Cases.{of_boards}
use Rattle.cases.proofs.Showing.{Passes}

pub of_boards_pass : AllByRecursion Passes of_boards
unfolding digits
of_boards_pass = ((refl, refl, refl), ((refl, refl, refl), ((refl, refl), ((refl, refl), ((refl, refl), ((refl, refl), ((refl, refl), ((refl, refl), ((refl, refl), tt)))))))))
