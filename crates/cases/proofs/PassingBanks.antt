-- The worked cases of banks, computed.
use Rattle.std.proofs.Common.{refl, lit≤}
use Rattle.std.specs.List.{AllByRecursion}
use Rattle.std.specs.Fmt.{digits}
use Rattle.cases.specs.Cases.{of_banks}
use Rattle.cases.proofs.Showing.{Passes}

pub of_banks_pass : AllByRecursion Passes of_banks
unfolding digits
of_banks_pass = ((lit≤ tt, refl), ((lit≤ tt, refl), ((lit≤ tt, refl), ((lit≤ tt, refl), ((lit≤ tt, refl), ((lit≤ tt, refl), ((lit≤ tt, refl), tt)))))))
