-- The worked cases of engines, computed.
use Rattle.std.proofs.Common.{refl, lit≤}
use Rattle.std.specs.List.{AllByRecursion}
use Rattle.std.specs.Fmt.{digits}
use Rattle.cases.specs.Cases.{of_engines}
use Rattle.cases.specs.Attempts.{of_attempts}
use Rattle.cases.proofs.Showing.{Passes}

pub of_engines_pass : AllByRecursion Passes of_engines
unfolding digits
of_engines_pass = ((lit≤ tt, refl, refl, refl, refl, refl), ((lit≤ tt, refl, refl, refl, refl, refl), ((lit≤ tt, refl, refl, refl, refl, refl), ((lit≤ tt, refl, refl, refl, refl, refl), ((lit≤ tt, refl, refl, refl, refl, refl), ((lit≤ tt, refl, refl, refl, refl, refl), tt))))))

pub of_attempts_pass : AllByRecursion Passes of_attempts
of_attempts_pass = ((lit≤ tt, refl, refl, refl, refl, refl), ((lit≤ tt, refl, refl, refl, refl, refl), ((lit≤ tt, refl, refl, refl, refl, refl), ((lit≤ tt, refl, refl, refl, refl, refl), ((lit≤ tt, refl, refl, refl, refl, refl), ((lit≤ tt, refl, refl, refl, refl, refl), ((lit≤ tt, refl, refl, refl, refl, refl), ((lit≤ tt, refl, refl, refl, refl, refl), ((lit≤ tt, refl, refl, refl, refl, refl), tt)))))))))
