-- The worked cases of whole files, computed.
use Rattle.std.proofs.Common.{◌∷◌, [], refl, lit≤, lit<}
use Rattle.std.specs.List.{AllByRecursion}
use Rattle.std.specs.Fmt.{digits}
use Rattle.cases.specs.Cases.{of_runs}
use Rattle.cases.proofs.Showing.{Passes}

pub of_runs_pass : AllByRecursion Passes of_runs
unfolding digits
of_runs_pass = ((refl, refl, refl, refl), ((refl, refl, refl, refl), ((refl, refl, refl, refl), ((refl, refl, refl, refl), ((refl, refl), (((0 ∷ 1 ∷ 2 ∷ [], refl, refl), refl), ((refl, refl), ((refl, refl, lit< tt, (lit≤ tt, lit≤ tt), refl, refl), ((refl, refl, lit< tt, (lit≤ tt, lit≤ tt), refl, refl), (refl, ((0 ∷ 1 ∷ 2 ∷ [], refl, refl), ((0 ∷ 1 ∷ 2 ∷ [], refl, refl, lit≤ tt, refl), ((0 ∷ 1 ∷ 2 ∷ [], refl, refl, lit≤ tt, refl), ((0 ∷ 1 ∷ 2 ∷ [], refl, refl, lit< tt, refl), ((0 ∷ 1 ∷ 2 ∷ [], refl, refl, lit< tt, refl), tt)))))))))))))))
