-- The worked cases of lines and numbers, computed.
use Rattle.std.proofs.Common.{refl}
use Rattle.std.specs.List.{AllByRecursion}
use Rattle.std.specs.Fmt.{digits}
use Rattle.cases.specs.Lines.{of_refusals, of_makings, of_entries, of_outcomes}
use Rattle.cases.specs.Numbers.{of_numbers}
use Rattle.cases.proofs.Showing.{Passes}

pub of_refusals_pass : AllByRecursion Passes of_refusals
unfolding digits
of_refusals_pass = (refl, (refl, (refl, (refl, (refl, (refl, (refl, (refl, (refl, (refl, (refl, (refl, (refl, (refl, (refl, (refl, (refl, (refl, (refl, (refl, tt))))))))))))))))))))

pub of_makings_pass : AllByRecursion Passes of_makings
unfolding digits
of_makings_pass = (refl, (refl, (refl, (refl, (refl, (refl, tt))))))

pub of_entries_pass : AllByRecursion Passes of_entries
unfolding digits
of_entries_pass = (refl, (refl, (refl, (refl, (refl, (refl, (refl, (refl, (refl, (refl, (refl, (refl, tt))))))))))))

pub of_outcomes_pass : AllByRecursion Passes of_outcomes
unfolding digits
of_outcomes_pass = (refl, (refl, (refl, (refl, (refl, (refl, (refl, (refl, tt))))))))

pub of_numbers_pass : AllByRecursion Passes of_numbers
unfolding digits
of_numbers_pass = (refl, (refl, (refl, (refl, (refl, (refl, (refl, (refl, (refl, (refl, (refl, (refl, (refl, (refl, (refl, (refl, (refl, tt)))))))))))))))))
