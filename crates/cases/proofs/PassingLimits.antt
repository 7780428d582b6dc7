-- The worked cases of files at the limits, computed.
use Rattle.std.proofs.Common.{◌∷◌, [], refl}
use Rattle.std.specs.List.{AllByRecursion}
use Rattle.std.specs.Fmt.{digits}
use Rattle.cases.specs.Limits.{wrong_trailers, wrong_records, right_files}
use Rattle.cases.proofs.Showing.{Passes}

pub wrong_trailers_pass : AllByRecursion Passes wrong_trailers
unfolding digits
wrong_trailers_pass = ((refl, refl), ((refl, refl), ((refl, refl), ((refl, refl), ((refl, refl), ((refl, refl), ((refl, refl), ((refl, refl), ((refl, refl), ((refl, refl), ((refl, refl), ((refl, refl), ((refl, refl), ((refl, refl), ((refl, refl), ((refl, refl), ((refl, refl), ((refl, refl), ((refl, refl), tt)))))))))))))))))))

pub wrong_records_pass : AllByRecursion Passes wrong_records
unfolding digits
wrong_records_pass = ((refl, refl), ((refl, refl), ((refl, refl), ((refl, refl), ((refl, refl), ((refl, refl), ((refl, refl), ((refl, refl), ((refl, refl), ((refl, refl), ((refl, refl), ((refl, refl), ((refl, refl), ((refl, refl), ((refl, refl), ((refl, refl), ((refl, refl), ((refl, refl), ((refl, refl), tt)))))))))))))))))))

pub right_files_pass : AllByRecursion Passes right_files
unfolding digits
right_files_pass = ((refl, refl, refl, refl), ((refl, refl, refl, refl), ((refl, refl, refl, refl), (((0 ∷ 1 ∷ 2 ∷ [], refl, refl), refl), (((0 ∷ [], refl, refl), refl), tt)))))
