use Rattle.std.proofs.Common.{refl}
use Rattle.order.proofs.Tables.{bare}
use Rattle.order.proofs.superiors.Superiors.new.Goals as goal

pub invariant_of-result-clause-known : goal.invariant_of-result-clause-known
invariant_of-result-clause-known c = λ s d h. absurd (bare c.empty-sets.result c.empty-sets.ensures 64 s d h)

pub returns : goal.returns
returns c = (refl, bare c.empty-sets.result c.empty-sets.ensures 64)
