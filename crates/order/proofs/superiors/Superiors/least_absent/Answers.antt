use Rattle.std.proofs.Common.{rules, tests}
use Rattle.order.specs.Sets.{In}
use Rattle.order.proofs.Finding.{least_told}
use Rattle.order.proofs.superiors.Superiors.least_absent.Goals as goal

pub returns : goal.returns
returns c = least_told (λ d. In c.args.placed d → ⊥) (In c.args.placed) _ c.least.result c.least.ensures (λ d yes. search (rules, tests)) (λ d no. search (rules, tests))
