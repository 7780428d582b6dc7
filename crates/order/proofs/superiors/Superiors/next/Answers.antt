use Rattle.std.proofs.Common.{rules, tests, ℕ, ◌⊎◌}
use Rattle.order.specs.Sets.{In}
use Rattle.order.specs.Tables.{Above, Held}
use Rattle.order.proofs.Finding.{least_told}
use Rattle.order.proofs.superiors.Superiors.next.Goals as goal

pub returns : goal.returns
returns c =
    let sets = c.args.self.now.sets in
    let placed = c.args.placed in
    let told = least_told (λ d. (In placed d → ⊥) × ((s : ℕ) → Above sets s d → In placed s)) (λ d. In placed d ⊎ Held sets placed d) _ c.least.result c.least.ensures (λ d yes. search (rules, tests)) (λ d no. search (rules, tests)) in
    search rules
