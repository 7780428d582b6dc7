use Rattle.std.proofs.Common.{◌≡◌, Ok, Err, refl, ◌∙◌, arith, ℕ, ◌<◌, ◌⊎◌}
use Rattle.std.proofs.lemmas.List.{set-get_or}
use Rattle.order.specs.Sets.{In}
use Rattle.order.specs.Tables.{Above, Held}
use Rattle.order.proofs.Relations.{order_kept}
use Rattle.order.proofs.Placing.{runs_more, runs_all, runs_stuck, runs_full}
use Rattle.order.proofs.Exactness.{exact}
use Rattle.order.proofs.superiors.Superiors.order.Goals as goal
use Rattle.order.proofs.superiors.Superiors.order.Goals.{else-loop-place-test, then-loop-place-test+in_default}

pub loop-place-preserved : goal.loop-place-preserved
loop-place-preserved c = runs_more c.loop-place.invariant c.in-Some.ensures.0 c.in-Some.ensures.1

pub invariant_of-result : goal.invariant_of-result
invariant_of-result c =
    let table = c.args.self.now in
    let runs = c.loop-place.invariant in
    let same : c.loop-place-test.places ≡ c.loop-place.place-items =
    elim c.loop-place-test.branch [ else-loop-place-test w ↦ w.places-is | then-loop-place-test+in_default w ↦ w.places-is ∙ set-get_or _ _ _ ] in
    let kept = order_kept table.count (Above table.sets) table.known _ (runs_all runs c.in-None.ensures) in
    rw same (record { long = runs.long; inside = kept.0; once = kept.1; earlier = kept.2; least = kept.3 })

pub returns-in-Some-least_absent : goal.returns-in-Some-least_absent
returns-in-Some-least_absent c =
    let runs = c.loop-place.invariant in
    let left = c.in-Some-least_absent.ensures in
    let held : (d : ℕ) → d < c.args.self.now.count → In c.loop-place.placed d ⊎ Held c.args.self.now.sets c.loop-place.placed d =
    elim c.loop-place-test.branch [ else-loop-place-test w ↦ runs_full runs (omega arith) | then-loop-place-test+in_default w ↦ w.in_default.ensures ] in
    let circular = runs_stuck runs held c.in-Some-least_absent.device left.0 left.1 left.2 in
    record { answers = circular; exact = exact c.args.self.now (Err (record { device = c.in-Some-least_absent.device })) circular }

pub returns-in-None : goal.returns-in-None
returns-in-None c = record { answers = refl; exact = exact c.args.self.now (Ok _) refl }
