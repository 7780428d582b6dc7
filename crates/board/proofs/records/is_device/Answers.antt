use Rattle.std.proofs.Common.{rules, ◌≡◌, ◌∙◌, get_or, [], sym, refl}
use Rattle.std.proofs.lemmas.Bool.Decides.{Decides-like, not_from_Decides}
use Rattle.board.proofs.Seen.{decides_not, device_unlike, right_is}
use Rattle.board.proofs.records.is_device.Goals as goal

pub returns-in_default-device_in : goal.returns-in_default-device_in
returns-in_default-device_in c =
    let at : c.in-Some.record.now ≡ get_or c.records-records.result.now c.args.i [] = search rules in
    decides_not _ refl (λ p. device_unlike c.args.frame.now _ c.records-records.ensures c.args.i p.0 _ at (sym c.device_in.ensures ∙ c.in_default-device_in.is) p.1)

pub returns-then-is_parent : goal.returns-then-is_parent
returns-then-is_parent c =
    let at : c.in-Some.record.now ≡ get_or c.records-records.result.now c.args.i [] = search rules in
    let is = right_is c.args.frame.now _ c.records-records.ensures c.args.i (search rules) _ at _ (sym c.device_in.ensures ∙ c.in-Some-device_in.is) in
    Decides-like _ (λ news. (search rules, is.0 (search rules, news))) (λ p. (is.1 p.1).1) c.is_new.ensures

pub returns-else-is_parent : goal.returns-else-is_parent
returns-else-is_parent c =
    let at : c.in-Some.record.now ≡ get_or c.records-records.result.now c.args.i [] = search rules in
    decides_not _ c.if-is_parent.false
    (λ p. not_from_Decides _ c.is_parent.ensures c.if-is_parent.false ((right_is c.args.frame.now _ c.records-records.ensures c.args.i p.0 _ at _ (sym c.device_in.ensures ∙ c.in-Some-device_in.is)).1 p.1).0)
