use Rattle.std.proofs.Common.{rules, tests, ap, length, ◌∙◌}
use Rattle.std.proofs.lemmas.Iterator.{first_from_Range}
use Rattle.boardfile.specs.Layout.{device_count}
use Rattle.boardfile.specs.Rules.{RightDevice}
use Rattle.board.proofs.Firsts.{first_wrong}
use Rattle.board.proofs.records.wrong_device.Goals as goal

pub returns : goal.returns
returns c =
    let bs = c.args.frame.now.file.now in
    first_wrong (RightDevice bs) (device_count bs) _ (ap length c.records.ensures ∙ c.args.frame.now.devices_known.holds.many) c.find.result
    (first_from_Range _ _ _ _ _ _ c.find.ensures.ran (λ x q k. search (rules, tests)) (λ x q k. search (rules, tests)))
