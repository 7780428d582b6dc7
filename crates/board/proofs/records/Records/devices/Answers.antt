use Rattle.std.proofs.Common.{rules, tests, ap, length, ◌∙◌}
use Rattle.std.proofs.lemmas.Iterator.{YieldsList-from_slice}
use Rattle.std.proofs.lemmas.Iterator.Adapters.{items_from_extend}
use Rattle.std.proofs.lemmas.Iterator.Consumers.{YieldsList-from_filter_map}
use Rattle.std.proofs.lemmas.List.FromFn.{length-map-range_with_len}
use Rattle.boardfile.specs.Layout.{device_count}
use Rattle.boardfile.specs.Contents.{device_of}
use Rattle.boardfile.proofs.Naming.{ascii_names, tell_apart}
use Rattle.board.specs.Records.{device_in}
use Rattle.board.proofs.Known.{framed_known, devices_known}
use Rattle.board.proofs.Seen.{right_described}
use Rattle.board.proofs.Filling.{all_described, ok_holds, from_none}
use Rattle.board.proofs.records.Records.devices.Goals as goal

pub returns : goal.returns
returns c =
    let bs = c.args.self.now.frame.file.now in
    let seen = c.args.self.now.frame.devices_known.holds in
    let right = devices_known c.args.self.now.devices in
    let framed = framed_known c.args.self.now.frame.framed in
    let added = ok_holds _ _ c.in_ok-extend.was (items_from_extend c.extend.result c.extend.ensures.ran (YieldsList-from_filter_map _ device_in (YieldsList-from_slice c.args.self.now.frame.devices.records.now (search rules)) c.filter_map.ensures.closure (λ x r q k. search (rules, tests)))) in
    let all = from_none _ _ _ _ c.in_ok-devices.ensures.items added.0 (all_described device_in (device_of bs) _ (device_count bs) seen.many (λ i l. ap device_in (seen.each i l) ∙ right_described bs i (right i l))) in
    (all, c.extend.new.self.ok.0 ∙ (ap length all ∙ length-map-range_with_len _ _ _), ascii_names bs right _ all, tell_apart bs framed right _ all)
