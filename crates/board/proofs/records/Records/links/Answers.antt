use Rattle.std.proofs.Common.{rules, tests, ap, ◌∙◌}
use Rattle.std.proofs.lemmas.Iterator.{YieldsList-from_slice}
use Rattle.std.proofs.lemmas.Iterator.Adapters.{items_from_extend}
use Rattle.std.proofs.lemmas.Iterator.Consumers.{YieldsList-from_filter_map}
use Rattle.boardfile.specs.Layout.{link_count}
use Rattle.boardfile.specs.Contents.{link_of}
use Rattle.board.specs.Records.{link_in}
use Rattle.board.proofs.Known.{links_known}
use Rattle.board.proofs.Seen.{link_seen}
use Rattle.board.proofs.Filling.{all_described, ok_holds, from_none}
use Rattle.board.proofs.records.Records.links.Goals as goal

pub returns : goal.returns
returns c =
    let bs = c.args.self.now.frame.file.now in
    let seen = c.args.self.now.frame.links_known.holds in
    let right = links_known c.args.self.now.links in
    let added = ok_holds _ _ c.in_ok-extend.was (items_from_extend c.extend.result c.extend.ensures.ran (YieldsList-from_filter_map _ link_in (YieldsList-from_slice c.args.self.now.frame.links.records.now (search rules)) c.filter_map.ensures.closure (λ x r q k. search (rules, tests)))) in
    from_none _ _ _ _ c.in_ok-links.ensures.items added.0 (all_described link_in (link_of bs) _ (link_count bs) seen.many (λ j l. ap link_in (seen.each j l) ∙ link_seen bs j (right j l)))
