use Rattle.std.proofs.lemmas.Result.{err_from_is_err_and}
use Rattle.order.specs.Answers.{Superior}
use Rattle.order.proofs.Alike.{circular_alike}
use Rattle.boardfile.specs.Contents.{SuperiorIn}
use Rattle.board.proofs.Wires.{order_in}
use Rattle.board.proofs.Known.{framed_known, devices_known, links_known}
use Rattle.board.proofs.records.Records.order.Goals as goal

pub returns : goal.returns
returns c =
    let self = c.args.self.now in
    let ordered = order_in _ _ (rw c.in_ok-order.ensures.answers c.superiors.ensures) in
    (record { framed = framed_known self.frame.framed; devices = devices_known self.devices; links = links_known self.links; no_circle = ordered.exists }, ordered)

pub returns-in_err-order : goal.returns-in_err-order
returns-in_err-order c =
    let self = c.args.self.now in
    let wired = c.superiors.ensures in
    let p = err_from_is_err_and c.from_residual.result c.from_residual.ensures.1 in
    rw (p.1, p.2)
    (framed_known self.frame.framed, devices_known self.devices, links_known self.links, rw wired.count at (circular_alike c.superiors.result.count (Superior c.superiors.result) (SuperiorIn self.frame.file.now) wired.only wired.adds _ c.in_err-order.ensures.answers))
