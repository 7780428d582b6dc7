use Rattle.std.proofs.Common.{◌≡◌, arith, ap, length, ◌∙◌}
use Rattle.boardfile.specs.Layout.{device_count}
use Rattle.board.proofs.Known.{framed_known}
use Rattle.board.proofs.records.Records.superiors.Goals as goal

pub overflow_cast-count : goal.overflow_cast-count
overflow_cast-count c =
    let framed = framed_known c.args.self.now.frame.framed in
    record { fits = omega (arith, framed.counted.devices, ap length c.records-count.ensures, c.args.self.now.frame.devices_known.holds.many) }

pub unwrap-superiors-requires : goal.unwrap-superiors-requires
unwrap-superiors-requires c =
    let framed = framed_known c.args.self.now.frame.framed in
    let many : length c.records-count.result.now ≡ device_count c.args.self.now.frame.file.now = ap length c.records-count.ensures ∙ c.args.self.now.frame.devices_known.holds.many in
    grind (arith, many, framed.counted.some, framed.counted.devices)
