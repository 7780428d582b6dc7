use Rattle.std.proofs.Common.{◌≡◌, length, take}
use Rattle.lines.specs.Fields.{joined, over}
use Rattle.lines.proofs.fields.write_fields.Given as goal

abbrev pub invariant-loop-field : goal.invariant-loop-field
invariant-loop-field l =
    let done = joined l.first (take l.field-index l.rest) in
    (l.end ≡ length done) × (l.line ≡ over done l.fn.line)
