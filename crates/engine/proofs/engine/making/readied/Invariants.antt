use Rattle.std.specs.Prelude.{◌≡◌, ℕ, ◌<◌}
use Rattle.bank.specs.Meaning.{level}
use Rattle.engine.proofs.engine.making.readied.Given as goal

-- every device so far is at level 0
abbrev pub invariant-loop-device : goal.invariant-loop-device
invariant-loop-device g l = (d : ℕ) → d < l.device → level (g.B.Bank.kind.devices (g.B.Bank.model l.fn.bank)) d ≡ 0
