use Rattle.std.proofs.Common.{rules}
use Rattle.attempt.proofs.Engines.{settled}
use Rattle.attempt.proofs.attempt.running.settle.Goals as goal

pub returns : goal.returns
returns g c = search (rules, settled)
