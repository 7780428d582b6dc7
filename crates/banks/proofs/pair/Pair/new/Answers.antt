use Rattle.bankrules.proofs.Pairing.{pair_apart}
use Rattle.banks.proofs.pair.Pair.new.Goals as goal

pub returns-clause-apart : goal.returns-clause-apart
returns-clause-apart g c = pair_apart g.L.Bank.kind g.R.Bank.kind
