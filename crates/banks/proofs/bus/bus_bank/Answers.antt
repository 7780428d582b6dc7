use Rattle.std.proofs.Common.{◌<◌, ◌^◌, arith}
use Rattle.std.proofs.lemmas.List.Elements.{All-from_get_or}
use Rattle.bankrules.proofs.Telling.{bus_told}
use Rattle.banks.proofs.bus.bus_bank.Goals as goal

pub returns-clause-first_words : goal.returns-clause-first_words
returns-clause-first_words c = bus_told c.args.words.now (All-from_get_or (λ w. w < 2 ^ 32) c.args.words.now 0 (λ i h. omega (arith, c.type_inv.words i)))
