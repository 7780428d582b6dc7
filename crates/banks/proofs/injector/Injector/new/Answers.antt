use Rattle.std.proofs.Common.{rules}
use Rattle.bank.specs.Meaning.{greatest_errno}
use Rattle.bankrules.proofs.Injecting.{byte_cells, injector_over}
use Rattle.banks.proofs.injector.Injector.new.Goals as goal

pub returns-clause-over : goal.returns-clause-over
returns-clause-over g c = injector_over greatest_errno g.B.Bank.kind

pub invariant_of-result : goal.invariant_of-result
invariant_of-result g c = search (rules, byte_cells)
