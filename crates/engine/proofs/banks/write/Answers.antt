use Rattle.engine.proofs.Bank.{is_put_so}
use Rattle.engine.proofs.banks.write.Goals as goal

pub returns : goal.returns
returns g c =
    is_put_so g.B.Bank.kind g.met.B.Bank.lawful c.args.order.now _ _ _ _ _ (g.met.B.Bank.kept c.args.bank.now) c.requires.scheduled c.requires.none c.requires.known c.ranges.word.fits c.put.ensures.answer c.put.ensures.after
