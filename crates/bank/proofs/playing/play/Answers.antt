use Rattle.std.proofs.Common.{◌≡◌, [], ◌∷◌, ◌++◌, ◌∙◌, rules, arith}
use Rattle.std.proofs.lemmas.Grind.{common_steps}
use Rattle.bank.specs.declared.call.Call.TheVariants.{Count}
use Rattle.bank.proofs.Behaving.{behaves_more}
use Rattle.bank.proofs.playing.play.Goals as goal

pub loop-call-preserved : goal.loop-call-preserved
loop-call-preserved g c =
    let devices = g.B.Bank.kind.devices in
    let model = g.B.Bank.model in
    let so = c.loop-call.invariant in
    let items : c.push.new.self.items ≡ c.loop-call.answers.items ++ c.make.result ∷ [] = grind (arith, common_steps) in
    record {
      room = search rules;
      count = search rules;
      answers = grind (arith, common_steps);
      devices = c.make.ensures.count ∙ so.devices;
      behaves = rw items (behaves_more (devices (model c.args.bank.now)) c.args.calls.now c.loop-call.call-index c.loop-call.answers.items (devices (model c.loop-call.bank)) Count c.make.result (devices (model c.make.new.bank)) c.loop-call-test.true so.behaves c.make.ensures.behaves);
      after = grind (arith, common_steps);
    }
