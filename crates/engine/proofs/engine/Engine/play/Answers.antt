use Rattle.std.proofs.Common.{◌≡◌, ◌++◌, ◌∷◌, [], get_or, sym, subst, ◌∙◌, rules, arith}
use Rattle.std.proofs.lemmas.Grind.{common_steps}
use Rattle.order.specs.Answers.{devices}
use Rattle.history.specs.declared.call.Call.TheVariants.{Open}
use Rattle.history.specs.Rules.{said, next}
use Rattle.engine.specs.States.{state}
use Rattle.engine.proofs.Playing.{owes_push, said_more, after_more, fits_more, opens_more, all_keep}
use Rattle.engine.proofs.engine.Engine.play.Goals as goal

pub loop-call-preserved : goal.loop-call-preserved
loop-call-preserved g c =
    let so = c.loop-call.invariant in
    let kind = g.B.Bank.kind in
    let order = devices c.args.self.now.order in
    let items : c.push.new.self.items ≡ c.loop-call.answers.items ++ c.reply-answer.result ∷ [] = grind (arith, common_steps) in
    let says : c.reply-answer.result ≡ said kind order (state g.B.Bank c.loop-call.self) (get_or c.args.calls.now c.loop-call.call-index Open) =
    subst (λ o. c.reply-answer.result ≡ said kind (devices o) (state g.B.Bank c.loop-call.self) (get_or c.args.calls.now c.loop-call.call-index Open)) so.same c.reply-answer.ensures.answer in
    let becomes : state g.B.Bank c.reply-answer.new.self ≡ next kind order (state g.B.Bank c.loop-call.self) (get_or c.args.calls.now c.loop-call.call-index Open) =
    subst (λ o. state g.B.Bank c.reply-answer.new.self ≡ next kind (devices o) (state g.B.Bank c.loop-call.self) (get_or c.args.calls.now c.loop-call.call-index Open)) so.same c.reply-answer.ensures.after.0 in
    record {
      same = search rules;
      room = search rules;
      count = search rules;
      said = rw items (said_more kind order (state g.B.Bank c.loop-call.self) (state g.B.Bank c.reply-answer.new.self) c.args.calls.now c.loop-call.call-index Open c.reply-answer.result c.loop-call-test.true says becomes c.loop-call.answers.items _ so.said);
      after = after_more kind order (state g.B.Bank c.loop-call.self) (state g.B.Bank c.reply-answer.new.self) c.args.calls.now c.loop-call.call-index Open c.reply-answer.result c.loop-call-test.true says becomes _ so.after;
      opened = λ e. opens_more kind order (state g.B.Bank c.loop-call.self) (state g.B.Bank c.reply-answer.new.self) (get_or c.args.calls.now c.loop-call.call-index Open) c.reply-answer.result c.loop-call.owed says becomes so.opened (sym c.is_owed-owed.ensures ∙ e);
      owed = rw items (owes_push _ c.loop-call.answers.items c.reply-answer.result ∙ rw so.owed (sym c.is_owed-owed.ensures));
      fits = fits_more c.args.calls.now c.loop-call.call-index so.fits c.reply-answer.ensures.fits;
    }

pub returns-clause-law : goal.returns-clause-law
returns-clause-law g c =
    let so = c.loop-call.invariant in
    all_keep g.B.Bank.kind g.met.B.Bank.lawful c.args.self.now.order c.args.calls.now (state g.B.Bank c.args.self.now) _ _ (λ i h. so.fits i (omega (arith, c.loop-call-test.false))) (grind (arith, common_steps)) (grind (arith, common_steps))
