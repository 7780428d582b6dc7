-- What is known of an engine to which a history led, and that it stays so with every call.
use Rattle.std.proofs.Common.{◌≡◌, ℕ, true, false, suc, ◌+◌, ◌-◌, ◌≤◌, List, [], ◌∷◌, length, refl, ap, sym, subst, ◌∙◌, ⊎_elim, arith}
use Rattle.std.specs.Prelude.{None, Ok, Result}
use Rattle.std.proofs.lemmas.Bool.{both_ways, cases_Bool, cond-true, cond-false}
use Rattle.order.specs.Orders.{Permutes}
use Rattle.bank.specs.Meaning.{Device}
use Rattle.bank.specs.Laws.{Kind, Laws}
use Rattle.history.specs.declared.answer.Answer.{Answer}
use Rattle.history.specs.declared.answer.Answer.TheVariants.{Stepped, Closed, Written}
use Rattle.history.specs.declared.answer.StepAnswer.TheVariants.{Lowered, Raised}
use Rattle.history.specs.declared.call.Call.{Call}
use Rattle.history.specs.declared.call.Call.TheVariants.{Open}
use Rattle.history.specs.declared.entry.Entry.{Entry}
use Rattle.history.specs.declared.fault.EngineFault.{EngineFault}
use Rattle.history.specs.declared.standing.Standing.{Standing}
use Rattle.history.specs.declared.standing.Standing.TheVariants.{Awake, GoingDown, ComingUp}
use Rattle.history.specs.declared.standing.Stage.TheVariants as stage
use Rattle.history.specs.Schedule.{device_of, full, level_sum}
use Rattle.history.specs.Attempts.{History, at, goes_on, under_way, next_device, standing, stage_of}
use Rattle.history.specs.Rules.{State, shown, said, next, answer_to, recorded, model_after, all_raised}
use Rattle.history.specs.Law.{answer_after, journal, lowerings, is_lowering, Made, LedTo, FitsCall}
use Rattle.history.specs.Keeping.{Scheduled, InRange}
use Rattle.history.proofs.Schedules.{scheduled_running}
use Rattle.history.proofs.Unwinding.{Held, Unwinds, unwinds_open, unwinds_same, unwinds_lower, unwinds_raise, lasted}
use Rattle.history.proofs.Moves.{Lowering, lowering, Raising, raising, Putting, putting, all_up}
use Rattle.history.proofs.Standings.{TellsOf, told_of, is_open, ends_at_sleep, has_turned, goes_down, is_down}
use Rattle.history.proofs.Transitions.{sum_after, follows}
use Rattle.history.proofs.Effects.{Effect, lowers, raises, closes, puts, rests, effect, adds, idle, stays}

module _ {M : Type 0} {limit : ℕ} (kind : Kind M) (laws : Laws limit kind) (order : List ℕ)
    (permutes : Permutes (length order) order) (some : 1 ≤ length order) where
  -- what is known of the engine to which the history h led
  pub record Facts (h : History) (s : State M) : Type 0 where
    pub sound : kind.sound s.model
    pub scheduled : Scheduled order (shown kind order s)
    pub in_range : InRange (full order) s.standing (level_sum (shown kind order s))
    pub stands : s.standing ≡ standing order h (shown kind order s)
    pub records : s.journal ≡ journal order h
    pub unwinds : under_way h ≡ true → Unwinds order h (shown kind order s)
    pub lowered : stage_of s.standing ≡ stage.GoingDown → level_sum (shown kind order s) ≡ lowerings order h

  facts_made : (s : State M) → kind.sound s.model → Made kind order s → Facts [] s
  facts_made s sound made =
      let r = scheduled_running order permutes some (shown kind order s) made.count made.running in
      record {
        sound = sound;
        scheduled = r.0;
        in_range = subst (λ (st : Standing). InRange (full order) st (level_sum (shown kind order s))) (sym made.awake)
            (record { least = omega arith; limit = omega (arith, r.1) });
        stands = made.awake;
        records = made.blank;
        unwinds = λ e. absurd (both_ways false refl e);
        lowered = λ e. absurd (cc (e, ap stage_of made.awake));
      }

  module _ (h : History) (s : State M) (f : Facts h s) where
    abbrev now : List Device
    now = shown kind order s

    pub here : TellsOf order h now s.standing
    here = told_of order h now s.standing f.stands

    -- where it stands at `st`
    pub range_at : (st : Standing) → s.standing ≡ st → InRange (full order) st (level_sum now)
    range_at st e = subst (λ (x : Standing). InRange (full order) x (level_sum now)) e f.in_range

    pub tells_at : (st : Standing) → s.standing ≡ st → TellsOf order h now st
    tells_at st e = subst (λ (x : Standing). TellsOf order h now x) e here

    pub is_awake : under_way h ≡ false → s.standing ≡ Awake
    is_awake u = f.stands ∙ cond-false (under_way h) _ _ u

    pub none_lowered : s.standing ≡ Awake → level_sum now ≡ 0
    none_lowered e = let r : InRange (full order) Awake (level_sum now) = range_at Awake e in omega (arith, r.limit)

    -- ---- one call more

    module _ (call : Call) (fits : FitsCall call) where
      abbrev answer : Result Answer EngineFault
      answer = said kind order s call

      abbrev longer : History
      longer = at call now ∷ h

      abbrev later : List Device
      later = shown kind order (next kind order s call)

      pub told_so : answer ≡ answer_after order h call now
      told_so = ap (λ (st : Standing). answer_to order st call now) f.stands

      -- what is known of the bank after the call
      record Moved (m : M) (k : ℕ) : Type 0 where
        sound : kind.sound m
        scheduled : Scheduled order (kind.devices m)
        sum : level_sum (kind.devices m) ≡ k
        unwinds : under_way longer ≡ true → Unwinds order longer (kind.devices m)

      by_answer : (a : Result Answer EngineFault) (m : M) → answer ≡ a → model_after kind order call a s.model ≡ m
          → Moved m (sum_after a (level_sum now)) → Moved (next kind order s call).model (sum_after answer (level_sum now))
      by_answer a m e i x =
          subst (λ (r : Result Answer EngineFault). Moved (model_after kind order call r s.model) (sum_after r (level_sum now))) (sym e)
          (subst (λ (n : M). Moved n (sum_after a (level_sum now))) (sym i) x)

      moved : Effect order now call s.standing answer → Moved (next kind order s call).model (sum_after answer (level_sum now))
      moved (lowers c st z e) =
          let t = tells_at (GoingDown None) st in
          let range : InRange (full order) (GoingDown None) (level_sum now) = range_at (GoingDown None) st in
          let l : Lowering kind laws order permutes some s.model = lowering kind laws order permutes some s.model f.sound f.scheduled range.limit in
          let one = l.one z in
          let below = kind.lowered s.model (next_device order now) in
          by_answer (Ok (Stepped Lowered)) below e refl (record {
            sound = l.sound z;
            scheduled = l.scheduled z;
            sum = l.more z;
            unwinds = λ u. unwinds_lower order h call now (kind.devices below) t.0 (f.unwinds t.0) one.gains.0
                (ends_at_sleep order h now false t.1 t.2) (l.more z) one.inside one.gains.1;
          })
      moved (raises end c st e) =
          let t = tells_at (ComingUp end) st in
          let j : ℕ = level_sum now - 1 in
          let k : level_sum now ≡ suc j = omega (arith, t.2) in
          let r : Raising kind laws order permutes some s.model j = raising kind laws order permutes some s.model j f.sound f.scheduled k in
          let above = kind.raised s.model (device_of order j) in
          by_answer (Ok (Stepped Raised)) above e refl (record {
            sound = r.sound;
            scheduled = r.scheduled;
            sum = r.less;
            unwinds = λ u. unwinds_raise order h call now (kind.devices above) t.0 (f.unwinds t.0) j (has_turned order h now end t.1) k r.less r.one.loses;
          })
      moved (closes end c n e) =
          let w : under_way h ≡ true = is_open order h now s.standing f.stands n in
          let (sound, scheduled, none, held) =
          all_up kind laws order permutes some (Held order h now) (level_sum now) s.model f.sound f.scheduled refl (f.unwinds w).stack in
          by_answer (Ok (Closed end)) (all_raised kind order (level_sum now) s.model) e refl (record {
            sound = sound;
            scheduled = scheduled;
            sum = none;
            unwinds = λ u. absurd (both_ways _ (ap (λ (x : Call). goes_on x (under_way h)) c) u);
          })
      moved (puts d w c st l e) =
          let z : level_sum now ≡ 0 = none_lowered st in
          let p : Putting kind laws order permutes some s.model d w =
          putting kind laws order permutes some s.model d w f.sound f.scheduled z l (subst (λ (x : Call). FitsCall x) c fits) in
          by_answer (Ok Written) (kind.written s.model d w) e (ap (λ (x : Call). model_after kind order x (Ok Written) s.model) c) (record {
            sound = p.sound;
            scheduled = p.scheduled;
            sum = p.none ∙ sym z;
            unwinds = λ u. absurd (both_ways _ (ap (λ (x : Call). goes_on x (under_way h)) c ∙ tells_at Awake st) u);
          })
      moved (rests e) =
          by_answer answer s.model refl (stays kind order call answer s.model e) (record {
            sound = f.sound;
            scheduled = f.scheduled;
            sum = sym (idle answer e (level_sum now)).0;
            unwinds = λ u. ⊎_elim (λ w. unwinds_same order h call now w (f.unwinds w))
                (λ n. unwinds_open order h call now n (none_lowered (is_awake n))) (cases_Bool (under_way h));
          })

      moves : Moved (next kind order s call).model (sum_after answer (level_sum now))
      moves = moved (effect order now call s.standing)

      -- what the levels add up to after the call
      pub sum_later : level_sum later ≡ sum_after answer (level_sum now)
      sum_later = moves.sum

      follow : ((next kind order s call).standing ≡ standing order longer later) × InRange (full order) (next kind order s call).standing (level_sum later)
      follow = follows order now f.scheduled.most (omega (arith, some)) h s.standing f.stands f.in_range call later moves.sum

      -- the count of lowerings
      pub count_more : under_way h ≡ true → lowerings order longer ≡ is_lowering answer + lowerings order h
      count_more w = cond-true (under_way h) _ _ w ∙ ap (λ (x : Result Answer EngineFault). is_lowering x + lowerings order h) (sym told_so)

      -- going down, the levels add up to the lowerings, before the call and after it
      pub counts_on : stage_of s.standing ≡ stage.GoingDown → goes_on call true ≡ true → level_sum later ≡ lowerings order longer
      counts_on i g =
          let more : sum_after answer (level_sum now) ≡ is_lowering answer + level_sum now =
          adds order now call s.standing answer (level_sum now) (effect order now call s.standing) g i in
          omega (arith, moves.sum, more, f.lowered i, count_more (goes_down order h now s.standing here i).0)

      -- an attempt that goes down after the call went down before it, or is just opened
      counted : stage_of (next kind order s call).standing ≡ stage.GoingDown → level_sum later ≡ lowerings order longer
      counted e =
          let st = (next kind order s call).standing in
          let (on, lasts, down, is) = goes_down order longer later st (told_of order longer later st follow.0) e in
          ⊎_elim
          (λ w. counts_on (is_down order h now w (lasted order h call now later w lasts) s.standing here) (ap (goes_on call) (sym w) ∙ on))
          (λ n. moves.sum ∙ opened n (just_opened call n on) ∙ none_lowered (is_awake n) ∙ sym (cond-false (under_way h) _ _ n))
          (cases_Bool (under_way h))
        where
          just_opened : (x : Call) → under_way h ≡ false → goes_on x (under_way h) ≡ true → x ≡ Open
          just_opened Open n g = refl
          just_opened x n g = absurd (cc g)

          opened : under_way h ≡ false → call ≡ Open → sum_after answer (level_sum now) ≡ level_sum now
          opened n c =
              ap (λ (st : Standing). sum_after (answer_to order st call now) (level_sum now)) (is_awake n)
              ∙ ap (λ (x : Call). sum_after (answer_to order Awake x now) (level_sum now)) c

      pub facts_next : Facts longer (next kind order s call)
      facts_next =
          record {
            sound = moves.sound;
            scheduled = moves.scheduled;
            in_range = follow.1;
            stands = follow.0;
            records = ap (λ (j : List Entry). recorded order answer now j) f.records
                ∙ ap (λ (x : Result Answer EngineFault). recorded order x now (journal order h)) told_so;
            unwinds = moves.unwinds;
            lowered = counted;
          }

  pub facts : (h : History) (s : State M) → LedTo kind order h s → Facts h s
  facts [] s (sound, made) = facts_made s sound made
  facts (m ∷ h) s (sound, fits, (before, led, same, is)) =
      let n : Facts (at m.call (shown kind order before) ∷ h) (next kind order before m.call) = facts_next h before (facts h before led) m.call fits in
      subst (λ (x : State M). Facts (m ∷ h) x) (sym is) (subst (λ (now : List Device). Facts (at m.call now ∷ h) (next kind order before m.call)) (sym same) n)
