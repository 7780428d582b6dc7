-- How attempts end.
use Rattle.std.proofs.Common.{◌≡◌, ◌≢◌, ℕ, Bool, true, false, ◌<◌, ◌≤◌, List, ◌∷◌, length, refl, ap, sym, subst, ◌∙◌, ⊎_elim, arith}
use Rattle.std.specs.Prelude.{Some, None, Option, Ok, Result, if◌then◌else◌, not, ◌&&◌, ◌==◌, nat_lt}
use Rattle.std.proofs.lemmas.Bool.{cases_Bool, cond_both, cond-true, cond-false, eqb-false, ne_eqb, lt-ltb}
use Rattle.order.specs.Orders.{Permutes}
use Rattle.bank.specs.Meaning.{Device, hindrance}
use Rattle.bank.specs.Laws.{Kind, Laws}
use Rattle.history.specs.declared.answer.Answer.{Answer}
use Rattle.history.specs.declared.answer.Answer.TheVariants.{Stepped, Closed}
use Rattle.history.specs.declared.answer.StepAnswer.{StepAnswer}
use Rattle.history.specs.declared.answer.StepAnswer.TheVariants.{Lowered, Raised, Hindered, Alarmed}
use Rattle.history.specs.declared.call.Call.{Call}
use Rattle.history.specs.declared.call.Call.TheVariants.{Open, Step, Alarm as Alarms, Close, Put, Look}
use Rattle.history.specs.declared.fault.EngineFault.{EngineFault}
use Rattle.history.specs.declared.outcome.Outcome.{Outcome}
use Rattle.history.specs.declared.outcome.Outcome.TheVariants.{Fault, Alarm}
use Rattle.history.specs.declared.phase.Phase.{Phase}
use Rattle.history.specs.declared.standing.Standing.{Standing}
use Rattle.history.specs.declared.standing.Standing.TheVariants.{Awake, GoingDown, Asleep, ComingUp, Landed}
use Rattle.history.specs.declared.standing.Stage.TheVariants as stage
use Rattle.history.specs.Numbers.{outcome_values}
use Rattle.history.specs.Schedule.{phase, full, level_sum}
use Rattle.history.specs.Rules.{State, shown, said, answer_to, alarm_answer, put_answer, down_answer, if_device}
use Rattle.history.specs.Attempts.{History, at, under_way, Descent, descent, is_step, or_else, turning, next_device}
use Rattle.history.specs.Attempts.{slept_with, cut_short, outcome, stage_of}
use Rattle.history.specs.Law.{LedTo, FitsCall, IsAt, lowerings}
use Rattle.history.specs.Keeping.{InRange}
use Rattle.history.specs.Endings.{LeadsOn, Endings}
use Rattle.history.proofs.Phases.{phase_down}
use Rattle.history.proofs.Refusals.{by_device}
use Rattle.history.proofs.Unwinding.{descent_more}
use Rattle.history.proofs.Standings.{TellsOf, slept_now, ends_at_sleep, goes_down, is_down, is_open}
use Rattle.history.proofs.Outcomes.{closes_with}
use Rattle.history.proofs.Effects.{Effect, lowers, raises, closes, puts, rests, effect, alters}
use Rattle.history.proofs.Facts.{Facts, facts, here, range_at}
use Rattle.history.proofs.Counts.{counted}

module _ (order : List ℕ) (now : List Device) where
  -- None of this type, which stands where antt could not tell it
  abbrev no_alarm : Option ℕ
  no_alarm = None

  -- where a step is answered that the descent ends early
  down_hindered : (kept : Option ℕ) → down_answer order kept now ≡ Stepped Hindered → (kept ≡ None) × (hindrance now (next_device order now) ≢ 0)
  down_hindered (Some d) = λ e. absurd (cc)
  down_hindered None =
      cond_both (hindrance now (next_device order now) == 0) (Stepped Lowered) (Stepped Hindered)
      (λ (a : Answer). a ≡ Stepped Hindered → (no_alarm ≡ None) × (hindrance now (next_device order now) ≢ 0))
      (λ e q. absurd (cc (q))) (λ e q. (refl, eqb-false _ 0 e))

  down_alarmed : (kept : Option ℕ) → down_answer order kept now ≡ Stepped Alarmed → (d : ℕ) × (kept ≡ Some d)
  down_alarmed (Some d) = λ e. (d, refl)
  down_alarmed None =
      cond_both (hindrance now (next_device order now) == 0) (Stepped Lowered) (Stepped Hindered)
      (λ (a : Answer). a ≡ Stepped Alarmed → (d : ℕ) × (None ≡ Some d)) (λ e q. absurd (cc (q))) (λ e q. absurd (cc (q)))

  -- a step that goes down, and is answered so
  abbrev Ends : StepAnswer → Call → Standing → Type 0
  Ends a call st = (call ≡ Step) × ((kept : Option ℕ) × (st ≡ GoingDown kept) × (down_answer order kept now ≡ Stepped a))

  -- no other call is answered as a step
  alarm_steps : (a : StepAnswer) (st : Standing) → alarm_answer order st ≡ Ok (Stepped a) → ⊥
  alarm_steps a Awake e = cc
  alarm_steps a (GoingDown None) e = cc
  alarm_steps a (GoingDown (Some d)) e = cc
  alarm_steps a Asleep e = cc
  alarm_steps a (ComingUp end) e = cc
  alarm_steps a (Landed end) e = cc

  put_steps : (a : StepAnswer) (st : Standing) → put_answer order st ≡ Ok (Stepped a) → ⊥
  put_steps a Awake e = cc
  put_steps a (GoingDown kept) e = cc
  put_steps a Asleep e = cc
  put_steps a (ComingUp end) e = cc
  put_steps a (Landed end) e = cc

  device_steps : (a : StepAnswer) (d : ℕ) (answer : Result Answer EngineFault) → (answer ≡ Ok (Stepped a) → ⊥)
      → if_device order now d answer ≡ Ok (Stepped a) → ⊥
  device_steps a d answer n = by_device order now d answer (λ (r : Result Answer EngineFault). r ≡ Ok (Stepped a) → ⊥) (λ l. n) (λ l e. cc)

  -- an answer of a step, other than that it raised a device, is of a step that goes down
  ends : (a : StepAnswer) → a ≢ Raised → (call : Call) (st : Standing) → answer_to order st call now ≡ Ok (Stepped a) → Ends a call st
  ends a n Open Awake e = absurd (cc)
  ends a n Open (GoingDown kept) e = absurd (cc)
  ends a n Open Asleep e = absurd (cc)
  ends a n Open (ComingUp end) e = absurd (cc)
  ends a n Open (Landed end) e = absurd (cc)
  ends a n Step Awake e = absurd (cc)
  ends a n Step (GoingDown kept) e = (refl, (kept, refl, cc))
  ends a n Step Asleep e = absurd (cc)
  ends a n Step (ComingUp end) e = absurd (n (cc (e)))
  ends a n Step (Landed end) e = absurd (cc)
  ends a n (Alarms d) st e = absurd (device_steps a d _ (alarm_steps a st) e)
  ends a n Close Awake e = absurd (cc)
  ends a n Close (GoingDown kept) e = absurd (cc)
  ends a n Close Asleep e = absurd (cc)
  ends a n Close (ComingUp end) e = absurd (cc)
  ends a n Close (Landed end) e = absurd (cc)
  ends a n (Put d w) st e = absurd (device_steps a d _ (put_steps a st) e)
  ends a n (Look d) st e = absurd (device_steps a d _ (λ q. cc) e)

module _ {M : Type 0} {limit : ℕ} (kind : Kind M) (laws : Laws limit kind) (order : List ℕ)
    (permutes : Permutes (length order) order) (some : 1 ≤ length order) where
  module _ (h : History) (s : State M) (call : Call) (led : LedTo kind order h s) where
    abbrev now : List Device
    now = shown kind order s

    abbrev next_one : ℕ
    next_one = next_device order now

    abbrev next_phase : Phase
    next_phase = phase (length order) (level_sum now)

    abbrev past : Descent
    past = descent order h

    abbrev answer : Result Answer EngineFault
    answer = said kind order s call

    known : Facts kind laws order permutes some h s
    known = facts kind laws order permutes some h s led

    tells_of : (st : Standing) → s.standing ≡ st → TellsOf order h now st
    tells_of st e = subst (λ (x : Standing). TellsOf order h now x) e (here kind laws order permutes some h s known)

    leads : (kept : Option ℕ) → s.standing ≡ GoingDown kept → LeadsOn now next_one next_phase
    leads kept e =
        let r : InRange (full order) (GoingDown kept) (level_sum now) = range_at kind laws order permutes some h s known (GoingDown kept) e in
        phase_down order permutes some now known.scheduled r.limit

    -- a step turns the descent as the alarm kept and the next device say
    turns : (kept : Option ℕ) → call ≡ Step → s.standing ≡ GoingDown kept
        → (past.kept ≡ kept) × ((descent order (at call now ∷ h)).turned ≡ turning order kept now)
    turns kept c e =
        let t : (under_way h ≡ true) × (past.turned ≡ None) × (slept_now order h now ≡ false) × (past.kept ≡ kept) = tells_of (GoingDown kept) e in (
          t.3,
          ap (λ (d : Descent). d.turned) (descent_more order h call now now t.0)
              ∙ ap (λ (o : Option Outcome). or_else o (if is_step call && not (slept_now order h now) then turning order past.kept now else None)) t.1
              ∙ ap (λ (x : Call). if is_step x && not (slept_now order h now) then turning order past.kept now else None) c
              ∙ ap (λ (b : Bool). if not b then turning order past.kept now else None) t.2
              ∙ ap (λ (o : Option ℕ). turning order o now) t.3,
        )

    -- each part of the law
    hinders : answer ≡ Ok (Stepped Hindered)
        → (phase : Phase) × LeadsOn now next_one phase × (0 < hindrance now next_one)
        × ((descent order (at call now ∷ h)).turned ≡ Some (Fault (hindrance now next_one) next_one phase (level_sum now)))
    hinders e =
        let (c, (kept, st, down)) = ends order now Hindered (λ q. cc) call s.standing e in
        let (none, some) = down_hindered order now kept down in (
          next_phase,
          leads kept st,
          omega arith,
          (turns kept c st).1 ∙ ap (λ (o : Option ℕ). turning order o now) none ∙ cond-false (hindrance now next_one == 0) _ _ (ne_eqb _ 0 some),
        )

    alarms : answer ≡ Ok (Stepped Alarmed)
        → (d : ℕ) × (phase : Phase) × (past.kept ≡ Some d) × LeadsOn now next_one phase
        × ((descent order (at call now ∷ h)).turned ≡ Some (Alarm d phase (level_sum now)))
    alarms e =
        let (c, (kept, st, down)) = ends order now Alarmed (λ q. cc) call s.standing e in
        let (d, is) = down_alarmed order now kept down in
        (d, next_phase, (turns kept c st).0 ∙ is, leads kept st, (turns kept c st).1 ∙ ap (λ (o : Option ℕ). turning order o now) is)

    -- how the attempt ends, from how the descent turned and whether the board slept
    abbrev ended : Option Outcome → Bool → Outcome
    ended turned down = elim turned [ None ↦ if down then slept_with order past.kept else cut_short order past.kept (level_sum now) | Some end ↦ end ]

    -- what a close is answered
    told_close : call ≡ Close → under_way h ≡ true → answer ≡ Ok (Closed (outcome order past now))
    told_close c u = ap (λ (x : Call). answer_to order s.standing x now) c ∙ closes_with order h now s.standing known.stands u

    -- an attempt that no step turned, and that does not go down, has slept
    not_going : under_way h ≡ true → past.turned ≡ None → (IsAt order stage.GoingDown h now → ⊥) → slept_now order h now ≡ true
    not_going u n not_down =
        ⊎_elim (λ d. d) (λ d. absurd (not_down (ap stage_of (sym known.stands)
        ∙ is_down order h now u (ends_at_sleep order h now false n d) s.standing (here kind laws order permutes some h s known))))
        (cases_Bool (slept_now order h now))

    going : IsAt order stage.GoingDown h now → s.standing ≡ GoingDown past.kept
    going g = (goes_down order h now s.standing (here kind laws order permutes some h s known) (ap stage_of known.stands ∙ g)).3

    told_down : call ≡ Close → IsAt order stage.GoingDown h now → (kept : Option ℕ) → past.kept ≡ kept
        → answer ≡ Ok (Closed (cut_short order kept (level_sum now)))
    told_down c g kept e =
        ap (λ (x : Call). answer_to order s.standing x now) c ∙ ap (λ (st : Standing). answer_to order st Close now) (going g)
        ∙ ap (λ (o : Option ℕ). Ok (Closed (cut_short order o (level_sum now)))) e

    -- only a close is answered with an outcome, and the lowerings are counted in it
    takes : (end : Outcome) → answer ≡ Ok (Closed end) → (outcome_values end).taken ≡ lowerings order h
    takes end e = go (effect order now call s.standing)
      where
        go : Effect order now call s.standing answer → (outcome_values end).taken ≡ lowerings order h
        go (closes other c n q) =
            let u : under_way h ≡ true = is_open order h now s.standing known.stands n in
            let same : end ≡ outcome order past now = cc (e, told_close c u) in
            ap (λ (o : Outcome). (outcome_values o).taken) same ∙ sym (counted kind laws order permutes some h s led u)
        go (lowers c st z q) = absurd (cc (e, q))
        go (raises other c st q) = absurd (cc (e, q))
        go (puts d w c st l q) = absurd (cc (e, q))
        go (rests q) = absurd (cc (q, ap alters e))

    all_endings : Endings kind order h call s answer
    all_endings =
        record {
          hindered = hinders;
          alarmed = alarms;
          early = λ end c u e. told_close c u
              ∙ ap (λ (o : Option Outcome). Ok (Closed (ended o (slept_now order h now)))) e;
          slept = λ c u n no. told_close c u
              ∙ ap (λ (o : Option Outcome). Ok (Closed (ended o (slept_now order h now)))) n
              ∙ ap (λ (b : Bool). Ok (Closed (ended None b))) (not_going u n no);
          going_down = λ c g. (next_phase, leads past.kept (going g), (λ d e. told_down c g (Some d) e), (λ e. told_down c g None e));
          taken = takes;
          sees = λ d c l. ap (λ (x : Call). answer_to order s.standing x now) c ∙ cond-true (nat_lt d (length order)) _ _ (lt-ltb _ _ l);
        }

  pub endings : (h : History) (s : State M) (call : Call) → FitsCall call → LedTo kind order h s → Endings kind order h call s (said kind order s call)
  endings h s call fits led = all_endings h s call led
