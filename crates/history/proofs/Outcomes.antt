-- Which alarms are kept, where a step ends the descent early, and the outcome that a close answers.
use Rattle.std.proofs.Common.{◌≡◌, ◌⊎◌, ◌↔◌, ℕ, Bool, true, false, zero, suc, ◌<◌, List, ◌∷◌, length}
use Rattle.std.proofs.Common.{refl, ap, sym, ◌∙◌, inl, inr, arith}
use Rattle.std.specs.Prelude.{Some, None, Option, Ok, Result, is_some, IsSome, if◌then◌else◌, not, ◌&&◌}
use Rattle.std.proofs.lemmas.Bool.{both_ways, cases_Bool}
use Rattle.std.proofs.lemmas.Bool.Decides.{nat_tests}
use Rattle.bank.specs.Meaning.{Device, hindrance}
use Rattle.history.specs.declared.answer.Answer.{Answer}
use Rattle.history.specs.declared.answer.Answer.TheVariants.{Stepped, Heard, Closed}
use Rattle.history.specs.declared.answer.StepAnswer.TheVariants.{Lowered, Hindered, Alarmed}
use Rattle.history.specs.declared.answer.AlarmAnswer.TheVariants.{Kept}
use Rattle.history.specs.declared.call.Call.{Call}
use Rattle.history.specs.declared.call.Call.TheVariants.{Step, Alarm}
use Rattle.history.specs.declared.fault.EngineFault.{EngineFault}
use Rattle.history.specs.declared.outcome.Outcome.{Outcome}
use Rattle.history.specs.declared.standing.Standing.{Standing}
use Rattle.history.specs.declared.standing.Standing.TheVariants.{Awake, GoingDown, Asleep, ComingUp, Landed}
use Rattle.history.specs.declared.standing.Stage.TheVariants as stage
use Rattle.history.specs.Schedule.{level_sum}
use Rattle.history.specs.Attempts.{History, at, under_way, Descent, descent, is_step, or_else}
use Rattle.history.specs.Attempts.{turning, next_device, slept_with, cut_short, outcome, standing}
use Rattle.history.specs.Rules.{alarm_answer, down_answer, outcome_from, close_answer, answer_to}
use Rattle.history.specs.Law.{Stopped, IsAt}
use Rattle.history.proofs.Standings.{Whence, by_step, at_sleep, stands_in, slept_now, TellsOf, told_of, ends_at_sleep, goes_down, is_down}
use Rattle.history.proofs.Unwinding.{descent_more}
use Rattle.history.proofs.Refusals.{by_device}

module _ (order : List ℕ) (h : History) (now : List Device) where
  -- ---- which alarms are kept

  no_outcome : (end : Outcome) → Whence order (descent order h).kept (descent order h).turned (slept_now order h now) end
      → (descent order h).kept ≡ None → (descent order h).turned ≡ None → ⊥
  no_outcome end (by_step e) k t = cc
  no_outcome end (at_sleep d a b e o) k t = cc

  kept_alarm : (st : Standing) → TellsOf order h now st
      → (alarm_answer order st ≡ Ok (Heard Kept)) ↔ ((under_way h ≡ true) × ((descent order h).kept ≡ None) × ((descent order h).turned ≡ None))
  kept_alarm Awake t = ((λ e. absurd (cc)), (λ q. absurd (both_ways _ t q.0)))
  kept_alarm (GoingDown None) t = ((λ e. (t.0, t.3, t.1)), (λ q. refl))
  kept_alarm (GoingDown (Some d)) t = ((λ e. absurd (cc)), (λ q. absurd (cc (q.1, t.3))))
  kept_alarm Asleep t = ((λ e. (t.0, t.3, t.1)), (λ q. refl))
  kept_alarm (ComingUp end) t = ((λ e. absurd (cc)), (λ q. absurd (no_outcome end t.1 q.1 q.2)))
  kept_alarm (Landed end) t = ((λ e. absurd (cc)), (λ q. absurd (no_outcome end t.1 q.1 q.2)))

  pub keeps : (d : ℕ) (st : Standing) → st ≡ standing order h now
      → (answer_to order st (Alarm d) now ≡ Ok (Heard Kept))
      ↔ ((d < length order) × (under_way h ≡ true) × ((descent order h).kept ≡ None) × ((descent order h).turned ≡ None))
  keeps d st is =
      let (there, back) = kept_alarm st (told_of order h now st is) in
      by_device order now d (alarm_answer order st)
      (λ (a : Result Answer EngineFault). (a ≡ Ok (Heard Kept))
      ↔ ((d < length order) × (under_way h ≡ true) × ((descent order h).kept ≡ None) × ((descent order h).turned ≡ None)))
      (λ l. ((λ e. let (u, k, t) = there e in (l, u, k, t)), (λ q. back (q.1, q.2, q.3))))
      (λ l. ((λ e. absurd (cc)), (λ q. absurd (omega (arith, q.0, l)))))

  -- ---- where a step ends the descent

  -- the alarm kept, or the hindrance of the next device, or neither
  pub goes_free : (kept : Option ℕ) → (IsSome kept ⊎ (0 < hindrance now (next_device order now)) → ⊥)
      → (down_answer order kept now ≡ Stepped Lowered) × (hindrance now (next_device order now) ≡ 0)
  goes_free (Some d) n = absurd (n (inl refl))
  goes_free None n = let none : 0 < hindrance now (next_device order now) → ⊥ = λ l. n (inr l) in (grind (arith, nat_tests), omega arith)

  pub is_stopped : (kept : Option ℕ) → IsSome kept ⊎ (0 < hindrance now (next_device order now))
      → (down_answer order kept now ≡ Stepped Alarmed) ⊎ (down_answer order kept now ≡ Stepped Hindered)
  is_stopped (Some d) q = inl refl
  is_stopped None (inl some) = absurd (cc (some))
  is_stopped None (inr l) = inr (grind (arith, nat_tests))

  turning_stops : (kept : Option ℕ) → IsSome (turning order kept now) ↔ (IsSome kept ⊎ (0 < hindrance now (next_device order now)))
  turning_stops (Some d) = ((λ e. inl refl), (λ q. refl))
  turning_stops None = ((λ e. inr (grind (arith, nat_tests))), (λ q. elim q [ inl e ↦ absurd (cc) | inr l ↦ grind (arith, nat_tests) ]))

  pub ends_early : (call : Call) → under_way h ≡ true → (descent order h).turned ≡ None
      → IsSome (descent order (at call now ∷ h)).turned ↔ ((call ≡ Step) × IsAt order stage.GoingDown h now × Stopped order h now)
  ends_early call u n = go call more (cases_Bool (slept_now order h now))
    where
      more : (descent order (at call now ∷ h)).turned
          ≡ (if is_step call && not (slept_now order h now) then turning order (descent order h).kept now else None)
      more =
          ap (λ (t : Descent). t.turned) (descent_more order h call now now u)
          ∙ ap (λ (o : Option Outcome). or_else o (if is_step call && not (slept_now order h now) then turning order (descent order h).kept now else None)) n

      here : TellsOf order h now (standing order h now)
      here = told_of order h now (standing order h now) refl

      go : (c : Call)
          → (descent order (at call now ∷ h)).turned ≡ (if is_step c && not (slept_now order h now) then turning order (descent order h).kept now else None)
          → (slept_now order h now ≡ true) ⊎ (slept_now order h now ≡ false)
          → IsSome (descent order (at call now ∷ h)).turned ↔ ((c ≡ Step) × IsAt order stage.GoingDown h now × Stopped order h now)
      go Step e (inl d) =
          let none : (descent order (at call now ∷ h)).turned ≡ None =
          e ∙ ap (λ (b : Bool). if not b then turning order (descent order h).kept now else None) d in (
            (λ is. absurd (cc (none, is))),
            (λ q. absurd (both_ways _ (goes_down order h now (standing order h now) here q.1).2 d)),
          )
      go Step e (inr d) =
          let some : (descent order (at call now ∷ h)).turned ≡ turning order (descent order h).kept now =
          e ∙ ap (λ (b : Bool). if not b then turning order (descent order h).kept now else None) d in (
            (λ is. (
              refl,
              is_down order h now u (ends_at_sleep order h now false n d) (standing order h now) here,
              (turning_stops (descent order h).kept).0 (sym (ap is_some some) ∙ is),
            )),
            (λ q. ap is_some some ∙ (turning_stops (descent order h).kept).1 q.2),
          )
      go c e d = ((λ is. absurd (cc (e, is))), (λ q. absurd (cc (q.0))))

  -- ---- the outcome of an attempt that is closed

  pub closes_with : (st : Standing) → st ≡ standing order h now → under_way h ≡ true
      → close_answer order (outcome_from order st (level_sum now)) ≡ Ok (Closed (outcome order (descent order h) now))
  closes_with st is u =
      ap (λ (x : Standing). close_answer order (outcome_from order x (level_sum now))) is
      ∙ go (under_way h) (descent order h).kept (descent order h).turned (slept_now order h now) (level_sum now) u
    where
      go : (u : Bool) (kept : Option ℕ) (turned : Option Outcome) (down : Bool) (k : ℕ) → u ≡ true
          → close_answer order (outcome_from order (stands_in order u kept turned down k) k)
          ≡ Ok (Closed (elim turned [ None ↦ if down then slept_with order kept else cut_short order kept k | Some turned ↦ turned ]))
      go false kept turned down k e = absurd (both_ways false refl e)
      go true kept None false k e = refl
      go true None None true k e = refl
      go true (Some d) None true zero e = refl
      go true (Some d) None true (suc k) e = refl
      go true kept (Some end) down zero e = refl
      go true kept (Some end) down (suc k) e = refl
