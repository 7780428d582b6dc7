-- Which calls are refused, and as what, where an engine stands as its history tells.
use Rattle.std.proofs.Common.{◌≡◌, ◌⊎◌, ◌↔◌, ℕ, true, false, ◌<◌, ◌≤◌, List, length, ap, sym, inl, inr, arith}
use Rattle.std.specs.Prelude.{None, Err, Result, nat_lt}
use Rattle.std.proofs.lemmas.Bool.{both_ways, cond_both, ltb-true, ltb-false}
use Rattle.bank.specs.Meaning.{Device}
use Rattle.bank.specs.declared.fault.BankFault.TheVariants.{NoDevice}
use Rattle.history.specs.declared.answer.Answer.{Answer}
use Rattle.history.specs.declared.call.Call.{Call}
use Rattle.history.specs.declared.call.Call.TheVariants.{Open, Step, Alarm, Close, Put, Look}
use Rattle.history.specs.declared.fault.EngineFault.{EngineFault}
use Rattle.history.specs.declared.fault.EngineFault.TheVariants.{Bank, InAttempt, NothingOpen}
use Rattle.history.specs.declared.standing.Standing.{Standing}
use Rattle.history.specs.declared.standing.Standing.TheVariants.{Awake, GoingDown, Asleep, Landed}
use Rattle.history.specs.Schedule.{level_sum}
use Rattle.history.specs.Attempts.{History, under_way, standing, stage_of}
use Rattle.history.specs.Rules.{if_device, open_answer, step_answer, alarm_answer, put_answer, outcome_from, close_answer, answer_to}
use Rattle.history.specs.Law.{Refuses, NoSuch}
use Rattle.history.proofs.Standings.{TellsOf, told_of}

same_err : (a b : EngineFault) → ◌≡◌ {A = Result Answer EngineFault} (Err a) (Err b) → b ≡ a
same_err a b e = cc

module _ (order : List ℕ) (now : List Device) where
  -- the number of a device is a device's, or not
  pub by_device : (d : ℕ) (answer : Result Answer EngineFault) (P : Result Answer EngineFault → Type 0) → (d < length order → P answer)
      → (length order ≤ d → P (Err (Bank (NoDevice d) (level_sum now)))) → P (if_device order now d answer)
  by_device d answer P p q =
      cond_both (nat_lt d (length order)) answer (Err (Bank (NoDevice d) (level_sum now))) P (λ e. p (ltb-true _ _ e)) (λ e. q (ltb-false _ _ e))

  -- the number of a device first, and then what is open
  device_refuses : (d : ℕ) (answer : Result Answer EngineFault) (fault cause : EngineFault) (P : Type 0)
      → (answer ≡ Err fault) ↔ (P × (fault ≡ cause))
      → (if_device order now d answer ≡ Err fault) ↔ (NoSuch order now d fault ⊎ ((d < length order) × P × (fault ≡ cause)))
  device_refuses d answer fault cause P (there, back) =
      by_device d answer (λ (a : Result Answer EngineFault). (a ≡ Err fault) ↔ (NoSuch order now d fault ⊎ ((d < length order) × P × (fault ≡ cause))))
      (λ l. (
        (λ e. let (p, q) = there e in inr (l, p, q)),
        (λ q. elim q [ inl n ↦ absurd (omega (arith, n.0, l)) | inr p ↦ back (p.1, p.2) ]),
      ))
      (λ l. (
        (λ e. inl (l, same_err _ _ e)),
        (λ q. elim q [ inl n ↦ ap (λ (x : EngineFault). Err x) (sym n.1) | inr p ↦ absurd (omega (arith, p.0, l)) ]),
      ))

  look_refuses : (d : ℕ) (st : Standing) (fault : EngineFault) → (answer_to order st (Look d) now ≡ Err fault) ↔ NoSuch order now d fault
  look_refuses d st fault =
      by_device d _ (λ (a : Result Answer EngineFault). (a ≡ Err fault) ↔ NoSuch order now d fault)
      (λ l. ((λ e. absurd (cc)), (λ q. absurd (omega (arith, q.0, l)))))
      (λ l. ((λ e. (l, same_err _ _ e)), (λ q. ap (λ (x : EngineFault). Err x) (sym q.1))))

  module _ (h : History) where
    refuses_open : (st : Standing) → TellsOf order h now st → (fault : EngineFault)
        → (open_answer order st ≡ Err fault) ↔ ((under_way h ≡ true) × (fault ≡ InAttempt))
    refuses_open Awake t fault = ((λ e. absurd (cc)), (λ q. absurd (both_ways _ t q.0)))
    refuses_open st t fault = ((λ e. (t.0, same_err _ _ e)), (λ q. cc (q.1)))

    refuses_put : (st : Standing) → TellsOf order h now st → (fault : EngineFault)
        → (put_answer order st ≡ Err fault) ↔ ((under_way h ≡ true) × (fault ≡ InAttempt))
    refuses_put Awake t fault = ((λ e. absurd (cc)), (λ q. absurd (both_ways _ t q.0)))
    refuses_put st t fault = ((λ e. (t.0, same_err _ _ e)), (λ q. cc (q.1)))

    refuses_alarm : (st : Standing) → TellsOf order h now st → (fault : EngineFault)
        → (alarm_answer order st ≡ Err fault) ↔ ((under_way h ≡ false) × (fault ≡ NothingOpen))
    refuses_alarm Awake t fault = ((λ e. (t, same_err _ _ e)), (λ q. cc (q.1)))
    refuses_alarm (GoingDown None) t fault = ((λ e. absurd (cc)), (λ q. absurd (both_ways _ q.0 t.0)))
    refuses_alarm st t fault = ((λ e. absurd (cc)), (λ q. absurd (both_ways _ q.0 t.0)))

    refuses_close : (st : Standing) → TellsOf order h now st → (fault : EngineFault)
        → (close_answer order (outcome_from order st (level_sum now)) ≡ Err fault) ↔ ((under_way h ≡ false) × (fault ≡ NothingOpen))
    refuses_close Awake t fault = ((λ e. (t, same_err _ _ e)), (λ q. cc (q.1)))
    refuses_close st t fault = ((λ e. absurd (cc)), (λ q. absurd (both_ways _ q.0 t.0)))

    refuses_step : (st : Standing) → st ≡ standing order h now → TellsOf order h now st → (fault : EngineFault)
        → (step_answer order st now ≡ Err fault) ↔ Refuses order h now Step fault
    refuses_step Awake is t fault = (
      (λ e. inl (t, same_err _ _ e)),
      (λ q. elim q [ inl p ↦ cc (p.1) | inr p ↦ elim p.0 [ inl a ↦ absurd (cc (is, a)) | inr a ↦ absurd (cc (is, a)) ] ]),
    )
    refuses_step Asleep is t fault = (
      (λ e. inr (inl (ap stage_of (sym is)), same_err _ _ e)),
      (λ q. elim q [ inl p ↦ absurd (both_ways _ p.0 t.0) | inr p ↦ cc (p.1) ]),
    )
    refuses_step (Landed end) is t fault = (
      (λ e. inr (inr (ap stage_of (sym is)), same_err _ _ e)),
      (λ q. elim q [ inl p ↦ absurd (both_ways _ p.0 t.0) | inr p ↦ cc (p.1) ]),
    )
    refuses_step st is t fault = (
      (λ e. absurd (cc)),
      (λ q. elim q [ inl p ↦ absurd (both_ways _ p.0 t.0) | inr p ↦ elim p.0 [ inl a ↦ absurd (cc (is, a)) | inr a ↦ absurd (cc (is, a)) ] ]),
    )

    pub refuses : (call : Call) (st : Standing) → st ≡ standing order h now → (fault : EngineFault)
        → (answer_to order st call now ≡ Err fault) ↔ Refuses order h now call fault
    refuses Open st is fault = refuses_open st (told_of order h now st is) fault
    refuses Step st is fault = refuses_step st is (told_of order h now st is) fault
    refuses (Alarm d) st is fault =
        device_refuses d (alarm_answer order st) fault NothingOpen (under_way h ≡ false) (refuses_alarm st (told_of order h now st is) fault)
    refuses Close st is fault = refuses_close st (told_of order h now st is) fault
    refuses (Put d w) st is fault =
        device_refuses d (put_answer order st) fault InAttempt (under_way h ≡ true) (refuses_put st (told_of order h now st is) fault)
    refuses (Look d) st is fault = look_refuses d st fault
