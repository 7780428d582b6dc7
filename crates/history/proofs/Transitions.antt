-- Where an engine stands after a call is where the history with that call tells that it stands, and the levels stay in range.
use Rattle.std.proofs.Common.{◌≡◌, ℕ, Bool, true, false, zero, suc, ◌-◌, ◌≤◌, List, ◌∷◌, length, refl, ap, sym, subst, ◌∙◌, arith}
use Rattle.std.specs.Prelude.{Some, None, Option, Ok, Err, Result, if◌then◌else◌, not, ◌&&◌, ◌||◌, ◌==◌, nat_lt}
use Rattle.std.proofs.lemmas.Bool.{cond-false, cond_both, and_right, eqb-true, eqb-false, ne_eqb}
use Rattle.bank.specs.Meaning.{Device, hindrance}
use Rattle.bank.specs.declared.fault.BankFault.TheVariants.{NoDevice}
use Rattle.history.specs.declared.answer.Answer.{Answer}
use Rattle.history.specs.declared.answer.Answer.TheVariants.{Stepped, Heard, Closed}
use Rattle.history.specs.declared.answer.StepAnswer.TheVariants.{Lowered, Raised, Hindered}
use Rattle.history.specs.declared.answer.AlarmAnswer.TheVariants.{Kept}
use Rattle.history.specs.declared.call.Call.{Call}
use Rattle.history.specs.declared.call.Call.TheVariants.{Open, Step, Alarm, Close, Put, Look}
use Rattle.history.specs.declared.fault.EngineFault.{EngineFault}
use Rattle.history.specs.declared.fault.EngineFault.TheVariants.{Bank}
use Rattle.history.specs.declared.outcome.Outcome.{Outcome}
use Rattle.history.specs.declared.standing.Standing.{Standing}
use Rattle.history.specs.declared.standing.Standing.TheVariants.{Awake, GoingDown, Asleep, ComingUp, Landed}
use Rattle.history.specs.Schedule.{full, level_sum}
use Rattle.history.specs.Attempts.{History, at, goes_on, under_way, Descent, descent, just_opened, or_else, if_none, is_step, rising, next_device}
use Rattle.history.specs.Attempts.{by_fault, turning, alarm_of, slept_with, resting, standing}
use Rattle.history.specs.Rules.{answer_to, stands_after, lowered_to}
use Rattle.history.specs.Keeping.{InRange}
use Rattle.history.proofs.Standings.{stands_in, slept_now}
use Rattle.history.proofs.Refusals.{by_device}

-- the sum of the levels after a call that is answered so
abbrev pub sum_after : Result Answer EngineFault → ℕ → ℕ
sum_after (Ok (Stepped Lowered)) k = suc k
sum_after (Ok (Stepped Raised)) k = k - 1
sum_after (Ok (Closed outcome)) k = 0
sum_after answer k = k

module _ (order : List ℕ) (now : List Device) where
  -- after the descent the board comes up, or has landed
  by_levels : (end : Outcome) (k : ℕ) (P : Standing → Type 0) → (1 ≤ k → P (ComingUp end)) → (k ≡ 0 → P (Landed end)) → P (rising end k)
  by_levels end zero P p q = q refl
  by_levels end (suc k) P p q = p (omega arith)

  -- where the history tells that it stands, with levels that add up to i
  abbrev standing_at : Descent → ℕ → Standing
  standing_at t i = elim t.turned [ None ↦ if t.slept || (i == full order) then resting order t.kept i else GoingDown t.kept | Some end ↦ rising end i ]

  -- the same after the call, from what was told before it: `more` is how the call ends the descent, and `heard` the alarm that it names
  abbrev told_then : Call → Bool → Option ℕ → Option Outcome → Bool → Option Outcome → Option ℕ → ℕ → Standing
  told_then call u kept turned down more heard i =
      if goes_on call u
      then standing_at
      (if u
      then record { kept = or_else kept (if_none turned heard); turned = or_else turned (if is_step call && not down then more else None); slept = down }
      else just_opened) i
      else Awake

  -- the call, answered so, leads from `st` to where `then_at` tells, and the levels are in its range
  abbrev Leads : Call → Standing → (ℕ → Standing) → Result Answer EngineFault → Type 0
  Leads call st then_at answer =
      (stands_after order st call answer now ≡ then_at (sum_after answer (level_sum now)))
      × InRange (full order) (stands_after order st call answer now) (sum_after answer (level_sum now))

  rising_range : (end : Outcome) (k : ℕ) → k ≤ full order → InRange (full order) (rising end k) k
  rising_range end zero l = record { least = omega arith; limit = omega arith }
  rising_range end (suc k) l = record { least = omega arith; limit = omega arith }

  module _ (most : level_sum now ≤ full order) (some : 1 ≤ full order) where
    awake_range : InRange (full order) Awake 0
    awake_range = record { least = omega arith; limit = omega arith }

    -- nothing open
    abbrev off : Call → ℕ → Standing
    off call i = told_then call false None None false None None i

    from_awake : (call : Call) → InRange (full order) Awake (level_sum now)
        → Leads call Awake (off call) (answer_to order Awake call now)
    from_awake Open r = (
      sym (cond-false (level_sum now == full order) _ _ (ne_eqb _ _ (λ e. omega (arith, r.limit)))),
      record { least = omega arith; limit = omega (arith, r.limit) },
    )
    from_awake Step r = (refl, r)
    from_awake (Alarm d) r = by_device order now d _ (Leads (Alarm d) Awake (off (Alarm d))) (λ l. (refl, r)) (λ l. (refl, r))
    from_awake Close r = (refl, r)
    from_awake (Put d w) r = by_device order now d _ (Leads (Put d w) Awake (off (Put d w))) (λ l. (refl, r)) (λ l. (refl, r))
    from_awake (Look d) r = by_device order now d _ (Leads (Look d) Awake (off (Look d))) (λ l. (refl, r)) (λ l. (refl, r))

    -- going down, with the alarm kept
    from_down : (call : Call) (kept : Option ℕ) → InRange (full order) (GoingDown kept) (level_sum now)
        → Leads call (GoingDown kept) (told_then call true kept None false (turning order kept now) (alarm_of order call))
        (answer_to order (GoingDown kept) call now)
    from_down call kept r = go call kept
      where
        no_more : (alarm : Option ℕ) → alarm ≡ or_else alarm None
        no_more None = refl
        no_more (Some d) = refl

        same : (alarm : Option ℕ)
            → GoingDown alarm ≡ (if level_sum now == full order then resting order (or_else alarm None) (level_sum now) else GoingDown (or_else alarm None))
        same alarm =
            ap (λ (a : Option ℕ). GoingDown a) (no_more alarm) ∙ sym (cond-false _ _ _ (ne_eqb (level_sum now) (full order) (λ e. omega (arith, r.limit))))

        range : (alarm : Option ℕ) → InRange (full order) (GoingDown alarm) (level_sum now)
        range alarm = record { least = omega arith; limit = r.limit }

        lowered_range : (k : ℕ) → k ≤ full order → InRange (full order) (lowered_to order k) k
        lowered_range k m =
            cond_both (k == full order) Asleep (GoingDown None) (λ (x : Standing). InRange (full order) x k)
            (λ q. let i : k ≡ full order = eqb-true k (full order) q in record { least = omega arith; limit = omega arith })
            (λ q. let n : k ≡ full order → ⊥ = eqb-false k (full order) q in record { least = omega arith; limit = omega arith })

        step : (free : Bool)
            → Leads Step (GoingDown None) (told_then Step true None None false (if free then None else Some (by_fault order now)) None)
            (Ok (if free then Stepped Lowered else Stepped Hindered))
        step true = (refl, lowered_range (suc (level_sum now)) (omega (arith, r.limit)))
        step false = (refl, rising_range _ _ most)

        alarm : (d : ℕ) (known : Bool)
            → Leads (Alarm d) (GoingDown None) (told_then (Alarm d) true None None false None (if known then Some d else None))
            (if known then Ok (Heard Kept) else Err (Bank (NoDevice d) (level_sum now)))
        alarm d true = (same (Some d), range (Some d))
        alarm d false = (same None, range None)

        go : (call : Call) (kept : Option ℕ)
            → Leads call (GoingDown kept) (told_then call true kept None false (turning order kept now) (alarm_of order call))
            (answer_to order (GoingDown kept) call now)
        go Open kept = (same kept, range kept)
        go Step None = step (hindrance now (next_device order now) == 0)
        go Step (Some c) = (refl, rising_range _ _ most)
        go (Alarm d) None = alarm d (nat_lt d (length order))
        go (Alarm d) (Some c) =
            by_device order now d _ (Leads (Alarm d) (GoingDown (Some c)) (told_then (Alarm d) true (Some c) None false None None))
            (λ l. (same (Some c), range (Some c))) (λ l. (same (Some c), range (Some c)))
        go Close kept = (refl, awake_range)
        go (Put d w) kept =
            by_device order now d _ (Leads (Put d w) (GoingDown kept) (told_then (Put d w) true kept None false None None))
            (λ l. (same kept, range kept)) (λ l. (same kept, range kept))
        go (Look d) kept =
            by_device order now d _ (Leads (Look d) (GoingDown kept) (told_then (Look d) true kept None false None None))
            (λ l. (same kept, range kept)) (λ l. (same kept, range kept))

    -- asleep
    abbrev quiet : Call → ℕ → Standing
    quiet call i = told_then call true None None true None None i

    from_rest : (call : Call) → InRange (full order) Asleep (level_sum now)
        → Leads call Asleep (told_then call true None None true (turning order None now) (alarm_of order call)) (answer_to order Asleep call now)
    from_rest Open r = (refl, r)
    from_rest Step r = (refl, r)
    from_rest (Alarm d) r = go (nat_lt d (length order))
      where
        go : (known : Bool)
            → Leads (Alarm d) Asleep (told_then (Alarm d) true None None true None (if known then Some d else None))
            (if known then Ok (Heard Kept) else Err (Bank (NoDevice d) (level_sum now)))
        go true = (refl, rising_range _ _ most)
        go false = (refl, r)
    from_rest Close r = (refl, awake_range)
    from_rest (Put d w) r = by_device order now d _ (Leads (Put d w) Asleep (quiet (Put d w))) (λ l. (refl, r)) (λ l. (refl, r))
    from_rest (Look d) r = by_device order now d _ (Leads (Look d) Asleep (quiet (Look d))) (λ l. (refl, r)) (λ l. (refl, r))

    -- after the descent
    abbrev risen : Outcome → Call → ℕ → Standing
    risen end call i = if goes_on call true then rising end i else Awake

    from_risen : (call : Call) (end : Outcome) → InRange (full order) (rising end (level_sum now)) (level_sum now)
        → Leads call (rising end (level_sum now)) (risen end call) (answer_to order (rising end (level_sum now)) call now)
    from_risen call end =
        by_levels end (level_sum now)
        (λ (st : Standing). InRange (full order) st (level_sum now) → Leads call st (risen end call) (answer_to order st call now))
        (λ l r. up call (above _ l) r) (λ z r. landed call (sym (ap (rising end) z)) r)
      where
        above : (k : ℕ) → 1 ≤ k → ComingUp end ≡ rising end k
        above zero l = absurd (omega arith)
        above (suc k) l = refl

        up : (call : Call) → ComingUp end ≡ rising end (level_sum now) → InRange (full order) (ComingUp end) (level_sum now)
            → Leads call (ComingUp end) (risen end call) (answer_to order (ComingUp end) call now)
        up Open e r = (e, r)
        up Step e r = (refl, rising_range _ _ (omega arith))
        up (Alarm d) e r = by_device order now d _ (Leads (Alarm d) (ComingUp end) (risen end (Alarm d))) (λ l. (e, r)) (λ l. (e, r))
        up Close e r = (refl, awake_range)
        up (Put d w) e r = by_device order now d _ (Leads (Put d w) (ComingUp end) (risen end (Put d w))) (λ l. (e, r)) (λ l. (e, r))
        up (Look d) e r = by_device order now d _ (Leads (Look d) (ComingUp end) (risen end (Look d))) (λ l. (e, r)) (λ l. (e, r))

        landed : (call : Call) → Landed end ≡ rising end (level_sum now) → InRange (full order) (Landed end) (level_sum now)
            → Leads call (Landed end) (risen end call) (answer_to order (Landed end) call now)
        landed Open e r = (e, r)
        landed Step e r = (e, r)
        landed (Alarm d) e r = by_device order now d _ (Leads (Alarm d) (Landed end) (risen end (Alarm d))) (λ l. (e, r)) (λ l. (e, r))
        landed Close e r = (refl, awake_range)
        landed (Put d w) e r = by_device order now d _ (Leads (Put d w) (Landed end) (risen end (Put d w))) (λ l. (e, r)) (λ l. (e, r))
        landed (Look d) e r = by_device order now d _ (Leads (Look d) (Landed end) (risen end (Look d))) (λ l. (e, r)) (λ l. (e, r))

    -- from every standing
    from_any : (call : Call) (u : Bool) (kept : Option ℕ) (turned : Option Outcome) (down : Bool)
        → InRange (full order) (stands_in order u kept turned down (level_sum now)) (level_sum now)
        → Leads call (stands_in order u kept turned down (level_sum now)) (told_then call u kept turned down (turning order kept now) (alarm_of order call))
        (answer_to order (stands_in order u kept turned down (level_sum now)) call now)
    from_any call false kept turned down r = from_awake call r
    from_any call true kept None false r = from_down call kept r
    from_any call true None None true r = from_rest call r
    from_any call true (Some d) None true r =
        subst (λ (t : Bool). Leads call (rising (slept_with order (Some d)) (level_sum now))
        (λ i. if goes_on call true
        then standing_at (record { kept = Some d; turned = if t then turning order (Some d) now else None; slept = true }) i else Awake)
        (answer_to order (rising (slept_with order (Some d)) (level_sum now)) call now))
        (sym (and_right (is_step call) false refl)) (from_risen call (slept_with order (Some d)) r)
    from_any call true kept (Some end) down r = from_risen call end r

    -- from where the history tells that the engine stands
    pub follows : (h : History) (st : Standing) → st ≡ standing order h now → InRange (full order) st (level_sum now)
        → (call : Call) (later : List Device)
        → level_sum later ≡ sum_after (answer_to order st call now) (level_sum now)
        → (stands_after order st call (answer_to order st call now) now ≡ standing order (at call now ∷ h) later)
        × InRange (full order) (stands_after order st call (answer_to order st call now) now) (level_sum later)
    follows h st is r call later e =
        let t = descent order h in
        let then_at = λ (i : ℕ). told_then call (under_way h) t.kept t.turned (slept_now order h now) (turning order t.kept now) (alarm_of order call) i in
        let (stands, range) = subst (λ (x : Standing). InRange (full order) x (level_sum now) → Leads call x then_at (answer_to order x call now)) (sym is)
        (from_any call (under_way h) t.kept t.turned (slept_now order h now)) r in (
          stands ∙ ap then_at (sym e),
          subst (λ (i : ℕ). InRange (full order) (stands_after order st call (answer_to order st call now) now) i) (sym e) range,
        )
