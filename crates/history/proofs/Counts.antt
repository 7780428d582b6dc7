-- The lowerings of an attempt are the ones that its outcome says.
use Rattle.std.proofs.Common.{◌≡◌, ℕ, Bool, true, false, zero, suc, ◌+◌, ◌≤◌, List, [], ◌∷◌, length, refl, ap, sym, subst, ◌∙◌, ⊎_elim, arith}
use Rattle.std.specs.Prelude.{Some, None, Option, Ok, Result, if◌then◌else◌, not, ◌&&◌, ◌||◌, ◌==◌}
use Rattle.std.proofs.lemmas.Bool.{both_ways, cases_Bool, cond_both, cond-true, cond-false, eqb-true}
use Rattle.order.specs.Orders.{Permutes}
use Rattle.bank.specs.Meaning.{Device, hindrance}
use Rattle.bank.specs.Laws.{Kind, Laws}
use Rattle.history.specs.declared.answer.Answer.{Answer}
use Rattle.history.specs.declared.answer.Answer.TheVariants.{Stepped}
use Rattle.history.specs.declared.answer.StepAnswer.TheVariants.{Lowered, Hindered}
use Rattle.history.specs.declared.call.Call.{Call}
use Rattle.history.specs.declared.call.Call.TheVariants.{Open, Step, Alarm, Close, Put, Look}
use Rattle.history.specs.declared.fault.EngineFault.{EngineFault}
use Rattle.history.specs.declared.outcome.Outcome.{Outcome}
use Rattle.history.specs.declared.standing.Standing.{Standing}
use Rattle.history.specs.declared.standing.Standing.TheVariants.{Awake, GoingDown, Asleep}
use Rattle.history.specs.declared.standing.Stage.TheVariants as stage
use Rattle.history.specs.Numbers.{outcome_values}
use Rattle.history.specs.Schedule.{full, level_sum}
use Rattle.history.specs.Attempts.{History, at, goes_on, under_way, Descent, descent, is_step, or_else, if_none, next_device}
use Rattle.history.specs.Attempts.{turning, alarm_of, by_fault, cut_short, slept_with, outcome, rising, stage_of}
use Rattle.history.specs.Rules.{State, shown, said, next, alarm_answer, answer_to}
use Rattle.history.specs.Law.{is_lowering, answer_after, lowerings, LedTo, FitsCall}
use Rattle.history.proofs.Refusals.{by_device}
use Rattle.history.proofs.Unwinding.{descent_more}
use Rattle.history.proofs.Standings.{stands_in, slept_now}
use Rattle.history.proofs.Transitions.{sum_after}
use Rattle.history.proofs.Effects.{effect, idle}
use Rattle.history.proofs.Facts.{Facts, facts, told_so, sum_later, is_awake, none_lowered}

module _ (order : List ℕ) where
  -- the lowerings that an outcome says, from how the descent turned, whether the board slept, and the sum k of the levels
  abbrev pub taken_of : Option Outcome → Bool → ℕ → ℕ
  taken_of turned down k = elim turned [ None ↦ if down then full order else k | Some end ↦ (outcome_values end).taken ]

  pub taken_in : (kept : Option ℕ) (turned : Option Outcome) (slept : Bool) (now : List Device)
      → (outcome_values (outcome order (record { kept = kept; turned = turned; slept = slept }) now)).taken
      ≡ taken_of turned (slept || (level_sum now == full order)) (level_sum now)
  taken_in kept (Some end) slept now = refl
  taken_in kept None slept now = go kept (slept || (level_sum now == full order))
    where
      go : (kept : Option ℕ) (down : Bool)
          → (outcome_values (if down then slept_with order kept else cut_short order kept (level_sum now))).taken ≡ (if down then full order else level_sum now)
      go kept true = refl
      go None false = refl
      go (Some d) false = refl

  -- a sum that has come to the full one is the full one
  capped : (k : ℕ) → taken_of None (k == full order) k ≡ k
  capped k = cond_both (k == full order) (full order) k (λ x. x ≡ k) (λ e. sym (eqb-true _ _ e)) (λ e. refl)

  -- so a descent that did not turn counts what the levels add up to
  unmoved : (k : ℕ) → 0 + k ≡ taken_of None (k == full order) k
  unmoved k = omega arith ∙ sym (capped k)

  one_more : (k : ℕ) → 1 + k ≡ taken_of None (suc k == full order) (suc k)
  one_more k = omega arith ∙ sym (capped (suc k))

  nothing : (k : ℕ) → 0 + k ≡ k
  nothing k = omega arith

  -- after the descent
  not_down : (end : Outcome) (k : ℕ) → stage_of (rising end k) ≡ stage.GoingDown → ⊥
  not_down end zero e = cc
  not_down end (suc k) e = cc

  module _ (now : List Device) where
    -- a call lowers only where the engine goes down
    no_lowering : (call : Call) (st : Standing) → (stage_of st ≡ stage.GoingDown → ⊥) → is_lowering (answer_to order st call now) ≡ 0
    no_lowering call st n = grind (arith, effect order now call st, idle (answer_to order st call now))

    abbrev turned_then : Call → Option ℕ → Option Outcome → Bool → Option Outcome
    turned_then call kept turned down = or_else turned (if is_step call && not down then turning order kept now else None)

    -- with a call that is answered so, the lowerings told grow as the outcome says
    abbrev Grows : Call → Option ℕ → Option Outcome → Bool → Result Answer EngineFault → Type 0
    Grows call kept turned down a =
        is_lowering a + taken_of turned down (level_sum now)
        ≡ taken_of (turned_then call kept turned down) (down || (sum_after a (level_sum now) == full order)) (sum_after a (level_sum now))

    from_down : (call : Call) (kept : Option ℕ) → goes_on call true ≡ true → Grows call kept None false (answer_to order (GoingDown kept) call now)
    from_down Open kept g = unmoved (level_sum now)
    from_down Step None g = go (hindrance now (next_device order now) == 0)
      where
        go : (free : Bool)
            → is_lowering (Ok (if free then Stepped Lowered else Stepped Hindered)) + level_sum now
            ≡ taken_of (if free then None else Some (by_fault order now))
            (sum_after (Ok (if free then Stepped Lowered else Stepped Hindered)) (level_sum now) == full order)
            (sum_after (Ok (if free then Stepped Lowered else Stepped Hindered)) (level_sum now))
        go true = one_more (level_sum now)
        go false = nothing (level_sum now)
    from_down Step (Some d) g = nothing (level_sum now)
    from_down (Alarm d) kept g =
        by_device order now d _ (Grows (Alarm d) kept None false) (λ l. heard kept) (λ l. unmoved (level_sum now))
      where
        heard : (kept : Option ℕ) → Grows (Alarm d) kept None false (alarm_answer order (GoingDown kept))
        heard None = unmoved (level_sum now)
        heard (Some c) = unmoved (level_sum now)
    from_down Close kept g = absurd (cc (g))
    from_down (Put d w) kept g =
        by_device order now d _ (Grows (Put d w) kept None false) (λ l. unmoved (level_sum now)) (λ l. unmoved (level_sum now))
    from_down (Look d) kept g =
        by_device order now d _ (Grows (Look d) kept None false) (λ l. unmoved (level_sum now)) (λ l. unmoved (level_sum now))

    -- asleep, or woken by an alarm
    at_rest : (call : Call) (kept : Option ℕ) (a : Result Answer EngineFault) → is_lowering a ≡ 0 → Grows call kept None true a
    at_rest Open kept a e = omega arith
    at_rest Step kept a e = omega arith
    at_rest (Alarm d) kept a e = omega arith
    at_rest Close kept a e = omega arith
    at_rest (Put d w) kept a e = omega arith
    at_rest (Look d) kept a e = omega arith

    -- turned by a step
    turned_back : (call : Call) (kept : Option ℕ) (end : Outcome) (down : Bool) (a : Result Answer EngineFault) → is_lowering a ≡ 0
        → Grows call kept (Some end) down a
    turned_back call kept end down a e = ap (λ (i : ℕ). i + (outcome_values end).taken) e ∙ nothing _

    -- from where the engine stands
    grows : (call : Call) (kept : Option ℕ) (turned : Option Outcome) (down : Bool) (u : Bool) → u ≡ true → goes_on call true ≡ true
        → Grows call kept turned down (answer_to order (stands_in order u kept turned down (level_sum now)) call now)
    grows call kept turned down false w g = absurd (both_ways false refl w)
    grows call kept None false true w g = from_down call kept g
    grows call None None true true w g = at_rest call None _ (no_lowering call Asleep (λ e. cc))
    grows call (Some d) None true true w g = at_rest call (Some d) _ (no_lowering call _ (not_down (slept_with order (Some d)) (level_sum now)))
    grows call kept (Some end) down true w g = turned_back call kept end down _ (no_lowering call _ (not_down end (level_sum now)))

module _ {M : Type 0} {limit : ℕ} (kind : Kind M) (laws : Laws limit kind) (order : List ℕ)
    (permutes : Permutes (length order) order) (some : 1 ≤ length order) where
  -- what the history tells of an attempt that is under way, with the devices as they are now
  abbrev Counted : History → List Device → Type 0
  Counted h now = under_way h ≡ true → lowerings order h ≡ (outcome_values (outcome order (descent order h) now)).taken

  module _ (h : History) (s : State M) (call : Call) (fits : FitsCall call) (f : Facts kind laws order permutes some h s)
      (c : Counted h (shown kind order s)) (u : under_way (at call (shown kind order s) ∷ h) ≡ true) where
    abbrev now : List Device
    now = shown kind order s

    abbrev later : List Device
    later = shown kind order (next kind order s call)

    abbrev longer : History
    longer = at call now ∷ h

    sum : level_sum later ≡ sum_after (said kind order s call) (level_sum now)
    sum = sum_later kind laws order permutes some h s f call fits

    opening : (x : Call) → under_way h ≡ false → goes_on x (under_way h) ≡ true → x ≡ Open
    opening Open n g = refl
    opening x n g = absurd (cc g)

    -- the call opens the attempt, or the attempt was under way before it
    opens : under_way h ≡ false → lowerings order longer ≡ (outcome_values (outcome order (descent order longer) later)).taken
    opens n =
        let awake : s.standing ≡ Awake = is_awake kind laws order permutes some h s f n in
        let none : level_sum now ≡ 0 = none_lowered kind laws order permutes some h s f awake in
        let same : level_sum later ≡ level_sum now =
        sum ∙ ap (λ (st : Standing). sum_after (answer_to order st call now) (level_sum now)) awake
        ∙ ap (λ (x : Call). sum_after (answer_to order Awake x now) (level_sum now)) (opening call n u) in
        cond-false (under_way h) _ _ n ∙ sym none ∙ sym same ∙ sym (capped order (level_sum later)) ∙ sym (taken_in order None None false later)
        ∙ ap (λ (t : Descent). (outcome_values (outcome order t later)).taken) (sym (cond-false (under_way h) _ _ n))

    lasts : under_way h ≡ true → lowerings order longer ≡ (outcome_values (outcome order (descent order longer) later)).taken
    lasts w =
        let t = descent order h in
        let a = answer_after order h call now in
        let same : level_sum later ≡ sum_after a (level_sum now) =
        sum ∙ ap (λ (x : Result Answer EngineFault). sum_after x (level_sum now)) (told_so kind laws order permutes some h s f call fits) in
        cond-true (under_way h) _ _ w
        ∙ ap (λ (i : ℕ). is_lowering a + i) (c w ∙ taken_in order t.kept t.turned t.slept now)
        ∙ grows order now call t.kept t.turned (slept_now order h now) (under_way h) w (ap (goes_on call) (sym w) ∙ u)
        ∙ ap (λ (i : ℕ). taken_of order (turned_then order now call t.kept t.turned (slept_now order h now)) (slept_now order h now || (i == full order)) i)
        (sym same)
        ∙ sym (taken_in order (or_else t.kept (if_none t.turned (alarm_of order call))) (turned_then order now call t.kept t.turned (slept_now order h now))
        (slept_now order h now) later)
        ∙ ap (λ (t : Descent). (outcome_values (outcome order t later)).taken) (sym (descent_more order h call now later w))

    counted_next : lowerings order longer ≡ (outcome_values (outcome order (descent order longer) later)).taken
    counted_next = ⊎_elim lasts opens (cases_Bool (under_way h))

  -- the lowerings of an attempt are the ones that its outcome would say if it were closed now
  pub counted : (h : History) (s : State M) → LedTo kind order h s → Counted h (shown kind order s)
  counted [] s led = λ u. absurd (both_ways false refl u)
  counted (m ∷ h) s (sound, fits, (before, led, same, is)) =
      let n : Counted (at m.call (shown kind order before) ∷ h) (shown kind order (next kind order before m.call)) =
      λ u. counted_next h before m.call fits (facts kind laws order permutes some h before led) (counted h before led) u in
      subst (λ (x : State M). Counted (m ∷ h) (shown kind order x)) (sym is)
      (subst (λ (now : List Device). Counted (at m.call now ∷ h) (shown kind order (next kind order before m.call))) (sym same) n)
