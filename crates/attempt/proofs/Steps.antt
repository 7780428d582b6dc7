-- One step of an engine that is not at rest: it is obeyed, and brings the engine nearer to its rest.
use Rattle.std.proofs.Common.{◌≡◌, ℕ, Bool, true, false, zero, suc, ◌-◌, ◌*◌, ◌<◌, ◌≤◌, List, length, refl, sym, subst, arith}
use Rattle.std.specs.Prelude.{None, Some, Ok, is_ok, if◌then◌else◌, ◌==◌}
use Rattle.std.proofs.lemmas.Bool.{cond_both, eqb-true}
use Rattle.order.specs.Orders.{Permutes}
use Rattle.bank.specs.Meaning.{Device, hindrance}
use Rattle.bank.specs.Laws.{Kind, Laws}
use Rattle.history.specs.declared.answer.Answer.{Answer}
use Rattle.history.specs.declared.answer.Answer.TheVariants.{Stepped}
use Rattle.history.specs.declared.answer.StepAnswer.TheVariants.{Lowered, Hindered}
use Rattle.history.specs.declared.call.Call.TheVariants.{Step}
use Rattle.history.specs.declared.entry.Entry.{Entry}
use Rattle.history.specs.declared.outcome.Outcome.{Outcome}
use Rattle.history.specs.declared.standing.Standing.{Standing}
use Rattle.history.specs.declared.standing.Standing.TheVariants.{Awake, GoingDown, Asleep, ComingUp, Landed}
use Rattle.history.specs.Attempts.{next_device, by_alarm, by_fault, rising}
use Rattle.history.specs.Keeping.{Scheduled, InRange}
use Rattle.history.specs.Rules.{State, said, next, answer_to, stands_after, model_after}
use Rattle.history.specs.Schedule.{full, level_sum}
use Rattle.history.proofs.Moves.{Lowering, lowering, Raising, raising}
use Rattle.engine.specs.Tickets.{is_open, owes_after}
use Rattle.engine.proofs.Playing.{opens_more}
use Rattle.attempt.specs.Runs.{is_at_rest}

-- how many steps are left at most, out of `all` lowerings, with levels that add up to k
abbrev pub left : ℕ → Standing → ℕ → ℕ
left all Awake k = 0
left all (GoingDown alarm) k = 2 * all - suc k
left all Asleep k = 0
left all (ComingUp outcome) k = k
left all (Landed outcome) k = 0

left_rising : (all k : ℕ) (outcome : Outcome) → left all (rising outcome k) k ≡ k
left_rising all zero outcome = refl
left_rising all (suc k) outcome = refl

pub left_below : (all k : ℕ) (st : Standing) → 1 ≤ all → InRange all st k → left all st k < 2 * all
left_below all k Awake some r = omega arith
left_below all k (GoingDown alarm) some r = omega arith
left_below all k Asleep some r = omega arith
left_below all k (ComingUp outcome) some r = omega (arith, r.limit)
left_below all k (Landed outcome) some r = omega arith

module _ {M : Type 0} {limit : ℕ} (kind : Kind M) (laws : Laws limit kind) (order : List ℕ)
    (permutes : Permutes (length order) order) (some : 1 ≤ length order) where
  -- what an engine keeps, as far as its steps depend on it
  pub record Keeps (s : State M) : Type 0 where
    pub sound : kind.sound s.model
    pub scheduled : Scheduled order (kind.devices s.model)
    pub in_range : InRange (full order) s.standing (level_sum (kind.devices s.model))

  abbrev pub steps_left : State M → ℕ
  steps_left s = left (full order) s.standing (level_sum (kind.devices s.model))

  abbrev at : M → Standing → List Entry → State M
  at m st js = record { model = m; standing = st; journal = js }

  -- after a step that is answered so
  abbrev left_after : M → Standing → Answer → ℕ
  left_after m st a =
      left (full order) (stands_after order st Step (Ok a) (kind.devices m)) (level_sum (kind.devices (model_after kind order Step (Ok a) m)))

  nearer_at : (m : M) (st : Standing) (js : List Entry) → Keeps (at m st js) → is_open st ≡ true → is_at_rest st ≡ false
      → steps_left (next kind order (at m st js) Step) < steps_left (at m st js)
  nearer_at m Awake js k o r = absurd (cc)
  nearer_at m Asleep js k o r = absurd (cc)
  nearer_at m (Landed outcome) js k o r = absurd (cc)
  nearer_at m (ComingUp outcome) js k o r =
      let j : ℕ = level_sum (kind.devices m) - 1 in
      let e : level_sum (kind.devices m) ≡ suc j = omega (arith, k.in_range.least) in
      let x : Raising kind laws order permutes some m j = raising kind laws order permutes some m j k.sound k.scheduled e in
      subst (λ i. left (full order) (rising outcome j) i < level_sum (kind.devices m)) (sym x.less)
      (omega (arith, left_rising (full order) j outcome, e))
  nearer_at m (GoingDown (Some d)) js k o r = omega (arith, left_rising (full order) (level_sum (kind.devices m)) (by_alarm order d (level_sum (kind.devices m))), k.in_range.limit)
  nearer_at m (GoingDown None) js k o r =
      let now : List Device = kind.devices m in
      cond_both (hindrance now (next_device order now) == 0) (Stepped Lowered) (Stepped Hindered)
      (λ (a : Answer). left_after m (GoingDown None) a < 2 * full order - suc (level_sum now))
      (λ e.
      let l : Lowering kind laws order permutes some m = lowering kind laws order permutes some m k.sound k.scheduled k.in_range.limit in
      subst (λ i. left (full order) (stands_after order (GoingDown None) Step (Ok (Stepped Lowered)) now) i < 2 * full order - suc (level_sum now))
      (sym (l.more (eqb-true _ 0 e)))
      (cond_both (suc (level_sum now) == full order) Asleep (GoingDown None)
      (λ (st : Standing). left (full order) st (suc (level_sum now)) < 2 * full order - suc (level_sum now))
      (λ last. omega (arith, k.in_range.limit))
      (λ last. omega (arith, k.in_range.limit))))
      (λ e. omega (arith, left_rising (full order) (level_sum now) (by_fault order now), k.in_range.limit))

  -- a step brings an engine nearer to its rest
  pub nearer : (s : State M) → Keeps s → is_open s.standing ≡ true → is_at_rest s.standing ≡ false
      → steps_left (next kind order s Step) < steps_left s
  nearer s = nearer_at s.model s.standing s.journal

-- it is obeyed
pub step_obeyed : (order : List ℕ) (st : Standing) (now : List Device) → is_open st ≡ true → is_at_rest st ≡ false → is_ok (answer_to order st Step now) ≡ true
step_obeyed order Awake now o r = absurd (cc)
step_obeyed order (GoingDown alarm) now o r = refl
step_obeyed order Asleep now o r = absurd (cc)
step_obeyed order (ComingUp outcome) now o r = refl
step_obeyed order (Landed outcome) now o r = absurd (cc)

owed_still : (order : List ℕ) (st : Standing) (now : List Device) → owes_after true (answer_to order st Step now) ≡ true
owed_still order Awake now = refl
owed_still order (GoingDown (Some d)) now = refl
owed_still order (GoingDown None) now = owed (hindrance now (next_device order now) == 0)
  where
    owed : (free : Bool) → owes_after true (Ok (if free then Stepped Lowered else Stepped Hindered)) ≡ true
    owed true = refl
    owed false = refl
owed_still order Asleep now = refl
owed_still order (ComingUp outcome) now = refl
owed_still order (Landed outcome) now = refl

-- and leaves the attempt open
pub step_open : {M : Type 0} (kind : Kind M) (order : List ℕ) (s : State M) → is_open s.standing ≡ true → is_open (next kind order s Step).standing ≡ true
step_open kind order s o =
    opens_more kind order s (next kind order s Step) Step (said kind order s Step) true refl refl (λ _. o) (owed_still order s.standing (kind.devices s.model))
