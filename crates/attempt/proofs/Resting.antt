-- Steps until an engine is asleep or landed.
use Rattle.std.proofs.Common.{◌≡◌, ℕ, true, false, zero, suc, ◌<◌, ◌≤◌, List, All, length, replicate, arith}
use Rattle.std.specs.Prelude.{Result, is_ok}
use Rattle.std.proofs.lemmas.Bool.{cond_both}
use Rattle.std.proofs.lemmas.List.Elements.{All-nil, All-cons}
use Rattle.order.specs.Orders.{Permutes}
use Rattle.bank.specs.Laws.{Kind, Laws}
use Rattle.history.specs.declared.answer.Answer.{Answer}
use Rattle.history.specs.declared.fault.EngineFault.{EngineFault}
use Rattle.history.specs.declared.call.Call.TheVariants.{Step}
use Rattle.history.specs.Rules.{State, said, next, all_said, after_all}
use Rattle.engine.specs.Tickets.{is_open}
use Rattle.attempt.specs.Runs.{is_at_rest, steps_to_rest}
use Rattle.attempt.proofs.Steps.{Keeps, steps_left, nearer, step_obeyed}

module _ {M : Type 0} {limit : ℕ} (kind : Kind M) (laws : Laws limit kind) (order : List ℕ)
    (permutes : Permutes (length order) order) (some : 1 ≤ length order) where
  -- the engine after so many steps
  abbrev pub stepped : State M → ℕ → State M
  stepped s t = after_all kind order s (replicate t Step)

  -- what holds of an open engine and lasts with every step that is obeyed
  pub record Lasts (P : State M → Type 0) : Type 0 where
    pub keeps : (s : State M) → P s → Keeps kind laws order permutes some s
    pub opened : (s : State M) → P s → is_open s.standing ≡ true
    pub more : (s : State M) → P s → is_at_rest s.standing ≡ false → P (next kind order s Step)

  -- t steps, all obeyed, are as many as it takes until the engine is at rest
  pub record Rests (P : State M → Type 0) (s : State M) (t : ℕ) : Type 0 where
    pub rests : is_at_rest (stepped s t).standing ≡ true
    pub not_before : (u : ℕ) → u < t → is_at_rest (stepped s u).standing ≡ false
    pub obeyed : All (λ answer. is_ok answer ≡ true) (all_said kind order s (replicate t Step))
    pub most : t ≤ steps_left kind laws order permutes some s
    pub here : P (stepped s t)

  abbrev IsObeyed : Result Answer EngineFault → Type 0
  IsObeyed answer = is_ok answer ≡ true

  module _ (P : State M → Type 0) (lasts : Lasts P) where
    one_more : (s : State M) (t : ℕ) → P s → is_at_rest s.standing ≡ false → Rests P (next kind order s Step) t → Rests P s (suc t)
    one_more s t p e r =
        record {
          rests = r.rests;
          not_before = before;
          obeyed = All-cons IsObeyed (said kind order s Step) _ (step_obeyed order s.standing (kind.devices s.model) (lasts.opened s p) e) r.obeyed;
          most = omega (arith, r.most, nearer kind laws order permutes some s (lasts.keeps s p) (lasts.opened s p) e);
          here = r.here;
        }
      where
        before : (u : ℕ) → u < suc t → is_at_rest (stepped s u).standing ≡ false
        before zero h = e
        before (suc u) h = r.not_before u (omega arith)

    pub rests_within : (most : ℕ) (s : State M) → P s → steps_left kind laws order permutes some s < most → Rests P s (steps_to_rest kind order most s)
    rests_within zero s p h = absurd (omega arith)
    rests_within (suc most) s p h =
        cond_both (is_at_rest s.standing) 0 (suc (steps_to_rest kind order most (next kind order s Step))) (Rests P s)
        (λ e. record { rests = e; not_before = λ u l. absurd (omega arith); obeyed = All-nil IsObeyed; most = omega arith; here = p })
        (λ e. one_more s _ p e (rests_within most (next kind order s Step) (lasts.more s p e)
        (omega (arith, nearer kind laws order permutes some s (lasts.keeps s p) (lasts.opened s p) e))))
