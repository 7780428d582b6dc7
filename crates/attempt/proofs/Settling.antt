-- Steps that a loop makes until an engine is at rest.
use Rattle.std.proofs.Common.{◌≡◌, ℕ, true, false, zero, suc, ◌+◌, ◌*◌, ◌<◌, ◌≤◌, List, length, replicate, refl, ap, sym, ◌∙◌, arith}
use Rattle.std.proofs.lemmas.Bool.{cond-true, cond-false}
use Rattle.order.specs.Orders.{Permutes}
use Rattle.bank.specs.Laws.{Kind, Laws}
use Rattle.history.specs.declared.call.Call.TheVariants.{Step}
use Rattle.history.specs.Rules.{State, next, after_all}
use Rattle.history.specs.Schedule.{full, level_sum}
use Rattle.engine.specs.Tickets.{is_open}
use Rattle.attempt.specs.Runs.{is_at_rest, steps_to_rest}
use Rattle.attempt.proofs.Steps.{left, left_below, Keeps, steps_left, nearer}

module _ {M : Type 0} (kind : Kind M) (order : List ℕ) where
  -- the engine when it comes to rest, with no more than `most` steps
  abbrev pub rested : ℕ → State M → State M
  rested most s = after_all kind order s (replicate (steps_to_rest kind order most s) Step)

  none_at_rest : (most : ℕ) (s : State M) → is_at_rest s.standing ≡ true → steps_to_rest kind order most s ≡ 0
  none_at_rest zero s e = refl
  none_at_rest (suc most) s e = cond-true (is_at_rest s.standing) _ _ e

  one_first : (most : ℕ) (s : State M) → is_at_rest s.standing ≡ false → steps_to_rest kind order (suc most) s ≡ suc (steps_to_rest kind order most (next kind order s Step))
  one_first most s e = cond-false (is_at_rest s.standing) _ _ e

  -- after so many steps from `before`, it will have made as many at rest, and come to rest in the same state, as from there
  pub record Halfway (before after : State M) (steps : ℕ) : Type 0 where
    pub rest : ℕ
    pub whole : steps + rest ≡ 2 * full order
    pub enough : left (full order) after.standing (level_sum (kind.devices after.model)) < rest
    pub count : steps_to_rest kind order (2 * full order) before ≡ steps + steps_to_rest kind order rest after
    pub state : rested (2 * full order) before ≡ rested rest after

  -- what is known at the end
  pub record Arrived (before after : State M) (steps : ℕ) : Type 0 where
    pub count : steps ≡ steps_to_rest kind order (2 * full order) before
    pub most : steps < 2 * full order
    pub state : after ≡ after_all kind order before (replicate steps Step)

  pub arrived : (before after : State M) (steps : ℕ) → Halfway before after steps → is_at_rest after.standing ≡ true → Arrived before after steps
  arrived before after steps h e =
      let none : steps_to_rest kind order h.rest after ≡ 0 = none_at_rest h.rest after e in
      let count : steps_to_rest kind order (2 * full order) before ≡ steps = omega (arith, h.count) in
      record {
        count = sym count;
        most = omega (arith, h.whole, h.enough);
        state = sym (ap (λ t. after_all kind order before (replicate t Step)) (sym count) ∙ h.state ∙ ap (λ t. after_all kind order after (replicate t Step)) none);
      }

module _ {M : Type 0} {limit : ℕ} (kind : Kind M) (laws : Laws limit kind) (order : List ℕ)
    (permutes : Permutes (length order) order) (some : 1 ≤ length order) where
  pub starts : (s : State M) → Keeps kind laws order permutes some s → Halfway kind order s s 0
  starts s k =
      record {
        rest = 2 * full order;
        whole = omega arith;
        enough = left_below (full order) (level_sum (kind.devices s.model)) s.standing (omega (arith, some)) k.in_range;
        count = omega arith;
        state = refl;
      }

  pub goes_on : (before after : State M) (steps : ℕ) → Halfway kind order before after steps → Keeps kind laws order permutes some after
      → is_open after.standing ≡ true → is_at_rest after.standing ≡ false → Halfway kind order before (next kind order after Step) (steps + 1)
  goes_on before after steps h k o r = go h.rest h.whole h.enough h.count h.state
    where
      go : (rest : ℕ) → steps + rest ≡ 2 * full order → steps_left kind laws order permutes some after < rest
          → steps_to_rest kind order (2 * full order) before ≡ steps + steps_to_rest kind order rest after
          → rested kind order (2 * full order) before ≡ rested kind order rest after
          → Halfway kind order before (next kind order after Step) (steps + 1)
      go zero whole enough count state = absurd (omega arith)
      go (suc rest) whole enough count state =
          let one = one_first kind order rest after r in
          record {
            rest = rest;
            whole = omega arith;
            enough = omega (arith, nearer kind laws order permutes some after k o r);
            count = omega (arith, one);
            state = state ∙ ap (λ t. after_all kind order after (replicate t Step)) one;
          }
