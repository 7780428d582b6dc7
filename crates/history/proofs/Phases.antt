-- The phase of a lowering is the one of the level that its device leaves.
use Rattle.std.proofs.Common.{◌≡◌, ℕ, suc, ◌+◌, ◌-◌, ◌*◌, ◌<◌, ◌≤◌, List, length, ap, sym, ◌∙◌, inl, inr, arith}
use Rattle.std.proofs.lemmas.Nat.{div-mul-add}
use Rattle.order.specs.Orders.{Permutes}
use Rattle.bank.specs.Meaning.{Device, level}
use Rattle.history.specs.Numbers.{phase_number}
use Rattle.history.specs.Schedule.{phase_at, phase, place, device_of, full, level_sum}
use Rattle.history.specs.Attempts.{next_device}
use Rattle.history.specs.Keeping.{level_at, Scheduled}
use Rattle.history.proofs.Turns.{Turn, turn, turn_inside, Depth, depth}
use Rattle.history.proofs.Schedules.{last_level}

-- which phase lowering j belongs to
phase_in : (n j a : ℕ) → a * n ≤ j → j < a * n + n → phase n j ≡ phase_at a
phase_in n j a l m =
    let e : j ≡ a * n + (j - a * n) = omega arith in
    let b : j - a * n < n = omega arith in
    ap (phase n) e ∙ ap phase_at (div-mul-add a n (j - a * n) b)

phase_turn : (n j p v : ℕ) → Turn n j p → Depth n p j v → phase_number (phase n j) ≡ v + 1
phase_turn n j p v (inl (l, e)) d = ap phase_number (phase_in n j 0 (omega arith) (omega arith)) ∙ omega (arith, d.none (omega arith))
phase_turn n j p v (inr (inl (l, m, e))) d =
    ap phase_number (phase_in n j 1 (omega arith) (omega arith)) ∙ omega (arith, d.one (omega arith), d.below_two (omega arith))
phase_turn n j p v (inr (inr (inl (l, m, e)))) d =
    ap phase_number (phase_in n j 2 (omega arith) (omega arith)) ∙ omega (arith, d.two (omega arith), d.below_three (omega arith))
phase_turn n j p v (inr (inr (inr (l, m, e)))) d =
    ap phase_number (phase_in n j 3 (omega arith) (omega arith)) ∙ omega (arith, d.three (omega arith), d.below_four (omega arith))

-- the level in the place that lowering j takes, before it
phase_level : (n j : ℕ) → j < 4 * n → phase_number (phase n j) ≡ level_at n (place n j) j + 1
phase_level n j h =
    let t : Turn n j (place n j) = turn n j h in
    phase_turn n j (place n j) _ t (depth n (place n j) j (turn_inside n j (place n j) t))

module _ (order : List ℕ) (permutes : Permutes (length order) order) (some : 1 ≤ length order) (now : List Device) (s : Scheduled order now) where
  -- the next lowering leads from its device's level to the next
  pub phase_down : level_sum now < full order → phase_number (phase (length order) (level_sum now)) ≡ level now (next_device order now) + 1
  phase_down h =
      let k : ℕ = level_sum now in
      let n : ℕ = length order in
      let t : Turn n k (place n k) = turn n k h in
      phase_level n k h ∙ ap (λ (v : ℕ). v + 1) (sym (s.levels (place n k) (turn_inside n k (place n k) t)))

  -- the last lowering led into its device's level
  pub phase_up : (j : ℕ) → level_sum now ≡ suc j → phase_number (phase (length order) j) ≡ level now (device_of order j)
  phase_up j e =
      let h : j < full order = omega (arith, s.most) in
      phase_level (length order) j h ∙ omega arith ∙ sym (last_level order permutes some now j s e)
